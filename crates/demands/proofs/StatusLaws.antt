-- A datapoint's status: what a request and a call leave of it, and that a request with command 5 is refused whole.
use Prim.Native.Nat.{ℕ, ◌%◌, ◌<◌}
use mathlib.Core.Path.{◌≡◌, refl, sym, ◌∙◌, ap}
use mathlib.Core.Logic.{◌⊎◌, inl, inr}
use mathlib.Core.Bool.{Bool, true, false, not, ◌&&◌, ◌||◌}
use mathlib.Core.List.{List, [], ◌∷◌, map}
use native.Mathlib.Omega.{arith}
use lib.ListN.{length, get_or}
use lib.Dec.{T, eqb, eqb→eq}
use borrow.Author.Tests.{eq-eqb, ne_eqb, eqb-true}
use Rattle.std.specs.Prelude.{if◌then◌else◌}
use Rattle.words.specs.Words.{is_empty, keep}
use Rattle.words.proofs.WordLaws.{left, right, true_T, T_true}
use Rattle.ft12.specs.declared.record.Link.{Link}
use Rattle.ft12.specs.Record.{Line, line_of}
use Rattle.ft12.specs.Rules.{on_host_byte, on_idle_mark}
use Rattle.baos.specs.declared.datapoint.Datapoint.{Datapoint}
use Rattle.baos.specs.declared.bus.Outcome.{Outcome}
use Rattle.baos.specs.declared.bus.Outcome.TheVariants.{Sent, Failed, InProgress}
use Rattle.baos.specs.Datapoint.{datapoint_id, zero_datapoint, with_state, with_value, with_mark, handed_out, bus_value, outcome, is_send, commanded}
use Rattle.baos.specs.Bus.{status_of}
use Rattle.baos.specs.Lookup.{lookup_of, is_present}
use Rattle.baos.specs.Table.{Tables, with_items, with_parameters, found, changed_at}
use Rattle.baos.specs.Message.{sub_service, start_of, coded, Finding, fine, bad, Served, after_of, served}
use Rattle.baos.specs.Get.{room_for_entries, getting, get_server_item, get_datapoint_description, get_description_string, asked, handing_out, get_datapoint_value, get_parameter_byte}
use Rattle.baos.specs.Set.{SetEntry, first_datapoint_entry, judged_datapoint, applied, setting, set_server_item, set_datapoint, set_datapoint_value, set_parameter_byte}
use Rattle.baos.specs.Service.{carried_out}
use Rattle.baos.specs.Indication.{choices, goes, room_after, after_report, indication}
use Rattle.baos.proofs.DatapointLaws.{command_same, command_status, bits_without_updated, bits_with_status, bits_from_bus}
use Rattle.baos.proofs.BusLaws.{status_fits}
use Rattle.baos.proofs.EntryLaws.{retired}
use Rattle.baos.proofs.SettingLaws.{by_setting}
use Rattle.baos.proofs.DispatchLaws.{by_service, by_message}
use Rattle.calls.specs.declared.event.Event.{Event}
use Rattle.calls.specs.declared.event.Event.TheVariants.{HostByte, IdleMark, AckWaitOver, Poll, BusValue, TransmissionOutcome}
use Rattle.calls.specs.Event.{at_datapoint}
use Rattle.calls.specs.Call.{Done, handed_up, on_moved, on_poll, happens, refusal, call}
use Rattle.calls.proofs.CallJoins.{waited}
use Rattle.walks.proofs.Branches.{no_T}
use Rattle.demands.proofs.HandedOutLaws.{out_id, report_id, value_id, call_tables, by_call, byte_tables, by_poll}
use Rattle.demands.proofs.EntryErrorLaws.{judge, judged_absent, refused_whole, call_refused_whole, command_code}
use Rattle.demands.specs.Entries.{entries_of, holds_entry, message_up}
use Rattle.demands.specs.Status.{status_at, replaced, is_send_for, status_by_request, status_by, AfterRequest, AfterCall, StaysOrRequested, is_outcome_for, StaysOrRequestedByRequest, StaysOrRequestedByCall, IdleBySent, no_send_or_outcome, tables_after_all, StandsUntil, is_retired, RetiredRefused, RetiredCallRefused, RetiredCode, StatusStands}

-- ---- records
abbrev status : Datapoint → ℕ
status d = d.state % 4

abbrev statuses : ℕ → List Datapoint → List ℕ
statuses id ds = map status (found datapoint_id id ds)

replaced_none : (ns : List ℕ) → replaced ns [] ≡ []
unfolding replaced
replaced_none [] = refl
replaced_none (n ∷ ns) = refl

-- replaced in turn
replaced_twice : (n : ℕ) (ns s : List ℕ) → replaced (n ∷ []) (replaced ns s) ≡ replaced (n ∷ []) s
unfolding replaced
replaced_twice n [] s = refl
replaced_twice n (k ∷ ns) [] = refl
replaced_twice n (k ∷ ns) (x ∷ s) = ap {B = List ℕ} (λ (r : List ℕ). n ∷ r) (replaced_twice n (k ∷ ns) s)

-- a record in front, changed or not, that keeps its ID
in_front_lem : (id : ℕ) (ns : List ℕ) (d d' : Datapoint) (ds ds' : List Datapoint) → d'.id ≡ d.id → (eqb d.id id ≡ true → status d' ∷ [] ≡ replaced ns (status d ∷ []))
    → statuses id ds' ≡ replaced ns (statuses id ds) → statuses id (d' ∷ ds') ≡ replaced ns (statuses id (d ∷ ds))
unfolding found
in_front_lem id ns d d' ds ds' same new rest = go (eqb d.id id) refl
  where
    go : (u : Bool) → eqb d.id id ≡ u → statuses id (d' ∷ ds') ≡ replaced ns (statuses id (d ∷ ds))
    go true e = simp (same, e, found) (new e)
    go false e = simp (same, e, found) rest

-- each record changed by g
statuses_map : (id : ℕ) (ns : List ℕ) (g : Datapoint → Datapoint) → ((d : Datapoint) → (g d).id ≡ d.id) → ((d : Datapoint) → eqb d.id id ≡ true → status (g d) ∷ [] ≡ replaced ns (status d ∷ []))
    → (ds : List Datapoint) → statuses id (map g ds) ≡ replaced ns (statuses id ds)
statuses_map id ns g same new [] = unfold found in sym (replaced_none ns)
statuses_map id ns g same new (d ∷ ds) = in_front_lem id ns d (g d) ds (map g ds) (same d) (new d) (statuses_map id ns g same new ds)

-- the record of ID n changed by f
statuses_changed : (id n : ℕ) (ns : List ℕ) (f : Datapoint → Datapoint) → ((d : Datapoint) → (f d).id ≡ d.id) → ((d : Datapoint) → status (f d) ∷ [] ≡ replaced ns (status d ∷ []))
    → (ds : List Datapoint) → statuses id (changed_at datapoint_id n f ds) ≡ replaced (if eqb n id then ns else []) (statuses id ds)
unfolding changed_at
statuses_changed id n ns f same_id new ds =
    statuses_map id (if eqb n id then ns else []) (λ (d : Datapoint). if eqb d.id n then f d else d) (λ d. same (eqb d.id n) d) (λ d e. go d (eqb d.id n) (eqb n id) refl refl (eqb-true d.id id e)) ds
  where
    same : (u : Bool) (d : Datapoint) → (if u then f d else d).id ≡ d.id
    same true d = same_id d
    same false d = refl

    go : (d : Datapoint) (u w : Bool) → eqb d.id n ≡ u → eqb n id ≡ w → d.id ≡ id → status (if u then f d else d) ∷ [] ≡ replaced (if w then ns else []) (status d ∷ [])
    go d true true p q e = new d
    go d false false p q e = unfold replaced in refl
    go d true false p q e = absurd (true_T {b = false} (sym q ∙ eq-eqb n id (omega (arith, e, eqb-true d.id n p))))
    go d false true p q e = absurd (true_T {b = false} (sym p ∙ eq-eqb d.id n (omega (arith, e, eqb-true n id q))))

-- ---- a set
command_new : (c : ℕ) (v : List ℕ) (d : Datapoint) → status (commanded c v d) ∷ [] ≡ replaced (if is_send c then 3 ∷ [] else []) (status d ∷ [])
command_new c v d = ap {B = List ℕ} (λ (n : ℕ). n ∷ []) (command_status c v d) ∙ go (is_send c)
  where
    go : (u : Bool) → (if u then 3 else status d) ∷ [] ≡ replaced (if u then 3 ∷ [] else []) (status d ∷ [])
    go true = unfold replaced in refl
    go false = unfold replaced in refl

abbrev requested_by : ℕ → List SetEntry → List ℕ
requested_by id es = if not (is_empty (keep (is_send_for id) es)) then 3 ∷ [] else []

statuses_applied : (id : ℕ) (es : List SetEntry) (ds : List Datapoint) → statuses id (applied datapoint_id set_datapoint es ds) ≡ replaced (requested_by id es) (statuses id ds)
unfolding applied set_datapoint
statuses_applied id [] ds = unfold replaced in refl
statuses_applied id (e ∷ es) ds =
    statuses_applied id es (changed_at datapoint_id e.id (commanded e.command e.value) ds)
    ∙ ap (replaced (requested_by id es)) (statuses_changed id e.id _ (commanded e.command e.value) (λ d. (command_same e.command e.value d).id) (command_new e.command e.value) ds)
    ∙ (unfold is_send_for in go (eqb e.id id) (eqb e.command 2 || eqb e.command 3) (keep (is_send_for id) es) (statuses id ds))
  where
    go : (a b : Bool) (rest : List SetEntry) (s : List ℕ)
        → replaced (if not (is_empty rest) then 3 ∷ [] else []) (replaced (if a then (if b then 3 ∷ [] else []) else []) s)
        ≡ replaced (if not (is_empty (if a && b then e ∷ rest else rest)) then 3 ∷ [] else []) s
    go true true [] s = unfold replaced in refl
    go true false [] s = unfold replaced in refl
    go false b [] s = unfold replaced in refl
    go true true (x ∷ rest) s = replaced_twice 3 _ s
    go true false (x ∷ rest) s = replaced_twice 3 _ s
    go false b (x ∷ rest) s = replaced_twice 3 _ s

-- ---- a get and an indication hand out
-- a change that keeps ID and status, made or not
module _ (g : Datapoint → Datapoint) (same : (d : Datapoint) → (g d).id ≡ d.id) (keeps : (d : Datapoint) → status (g d) ≡ status d) where
  either_id : (u : Bool) (d : Datapoint) → (if u then g d else d).id ≡ d.id
  either_id true d = same d
  either_id false d = refl

  either_status : (u : Bool) (d : Datapoint) → status (if u then g d else d) ∷ [] ≡ replaced [] (status d ∷ [])
  unfolding replaced
  either_status true d = ap {B = List ℕ} (λ (n : ℕ). n ∷ []) (keeps d)
  either_status false d = refl

out_status : (d : Datapoint) → status (handed_out d) ≡ status d
unfolding handed_out with_state
out_status d = (bits_without_updated d.state).status_bits

statuses_out : (id : ℕ) (m : List ℕ) (t : Tables) → status_at id (handing_out m t) ≡ status_at id t
unfolding status_at handing_out replaced
statuses_out id m t =
    statuses_map id [] (λ (d : Datapoint). if asked m d then handed_out d else d) (λ d. either_id handed_out out_id out_status (asked m d) d)
    (λ d e. either_status handed_out out_id out_status (asked m d) d) t.datapoints

abbrev report : Datapoint → Datapoint
report d = with_mark 0 (handed_out d)

report_status : (d : Datapoint) → status (report d) ≡ status d
unfolding with_mark
report_status d = out_status d

statuses_reported : (id room : ℕ) (ds : List Datapoint) → statuses id (after_report (choices room ds)) ≡ statuses id ds
unfolding after_report choices replaced
statuses_reported id room [] = refl
statuses_reported id room (d ∷ ds) =
    in_front_lem id [] d (if goes room d then report d else d) ds (after_report (choices (room_after room d) ds)) (either_id report report_id report_status (goes room d) d)
    (λ e. either_status report report_id report_status (goes room d) d) (statuses_reported id (room_after room d) ds)

-- ---- every message
module _ (id : ℕ) (t : Tables) (m : List ℕ) where
  -- what is served leaves the status that the request makes it
  abbrev Leaves : Served → Type 0
  Leaves s = status_at id s.after ≡ replaced (if holds_entry (is_send_for id) m && eqb (get_or s.says 6 1) 0 then 3 ∷ [] else []) (status_at id t)

  -- where it leaves it, and no code 0 answers a send command
  kept : (s : Served) → status_at id s.after ≡ status_at id t → (holds_entry (is_send_for id) m && eqb (get_or s.says 6 1) 0) ≡ false → Leaves s
  kept s e f = e ∙ (unfold replaced in rw f refl)

  other : (k : ℕ) → sub_service m ≡ k → eqb k 0x06 ≡ false → (b : Bool) → (holds_entry (is_send_for id) m && b) ≡ false
  unfolding holds_entry
  other k e f b = rw (e, f) refl

  no_code : (b : Bool) → b ≡ false → (holds_entry (is_send_for id) m && b) ≡ false
  no_code b f = rw f (go (holds_entry (is_send_for id) m))
    where
      go : (u : Bool) → (u && false) ≡ false
      go true = refl
      go false = refl

  with_code : (u : Bool) → (u && true) ≡ u
  with_code true = refl
  with_code false = refl

  -- a service that is not SetDatapointValue
  keeps_as : (k : ℕ) (f : Finding) (answer : List ℕ) (t' : Tables) → sub_service m ≡ k → eqb k 0x06 ≡ false → status_at id t' ≡ status_at id t → Leaves (served f m answer t t')
  unfolding served
  keeps_as k f answer t' e n same = kept (served f m answer t t') (go f) (other k e n _)
    where
      go : (x : Finding) → status_at id (after_of x t t') ≡ status_at id t
      go fine = unfold after_of in same
      go (bad i c) = unfold after_of in refl

  -- SetDatapointValue, by its entries
  holds_six : (p : SetEntry → Bool) → sub_service m ≡ 0x06 → holds_entry p m ≡ not (is_empty (keep p (entries_of m)))
  unfolding holds_entry
  holds_six p e = rw e refl

  set_leaves : sub_service m ≡ 0x06 → Leaves (set_datapoint_value t m)
  unfolding set_datapoint_value coded status_at entries_of
  set_leaves e =
      by_setting 4 first_datapoint_entry _ _ t m Leaves (λ i c n. kept (record { says = coded m i c; after = t }) refl (no_code (eqb c 0) (ne_eqb c 0 n)))
      (λ z. statuses_applied id (entries_of m) t.datapoints ∙ ap (λ (u : Bool). replaced (if u then 3 ∷ [] else []) (status_at id t)) (sym (with_code _ ∙ holds_six (is_send_for id) e)))

  request_leaves : Leaves (carried_out t m)
  unfolding get_server_item set_server_item get_datapoint_description get_description_string get_datapoint_value get_parameter_byte set_parameter_byte getting setting
  request_leaves =
      by_message Leaves t m (kept (record { says = []; after = t }) refl (no_code _ refl))
      (by_service Leaves t m
      (λ e. keeps_as 0x01 _ _ t e refl refl)
      (λ e. keeps_as 0x02 _ _ (with_items _ t) e refl (unfold status_at in refl))
      (λ e. keeps_as 0x03 _ _ t e refl refl)
      (λ e. keeps_as 0x04 _ _ t e refl refl)
      (λ e. keeps_as 0x05 _ _ (handing_out m t) e refl (statuses_out id m t))
      set_leaves
      (λ e. keeps_as 0x07 _ _ t e refl refl)
      (λ e. keeps_as 0x08 _ _ (with_parameters _ t) e refl (unfold status_at in refl))
      (kept (record { says = coded m (start_of m) 5; after = t }) refl (no_code _ (unfold coded in refl))))

pub after_request : AfterRequest
unfolding status_by_request
after_request id t m = request_leaves id t m

-- ---- every call
poll_leaves : (id : ℕ) (t : Tables) (l : Line) → status_at id (on_poll t l).tables ≡ status_at id t
poll_leaves id t l =
    by_poll (λ (x : Tables). status_at id x ≡ status_at id t) t l (unfold status_at indication in statuses_reported id room_for_entries t.datapoints) refl

value_new : (v : List ℕ) (d : Datapoint) → status (bus_value v d) ∷ [] ≡ replaced [] (status d ∷ [])
unfolding bus_value with_mark with_value replaced
value_new v d = ap {B = List ℕ} (λ (n : ℕ). n ∷ []) (bits_from_bus d.state).status_bits

outcome_id : (s : ℕ) (d : Datapoint) → (outcome s d).id ≡ d.id
unfolding outcome with_state
outcome_id s d = refl

outcome_new : (s : ℕ) (d : Datapoint) → s < 4 → status (outcome s d) ∷ [] ≡ replaced (s ∷ []) (status d ∷ [])
unfolding outcome with_state replaced
outcome_new s d h = ap {B = List ℕ} (λ (n : ℕ). n ∷ []) (bits_with_status s d.state h).status_bits

pub happens_leaves : (id : ℕ) (e : Event) (v : List ℕ) (t : Tables) (l : Line) → status_at id (happens e v t l).tables ≡ replaced (status_by id e t l) (status_at id t)
unfolding happens status_by at_datapoint
happens_leaves id (HostByte b) v t l = ap (status_at id) (byte_tables b v t l) ∙ after_request id t (message_up (on_host_byte b l).up)
happens_leaves id IdleMark v t l = unfold on_moved handed_up on_idle_mark replaced in refl
happens_leaves id AckWaitOver v t l = ap (λ (d : Done). status_at id d.tables) (waited l t) ∙ (unfold replaced in refl)
happens_leaves id Poll v t l = poll_leaves id t l ∙ (unfold replaced in refl)
happens_leaves id (BusValue n) v t l = unfold status_at in statuses_changed id n [] (bus_value v) (value_id v) (value_new v) t.datapoints ∙ ap (λ (ns : List ℕ). replaced ns (status_at id t)) (same (eqb n id))
  where
    same : (u : Bool) → ◌≡◌ {A = List ℕ} (if u then [] else []) []
    same true = refl
    same false = refl
happens_leaves id (TransmissionOutcome n o) v t l =
    unfold status_at in statuses_changed id n (status_of o ∷ []) (outcome (status_of o)) (outcome_id (status_of o)) (λ d. outcome_new (status_of o) d (omega (arith, status_fits o))) t.datapoints

pub after_call : AfterCall
after_call id e v t k out z = ap (status_at id) (call_tables e v t k out z) ∙ happens_leaves id e v t (line_of k)

-- ---- to 11 or not at all
-- nothing comes in the status's place, or 11 does
abbrev NoneOrRequested : List ℕ → Type 0
NoneOrRequested ns = (ns ≡ []) ⊎ (ns ≡ 3 ∷ [])

by_request : (id : ℕ) (t : Tables) (m : List ℕ) → NoneOrRequested (status_by_request id t m)
unfolding status_by_request
by_request id t m = go (holds_entry (is_send_for id) m && eqb (get_or (carried_out t m).says 6 1) 0)
  where
    go : (u : Bool) → NoneOrRequested (if u then 3 ∷ [] else [])
    go true = inr refl
    go false = inl refl

by_event : (id : ℕ) (e : Event) (t : Tables) (l : Line) → T (not (is_outcome_for id e)) → NoneOrRequested (status_by id e t l)
unfolding status_by is_outcome_for
by_event id (HostByte b) t l n = by_request id t (message_up (on_host_byte b l).up)
by_event id IdleMark t l n = inl refl
by_event id AckWaitOver t l n = inl refl
by_event id Poll t l n = inl refl
by_event id (BusValue k) t l n = inl refl
by_event id (TransmissionOutcome k o) t l n = inl (rw (no_T (eqb k id) n) refl)

stays_or_requested : (id : ℕ) (t t' : Tables) (ns : List ℕ) → NoneOrRequested ns → status_at id t' ≡ replaced ns (status_at id t) → StaysOrRequested id t t'
stays_or_requested id t t' ns (inl e) p = inl (p ∙ ap (λ (x : List ℕ). replaced x (status_at id t)) e ∙ (unfold replaced in refl))
stays_or_requested id t t' ns (inr e) p = inr (p ∙ ap (λ (x : List ℕ). replaced x (status_at id t)) e)

pub stays_or_requested_by_request : StaysOrRequestedByRequest
stays_or_requested_by_request id t m = stays_or_requested id t (carried_out t m).after (status_by_request id t m) (by_request id t m) (after_request id t m)

pub stays_or_requested_by_call : StaysOrRequestedByCall
stays_or_requested_by_call id e v t k out n =
    by_call (StaysOrRequested id t) e v t k out (λ z. stays_or_requested id t _ (status_by id e t (line_of k)) (by_event id e t (line_of k) n) (happens_leaves id e v t (line_of k))) (λ z. inl refl)

-- ---- to 00 by the outcome "sent"
replaced_idle : (n : ℕ) (s : List ℕ) → replaced (n ∷ []) s ≡ 0 ∷ [] → n ≡ 0
unfolding replaced
replaced_idle n [] z = absurd (true_T {b = false} (ap is_empty (sym z)))
replaced_idle n (x ∷ s) z = ap (λ (ns : List ℕ). get_or ns 0 0) z

is_sent : (o : Outcome) → status_of o ≡ 0 → o ≡ Sent
unfolding status_of
is_sent Sent z = refl
is_sent Failed z = absurd (omega (arith, z))
is_sent InProgress z = absurd (omega (arith, z))

-- what is idle after an event that is no outcome for the ID was idle before
was_idle : (ns s : List ℕ) → NoneOrRequested ns → replaced ns s ≡ 0 ∷ [] → s ≡ 0 ∷ []
unfolding replaced
was_idle ns s (inl e) z = simp e at z
was_idle ns s (inr e) z = absurd (omega (arith, replaced_idle 3 s (ap (λ (x : List ℕ). replaced x s) (sym e) ∙ z)))

event_idle : (id : ℕ) (e : Event) (t : Tables) (l : Line) → replaced (status_by id e t l) (status_at id t) ≡ 0 ∷ [] → (status_at id t ≡ 0 ∷ []) ⊎ (e ≡ TransmissionOutcome id Sent)
unfolding status_by replaced
event_idle id (HostByte b) t l z = inl (was_idle (status_by_request id t (message_up (on_host_byte b l).up)) (status_at id t) (by_request id t (message_up (on_host_byte b l).up)) z)
event_idle id IdleMark t l z = inl z
event_idle id AckWaitOver t l z = inl z
event_idle id Poll t l z = inl z
event_idle id (BusValue n) t l z = inl z
event_idle id (TransmissionOutcome n o) t l z = go (eqb n id) refl z
  where
    go : (u : Bool) → eqb n id ≡ u → replaced (if u then status_of o ∷ [] else []) (status_at id t) ≡ 0 ∷ [] → (status_at id t ≡ 0 ∷ []) ⊎ (TransmissionOutcome n o ≡ TransmissionOutcome id Sent)
    go true q z = inr (ap (λ (i : ℕ). TransmissionOutcome i o) (eqb-true n id q) ∙ ap (TransmissionOutcome id) (is_sent o (replaced_idle (status_of o) (status_at id t) z)))
    go false q z = inl z

pub idle_by_sent : IdleBySent
idle_by_sent id e v t k out =
    by_call (λ (t' : Tables). status_at id t' ≡ 0 ∷ [] → (status_at id t ≡ 0 ∷ []) ⊎ (e ≡ TransmissionOutcome id Sent)) e v t k out
    (λ a z. event_idle id e t (line_of k) (sym (happens_leaves id e v t (line_of k)) ∙ z)) (λ a z. inl z)

-- ---- calls one after the other
nothing_comes : (ns s : List ℕ) → T (is_empty ns) → replaced ns s ≡ s
unfolding replaced
nothing_comes [] s e = refl
nothing_comes (n ∷ ns) s e = absurd e

call_keeps : (id : ℕ) (e : Event) (v : List ℕ) (t : Tables) (k : Link) (out : List ℕ)
    → T (not (eqb (refusal e v t k (length out)) 0) || is_empty (status_by id e t (line_of k))) → status_at id (call e v t k out).tables ≡ status_at id t
call_keeps id e v t k out n =
    by_call (λ (t' : Tables). status_at id t' ≡ status_at id t) e v t k out
    (λ z. happens_leaves id e v t (line_of k) ∙ nothing_comes (status_by id e t (line_of k)) (status_at id t) (simp (eq-eqb (refusal e v t k (length out)) 0 z) at n)) (λ z. refl)

pub stands_until : StandsUntil
unfolding no_send_or_outcome tables_after_all
stands_until id [] t k n = refl
stands_until id (h ∷ hs) t k n =
    let c = call h.event h.value t k h.output in
    let here : Bool = not (eqb (refusal h.event h.value t k (length h.output)) 0) || is_empty (status_by id h.event t (line_of k)) in
    stands_until id hs c.tables c.link (right here (no_send_or_outcome id hs c.tables c.link) n)
    ∙ call_keeps id h.event h.value t k h.output (left here (no_send_or_outcome id hs c.tables c.link) n)

-- ---- command 5
-- where the ID is present, command 5 is judged 8
judged_retired : (t : Tables) (e : SetEntry) → T (is_retired e && is_present (lookup_of (found datapoint_id e.id t.datapoints))) → judge t e ≡ 8
unfolding judged_datapoint is_retired
judged_retired t e h =
    let ds = found datapoint_id e.id t.datapoints in
    retired (lookup_of ds) (get_or ds 0 zero_datapoint) e.command e.value (T_true (is_present (lookup_of ds)) (right (eqb e.command 5) (is_present (lookup_of ds)) h))
    (eqb→eq e.command 5 (left (eqb e.command 5) (is_present (lookup_of ds)) h))

-- an entry that is judged fine has another command
not_retired : (t : Tables) (e : SetEntry) → judge t e ≡ 0 → T (not (is_retired e))
not_retired t e z = go (is_retired e) (is_present (lookup_of (found datapoint_id e.id t.datapoints))) refl refl
  where
    go : (u p : Bool) → is_retired e ≡ u → is_present (lookup_of (found datapoint_id e.id t.datapoints)) ≡ p → T (not u)
    go false p q h = tt
    go true true q h = absurd (omega (arith, z, judged_retired t e (rw (q, h) tt)))
    go true false q h = absurd (omega (arith, z, judged_absent t e h))

pub retired_refused : RetiredRefused
retired_refused = refused_whole (λ t. is_retired) not_retired

pub retired_call_refused : RetiredCallRefused
retired_call_refused = call_refused_whole (λ t. is_retired) not_retired

pub retired_code : RetiredCode
retired_code = command_code (λ t e. is_retired e && is_present (lookup_of (found datapoint_id e.id t.datapoints))) judged_retired

pub status_stands : StatusStands
status_stands =
    record {
      after_request = after_request;
      after_call = after_call;
      stays_or_requested_by_request = stays_or_requested_by_request;
      stays_or_requested_by_call = stays_or_requested_by_call;
      idle_by_sent = idle_by_sent;
      stands_until = stands_until;
      retired_refused = retired_refused;
      retired_call_refused = retired_call_refused;
      retired_code = retired_code;
    }
