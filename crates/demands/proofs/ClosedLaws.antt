-- Closed datapoints: a command whose bits are off is refused, and nothing but that goes by the flags.
use Prim.Native.Nat.{ℕ, ◌+◌}
use mathlib.Core.Path.{◌≡◌, refl, sym, ◌∙◌, ap, subst}
use mathlib.Core.Logic.{◌⊎◌, inl, inr}
use mathlib.Core.Bool.{Bool, true, false, not, ◌&&◌, and-false, and-true}
use mathlib.Core.List.{List, [], ◌∷◌, map}
use native.Mathlib.Omega.{arith}
use lib.ListN.{length, get_or}
use lib.Dec.{T, leb, eqb, eqb→eq, ltb}
use borrow.Author.Tests.{eq-eqb}
use Rattle.std.specs.Prelude.{if◌then◌else◌}
use Rattle.words.specs.Words.{is_empty, keep, every}
use Rattle.words.proofs.WordLaws.{left, right, both, true_T, T_true, every_imp}
use Rattle.ft12.specs.declared.record.Link.{Link}
use Rattle.ft12.specs.Record.{Line, line_of}
use Rattle.ft12.specs.Rules.{Up, nothing, acknowledged, dropped, reset, message, on_host_byte, on_idle_mark}
use Rattle.baos.specs.declared.datapoint.Datapoint.{Datapoint}
use Rattle.baos.specs.declared.bus.BusEvent.TheVariants.{Value, Transmission}
use Rattle.baos.specs.declared.bus.Outcome.{Outcome}
use Rattle.baos.specs.declared.bus.Outcome.TheVariants.{Sent, Failed, InProgress}
use Rattle.baos.specs.Datapoint.{datapoint_id, is_send, bus_value, outcome}
use Rattle.baos.specs.Lookup.{lookup_of, is_present}
use Rattle.baos.specs.Flags.{needed_bits_on, with_flags, reflagged, reflagged_served}
use Rattle.baos.specs.Bus.{status_of, found_takes}
use Rattle.baos.specs.Table.{Tables, with_datapoints, found}
use Rattle.baos.specs.Message.{sub_service, start_of, filter_of, Served, answer_of, served}
use Rattle.baos.specs.Get.{in_request, listing, get_finding, getting, value_entry, passes, asked, get_datapoint_description, get_datapoint_value}
use Rattle.baos.specs.Set.{SetEntry, judged_datapoint}
use Rattle.baos.specs.Service.{unanswered, carried_out}
use Rattle.baos.specs.Inner.Gather.{get_datapoints}
use Rattle.baos.proofs.EntryLaws.{code_of_command}
use Rattle.baos.proofs.LookupLaws.{present_one, present_kept}
use Rattle.baos.proofs.FlagLaws.{taken_as_needed, descriptions_served, carried_out_flagged, set_values_flagged, get_descriptions_flagged, indication_flagged, well_formed_flagged, found_flagged, found-takes_flagged, changed_at_flagged, bus_value_flagged, outcome_flagged}
use Rattle.baos.proofs.ServiceLaws.{not_answered, is_get_description, is_get_value}
use Rattle.calls.specs.declared.event.Event.{Event}
use Rattle.calls.specs.declared.event.Event.TheVariants.{HostByte, IdleMark, AckWaitOver, Poll, BusValue, TransmissionOutcome}
use Rattle.calls.specs.Event.{at_datapoint, bus_ok}
use Rattle.calls.specs.Call.{Done, quiet, saying, handed_up, on_moved, on_poll, happens, refusal, refused, accepted, call}
use Rattle.calls.proofs.CallJoins.{waited}
use Rattle.walks.proofs.Branches.{no_T, yes_T}
use Rattle.demands.specs.Entries.{entries_of, holds_entry, message_up}
use Rattle.demands.specs.Status.{status_at, replaced, is_send_for, status_by_request, status_by}
use Rattle.demands.specs.Closed.{CommandTaken, lacks_bits, ClosedRefused, ClosedCallRefused, ClosedCode, may_send, RequestedOnlyIfMaySend, RequestedByRequest, RequestedByCall, listed, ListedIfPresent, ValuesListed, asks_descriptions, lacks_alike, all_lack_alike, FlagsUnseen, FlagsShown, is_unseen_by, reflagged_called, FlagsUnseenByCall, ClosedDatapoints}
use Rattle.demands.proofs.EntryErrorLaws.{judge, judged_absent, refused_whole, call_refused_whole, command_code}
use Rattle.demands.proofs.HandedOutLaws.{by_call}
use Rattle.demands.proofs.StatusLaws.{after_request, happens_leaves}

-- ---- the command check
pub command_taken : CommandTaken
command_taken d c = taken_as_needed d [] c

-- a record found for the entry lacks a bit: it is judged 8
one_lacks : (d : Datapoint) (e : SetEntry) → needed_bits_on d.flags e.command ≡ false → judged_datapoint (d ∷ []) e ≡ 8
unfolding judged_datapoint
one_lacks d e n = code_of_command _ _ _ _ (present_one d []) (taken_as_needed d [] e.command ∙ ap (λ (y : Bool). leb e.command 4 && y) n ∙ and-false (leb e.command 4))

found_lacks : (ds : List Datapoint) (e : SetEntry) → T (not (every (λ (d : Datapoint). needed_bits_on d.flags e.command) (found datapoint_id e.id ds)))
    → judged_datapoint (found datapoint_id e.id ds) e ≡ 8
unfolding found
found_lacks [] e n = absurd n
found_lacks (d ∷ ds) e n = go (eqb d.id e.id) n (found_lacks ds e)
  where
    bits : List Datapoint → Bool
    bits xs = every (λ (x : Datapoint). needed_bits_on x.flags e.command) xs

    go : (u : Bool) → T (not (bits (if u then d ∷ [] else found datapoint_id e.id ds)))
        → (T (not (bits (found datapoint_id e.id ds))) → judged_datapoint (found datapoint_id e.id ds) e ≡ 8)
        → judged_datapoint (if u then d ∷ [] else found datapoint_id e.id ds) e ≡ 8
    go true n rest = one_lacks d e (sym (and-true (needed_bits_on d.flags e.command)) ∙ no_T (bits (d ∷ [])) n)
    go false n rest = rest n

judged_lacks : (t : Tables) (e : SetEntry) → T (lacks_bits t e) → judge t e ≡ 8
unfolding lacks_bits
judged_lacks t e h = found_lacks t.datapoints e h

-- an entry that is judged fine has the bits that it needs
not_lacking : (t : Tables) (e : SetEntry) → judge t e ≡ 0 → T (not (lacks_bits t e))
not_lacking t e z = go (lacks_bits t e) refl
  where
    go : (u : Bool) → lacks_bits t e ≡ u → T (not u)
    go true q = absurd (omega (arith, z, judged_lacks t e (true_T q)))
    go false q = tt

pub closed_refused : ClosedRefused
closed_refused = refused_whole lacks_bits not_lacking

pub closed_call_refused : ClosedCallRefused
closed_call_refused = call_refused_whole lacks_bits not_lacking

pub closed_code : ClosedCode
closed_code = command_code lacks_bits judged_lacks

-- ---- "requested" only where the datapoint may send
send_bits : (flags c : ℕ) → T (is_send c) → needed_bits_on flags c ≡ needed_bits_on flags 2
unfolding needed_bits_on
send_bits flags c s = rw (T_true (is_send c) s) refl

-- no entry that sends is judged fine, where its datapoint may not
abbrev sends_in_vain : ℕ → Tables → SetEntry → Bool
sends_in_vain id t e = if may_send id t then false else is_send_for id e

not_in_vain : (id : ℕ) (t : Tables) (e : SetEntry) → judge t e ≡ 0 → T (not (sends_in_vain id t e))
unfolding is_send_for lacks_bits
not_in_vain id t e z = go (may_send id t) (is_send_for id e) refl refl
  where
    here : is_present (lookup_of (found datapoint_id e.id t.datapoints)) ≡ true
    here = go' (is_present (lookup_of (found datapoint_id e.id t.datapoints))) refl
      where
        go' : (u : Bool) → is_present (lookup_of (found datapoint_id e.id t.datapoints)) ≡ u → u ≡ true
        go' true h = refl
        go' false h = absurd (omega (arith, z, judged_absent t e h))

    bits : T (is_send e.command) → T (every (λ (d : Datapoint). needed_bits_on d.flags 2) (found datapoint_id e.id t.datapoints))
    bits s =
        every_imp (λ (d : Datapoint). needed_bits_on d.flags e.command) (λ (d : Datapoint). needed_bits_on d.flags 2) (λ d h. subst T (send_bits d.flags e.command s) h) (found datapoint_id e.id t.datapoints)
        (true_T (yes_T (every (λ (d : Datapoint). needed_bits_on d.flags e.command) (found datapoint_id e.id t.datapoints)) (not_lacking t e z)))

    may : e.id ≡ id → T (is_send e.command) → T (may_send id t)
    may q s = subst (λ (n : ℕ). T (may_send n t)) q (unfold may_send in both (is_present (lookup_of (found datapoint_id e.id t.datapoints))) _ (true_T here) (bits s))

    go : (u w : Bool) → may_send id t ≡ u → is_send_for id e ≡ w → T (not (if u then false else w))
    go true w p q = tt
    go false false p q = tt
    go false true p q = absurd (true_T {b = false} (sym p ∙ T_true (may_send id t) (may (eqb→eq e.id id (left (eqb e.id id) (is_send e.command) (true_T q))) (right (eqb e.id id) (is_send e.command) (true_T q)))))

pub requested_by_request : RequestedByRequest
requested_by_request id t m z = go (may_send id t) (holds_entry (is_send_for id) m) refl refl
  where
    go : (u w : Bool) → may_send id t ≡ u → holds_entry (is_send_for id) m ≡ w → (status_at id t ≡ 3 ∷ []) ⊎ T (may_send id t)
    go true w p q = inr (true_T p)
    go false true p q =
        inl (ap (status_at id) (sym (refused_whole (sends_in_vain id) (not_in_vain id) t m (subst (λ (b : Bool). T (holds_entry (λ e. if b then false else is_send_for id e) m)) (sym p) (true_T q))).1) ∙ z)
    go false false p q = inl (sym (after_request id t m ∙ (unfold status_by_request replaced in rw q refl)) ∙ z)

three : (n : ℕ) (s : List ℕ) → replaced (n ∷ []) s ≡ 3 ∷ [] → n ≡ 3
unfolding replaced
three n [] z = absurd (true_T {b = false} (ap is_empty (sym z)))
three n (x ∷ s) z = ap (λ (ns : List ℕ). get_or ns 0 0) z

event_requested : (id : ℕ) (e : Event) (t : Tables) (l : Line) → replaced (status_by id e t l) (status_at id t) ≡ 3 ∷ [] → (status_at id t ≡ 3 ∷ []) ⊎ T (may_send id t)
unfolding status_by replaced
event_requested id (HostByte b) t l z = requested_by_request id t (message_up (on_host_byte b l).up) (after_request id t (message_up (on_host_byte b l).up) ∙ z)
event_requested id IdleMark t l z = inl z
event_requested id AckWaitOver t l z = inl z
event_requested id Poll t l z = inl z
event_requested id (BusValue n) t l z = inl z
event_requested id (TransmissionOutcome n o) t l z = go (eqb n id) o z
  where
    go : (u : Bool) (x : Outcome) → replaced (if u then status_of x ∷ [] else []) (status_at id t) ≡ 3 ∷ [] → (status_at id t ≡ 3 ∷ []) ⊎ T (may_send id t)
    go true Sent z = absurd (omega (arith, three 0 (status_at id t) (unfold status_of in z)))
    go true Failed z = absurd (omega (arith, three 1 (status_at id t) (unfold status_of in z)))
    go true InProgress z = absurd (omega (arith, three 2 (status_at id t) (unfold status_of in z)))
    go false x z = inl z

pub requested_by_call : RequestedByCall
requested_by_call id e v t k out =
    by_call (RequestedOnlyIfMaySend id t) e v t k out (λ a z. event_requested id e t (line_of k) (sym (happens_leaves id e v t (line_of k)) ∙ z)) (λ a z. inl z)

-- ---- nothing else goes by the flags
pub listed_if_present : ListedIfPresent
unfolding listed
listed_if_present t m id = present_kept (in_request m) id t.datapoints

-- those asked for are those in the range that pass the filter
asked_listed : (m : List ℕ) (ds : List Datapoint) → keep (asked m) ds ≡ keep (passes (filter_of m)) (keep (λ (d : Datapoint). in_request m d.id) ds)
unfolding asked
asked_listed m [] = refl
asked_listed m (d ∷ ds) = go (in_request m d.id) (passes (filter_of m) d) refl (asked_listed m ds)
  where
    inside : List Datapoint
    inside = keep (λ (x : Datapoint). in_request m x.id) ds

    go : (u w : Bool) → passes (filter_of m) d ≡ w → keep (asked m) ds ≡ keep (passes (filter_of m)) inside
        → (if u && w then d ∷ keep (asked m) ds else keep (asked m) ds) ≡ keep (passes (filter_of m)) (if u then d ∷ inside else inside)
    go true true e r = rw e (ap {B = List Datapoint} (λ (xs : List Datapoint). d ∷ xs) r)
    go true false e r = rw e r
    go false w e r = r

pub values_listed : ValuesListed
unfolding listed get_datapoints get_datapoint_value getting served
values_listed t m u e =
    ap (λ (s : Served). s.says) (is_get_value t m u e)
    ∙ ap (λ (ds : List Datapoint). answer_of (get_finding 7 (ltb 2 (filter_of m)) m (map value_entry ds)) m (listing (sub_service m + 0x80) (start_of m) (map value_entry ds))) (asked_listed m t.datapoints)
    ∙ ap (λ (n : ℕ). let es = map value_entry (keep (passes (filter_of m)) (listed t m)) in answer_of (get_finding 7 (ltb 2 (filter_of m)) m es) m (listing (n + 0x80) (start_of m) es)) e

both_or_neither : (a b : Bool) → T (if not a then not b else not (not b)) → b ≡ a
both_or_neither true true h = refl
both_or_neither true false h = absurd h
both_or_neither false true h = absurd h
both_or_neither false false h = refl

pub flags_unseen : FlagsUnseen
unfolding asks_descriptions all_lack_alike lacks_alike lacks_bits entries_of
flags_unseen flags t m n a = go (unanswered m) refl
  where
    go : (u : Bool) → unanswered m ≡ u → carried_out (reflagged flags t) m ≡ reflagged_served flags (carried_out t m)
    go true e = not_answered (reflagged flags t) m e ∙ ap (reflagged_served flags) (sym (not_answered t m e))
    go false e =
        carried_out_flagged flags t m (λ three. absurd (simp (e, eq-eqb (sub_service m) 0x03 three) at n))
        (λ six. set_values_flagged flags t m (lacks_alike flags t) (λ o h. both_or_neither _ _ h) (simp (eq-eqb (sub_service m) 0x06 six) at a))

pub flags_shown : FlagsShown
unfolding asks_descriptions listed
flags_shown flags t m a = (shown t (descriptions_served t m three), shown (reflagged flags t) (get_descriptions_flagged flags t m three))
  where
    three : sub_service m ≡ 0x03
    three = eqb→eq (sub_service m) 0x03 (right (not (unanswered m)) (eqb (sub_service m) 0x03) a)

    shown : (x : Tables) {s : Served} → get_datapoint_description x m ≡ s → carried_out x m ≡ s
    shown x p = is_get_description x m (no_T (unanswered m) (left (not (unanswered m)) (eqb (sub_service m) 0x03) a)) three ∙ (unfold get_datapoints in p)

-- ---- over calls
abbrev reflagged_done : (ℕ → ℕ) → Done → Done
reflagged_done flags d = record { sent = d.sent; tables = reflagged flags d.tables; line = d.line }

module _ (flags : ℕ → ℕ) where
  bus_ok_flagged : (e : Event) (v : List ℕ) (t : Tables) → bus_ok e v (reflagged flags t) ≡ bus_ok e v t
  unfolding bus_ok reflagged
  bus_ok_flagged (HostByte b) v t = refl
  bus_ok_flagged IdleMark v t = refl
  bus_ok_flagged AckWaitOver v t = refl
  bus_ok_flagged Poll v t = refl
  bus_ok_flagged (BusValue id) v t = ap (found_takes Value v) (found_flagged flags id t.datapoints) ∙ found-takes_flagged flags Value v (found datapoint_id id t.datapoints)
  bus_ok_flagged (TransmissionOutcome id o) v t = ap (found_takes (Transmission o) v) (found_flagged flags id t.datapoints) ∙ found-takes_flagged flags (Transmission o) v (found datapoint_id id t.datapoints)

  refusal_flagged : (e : Event) (v : List ℕ) (t : Tables) (k : Link) (room : ℕ) → refusal e v (reflagged flags t) k room ≡ refusal e v t k room
  unfolding refusal
  refusal_flagged e v t k room = rw (well_formed_flagged flags t, bus_ok_flagged e v t) refl

  up_flagged : (u : Up) (s : List ℕ) (t : Tables) (l : Line) → T (not (asks_descriptions (message_up u)) && all_lack_alike flags t (message_up u)) → handed_up u s (reflagged flags t) l ≡ reflagged_done flags (handed_up u s t l)
  unfolding handed_up
  up_flagged nothing s t l h = refl
  up_flagged acknowledged s t l h = refl
  up_flagged dropped s t l h = refl
  up_flagged reset s t l h = refl
  up_flagged (message m) s t l h =
      unfold saying message_up in ap (λ (x : Served). saying s x l) (flags_unseen flags t m (left (not (asks_descriptions m)) (all_lack_alike flags t m) h) (right (not (asks_descriptions m)) (all_lack_alike flags t m) h))

  poll_flagged : (t : Tables) (l : Line) → on_poll (reflagged flags t) l ≡ reflagged_done flags (on_poll t l)
  unfolding on_poll saying
  poll_flagged t l = go (is_empty l.outstanding) refl
    where
      go : (u : Bool) → is_empty l.outstanding ≡ u → on_poll (reflagged flags t) l ≡ reflagged_done flags (on_poll t l)
      go true e = rw e (ap (λ (x : Served). saying [] x l) (indication_flagged flags t))
      go false e = rw e refl

  at_flagged : (id : ℕ) (g : Datapoint → Datapoint) → ((d : Datapoint) → g (with_flags (flags d.id) d) ≡ with_flags (flags (g d).id) (g d)) → (t : Tables)
      → at_datapoint id g (reflagged flags t) ≡ reflagged flags (at_datapoint id g t)
  unfolding at_datapoint reflagged
  at_flagged id g same t = ap (λ (ds : List Datapoint). with_datapoints ds t) (changed_at_flagged flags id g same t.datapoints)

  happens_flagged : (e : Event) (v : List ℕ) (t : Tables) (l : Line) → T (is_unseen_by flags e t l) → happens e v (reflagged flags t) l ≡ reflagged_done flags (happens e v t l)
  unfolding happens is_unseen_by on_moved
  happens_flagged (HostByte b) v t l h = up_flagged (on_host_byte b l).up (on_host_byte b l).sent t (on_host_byte b l).line h
  happens_flagged IdleMark v t l h = unfold on_idle_mark handed_up in refl
  happens_flagged AckWaitOver v t l h = waited l (reflagged flags t) ∙ ap (reflagged_done flags) (sym (waited l t))
  happens_flagged Poll v t l h = poll_flagged t l
  happens_flagged (BusValue id) v t l h = ap (λ (x : Tables). quiet x l) (at_flagged id (bus_value v) (bus_value_flagged flags v) t)
  happens_flagged (TransmissionOutcome id o) v t l h = ap (λ (x : Tables). quiet x l) (at_flagged id (outcome (status_of o)) (outcome_flagged flags (status_of o)) t)

pub flags_unseen_by_call : FlagsUnseenByCall
unfolding call
flags_unseen_by_call flags e v t k out h = rw (refusal_flagged flags e v t k (length out)) (go (eqb (refusal e v t k (length out)) 0))
  where
    go : (u : Bool) → (if u then accepted out (happens e v (reflagged flags t) (line_of k)) else refused (refusal e v t k (length out)) (reflagged flags t) k out)
        ≡ reflagged_called flags (if u then accepted out (happens e v t (line_of k)) else refused (refusal e v t k (length out)) t k out)
    go true = unfold accepted in ap (accepted out) (happens_flagged flags e v t (line_of k) h)
    go false = unfold refused in refl

pub closed_datapoints : ClosedDatapoints
closed_datapoints =
    record {
      command_taken = command_taken;
      closed_refused = closed_refused;
      closed_call_refused = closed_call_refused;
      closed_code = closed_code;
      requested_by_request = requested_by_request;
      requested_by_call = requested_by_call;
      listed_if_present = listed_if_present;
      values_listed = values_listed;
      flags_unseen = flags_unseen;
      flags_shown = flags_shown;
      flags_unseen_by_call = flags_unseen_by_call;
    }
