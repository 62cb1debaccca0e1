-- One call: when it is refused and what a refusal leaves, and that an accepted call leaves what the next one does not refuse.
use Prim.Native.Nat.{ℕ, ◌≤◌, ◌<◌}
use mathlib.Core.Path.{◌≡◌, refl}
use mathlib.Core.Logic.{◌≢◌}
use mathlib.Core.Bool.{Bool, true, false, ◌&&◌}
use mathlib.Core.List.{List, [], ◌∷◌}
use native.Mathlib.Omega.{arith}
use lib.ListN.{length}
use lib.Dec.{T, ltb, eqb}
use borrow.Author.Tests.{ltb-false, lt-ltb, le-ltb, ne_eqb}
use Rattle.std.specs.Prelude.{if◌then◌else◌}
use Rattle.words.specs.Words.{is_empty, every}
use Rattle.ft12.specs.declared.record.Link.{Link}
use Rattle.ft12.specs.Record.{Line, line_of, line_ok, memory_ok, in_range}
use Rattle.ft12.specs.Rules.{Up, nothing, acknowledged, dropped, reset, message}
use Rattle.words.proofs.WordLaws.{left, right, both, true_T}
use Rattle.ft12.proofs.RecordLaws.{line_in_range}
use Rattle.ft12.proofs.RulesLaws.{host_byte_ok, idle_mark_ok, ack_wait_ok, message_ok}
use Rattle.baos.specs.declared.datapoint.Datapoint.{Datapoint}
use Rattle.baos.specs.Datapoint.{datapoint_id, datapoint_ok, is_value, with_state, with_value, with_mark, bus_value, outcome}
use Rattle.baos.specs.Lookup.{lookup_of, is_present}
use Rattle.baos.specs.Table.{Tables, well_formed, found}
use Rattle.baos.specs.Service.{carried_out}
use Rattle.baos.specs.Indication.{indication}
use Rattle.baos.proofs.TableLaws
use Rattle.baos.proofs.DatapointLaws
use Rattle.baos.proofs.KeepLaws
use Rattle.calls.specs.declared.event.Event.{Event}
use Rattle.calls.specs.declared.event.Event.TheVariants.{HostByte, IdleMark, AckWaitOver, Poll, BusValue, TransmissionOutcome}
use Rattle.baos.specs.declared.bus.BusEvent.TheVariants.{Value}
use Rattle.baos.specs.declared.bus.Outcome.{Outcome}
use Rattle.baos.specs.declared.bus.Outcome.TheVariants.{Sent, Failed, InProgress}
use Rattle.calls.specs.Reply.{Reply, Refused, Accepted, reply_numbers}
use Rattle.baos.specs.Bus.{status_of, takes, found_takes}
use Rattle.calls.specs.Event.{at_datapoint, bus_ok}
use Rattle.calls.specs.Call.{Done, saying, handed_up, on_moved, on_poll, happens, refusal, Called, refused, accepted, call}

-- ---- the reply's numbers tell its case and its values
pub reply_told : (r s : Reply) → reply_numbers r ≡ reply_numbers s → r ≡ s
unfolding reply_numbers
reply_told (Refused n) (Refused m) e = cc
reply_told (Refused n) (Accepted m) e = absurd (let z : ◌≡◌ {A = ℕ} 0 1 = cc in omega arith)
reply_told (Accepted n) (Refused m) e = absurd (let z : ◌≡◌ {A = ℕ} 0 1 = cc in omega arith)
reply_told (Accepted n) (Accepted m) e = cc

-- ---- "Given exactly when", "Several at once: the lowest number"
module _ (e : Event) (v : List ℕ) (t : Tables) (k : Link) (room : ℕ) where
  pub refusal_1 : well_formed t ≡ false → refusal e v t k room ≡ 1
  unfolding refusal
  refusal_1 w = simp w

  pub refusal_2 : well_formed t ≡ true → in_range k ≡ false → refusal e v t k room ≡ 2
  unfolding refusal
  refusal_2 w r = simp (w, r)

  pub refusal_3 : well_formed t ≡ true → in_range k ≡ true → room < 262 → refusal e v t k room ≡ 3
  unfolding refusal
  refusal_3 w r h = simp (w, r, lt-ltb room 262 h)

  pub refusal_4 : well_formed t ≡ true → in_range k ≡ true → 262 ≤ room → bus_ok e v t ≡ false → refusal e v t k room ≡ 4
  unfolding refusal
  refusal_4 w r h b = simp (w, r, le-ltb room 262 h, b)

  pub refusal_0 : well_formed t ≡ true → in_range k ≡ true → 262 ≤ room → bus_ok e v t ≡ true → refusal e v t k room ≡ 0
  unfolding refusal
  refusal_0 w r h b = simp (w, r, le-ltb room 262 h, b)

  -- a call that is not refused has all four in order
  pub record Sound : Type 0 where
    pub tables : T (well_formed t)
    pub link : T (in_range k)
    pub output : 262 ≤ room
    pub bus : T (bus_ok e v t)

  pub not_refused : refusal e v t k room ≡ 0 → Sound
  unfolding refusal
  not_refused h = go (well_formed t) (in_range k) (ltb room 262) (bus_ok e v t) refl refl refl refl
    where
      go : (a b c d : Bool) → well_formed t ≡ a → in_range k ≡ b → ltb room 262 ≡ c → bus_ok e v t ≡ d → Sound
      go false b c d p q r s = absurd (omega (arith, simp p at h))
      go true false c d p q r s = absurd (omega (arith, simp (p, q) at h))
      go true true true d p q r s = absurd (omega (arith, simp (p, q, r) at h))
      go true true false false p q r s = absurd (omega (arith, simp (p, q, r, s) at h))
      go true true false true p q r s = record { tables = true_T p; link = true_T q; output = ltb-false room 262 r; bus = true_T s }

-- ---- "Returns and leaves": number only, all lent memory unaltered
pub refused_leaves : (e : Event) (v : List ℕ) (t : Tables) (k : Link) (out : List ℕ) (n : ℕ) → refusal e v t k (length out) ≡ n → n ≢ 0
    → call e v t k out ≡ record { reply = Refused n; output = out; tables = t; link = k }
unfolding call refused
refused_leaves e v t k out n h z = rw h (simp (ne_eqb n 0 z))

-- ---- what an accepted call leaves is in order: tables and line
pub record InOrder (d : Done) : Type 0 where
  pub tables : T (well_formed d.tables)
  pub line : T (line_ok d.line)

handed_up_lasts : (u : Up) (s : List ℕ) (t : Tables) (l : Line) → T (well_formed t) → T (line_ok l) → InOrder (handed_up u s t l)
unfolding handed_up saying
handed_up_lasts nothing s t l w o = record { tables = w; line = o }
handed_up_lasts acknowledged s t l w o = record { tables = w; line = o }
handed_up_lasts dropped s t l w o = record { tables = w; line = o }
handed_up_lasts reset s t l w o = record { tables = w; line = o }
handed_up_lasts (message m) s t l w o = record { tables = KeepLaws.carried_out_keeps t m w; line = message_ok (carried_out t m).says l o }

poll_lasts : (t : Tables) (l : Line) → T (well_formed t) → T (line_ok l) → InOrder (on_poll t l)
unfolding on_poll saying
poll_lasts t l w o = go (is_empty l.outstanding) refl
  where
    go : (u : Bool) → is_empty l.outstanding ≡ u → InOrder (on_poll t l)
    go true e = simp (e, on_poll) (record { tables = KeepLaws.indication_keeps t w; line = message_ok (indication t).says l o })
    go false e = simp (e, on_poll) (record { tables = w; line = o })

-- ---- bus events
bus_same_id : (v : List ℕ) (d : Datapoint) → datapoint_id (bus_value v d) ≡ datapoint_id d
unfolding bus_value with_mark with_value
bus_same_id v d = refl

fits_found : (v : List ℕ) (d : Datapoint) → T (found_takes Value v (d ∷ [])) → T (is_value d.typecode v)
unfolding found_takes takes
fits_found v d t = left (is_value d.typecode v) true (right (is_present (lookup_of (d ∷ []))) (is_value d.typecode v && true) t)

value_lasts : (id : ℕ) (v : List ℕ) (t : Tables) → T (well_formed t) → T (found_takes Value v (found datapoint_id id t.datapoints)) → T (well_formed (at_datapoint id (bus_value v) t))
unfolding at_datapoint
value_lasts id v t w f =
    KeepLaws.with_datapoints_lem t _ w
    (TableLaws.table_changed datapoint_id 1000 datapoint_ok (λ (d : Datapoint). is_value d.typecode v) id (bus_value v) (bus_same_id v) (DatapointLaws.bus_value_ok v) t.datapoints
    (TableLaws.found_fits datapoint_id id (λ (d : Datapoint). is_value d.typecode v) (found_takes Value v) (fits_found v) 0 t.datapoints
    (TableLaws.ids_rise datapoint_id 1000 datapoint_ok t.datapoints (KeepLaws.parts t w).datapoints) f)
    (KeepLaws.parts t w).datapoints)

outcome_same_id : (n : ℕ) (d : Datapoint) → datapoint_id (outcome n d) ≡ datapoint_id d
unfolding outcome with_state
outcome_same_id n d = refl

status_small : (o : Outcome) → status_of o ≤ 3
unfolding status_of
status_small Sent = omega arith
status_small Failed = omega arith
status_small InProgress = omega arith

every_at : (id : ℕ) (ds : List Datapoint) → T (every (TableLaws.at datapoint_id id (λ (d : Datapoint). true)) ds)
unfolding TableLaws.at
every_at id [] = tt
every_at id (d ∷ ds) = both (if eqb d.id id then true else true) _ (either (eqb d.id id)) (every_at id ds)
  where
    either : (u : Bool) → T (if u then true else true)
    either true = tt
    either false = tt

outcome_lasts : (id : ℕ) (o : Outcome) (t : Tables) → T (well_formed t) → T (well_formed (at_datapoint id (outcome (status_of o)) t))
unfolding at_datapoint
outcome_lasts id o t w =
    KeepLaws.with_datapoints_lem t _ w
    (TableLaws.table_changed datapoint_id 1000 datapoint_ok (λ (d : Datapoint). true) id (outcome (status_of o)) (outcome_same_id (status_of o))
    (λ d x t'. DatapointLaws.outcome_ok (status_of o) d (status_small o) t') t.datapoints (every_at id t.datapoints) (KeepLaws.parts t w).datapoints)

-- ---- every event
pub happens_lasts : (e : Event) (v : List ℕ) (t : Tables) (l : Line) → T (well_formed t) → T (line_ok l) → T (bus_ok e v t) → InOrder (happens e v t l)
unfolding happens on_moved bus_ok
happens_lasts (HostByte b) v t l w o f = handed_up_lasts _ _ t _ w (host_byte_ok b l o)
happens_lasts IdleMark v t l w o f = handed_up_lasts _ _ t _ w (idle_mark_ok l o)
happens_lasts AckWaitOver v t l w o f = handed_up_lasts _ _ t _ w (ack_wait_ok l o)
happens_lasts Poll v t l w o f = poll_lasts t l w o
happens_lasts (BusValue id) v t l w o f = record { tables = value_lasts id v t w f; line = o }
happens_lasts (TransmissionOutcome id x) v t l w o f = record { tables = outcome_lasts id x t w; line = o }

-- "The tables and the link record after it are such that 1 and 2 do not refuse them."
pub record NotRefused (c : Called) : Type 0 where
  pub tables : T (well_formed c.tables)
  pub link : T (in_range c.link)

line_of_ok : (k : Link) → T (in_range k) → T (line_ok (line_of k))
unfolding in_range
line_of_ok k t = right (memory_ok k) (line_ok (line_of k)) t

pub call_lasts : (e : Event) (v : List ℕ) (t : Tables) (k : Link) (out : List ℕ) → refusal e v t k (length out) ≡ 0 → NotRefused (call e v t k out)
unfolding call accepted
call_lasts e v t k out h =
    let s = not_refused e v t k (length out) h in
    let d = happens_lasts e v t (line_of k) s.tables (line_of_ok k s.link) s.bus in
    simp h (record { tables = d.tables; link = line_in_range (happens e v t (line_of k)).line d.line })
