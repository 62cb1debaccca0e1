-- The server's call, exit by exit: what is lent is refused or in order, and what each callee says of reply, tables, link record and output is what the call has to answer and leave.
use Prim.Native.Nat.{ℕ, ◌+◌, ◌≤◌}
use mathlib.Core.Path.{◌≡◌, refl, sym, ◌∙◌, ap, subst}
use mathlib.Core.Logic.{◌≢◌}
use mathlib.Core.Bool.{Bool, true, false}
use mathlib.Core.List.{List, ◌++◌}
use native.Mathlib.Omega.{arith}
use lib.ListN.{length, drop}
use lib.Dec.{ltb, eqb}
use borrow.Author.Tests.{ltb-true, ltb-false, eqb-true, eqb-false}
use Rattle.words.specs.Words.{is_empty, put}
use Rattle.ft12.specs.declared.record.Link.{Link}
use Rattle.ft12.specs.Record.{Line, line_of, link_of, in_range, holds_frame}
use Rattle.ft12.specs.Rules.{on_host_byte, on_idle_mark, on_ack_wait_over}
use Rattle.ft12.specs.Promise.{AckWaited}
use Rattle.words.proofs.WordLaws.{T_true, true_T}
use Rattle.ft12.proofs.EventLaws.{range_stays}
use Rattle.baos.specs.declared.datapoint.Datapoint.{Datapoint}
use Rattle.baos.specs.declared.item.Item.{Item}
use Rattle.baos.specs.Datapoint.{datapoint_id, datapoint_ok}
use Rattle.baos.specs.Text.{TextLists}
use Rattle.baos.specs.Table.{Tables, tables_of, datapoints_only, table_ok, well_formed, found, changed_at}
use Rattle.baos.specs.Indication.{indication}
use Rattle.baos.proofs.KeepLaws
use Rattle.calls.specs.declared.event.Event.{Event}
use Rattle.calls.specs.declared.event.Event.TheVariants.{HostByte, IdleMark, AckWaitOver, Poll, BusValue, TransmissionOutcome}
use Rattle.baos.specs.declared.bus.Outcome.{Outcome}
use Rattle.calls.specs.Reply.{Reply, Refused, Accepted, reply_numbers}
use Rattle.calls.specs.Event.{at_datapoint, bus_ok}
use Rattle.calls.specs.Call.{quiet, saying, handed_up, on_moved, on_poll, happens, refusal, Called, accepted, call}
use Rattle.calls.specs.Promise.{Leaves, lent_refusal, BusEventTaken}
use Rattle.baos.specs.declared.bus.BusEvent.{BusEvent}
use Rattle.baos.specs.declared.bus.BusEvent.TheVariants.{Value, Transmission}
use Rattle.baos.specs.Bus.{taken, found_takes}
use Rattle.calls.proofs.CallLaws.{refusal_0, refusal_1, refusal_2, refusal_3, refusal_4, refused_leaves}

-- what is lent is in order
pub record Lent (t : Tables) (k : Link) (room : ℕ) : Type 0 where
  pub tables : well_formed t ≡ true
  pub link : in_range k ≡ true
  pub output : 262 ≤ room

module _ (t : Tables) (k : Link) (room : ℕ) where
  -- the refusals that do not look at the event go first
  lent_first : (e : Event) (v : List ℕ) → eqb (lent_refusal (holds_frame k) t k room) 0 ≡ false → refusal e v t k room ≡ lent_refusal (holds_frame k) t k room
  unfolding lent_refusal
  lent_first e v h = go (well_formed t) (in_range k) (ltb room 262) refl refl refl
    where
      go : (a b c : Bool) → well_formed t ≡ a → in_range k ≡ b → ltb room 262 ≡ c → refusal e v t k room ≡ lent_refusal (holds_frame k) t k room
      go false b c p q s = refusal_1 e v t k room p ∙ sym (simp p)
      go true false c p q s = refusal_2 e v t k room p q ∙ sym (simp (p, q))
      go true true true p q s = refusal_3 e v t k room p q (ltb-true room 262 s) ∙ sym (simp (p, q, s))
      go true true false p q s = absurd (eqb-false (lent_refusal (holds_frame k) t k room) 0 h (simp (p, q, s)))

  -- none of them is given
  pub lent_passed : eqb (lent_refusal (holds_frame k) t k room) 0 ≡ true → Lent t k room
  unfolding lent_refusal
  lent_passed h = go (well_formed t) (in_range k) (ltb room 262) refl refl refl
    where
      z : lent_refusal (holds_frame k) t k room ≡ 0
      z = eqb-true (lent_refusal (holds_frame k) t k room) 0 h

      go : (a b c : Bool) → well_formed t ≡ a → in_range k ≡ b → ltb room 262 ≡ c → Lent t k room
      go false b c p q s = absurd (omega (arith, simp p at z))
      go true false c p q s = absurd (omega (arith, simp (p, q) at z))
      go true true true p q s = absurd (omega (arith, simp (p, q, s) at z))
      go true true false p q s = record { tables = p; link = q; output = ltb-false room 262 s }

-- the datapoints alone, for the callees that look at no other table
pub lent_datapoints : (ds : List Datapoint) (is : List Item) (ps : List ℕ) (ts : TextLists) → well_formed (tables_of ds is ps ts) ≡ true → table_ok 1000 datapoint_id datapoint_ok ds ≡ true
lent_datapoints ds is ps ts w = T_true (table_ok 1000 datapoint_id datapoint_ok ds) (KeepLaws.parts (tables_of ds is ps ts) (true_T w)).datapoints

leaves_as : (c d : Called) → c ≡ d → (r : Reply) (t : Tables) (k : Link) (out : List ℕ) → Leaves d r t k out → Leaves c r t k out
leaves_as c d e r t k out z = subst (λ (x : Called). Leaves x r t k out) (sym e) z

module _ (e : Event) (v : List ℕ) (t : Tables) (k : Link) (out : List ℕ) where
  -- "number only, nothing sent, all lent memory unaltered"
  refuses : (n : ℕ) → refusal e v t k (length out) ≡ n → n ≢ 0 → Leaves (call e v t k out) (Refused n) t k out
  refuses n h z = leaves_as _ _ (refused_leaves e v t k out n h z) (Refused n) t k out (record { reply = refl; tables = refl; link = refl; output = refl })

  pub leaves_refused : eqb (lent_refusal (holds_frame k) t k (length out)) 0 ≡ false → Leaves (call e v t k out) (Refused (lent_refusal (holds_frame k) t k (length out))) t k out
  leaves_refused h = refuses (lent_refusal (holds_frame k) t k (length out)) (lent_first t k (length out) e v h) (eqb-false (lent_refusal (holds_frame k) t k (length out)) 0 h)

  -- what is lent is in order, and so is the bus event
  module _ (p : Lent t k (length out)) where
    takes-place : bus_ok e v t ≡ true → call e v t k out ≡ accepted out (happens e v t (line_of k))
    unfolding call
    takes-place b = simp (refusal_0 e v t k (length out) p.tables p.link p.output b)

    bus_refused : bus_ok e v t ≡ false → Leaves (call e v t k out) (Refused 4) t k out
    bus_refused b = refuses 4 (refusal_4 e v t k (length out) p.tables p.link p.output b) (λ z. absurd (omega (arith, z)))

-- the same for the event, once it is known which it is
pub same_event : (e d : Event) (v : List ℕ) (t : Tables) (k : Link) (out : List ℕ) → e ≡ d → {r : Reply} {t' : Tables} {k' : Link} {out' : List ℕ} → Leaves (call d v t k out) r t' k' out' → Leaves (call e v t k out) r t' k' out'
same_event e d v t k out h {r} {t'} {k'} {out'} z = subst (λ (y : Event). Leaves (call y v t k out) r t' k' out') (sym h) z

-- ---- what the events come to
-- ack wait over hands up no message
pub waited : (l : Line) (t : Tables) → on_moved (on_ack_wait_over l) t ≡ record { sent = (on_ack_wait_over l).sent; tables = t; line = (on_ack_wait_over l).line }
unfolding on_moved handed_up on_ack_wait_over
waited l t = go (is_empty l.outstanding) (ltb l.resends 3) refl refl
  where
    go : (a b : Bool) → is_empty l.outstanding ≡ a → ltb l.resends 3 ≡ b
        → on_moved (on_ack_wait_over l) t ≡ record { sent = (on_ack_wait_over l).sent; tables = t; line = (on_ack_wait_over l).line }
    go true b p q = simp p
    go false true p q = simp (p, q)
    go false false p q = simp (p, q)

put_first : (out s : List ℕ) → put out 0 s ≡ s ++ drop (length s) out
unfolding put
put_first out s =
    let e : 0 + length s ≡ length s = omega arith in
    ap (λ (n : ℕ). s ++ drop n out) e

-- a poll looks at the datapoints alone
polled : (ds : List Datapoint) (is : List Item) (ps : List ℕ) (ts : TextLists) (l : Line)
    → on_poll (tables_of ds is ps ts) l ≡ record { sent = (on_poll (datapoints_only ds) l).sent; tables = tables_of (on_poll (datapoints_only ds) l).tables.datapoints is ps ts; line = (on_poll (datapoints_only ds) l).line }
unfolding on_poll saying indication
polled ds is ps ts l = go (is_empty l.outstanding) refl
  where
    go : (u : Bool) → is_empty l.outstanding ≡ u
        → on_poll (tables_of ds is ps ts) l ≡ record { sent = (on_poll (datapoints_only ds) l).sent; tables = tables_of (on_poll (datapoints_only ds) l).tables.datapoints is ps ts; line = (on_poll (datapoints_only ds) l).line }
    go true e = simp e
    go false e = simp e

-- ---- each event
module _ (v : List ℕ) (t : Tables) (k : Link) (out : List ℕ) (p : Lent t k (length out)) where
  pub leaves_host_byte : (b : ℕ) (r : Reply) (t' : Tables) (k' : Link) (out' : List ℕ) → Leaves (accepted out (on_moved (on_host_byte b (line_of k)) t)) r t' k' out' → Leaves (call (HostByte b) v t k out) r t' k' out'
  unfolding bus_ok happens
  leaves_host_byte b r t' k' out' z = leaves_as _ _ (takes-place (HostByte b) v t k out p refl) r t' k' out' z

  pub leaves_idle_mark : Leaves (call IdleMark v t k out) (Accepted 0) t (link_of (on_idle_mark (line_of k)).line) out
  unfolding bus_ok happens on_moved on_idle_mark handed_up accepted
  leaves_idle_mark = leaves_as _ _ (takes-place IdleMark v t k out p refl) (Accepted 0) t (link_of (on_idle_mark (line_of k)).line) out (record { reply = refl; tables = refl; link = refl; output = refl })

  pub leaves_ack_wait : (n : ℕ) (k' : Link) (out' : List ℕ) → AckWaited k out n out' k' → Leaves (call AckWaitOver v t k out) (Accepted n) t k' out'
  unfolding bus_ok happens accepted
  leaves_ack_wait n k' out' z =
      leaves_as _ _ (takes-place AckWaitOver v t k out p refl ∙ ap (accepted out) (waited (line_of k) t)) (Accepted n) t k' out'
      (record { reply = ap (λ (x : ℕ). reply_numbers (Accepted x)) z.answer; tables = refl; link = z.link; output = z.buffer ∙ put_first out (on_ack_wait_over (line_of k)).sent })

-- the tables by the datapoints alone: a poll and the bus leave the others
module _ (v : List ℕ) (ds : List Datapoint) (is : List Item) (ps : List ℕ) (ts : TextLists) (k : Link) (out : List ℕ) (p : Lent (tables_of ds is ps ts) k (length out)) where
  pub leaves_poll : (r : Reply) (ds' : List Datapoint) (k' : Link) (out' : List ℕ)
      → Leaves (accepted out (on_poll (datapoints_only ds) (line_of k))) r (datapoints_only ds') k' out' → Leaves (call Poll v (tables_of ds is ps ts) k out) r (tables_of ds' is ps ts) k' out'
  unfolding bus_ok happens accepted
  leaves_poll r ds' k' out' z =
      leaves_as _ _ (takes-place Poll v (tables_of ds is ps ts) k out p refl ∙ ap (accepted out) (polled ds is ps ts (line_of k))) r (tables_of ds' is ps ts) k' out'
      (record { reply = z.reply; tables = ap (λ (y : Tables). tables_of y.datapoints is ps ts) z.tables; link = z.link; output = z.output })

  bus_leaves : (e : Event) (b : BusEvent) (id : ℕ) → bus_ok e v (tables_of ds is ps ts) ≡ found_takes b v (found datapoint_id id ds) → happens e v (tables_of ds is ps ts) (line_of k) ≡ quiet (at_datapoint id (taken b v) (tables_of ds is ps ts)) (line_of k)
      → (r : Reply) (ds' : List Datapoint) → BusEventTaken b id v ds r ds' → Leaves (call e v (tables_of ds is ps ts) k out) r (tables_of ds' is ps ts) k out
  unfolding accepted at_datapoint
  bus_leaves e b id same does r ds' z = go (found_takes b v (found datapoint_id id ds)) refl
    where
      go : (u : Bool) → found_takes b v (found datapoint_id id ds) ≡ u → Leaves (call e v (tables_of ds is ps ts) k out) r (tables_of ds' is ps ts) k out
      go true f =
          leaves_as _ _ (takes-place e v (tables_of ds is ps ts) k out p (same ∙ f) ∙ ap (accepted out) does) r (tables_of ds' is ps ts) k out
          (record { reply = ap reply_numbers (simp f at z.reply); tables = ap (λ (y : List Datapoint). tables_of y is ps ts) (simp f at z.datapoints); link = range_stays k (true_T p.link); output = refl })
      go false f =
          let q = bus_refused e v (tables_of ds is ps ts) k out p (same ∙ f) in
          record { reply = ap reply_numbers (simp f at z.reply) ∙ q.reply; tables = ap (λ (y : List Datapoint). tables_of y is ps ts) (simp f at z.datapoints) ∙ q.tables; link = q.link; output = q.output }

  pub leaves_bus_value : (id : ℕ) (r : Reply) (ds' : List Datapoint) → BusEventTaken Value id v ds r ds' → Leaves (call (BusValue id) v (tables_of ds is ps ts) k out) r (tables_of ds' is ps ts) k out
  unfolding bus_ok happens at_datapoint changed_at taken
  leaves_bus_value id = bus_leaves (BusValue id) Value id refl refl

  pub leaves_outcome : (id : ℕ) (o : Outcome) (r : Reply) (ds' : List Datapoint) → BusEventTaken (Transmission o) id v ds r ds' → Leaves (call (TransmissionOutcome id o) v (tables_of ds is ps ts) k out) r (tables_of ds' is ps ts) k out
  unfolding bus_ok happens at_datapoint changed_at taken
  leaves_outcome id o = bus_leaves (TransmissionOutcome id o) (Transmission o) id refl refl
