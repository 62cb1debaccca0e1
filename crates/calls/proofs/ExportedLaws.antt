-- What the exported functions give: where the numbers name an event, where they name none, and of a fresh link record.
use Prim.Native.Nat.{ℕ, ◌≤◌, ◌<◌, ◌^◌}
use native.Mathlib.Nat.{pos_of_ne-zero}
use mathlib.Core.Path.{◌≡◌, refl}
use mathlib.Core.Bool.{Bool, true, false, not}
use mathlib.Core.List.{List}
use native.Mathlib.Omega.{arith}
use lib.ListN.{length}
use lib.Dec.{T, ltb, eqb}
use borrow.Author.Tests.{eqb-false}
use lib.IntN.{ℤ, pos, neg_ℤ}
use Rattle.std.specs.Prelude.{if◌then◌else◌}
use Rattle.ft12.specs.declared.record.Link.{Link}
use Rattle.ft12.specs.declared.rules.Heard.TheVariants.{Reset}
use Rattle.ft12.specs.Record.{Line, line_of, link_of, line_ok, receiver_ok, outstanding_ok, in_range}
use Rattle.ft12.specs.Receiver.{gathers, is_beginning}
use Rattle.ft12.specs.Rules.{at_start, cleared, expecting, on_heard}
use Rattle.ft12.proofs.RecordLaws.{line_in_range}
use Rattle.baos.specs.Table.{Tables, tables_of, well_formed}
use Rattle.baos.proofs.TableLaws.{same_tables}
use Rattle.calls.specs.declared.event.Event.{Event}
use Rattle.calls.specs.Event.{bus_ok}
use Rattle.calls.specs.Reply.{sent_count}
use Rattle.calls.specs.Call.{happens, refusal, refused, accepted, call}
use Rattle.calls.specs.Numbers.{is_event, event_numbered, reply_number, no_event}
use Rattle.calls.specs.Exported.{Answered, answered, called_by, Gives, fresh_line}
use Rattle.calls.proofs.SentLaws.{sent_small}

module _ (event byte id outcome : ℕ) (v : List ℕ) (t : Tables) (k : Link) (out : List ℕ) where
  pub no_event_lem : is_event event outcome ≡ false → Gives (called_by event byte id outcome v t k out) no_event t k out
  unfolding called_by
  no_event_lem n = simp n (record { number = refl; tables = refl; link = refl; output = refl })

  -- the texts are told as they were lent
  pub an_event : is_event event outcome ≡ true
      → let c = call (event_numbered event byte id outcome) v t k out in
      t.texts ≡ c.tables.texts
      → Gives (called_by event byte id outcome v t k out) (reply_number c.reply) (tables_of c.tables.datapoints c.tables.items c.tables.parameters t.texts) c.link c.output
  unfolding called_by answered
  an_event n same = simp n (record { number = refl; tables = same_tables refl refl refl same; link = refl; output = refl })

  -- the count of bytes sent is a number of 32 bits
  pub count_fits : sent_count (call (event_numbered event byte id outcome) v t k out).reply < 2 ^ 31
  count_fits = omega (arith, sent_small (event_numbered event byte id outcome) v t k out)

-- ---- what the C header says of the number: 0 to 262 bytes are to be sent; or it is below 0, -1 to -4 or -100, and everything is as it was
pub record Kept (a : Answered) (t : Tables) (k : Link) (out : List ℕ) : Type 0 where
  pub tables : a.tables ≡ t
  pub link : a.link ≡ k
  pub output : a.output ≡ out

pub data AnswerTold (a : Answered) (t : Tables) (k : Link) (out : List ℕ) : Type 0 where
  sends : (n : ℕ) → n ≤ 262 → a.number ≡ pos n → AnswerTold a t k out
  refuses : (n : ℕ) → 1 ≤ n → n ≤ 4 → a.number ≡ neg_ℤ (pos n) → Kept a t k out → AnswerTold a t k out
  names_none : a.number ≡ no_event → Kept a t k out → AnswerTold a t k out

refusal_small : (e : Event) (v : List ℕ) (t : Tables) (k : Link) (room : ℕ) → refusal e v t k room ≤ 4
unfolding refusal
refusal_small e v t k room = go (well_formed t) (in_range k) (ltb room 262) (bus_ok e v t)
  where
    go : (a b c d : Bool) → (if not a then 1 else if not b then 2 else if c then 3 else if not d then 4 else 0) ≤ 4
    go false b c d = omega arith
    go true false c d = omega arith
    go true true true d = omega arith
    go true true false false = omega arith
    go true true false true = omega arith

call_told : (e : Event) (v : List ℕ) (t : Tables) (k : Link) (out : List ℕ) → AnswerTold (answered (call e v t k out)) t k out
unfolding answered call refused accepted reply_number sent_count
call_told e v t k out = go (eqb (refusal e v t k (length out)) 0) refl
  where
    go : (u : Bool) → eqb (refusal e v t k (length out)) 0 ≡ u → AnswerTold (answered (call e v t k out)) t k out
    go true p = let small = simp p at (sent_small e v t k out) in simp p (sends (length (happens e v t (line_of k)).sent) small refl)
    go false p =
        let n = refusal e v t k (length out) in
        let some = eqb-false n 0 p in
        simp p (refuses n (pos_of_ne-zero some) (refusal_small e v t k (length out)) refl (record { tables = refl; link = refl; output = refl }))

pub answer_told : (event byte id outcome : ℕ) (v : List ℕ) (t : Tables) (k : Link) (out : List ℕ) → AnswerTold (called_by event byte id outcome v t k out) t k out
unfolding called_by
answer_told event byte id outcome v t k out = go (is_event event outcome) refl
  where
    go : (u : Bool) → is_event event outcome ≡ u → AnswerTold (called_by event byte id outcome v t k out) t k out
    go true p = simp p (call_told (event_numbered event byte id outcome) v t k out)
    go false p = simp p (names_none refl (record { tables = refl; link = refl; output = refl }))

-- the outcome is one
pub no_second : (event byte id outcome : ℕ) (v : List ℕ) (t : Tables) (k : Link) (out : List ℕ) (r r' : ℤ) (t' t'' : Tables) (k' k'' : Link) (out' out'' : List ℕ)
    → Gives (called_by event byte id outcome v t k out) r t' k' out' → Gives (called_by event byte id outcome v t k out) r' t'' k'' out'' → (r ≡ r') × (t' ≡ t'') × (k' ≡ k'') × (out' ≡ out'')
no_second event byte id outcome v t k out r r' t' t'' k' k'' out' out'' a b = (cc, cc, cc, cc)

-- a fresh record is in range, and what a reset leaves of any record
pub fresh_in_range : T (in_range (link_of fresh_line))
fresh_in_range = line_in_range fresh_line (unfold fresh_line line_ok receiver_ok outstanding_ok is_beginning gathers in tt)

pub fresh_is_reset : (b : ℕ) (l : Line) → (on_heard Reset b l).line ≡ fresh_line
unfolding on_heard expecting cleared at_start fresh_line
fresh_is_reset b l = refl
