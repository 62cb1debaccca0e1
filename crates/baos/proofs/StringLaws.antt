-- Strings: both passes over the datapoints find and build the entries to return, and the search in the text lists goes forward with them.
use Prim.Native.Nat.{ℕ, suc, ◌+◌, ◌-◌, ◌/◌, ◌%◌, ◌≤◌, ◌<◌}
use mathlib.Core.Path.{◌≡◌, refl, sym, ◌∙◌, ap, subst}
use mathlib.Core.Bool.{false}
use mathlib.Core.List.{List, [], ◌∷◌, map}
use native.Mathlib.Omega.{arith}
use lib.ListN.{length, get_or, drop}
use lib.Seq.{sets}
use lib.Dec.{T, ltb, ltb→lt}
use denote.Ref.{Bor}
use Rattle.words.specs.Words.{keep, put}
use Rattle.words.proofs.WordLaws.{left, right}
use Rattle.words.proofs.ByteLaws.{put_sets, put-put}
use Rattle.baos.specs.declared.datapoint.Datapoint.{Datapoint}
use Rattle.baos.specs.declared.inner.Wanted.{Wanted}
use Rattle.baos.specs.declared.inner.Cursors.{Cursors}
use Rattle.baos.specs.Datapoint.{datapoint_id}
use Rattle.baos.specs.Text.{TextLists, text_lists, stretch_of, text_of, HandedOn}
use Rattle.baos.specs.Table.{rising, place, datapoints_with_texts}
use Rattle.baos.specs.Message.{start_of}
use Rattle.baos.specs.Get.{AnswerEntry, in_request, room_for_entries, string_of, string_entry, get_description_string}
use Rattle.baos.specs.Inner.Cursors.{cursors_of, BothReached}
use Rattle.baos.specs.Inner.Gather.{filter_asked, size_asked, wanted_of, is_behind, is_within, walked, nothing_gathered}
use Rattle.baos.specs.Inner.Strings.{string_step, strings_built}
use Rattle.baos.proofs.GetLaws.{gets}
use Rattle.baos.proofs.GatherLaws.{Passed, gathered_passes, within_from, within_below, walked_keeps}
use Rattle.baos.proofs.AnsweredLaws.{place_front, place_rises, datapoints_from}
use Rattle.baos.proofs.PassLaws.{drop-next}
use Rattle.baos.proofs.TextLaws.{text_size, text_short}

-- ---- the entries to return
abbrev pub string_entries : TextLists → List ℕ → List Datapoint → List AnswerEntry
string_entries ts m ds = map (string_entry ts) (keep (λ (d : Datapoint). in_request m d.id) ds)

pub string_some : (ts : TextLists) (d : Datapoint) → 1 ≤ length (string_entry ts d).bytes
unfolding string_entry string_of
string_some ts d = omega arith

module _ (ts : TextLists) (m : List ℕ) (ds : List Datapoint) (rises : T (rising 0 (map datapoint_id ds))) where
  pub strings_passed : Passed (string_entries ts m ds) (walked (string_step ts (wanted_of false m)) nothing_gathered (datapoints_from m ds)) (strings_built ts (wanted_of false m) (datapoints_from m ds))
  unfolding wanted_of filter_asked is_behind is_within in_request
  strings_passed =
      gathered_passes datapoint_id (λ (d : Datapoint). is_within (wanted_of false m) d.id) (string_entry ts) (start_of m) (wanted_of false m).end (omega arith)
      (λ d. within_from (wanted_of false m) d.id) (λ d. within_below (wanted_of false m) d.id) (λ d. unfold string_entry in refl)
      (place datapoint_id (start_of m) ds) ds rises (place_front datapoint_id (start_of m) 0 ds rises)

  pub gets_strings : get_description_string (datapoints_with_texts ds ts) m ≡ gets false (string_entries ts m ds) (datapoints_with_texts ds ts) (datapoints_with_texts ds ts) m
  unfolding get_description_string size_asked filter_asked
  gets_strings = refl

pub strings_small : (ts : TextLists) (w : Wanted) (ds : List Datapoint) → (walked (string_step ts w) nothing_gathered ds).size ≤ room_for_entries
strings_small ts w ds =
    (walked_keeps (λ (d : Datapoint). is_behind w d.id) (λ (d : Datapoint). is_within w d.id) (string_entry ts) (string_some ts) ds nothing_gathered (omega arith) (omega arith)).1

-- ---- the search goes forward: in both lists it has ended at the ID `low`; the datapoints to come are above `last`, and `low` is at most one more
pub record Following (ts : TextLists) (c : Cursors) (ds : List Datapoint) : Type 0 where
  pub low : ℕ
  pub place : c ≡ cursors_of low ts
  pub last : ℕ
  pub next : low ≤ suc last
  pub rest : T (rising last (map datapoint_id ds))

-- a pass begins at the place of the range's first ID, with that ID's cursors
pub following_start : (ts : TextLists) (c : Cursors) (ds : List Datapoint) (first k : ℕ) → T (rising 0 (map datapoint_id ds)) → k ≡ place datapoint_id first ds → c ≡ cursors_of first ts → Following ts c (drop k ds)
following_start ts c ds first k t e p =
    record {
      low = first;
      place = p;
      last = first - 1;
      next = omega arith;
      rest = subst (λ (j : ℕ). T (rising (first - 1) (map datapoint_id (drop j ds)))) (sym e) (place_rises datapoint_id first 0 ds t);
    }

module _ (ts : TextLists) (c : Cursors) (ds : List Datapoint) (i : ℕ) (blank : Datapoint) (l : i < length ds) (f : Following ts c (drop i ds)) where
  abbrev d : Datapoint
  d = get_or ds i blank

  next_rises : T (rising f.last (map datapoint_id (d ∷ drop (i + 1) ds)))
  next_rises = subst (λ (xs : List Datapoint). T (rising f.last (map datapoint_id xs))) (drop-next ds i blank l) f.rest

  above : f.low ≤ d.id
  unfolding rising
  above = omega (arith, f.next, ltb→lt f.last d.id (left (ltb f.last d.id) (rising d.id (map datapoint_id (drop (i + 1) ds))) next_rises))

  pub following_here : BothReached d.id ts c
  unfolding cursors_of
  following_here =
      record {
        site = record { low = f.low; below = above; place = ap (λ (x : Cursors). x.site) f.place };
        defaults = record { low = f.low; below = above; place = ap (λ (x : Cursors). x.defaults) f.place };
      }

  pub following-next : (c' : Cursors) → c' ≡ cursors_of d.id ts → Following ts c' (drop (i + 1) ds)
  unfolding rising
  following-next c' p =
      record {
        low = d.id;
        place = p;
        last = d.id;
        next = omega arith;
        rest = right (ltb f.last d.id) (rising d.id (map datapoint_id (drop (i + 1) ds))) next_rises;
      }

-- ---- one string
-- how long it is: the length of two bytes, and the text
pub string_length : (id : ℕ) (ts : TextLists) → length (string_of id ts) ≡ 2 + (stretch_of id ts).size
unfolding string_of
string_length id ts = omega (arith, text_size id ts)

-- so 32 bytes at most
pub string_short : (ts : TextLists) (d : Datapoint) → length (string_entry ts d).bytes ≤ 32
unfolding string_entry
string_short ts d = omega (arith, string_length d.id ts, text_short d.id ts)

-- its length's first byte is 0
string_bytes : (id : ℕ) (ts : TextLists) → string_of id ts ≡ 0 ∷ length (text_of id ts) ∷ text_of id ts
unfolding string_of
string_bytes id ts =
    let t : List ℕ = text_of id ts in
    let h : length t ≤ 30 = omega (arith, text_size id ts, text_short id ts) in
    let p : length t / 256 ≡ 0 = omega (arith, h) in
    let q : length t % 256 ≡ length t = omega (arith, h) in
    λ i. p i ∷ q i ∷ t

-- written: the length's bytes stored one by one, and the text behind them
pub string_put : (l : List ℕ) (at k n id : ℕ) (ts : TextLists) (text : List ℕ) → k ≡ at + 2 → n ≡ length text → text ≡ text_of id ts
    → at + length (string_of id ts) ≤ length l → put (sets l at (0 ∷ n ∷ [])) k text ≡ put l at (string_of id ts)
string_put l at k n id ts text e m t h =
    let b : 0 ∷ n ∷ text ≡ string_of id ts = (λ i. 0 ∷ (m ∙ ap length t) i ∷ t i) ∙ sym (string_bytes id ts) in
    let long : at + 2 + length text ≤ length l = omega (arith, h, ap length b) in
    ap (λ (r : List ℕ). put r k text) (put_sets (0 ∷ n ∷ []) l at (omega (arith, long))) ∙ put-put l at k (0 ∷ n ∷ []) text e (omega (arith, long)) ∙ ap (put l at) b

-- the text that is handed on
module _ (id : ℕ) (site defaults r : Bor (List ℕ)) (h : HandedOn (stretch_of id (text_lists site.now defaults.now)) site defaults r) where
  pub handed_text : r.now ≡ text_of id (text_lists site.now defaults.now)
  unfolding text_of
  handed_text = h.bytes

  pub handed_size : length r.now ≡ (stretch_of id (text_lists site.now defaults.now)).size
  handed_size = ap length handed_text ∙ text_size id (text_lists site.now defaults.now)
