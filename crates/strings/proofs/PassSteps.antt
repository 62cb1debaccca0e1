-- The laws of the two passes, turn by turn, of a record as the code reads it: z is what it reads where no record stands.
use Rattle.std.proofs.Common.{◌≡◌, refl, ◌∙◌, ap, subst, ℕ, ◌+◌, ◌/◌, ◌%◌, ◌<◌, ◌≤◌, Bool, true, false, not, List, [], ◌∷◌, ◌++◌, length, get_or, drop, arith, Err, T}
use Rattle.std.proofs.Math.Seq.{sets}
use Rattle.std.proofs.lemmas.List.{get_or_default}
use Rattle.std.specs.Borrow.{Bor}
use Rattle.words.specs.Words.{every, put, two_bytes}
use Rattle.words.proofs.ByteLaws.{put_sets, put-put}
use Rattle.words.proofs.WordLaws.{true_T}
use Rattle.baos.specs.declared.datapoint.Datapoint.{Datapoint}
use Rattle.baos.specs.declared.inner.Cursors.{Cursors}
use Rattle.baos.specs.declared.inner.Wanted.{Wanted}
use Rattle.baos.specs.Datapoint.{datapoint_id, datapoint_ok, zero_datapoint}
use Rattle.baos.specs.Get.{string_of, string_entry}
use Rattle.baos.specs.Table.{place, table_ok}
use Rattle.baos.specs.declared.code.Code.TheVariants.{BufferTooSmall}
use Rattle.baos.specs.declared.inner.Fault.{Fault}
use Rattle.baos.specs.Inner.Gather.{Gathered}
use Rattle.baos.specs.Text.{TextLists, text_lists, stretch_of, HandedOn}
use Rattle.gets.specs.Measure.{Measured}
use Rattle.baos.specs.Inner.Cursors.{cursors_of, BothReached}
use Rattle.baos.specs.Inner.Gather.{is_behind, is_within, walked, nothing_gathered}
use Rattle.baos.specs.Inner.Promise.{Written}
use Rattle.baos.specs.Inner.Strings.{string_step, strings_built}
use Rattle.baos.proofs.AnswerJoins.{they_rise}
use Rattle.baos.proofs.MeasureLaws.{not_behind, in_range_lem}
use Rattle.baos.proofs.PassLaws.{here_ok, built_end, built_behind, built_wanted, Putting, putting_all, putting_none, putting_next, entry_fits}
use Rattle.baos.proofs.PlaceLaws.{ok_from, from_id, at_place}
use Rattle.baos.proofs.StringLaws.{Following, following_start, following_here, following-next, handed_size, string_length}
use Rattle.baos.proofs.TextLaws.{text_short}
use Rattle.gets.proofs.MeasureSteps.{part, part_reads, part_size, MeasuredTo, measured_none, in_front, Kept, Comes, comes_behind, goes_on, found_over}
use Rattle.gets.specs.declared.found.Entries.{Entries}
use Rattle.gets.specs.declared.found.Faulty.{Faulty}

-- what a look past the end would give
abbrev pub blank_datapoint : Datapoint
blank_datapoint = record { id = 0; typecode = 0; flags = 0; dpt = 0; state = 0; value = []; mark = 0 }

-- the length's bytes and the text behind them are one write
pub string_put : (l : List ℕ) (at k n : ℕ) (text : List ℕ) → k ≡ at + 2 → n ≡ length text → n ≤ 30 → at + 2 + length text ≤ length l
    → put (sets l at (0 ∷ n ∷ [])) k text ≡ put l at (two_bytes (length text) ++ text)
string_put l at k n text e m s h =
    let p : 0 ≡ length text / 256 = omega (arith, m, s) in
    let q : n ≡ length text % 256 = omega (arith, m, s) in
    ap (λ (r : List ℕ). put r k text) (put_sets (0 ∷ n ∷ []) l at (omega (arith, h)))
    ∙ put-put l at k (0 ∷ n ∷ []) text e (omega (arith, h))
    ∙ (λ i. put l at (p i ∷ q i ∷ text))

-- ---- the first pass
abbrev within : Wanted → Datapoint → Bool
within w d = is_within w d.id

module _ (ts : TextLists) (w : Wanted) (ys : List Datapoint) (start : ℕ) where
  -- the datapoints before the k-th from there are measured, and the search in the lists goes on with those from it on
  pub record Found (k : ℕ) (e : Entries) (c : Cursors) : Type 0 where
    pub measured : MeasuredTo 1000 datapoint_id datapoint_ok within (λ v. string_entry ts) w ys start k e
    pub follows : Following ts c (drop (start + k) ys)

  module _ (ok : table_ok 1000 datapoint_id datapoint_ok ys ≡ true) (placed : start ≡ place datapoint_id w.start ys) (c : Cursors) (reached : c ≡ cursors_of w.start ts) where
    pub from_start : (start ≤ length ys) × T (every (ok_from datapoint_id zero_datapoint w.start datapoint_ok) (drop start ys))
    from_start = at_place datapoint_id zero_datapoint w.start datapoint_ok 1000 ys start ok placed

    begun : Following ts c (drop (start + 0) ys)
    begun = let i : start + 0 ≡ start = omega arith in rw i (following_start ts c ys w.start start (they_rise 1000 datapoint_id datapoint_ok ys ok) placed reached)

    pub found_begins : (e : Entries) → e.count ≡ 0 → e.size ≡ 0 → Found 0 e c
    found_begins e n s = record { measured = measured_none 1000 datapoint_id datapoint_ok within (λ v. string_entry ts) w ys start ok placed e n s; follows = begun }

abbrev pub sum_of : TextLists → Wanted → List Datapoint → ℕ → Gathered
sum_of ts w ys start = walked (string_step ts w) nothing_gathered (drop start ys)

module _ (ts : TextLists) (ys : List Datapoint) (start k : ℕ) {c : Cursors} (f : Following ts c (drop (start + k) ys)) (u : k < length (part start ys)) (z : Datapoint) where
  below : start + k < length ys
  below = omega (arith, u, part_size ys start)

  pub reached : BothReached (get_or (part start ys) k z).id ts c
  reached = rw (part_reads ys start k z) (following_here ts c ys (start + k) z below f)

  pub follows_next : (c' : Cursors) → c' ≡ cursors_of (get_or (part start ys) k z).id ts → Following ts c' (drop (start + (k + 1)) ys)
  follows_next c' e =
      let i : start + (k + 1) ≡ start + k + 1 = omega arith in
      rw i (following-next ts c ys (start + k) z below f c' (rw (part_reads ys start k z) at e))

-- how long a string is, by the text that was handed on
pub string_size : (site defaults text : Bor (List ℕ)) (id : ℕ) → HandedOn (stretch_of id (text_lists site.now defaults.now)) site defaults text
    → 2 + length text.now ≡ length (string_of id (text_lists site.now defaults.now))
string_size site defaults text id h = omega (arith, handed_size id site defaults text h, string_length id (text_lists site.now defaults.now))

pub text_small : (site defaults text : Bor (List ℕ)) (id : ℕ) → HandedOn (stretch_of id (text_lists site.now defaults.now)) site defaults text → length text.now ≤ 30
text_small site defaults text id h = omega (arith, handed_size id site defaults text h, text_short id (text_lists site.now defaults.now))

-- a turn that measures a string
module _ {ts : TextLists} {w : Wanted} {ys : List Datapoint} {start k : ℕ} {e : Entries} {c : Cursors} (f : Found ts w ys start k e c) (u : k < length (part start ys)) (z : Datapoint) where
  abbrev read : Datapoint
  read = get_or (part start ys) k z

  same : read ≡ get_or (part start ys) k read
  same = get_or_default (part start ys) k z read u

  pub found_behind : is_behind w read.id ≡ true → Comes (sum_of ts w ys start) e
  found_behind = comes_behind f.measured u read same

  module _ (ahead : is_behind w read.id ≡ false) (n : ℕ) (size : n ≡ length (string_of read.id ts)) where
    found_within : is_within w read.id ≡ true
    found_within = in_range_lem w read.id (in_front f.measured u read same) (not_behind w read.id ahead)

    pub found_goes : 1 ≤ n → (e' : Entries) → e'.count ≡ e.count + 1 → e'.size ≡ e.size + n → (c' : Cursors) → c' ≡ cursors_of read.id ts → Found ts w ys start (k + 1) e' c'
    unfolding string_entry
    found_goes some e' p q c' r = record {
      measured = goes_on f.measured u read same ahead found_within n size some e' p q;
      follows = follows_next ts ys start k f.follows u z c' r;
    }

    pub found_over_room : table_ok 1000 datapoint_id datapoint_ok ys ≡ true → start ≡ place datapoint_id w.start ys → 248 < e.size + n
        → (x : Fault) → x ≡ record { id = read.id; code = BufferTooSmall } → (s : Faulty) → Kept e x s → Measured w.start (sum_of ts w ys start) (Err s)
    unfolding string_entry
    found_over_room t p over x is_x s kept = found_over f.measured u read same ahead found_within n size w.start refl t p over x is_x s kept

-- ---- the second
module _ (ts : TextLists) (w : Wanted) (ys : List Datapoint) (start : ℕ) (out : List ℕ) (at : ℕ) where
  abbrev fine : Datapoint → Bool
  fine d = ok_from datapoint_id zero_datapoint w.start datapoint_ok d

  abbrev all : List ℕ
  all = strings_built ts w (drop start ys)

  -- the strings of the datapoints before the k-th from there are put
  pub record Stands (k end : ℕ) (c : Cursors) (bs : List ℕ) : Type 0 where
    pub each : T (every fine (drop (start + k) ys))
    pub putting : Putting out at all bs end (strings_built ts w (drop (start + k) ys))
    pub follows : Following ts c (drop (start + k) ys)

  pub stands_begins : table_ok 1000 datapoint_id datapoint_ok ys ≡ true → start ≡ place datapoint_id w.start ys → (c : Cursors) → c ≡ cursors_of w.start ts
      → at + length all ≤ length out → Stands 0 at c out
  stands_begins ok placed c r room =
      let i : start + 0 ≡ start = omega arith in
      record {
        each = rw i (from_start ts w ys start ok placed c r).1;
        putting = rw i (putting_all out at all room);
        follows = begun ts w ys start ok placed c r;
      }

module _ {ts : TextLists} {w : Wanted} {ys : List Datapoint} {start : ℕ} {out : List ℕ} {at k end : ℕ} {c : Cursors} {bs : List ℕ} (s : Stands ts w ys start out at k end c bs) (z : Datapoint) where
  abbrev i : ℕ
  i = start + k

  abbrev d : Datapoint
  d = get_or (part start ys) k z

  abbrev behind : Datapoint → Bool
  behind x = is_behind w x.id

  abbrev sum : List ℕ
  sum = all ts w ys start out at

  abbrev rest : List ℕ
  rest = strings_built ts w (drop (i + 1) ys)

  stopped : strings_built ts w (drop i ys) ≡ [] → Written out at sum end bs
  stopped e = putting_none out at sum bs end (subst (Putting out at sum bs end) e s.putting)

  pub ends : length (part start ys) ≤ k → Written out at sum end bs
  ends l = stopped (built_end behind (within w) z ys i (string_entry ts) (omega (arith, l, part_size ys start)))

  module _ (u : k < length (part start ys)) where
    l : i < length ys
    l = omega (arith, u, part_size ys start)

    reads : d ≡ get_or ys i z
    reads = part_reads ys start k z

    here : T (fine ts w ys start out at (get_or ys i z)) × T (every (fine ts w ys start out at) (drop (i + 1) ys))
    here = here_ok (fine ts w ys start out at) ys i z l s.each

    pub stops : is_behind w d.id ≡ true → Written out at sum end bs
    stops b = stopped (built_behind behind (within w) z ys i (string_entry ts) l (true_T (rw reads at b)))

    module _ (ahead : is_behind w d.id ≡ false) where
      hit : is_within w (get_or ys i z).id ≡ true
      hit = in_range_lem w (get_or ys i z).id (from_id datapoint_id zero_datapoint w.start datapoint_ok (get_or ys i z) here.0) (not_behind w (get_or ys i z).id (rw reads at ahead))

      follows : Putting out at sum bs end (string_of d.id ts ++ rest)
      unfolding string_entry
      follows = rw reads (subst (Putting out at sum bs end) (built_wanted behind (within w) z ys i (string_entry ts) l (true_T (ap not (rw reads at ahead))) (true_T hit)) s.putting)

      pub room : end + length (string_of d.id ts) ≤ length bs
      room = entry_fits out at sum bs end (string_of d.id ts) rest follows

      pub goes : (c' : Cursors) → Following ts c' (drop (start + (k + 1)) ys) → (e : ℕ) (os : List ℕ) → Written bs end (string_of d.id ts) e os → Stands ts w ys start out at (k + 1) e c' os
      goes c' f e os q =
          let j : start + (k + 1) ≡ i + 1 = omega arith in
          record {
            each = rw j here.1;
            putting = rw (j, q.buffer, q.ends) (putting_next out at sum bs end (string_of d.id ts) rest follows);
            follows = f;
          }
