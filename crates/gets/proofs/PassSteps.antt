-- The laws of the second pass, turn by turn, of a record as the code reads it: z is what it reads where no record stands.
use Rattle.std.proofs.Common.{ℕ, ◌+◌, ◌<◌, ◌≤◌, ◌≡◌, sym, ◌∙◌, ap, subst, Bool, true, false, not, List, [], ◌++◌, arith, length, get_or, set, take, drop, length-append, length-set, T}
use Rattle.words.specs.Words.{every, put}
use Rattle.words.proofs.WordLaws.{true_T}
use Rattle.baos.specs.declared.datapoint.Datapoint.{Datapoint}
use Rattle.baos.specs.declared.inner.Wanted.{Wanted}
use Rattle.baos.specs.declared.item.Item.{Item}
use Rattle.baos.specs.Get.{item_entry}
use Rattle.baos.specs.Item.{item_id, item_ok, zero_item}
use Rattle.baos.proofs.MeasureLaws.{not_behind, in_range_lem, item_length}
use Rattle.baos.specs.Datapoint.{datapoint_id, datapoint_ok, zero_datapoint}
use Rattle.baos.specs.Inner.Gather.{is_behind, is_within, is_wanted, entry_of, wide_of, left_of, datapoints_built, datapoints_left, items_built}
use Rattle.baos.specs.Inner.Promise.{Written, Answered}
use Rattle.baos.specs.Table.{place, table_ok}
use Rattle.baos.proofs.PassLaws.{here_ok, bytes_fit, code_fits, wide_short, drop-set, built_end, built_behind, built_wanted, built_other, left_end, left_behind, left_wanted, left_other, Putting, putting_all, putting_none, putting_next, putting_over, entry_fits}
use Rattle.baos.proofs.PlaceLaws.{ok_from, from_id, from_ok, at_place}
use Rattle.baos.proofs.WideLaws.{behind_of, wide_is}

-- what a look past the end would give
abbrev pub blank_item : Item
blank_item = record { id = 0; size = 0; writable = 0; bytes = [] }

abbrev pub blank_datapoint : Datapoint
blank_datapoint = record { id = 0; typecode = 0; flags = 0; dpt = 0; state = 0; value = []; mark = 0 }

pub not_T : {b : Bool} → b ≡ false → T (not b)
not_T e = true_T (ap not e)

-- nothing is still to be put
pub stopped : {out all bs rest : List ℕ} {at end : ℕ} → Putting out at all bs end rest → rest ≡ [] → Written out at all end bs
stopped {out} {all} {bs} {rest} {at} {end} p e = putting_none out at all bs end (subst (Putting out at all bs end) e p)

-- ---- the items, which stay as they are
module _ (w : Wanted) (start : ℕ) (ys : List Item) (out : List ℕ) (at : ℕ) where
  abbrev item_fine : Item → Bool
  item_fine i = ok_from item_id zero_item w.start item_ok i

  abbrev items_all : List ℕ
  items_all = items_built w (drop start ys)

  -- The entries of the items before i are put; those from i on are in the range or behind it, and pass their test.
  pub record ItemStands (i end : ℕ) (bs : List ℕ) : Type 0 where
    pub inside : i ≤ length ys
    pub each : T (every item_fine (drop i ys))
    pub putting : Putting out at items_all bs end (items_built w (drop i ys))

  pub items_begin : table_ok 64 item_id item_ok ys ≡ true → start ≡ place item_id w.start ys → at + length items_all ≤ length out → ItemStands (start + 0) at out
  items_begin t p l =
      let q = at_place item_id zero_item w.start item_ok 64 ys start t p in
      let e : start + 0 ≡ start = omega arith in
      rw e (record { inside = q.0; each = q.1; putting = putting_all out at items_all l })

module _ {w : Wanted} {start : ℕ} {ys : List Item} {out : List ℕ} {at i end : ℕ} {bs : List ℕ} (s : ItemStands w start ys out at i end bs) (z : Item) where
  abbrev item : Item
  item = get_or ys i z

  abbrev item_bytes : List ℕ
  item_bytes = (item_entry item).bytes

  abbrev item_rest : List ℕ
  item_rest = items_built w (drop (i + 1) ys)

  pub items_end : length ys ≤ i → Written out at (items_all w start ys out at) end bs
  items_end l = stopped s.putting (built_end (λ (i : Item). is_behind w i.id) (λ (i : Item). is_within w i.id) z ys i item_entry l)

  module _ (l : i < length ys) where
    item_here : T (item_fine w start ys out at item) × T (every (item_fine w start ys out at) (drop (i + 1) ys))
    item_here = here_ok (item_fine w start ys out at) ys i z l s.each

    fits : (item.size ≤ 16) × (length item.bytes ≡ 16)
    fits = bytes_fit item (from_ok item_id zero_item w.start item_ok item item_here.0)

    pub item_stops : is_behind w item.id ≡ true → Written out at (items_all w start ys out at) end bs
    item_stops b = stopped s.putting (built_behind (λ (i : Item). is_behind w i.id) (λ (i : Item). is_within w i.id) z ys i item_entry l (true_T b))

    module _ (ahead : is_behind w item.id ≡ false) where
      hit : is_within w item.id ≡ true
      hit = in_range_lem w item.id (from_id item_id zero_item w.start item_ok item item_here.0) (not_behind w item.id ahead)

      next : Putting out at (items_all w start ys out at) bs end (item_bytes ++ item_rest)
      next = subst (Putting out at (items_all w start ys out at) bs end) (built_wanted (λ (i : Item). is_behind w i.id) (λ (i : Item). is_within w i.id) z ys i item_entry l (not_T ahead) (true_T hit)) s.putting

      pub item_room : (item.size ≤ 16) × (end + 3 + item.size ≤ length bs)
      item_room = (fits.0, omega (arith, entry_fits out at (items_all w start ys out at) bs end item_bytes item_rest next, item_length item fits.1 fits.0))

      pub item_goes : ItemStands w start ys out at (i + 1) (end + length item_bytes) (put bs end item_bytes)
      item_goes = record { inside = omega (arith, l); each = item_here.1; putting = putting_next out at (items_all w start ys out at) bs end item_bytes item_rest next }

-- ---- the datapoints
module _ (w : Wanted) (start : ℕ) (ys : List Datapoint) (out : List ℕ) (at : ℕ) where
  abbrev fine : Datapoint → Bool
  fine d = ok_from datapoint_id zero_datapoint w.start datapoint_ok d

  abbrev past : Datapoint → Bool
  past d = is_behind w d.id

  abbrev all : List ℕ
  all = datapoints_built w (drop start ys)

  abbrev table_after : List Datapoint
  table_after = take start ys ++ datapoints_left w (drop start ys)

  -- The datapoints before i are done: table and buffer as they are now, and where the entries end. Those from i on are in the range or behind it, and pass their test.
  pub record Stands (i end : ℕ) (zs : List Datapoint) (bs : List ℕ) : Type 0 where
    pub inside : i ≤ length zs
    pub long : length zs ≡ length ys
    pub each : T (every fine (drop i zs))
    pub table : take i zs ++ datapoints_left w (drop i zs) ≡ table_after
    pub putting : Putting out at all bs end (datapoints_built w (drop i zs))

module _ {w : Wanted} {start : ℕ} {ys : List Datapoint} {out : List ℕ} {at i end : ℕ} {zs : List Datapoint} {bs : List ℕ} (s : Stands w start ys out at i end zs bs) (z : Datapoint) where
  abbrev d : Datapoint
  d = get_or zs i z

  abbrev es : List ℕ
  es = (entry_of w d).bytes

  abbrev rest : List ℕ
  rest = datapoints_built w (drop (i + 1) zs)

  answered : zs ≡ table_after w start ys out at → datapoints_built w (drop i zs) ≡ [] → Answered (table_after w start ys out at) out at (all w start ys out at) end bs zs
  answered e f = let p = stopped s.putting f in record { table = e; buffer = p.buffer; ends = p.ends }

  pub ends : length zs ≤ i → Answered (table_after w start ys out at) out at (all w start ys out at) end bs zs
  ends l = answered (left_end (past w start ys out at) (is_wanted w) z zs i (left_of w) l ∙ s.table) (built_end (past w start ys out at) (is_wanted w) z zs i (entry_of w) l)

  module _ (l : i < length zs) where
    here : T (fine w start ys out at d) × T (every (fine w start ys out at) (drop (i + 1) zs))
    here = here_ok (fine w start ys out at) zs i z l s.each

    pub in_front : w.start ≤ d.id
    in_front = from_id datapoint_id zero_datapoint w.start datapoint_ok d here.0

    passes : T (datapoint_ok d)
    passes = from_ok datapoint_id zero_datapoint w.start datapoint_ok d here.0

    pub code_ok : d.typecode ≤ 14
    code_ok = code_fits d passes

    pub stops : is_behind w d.id ≡ true → Answered (table_after w start ys out at) out at (all w start ys out at) end bs zs
    stops b = answered (left_behind (past w start ys out at) (is_wanted w) z zs i (left_of w) l (true_T b) ∙ s.table) (built_behind (past w start ys out at) (is_wanted w) z zs i (entry_of w) l (true_T b))

    module _ (ahead : is_behind w d.id ≡ false) where
      pub goes_over : is_wanted w d ≡ false → Stands w start ys out at (i + 1) end zs bs
      goes_over miss = record {
        inside = omega (arith, l);
        long = s.long;
        each = here.1;
        table = left_other (past w start ys out at) (is_wanted w) z zs i (left_of w) l (not_T ahead) (not_T miss) ∙ s.table;
        putting = subst (Putting out at (all w start ys out at) bs end) (built_other (past w start ys out at) (is_wanted w) z zs i (entry_of w) l (not_T ahead) (not_T miss)) s.putting;
      }

      module _ (hit : is_wanted w d ≡ true) where
        follows : Putting out at (all w start ys out at) bs end (es ++ rest)
        follows = subst (Putting out at (all w start ys out at) bs end) (built_wanted (past w start ys out at) (is_wanted w) z zs i (entry_of w) l (not_T ahead) (true_T hit)) s.putting

        pub room : end + length es ≤ length bs
        room = entry_fits out at (all w start ys out at) bs end es rest follows

        done_with : (os : List ℕ) → Putting out at (all w start ys out at) os (end + length es) rest → Stands w start ys out at (i + 1) (end + length es) (set zs i (left_of w d)) os
        done_with os p = record {
          inside = omega (arith, l, length-set zs i (left_of w d));
          long = length-set zs i (left_of w d) ∙ s.long;
          each = subst (λ (r : List Datapoint). T (every (fine w start ys out at) r)) (sym (drop-set zs i (left_of w d))) here.1;
          table = left_wanted (past w start ys out at) (is_wanted w) z zs i (left_of w) l (not_T ahead) (true_T hit) ∙ s.table;
          putting = subst (λ (r : List Datapoint). Putting out at (all w start ys out at) os (end + length es) (datapoints_built w r)) (sym (drop-set zs i (left_of w d))) p;
        }

        pub goes : Stands w start ys out at (i + 1) (end + length es) (set zs i (left_of w d)) (put bs end es)
        goes = done_with (put bs end es) (putting_next out at (all w start ys out at) bs end es rest follows)

        -- the same where the entry was written with what is behind it
        pub goes_wide : end + 18 ≤ at + length (all w start ys out at) → Stands w start ys out at (i + 1) (end + length es) (set zs i (left_of w d)) (put bs end (wide_of w d))
        goes_wide f =
            let short : length (behind_of w d) ≤ length rest = omega (arith, f, follows.ends, length-append es rest, wide_short w d passes, ap length (wide_is w d), length-append es (behind_of w d)) in
            done_with (put bs end (wide_of w d))
            (subst (λ (ws : List ℕ). Putting out at (all w start ys out at) (put bs end ws) (end + length es) rest) (sym (wide_is w d)) (putting_over out at (all w start ys out at) bs end es rest (behind_of w d) short follows))

pub stands_as : {w : Wanted} {start : ℕ} {ys : List Datapoint} {out : List ℕ} {at i e f : ℕ} {zs us : List Datapoint} {bs os : List ℕ}
    → us ≡ zs → f ≡ e → os ≡ bs → Stands w start ys out at i e zs bs → Stands w start ys out at i f us os
stands_as p q r s = rw (p, q, r) s
