-- The pass over the table, record by record as the loop goes, comes to what an indication has to be; and its head put in front of its entries.
use Prim.Native.Nat.{ℕ, suc, ◌+◌, ◌-◌, ◌≤◌, ◌<◌}
use mathlib.Core.Path.{◌≡◌, refl, sym, ◌∙◌, ap, subst}
use mathlib.Core.Bool.{Bool, true, false, not}
use mathlib.Core.List.{List, [], ◌∷◌, ◌++◌, map, flatten, append_assoc}
use native.Mathlib.Omega.{arith}
use lib.ListN.{length, get_or, set, take, drop, length-append, length-take, length-map, length-set, drop_of_length-le, take-append-drop}
use lib.Dec.{T, leb, ltb}
use borrow.Author.Tests.{lt-leb, le-leb, leb-true, ltb-true, ltb-false}
use Rattle.words.specs.Words.{is_yes, put, two_bytes, every}
use Rattle.words.proofs.WordLaws.{T_true, padded_decided}
use Rattle.words.proofs.ByteLaws.{put_in_front}
use Rattle.ft12.proofs.EventLaws.{put_none}
use Rattle.walks.proofs.Branches.{no_T}
use Rattle.baos.specs.declared.datapoint.Datapoint.{Datapoint}
use Rattle.baos.specs.declared.inner.Told.{Told}
use Rattle.baos.specs.Datapoint.{size_of, datapoint_id, datapoint_ok, with_mark, handed_out, zero_datapoint}
use Rattle.baos.specs.Table.{table_ok, datapoints_only}
use Rattle.baos.specs.Get.{room_for_entries, value_entry, listing}
use Rattle.baos.specs.Inner.Gather.{entries_told, first_marked}
use Rattle.baos.specs.Inner.Promise.{Answered, MarkedTold}
use Rattle.baos.specs.Indication.{needs, goes, room_after, Choice, choices, reported, after_report, indication_of, indication}
use Rattle.baos.proofs.DatapointLaws.{parts}
use Rattle.baos.proofs.AnswerLaws.{entries_fit}
use Rattle.baos.proofs.WideLaws.{value_size}
use Rattle.baos.proofs.MarkLaws.{over_unmarked}
use Rattle.baos.proofs.PassLaws.{drop-next, take_next, take-set, drop-set, rest_ok, here_ok, code_fits, Putting, putting_all, putting_none, putting_next, entry_fits}

-- ---- one datapoint
pub needs_is : (d : Datapoint) → length d.value ≡ 14 → needs d ≡ 4 + size_of d.typecode
unfolding needs
needs_is d l = value_size d l

pub waits_is : (d : Datapoint) (size room : ℕ) → length d.value ≡ 14 → size ≡ size_of d.typecode → ltb room (4 + size) ≡ not (leb (needs d) room)
waits_is d size room l e = go (ltb room (4 + size)) refl
  where
    go : (b : Bool) → ltb room (4 + size) ≡ b → ltb room (4 + size) ≡ not (leb (needs d) room)
    go true h = simp (h, lt-leb (needs d) room (omega (arith, ltb-true room (4 + size) h, needs_is d l, e)))
    go false h = simp (h, le-leb (needs d) room (omega (arith, ltb-false room (4 + size) h, needs_is d l, e)))

needs_some : (d : Datapoint) → 1 ≤ needs d
unfolding needs value_entry
needs_some d = omega arith

no_room : (d : Datapoint) → leb (needs d) 0 ≡ false
no_room d = lt-leb (needs d) 0 (omega (arith, needs_some d))

goes_none : (d : Datapoint) → goes 0 d ≡ false
unfolding goes
goes_none d = go (is_yes d.mark) refl
  where
    go : (b : Bool) → is_yes d.mark ≡ b → goes 0 d ≡ false
    go true e = simp (e, no_room d)
    go false e = simp e

after_none : (d : Datapoint) → room_after 0 d ≡ 0
unfolding room_after
after_none d = go (is_yes d.mark) refl
  where
    go : (b : Bool) → is_yes d.mark ≡ b → room_after 0 d ≡ 0
    go true e = simp (e, no_room d)
    go false e = simp e

goes-marked : (room : ℕ) (d : Datapoint) (b : Bool) → is_yes d.mark ≡ true → leb (needs d) room ≡ b → goes room d ≡ b
unfolding goes
goes-marked room d b e f = simp (e, f)

goes-unmarked : (room : ℕ) (d : Datapoint) → is_yes d.mark ≡ false → goes room d ≡ false
unfolding goes
goes-unmarked room d e = simp e

after_carried : (room : ℕ) (d : Datapoint) → is_yes d.mark ≡ true → leb (needs d) room ≡ true → room_after room d ≡ room - needs d
unfolding room_after
after_carried room d e f = simp (e, f)

after_waiting : (room : ℕ) (d : Datapoint) → is_yes d.mark ≡ true → leb (needs d) room ≡ false → room_after room d ≡ 0
unfolding room_after
after_waiting room d e f = simp (e, f)

after_unmarked : (room : ℕ) (d : Datapoint) → is_yes d.mark ≡ false → room_after room d ≡ room
unfolding room_after
after_unmarked room d e = simp e

-- ---- choices
abbrev chosen : Datapoint → Bool → Choice
chosen d b = record { datapoint = d; carried = b }

choice_step : (room rest : ℕ) (b : Bool) (d : Datapoint) (ds : List Datapoint) → goes room d ≡ b → room_after room d ≡ rest → choices room (d ∷ ds) ≡ chosen d b ∷ choices rest ds
unfolding choices
choice_step room rest b d ds e f = λ k. record { datapoint = d; carried = e k } ∷ choices (f k) ds

module _ (d : Datapoint) (cs : List Choice) where
  reported_carried : reported (chosen d true ∷ cs) ≡ d ∷ reported cs
  unfolding reported
  reported_carried = refl

  reported_other : reported (chosen d false ∷ cs) ≡ reported cs
  unfolding reported
  reported_other = refl

  after_report_carried : after_report (chosen d true ∷ cs) ≡ with_mark 0 (handed_out d) ∷ after_report cs
  unfolding after_report
  after_report_carried = refl

  after_report_other : after_report (chosen d false ∷ cs) ≡ d ∷ after_report cs
  unfolding after_report
  after_report_other = refl

  told_carried : entries_told (chosen d true ∷ cs) ≡ (value_entry d).bytes ++ entries_told cs
  unfolding reported flatten
  told_carried = refl

-- where there is no room nothing more is carried
none_reported : (ds : List Datapoint) → reported (choices 0 ds) ≡ []
unfolding choices reported
none_reported [] = refl
none_reported (d ∷ ds) = ap reported (choice_step 0 0 false d ds (goes_none d) (after_none d)) ∙ reported_other d (choices 0 ds) ∙ none_reported ds

none_cleared : (ds : List Datapoint) → after_report (choices 0 ds) ≡ ds
unfolding choices after_report
none_cleared [] = refl
none_cleared (d ∷ ds) = ap after_report (choice_step 0 0 false d ds (goes_none d) (after_none d)) ∙ after_report_other d (choices 0 ds) ∙ ap (λ (r : List Datapoint). d ∷ r) (none_cleared ds)

-- ---- the loop
pub record Telling (ys : List Datapoint) (out : List ℕ) (at i end count : ℕ) (zs : List Datapoint) (bs : List ℕ) : Type 0 where
  pub long : length zs ≡ length ys
  pub good : T (every datapoint_ok (drop i zs))
  pub table : take i zs ++ after_report (choices (at + 248 - end) (drop i zs)) ≡ after_report (choices room_for_entries ys)
  pub bytes : Putting out at (entries_told (choices room_for_entries ys)) bs end (entries_told (choices (at + 248 - end) (drop i zs)))
  pub counted : count + length (reported (choices (at + 248 - end) (drop i zs))) ≡ length (reported (choices room_for_entries ys))
  pub few : at + count ≤ end
  pub inside : end ≤ at + 248

module _ (ys : List Datapoint) (out : List ℕ) (at : ℕ) where
  abbrev all : List Choice
  all = choices room_for_entries ys

  pub telling_begins : table_ok 1000 datapoint_id datapoint_ok ys ≡ true → at + 248 ≤ length out → Telling ys out at 0 at 0 ys out
  telling_begins ok enough =
      let e : room_for_entries ≡ at + 248 - at = omega arith in
      record {
        long = refl;
        good = rest_ok datapoint_ok 1000 datapoint_id ys 0 ok;
        table = ap (λ (r : ℕ). after_report (choices r ys)) (sym e);
        bytes = subst (λ (r : ℕ). Putting out at (entries_told all) out at (entries_told (choices r ys))) e (putting_all out at (entries_told all) (omega (arith, enough, entries_fit room_for_entries ys)));
        counted = omega (arith, ap (λ (r : ℕ). length (reported (choices r ys))) e);
        few = omega arith;
        inside = omega arith;
      }

  module _ (i end count : ℕ) (zs : List Datapoint) (bs : List ℕ) (h : Telling ys out at i end count zs bs) where
    abbrev room : ℕ
    room = at + 248 - end

    abbrev d : Datapoint
    d = get_or zs i zero_datapoint

    abbrev es : List ℕ
    es = (value_entry d).bytes

    finished : (cs : List Choice) → choices room (drop i zs) ≡ cs → reported cs ≡ [] → after_report cs ≡ drop i zs → MarkedTold ys out at (record { count = count; end = end }) bs zs
    unfolding flatten
    finished cs e r a =
        let none : entries_told (choices room (drop i zs)) ≡ [] = ap entries_told e ∙ ap (λ (xs : List Datapoint). flatten (map (λ x. x.bytes) (map value_entry xs))) r in
        let p = putting_none out at (entries_told all) bs end (subst (Putting out at (entries_told all) bs end) none h.bytes) in
        record {
          table = sym (take-append-drop i zs) ∙ ap (λ (x : List Datapoint). take i zs ++ x) (sym (ap after_report e ∙ a)) ∙ h.table;
          buffer = p.buffer;
          counted = omega (arith, h.counted, ap (λ (xs : List Datapoint). length xs) (ap reported e ∙ r));
          ends = p.ends;
        }

    -- no record is left
    pub telling_done : length zs ≤ i → MarkedTold ys out at (record { count = count; end = end }) bs zs
    unfolding choices reported after_report
    telling_done l = finished [] (ap (choices room) (drop_of_length-le zs l)) refl (sym (drop_of_length-le zs l))

    module _ (l : i < length zs) where
      step : (rest : ℕ) (b : Bool) → goes room d ≡ b → room_after room d ≡ rest → choices room (drop i zs) ≡ chosen d b ∷ choices rest (drop (i + 1) zs)
      step rest b e f = ap (choices room) (drop-next zs i zero_datapoint l) ∙ choice_step room rest b d (drop (i + 1) zs) e f

      here : T (datapoint_ok d) × T (every datapoint_ok (drop (i + 1) zs))
      here = here_ok datapoint_ok zs i zero_datapoint l h.good

      pub telling_code : d.typecode ≤ 14
      telling_code = code_fits d here.0

      -- it does not fit: the pass ends
      pub telling_waits : T (is_yes d.mark) → T (not (leb (needs d) room)) → MarkedTold ys out at (record { count = count; end = end }) bs zs
      telling_waits m n =
          let f : leb (needs d) room ≡ false = no_T (leb (needs d) room) n in
          finished (chosen d false ∷ choices 0 (drop (i + 1) zs)) (step 0 false (goes-marked room d false (T_true (is_yes d.mark) m) f) (after_waiting room d (T_true (is_yes d.mark) m) f))
          (reported_other d _ ∙ none_reported (drop (i + 1) zs))
          (after_report_other d _ ∙ ap (λ (r : List Datapoint). d ∷ r) (none_cleared (drop (i + 1) zs)) ∙ sym (drop-next zs i zero_datapoint l))

      -- it is not marked
      pub telling_other : T (not (is_yes d.mark)) → Telling ys out at (i + 1) end count zs bs
      telling_other n =
          let m : is_yes d.mark ≡ false = no_T (is_yes d.mark) n in
          let e = step room false (goes-unmarked room d m) (after_unmarked room d m) in
          let cs : List Choice = choices room (drop (i + 1) zs) in
          record {
            long = h.long;
            good = here.1;
            table = take_next zs i zero_datapoint _ l ∙ ap (λ (r : List Datapoint). take i zs ++ r) (sym (ap after_report e ∙ after_report_other d cs)) ∙ h.table;
            bytes = subst (Putting out at (entries_told all) bs end) (ap entries_told e ∙ ap (λ (xs : List Datapoint). flatten (map (λ x. x.bytes) (map value_entry xs))) (reported_other d cs)) h.bytes;
            counted = omega (arith, h.counted, ap (λ (xs : List Datapoint). length xs) (ap reported e ∙ reported_other d cs));
            few = h.few;
            inside = h.inside;
          }

      -- it is carried
      module _ (m : T (is_yes d.mark)) (fits : T (not (not (leb (needs d) room)))) where
        abbrev d' : Datapoint
        d' = with_mark 0 (handed_out d)

        fit : leb (needs d) room ≡ true
        fit = twice (leb (needs d) room) fits
          where
            twice : (b : Bool) → T (not (not b)) → b ≡ true
            twice true t = refl
            twice false t = absurd t

        long_is : length es ≡ needs d
        unfolding needs
        long_is = refl

        rest_is : room - needs d ≡ at + 248 - (end + length es)
        rest_is = omega (arith, long_is, leb-true (needs d) room fit)

        rest : List Choice
        rest = choices (at + 248 - (end + length es)) (drop (i + 1) zs)

        carried_step : choices room (drop i zs) ≡ chosen d true ∷ choices (at + 248 - (end + length es)) (drop (i + 1) zs)
        carried_step = step (at + 248 - (end + length es)) true (goes-marked room d true (T_true (is_yes d.mark) m) fit) (after_carried room d (T_true (is_yes d.mark) m) fit ∙ rest_is)

        going : Putting out at (entries_told all) bs end (es ++ entries_told (choices (at + 248 - (end + length es)) (drop (i + 1) zs)))
        going = subst (Putting out at (entries_told all) bs end) (ap entries_told carried_step ∙ told_carried d _) h.bytes

        pub telling_room : end + 4 + size_of d.typecode ≤ length bs
        telling_room = omega (arith, entry_fits out at (entries_told all) bs end es _ going, long_is, needs_is d ((padded_decided 14 (size_of d.typecode) d.value).0 (parts d here.0).unused).memory)

        pub telling_next : Telling ys out at (i + 1) (end + length es) (count + 1) (set zs i d') (put bs end es)
        telling_next =
            record {
              long = length-set zs i d' ∙ h.long;
              good = subst (λ (r : List Datapoint). T (every datapoint_ok r)) (sym (drop-set zs i d')) here.1;
              table =
                  ap (λ (r : List Datapoint). take (i + 1) (set zs i d') ++ after_report (choices (at + 248 - (end + length es)) r)) (drop-set zs i d')
                  ∙ take-set zs i d' _ l ∙ ap (λ (r : List Datapoint). take i zs ++ r) (sym (ap after_report carried_step ∙ after_report_carried d _)) ∙ h.table;
              bytes =
                  subst (λ (r : List Datapoint). Putting out at (entries_told all) (put bs end es) (end + length es) (entries_told (choices (at + 248 - (end + length es)) r))) (sym (drop-set zs i d'))
                  (putting_next out at (entries_told all) bs end es _ going);
              counted =
                  omega
                  (arith, h.counted, ap (λ (xs : List Datapoint). length xs) (ap reported carried_step ∙ reported_carried d _), ap (λ (r : List Datapoint). length (reported (choices (at + 248 - (end + length es)) r))) (drop-set zs i d'));
              few = omega (arith, h.few, long_is, needs_some d);
              inside = omega (arith, h.inside, long_is, leb-true (needs d) room fit);
            }

  -- in front of the first marked one nothing is told
  pub telling_first : (end count : ℕ) (zs : List Datapoint) (bs : List ℕ) → Telling ys out at 0 end count zs bs → Telling ys out at (first_marked zs) end count zs bs
  telling_first end count zs bs h = over_unmarked zs (λ (j : ℕ). Telling ys out at j end count zs bs) (λ j l n t. telling_other j end count zs bs t l n) h

-- ---- a buffer
read_behind : (p x : List ℕ) (i : ℕ) → get_or (p ++ x) (length p + i) 0 ≡ get_or x i 0
read_behind [] x i = ap (λ (j : ℕ). get_or x j 0) {x = 0 + i} {y = i} (omega arith)
read_behind (y ∷ p) x i = ap (λ (j : ℕ). get_or (y ∷ (p ++ x)) j 0) {x = suc (length p) + i} {y = suc (length p + i)} (omega arith) ∙ read_behind p x i

put_get : (l : List ℕ) (k j i : ℕ) (bs : List ℕ) → j ≡ k + i → k ≤ length l → get_or (put l k bs) j 0 ≡ get_or (bs ++ drop (k + length bs) l) i 0
unfolding put
put_get l k j i bs e m =
    let r : List ℕ = drop (k + length bs) l in
    let n : length (take k l) ≡ k = simp length-take (omega (arith, m)) in
    rw (append_assoc (take k l) bs r) (ap (λ (z : ℕ). get_or (take k l ++ (bs ++ r)) z 0) {x = j} {y = length (take k l) + i} (omega (arith, e, n)) ∙ read_behind (take k l) (bs ++ r) i)

-- the head is put in front of the entries, and says the first two bytes of them
headed : (l bs : List ℕ) (at n : ℕ) → 2 ≤ length bs → at + 6 + length bs ≤ length l
    → put (put l (at + 6) bs) at (0xF0 ∷ 0xC1 ∷ get_or (put l (at + 6) bs) (at + 6) 0 ∷ get_or (put l (at + 6) bs) (at + 7) 0 ∷ two_bytes n) ≡ put l at (0xF0 ∷ 0xC1 ∷ take 2 bs ++ two_bytes n ++ bs)
headed l [] at n h m = absurd (omega (arith, h))
headed l (b ∷ []) at n h m = absurd (omega (arith, h))
headed l (b ∷ c ∷ r) at n h m =
    let x : get_or (put l (at + 6) (b ∷ c ∷ r)) (at + 6) 0 ≡ b = put_get l (at + 6) (at + 6) 0 (b ∷ c ∷ r) (omega arith) (omega (arith, m)) in
    let y : get_or (put l (at + 6) (b ∷ c ∷ r)) (at + 7) 0 ≡ c = put_get l (at + 6) (at + 7) 1 (b ∷ c ∷ r) (omega arith) (omega (arith, m)) in
    rw (x, y) (put_in_front l at (at + 6) (0xF0 ∷ 0xC1 ∷ b ∷ c ∷ two_bytes n) (b ∷ c ∷ r) (omega arith) m)

headed_long : (bs : List ℕ) (n : ℕ) → 2 ≤ length bs → length (0xF0 ∷ 0xC1 ∷ take 2 bs ++ two_bytes n ++ bs) ≡ 6 + length bs
headed_long [] n h = absurd (omega (arith, h))
headed_long (b ∷ []) n h = absurd (omega (arith, h))
headed_long (b ∷ c ∷ r) n h = omega arith

-- ---- an indication around it
pub told_is : (r : Told) (c e : ℕ) → r.count ≡ c → r.end ≡ e → r ≡ record { count = c; end = e }
told_is r c e f g = λ k. record { count = f k; end = g k }

entries_some : (xs : List Datapoint) → length xs ≤ length (flatten (map (λ x. x.bytes) (map value_entry xs)))
unfolding flatten needs
entries_some [] = omega arith
entries_some (x ∷ xs) = omega (arith, entries_some xs, length-append (value_entry x).bytes (flatten (map (λ x. x.bytes) (map value_entry xs))), needs_some x)

module _ (ds : List Datapoint) where
  abbrev pub carried : List Datapoint
  carried = reported (choices room_for_entries ds)

  abbrev pub bytes : List ℕ
  bytes = entries_told (choices room_for_entries ds)

  pub bytes_few : length bytes ≤ 248
  bytes_few = entries_fit room_for_entries ds

  -- each entry has bytes
  pub carried_few : length carried ≤ 248
  carried_few = omega (arith, bytes_few, entries_some carried)

  -- what the indication has to come to: the buffer, where it ends in it, and the table
  abbrev Indicated : List ℕ → ℕ → List ℕ → ℕ → Type 0
  Indicated out at o n = Answered (indication (datapoints_only ds)).after.datapoints out at (indication (datapoints_only ds)).says n o (after_report (choices room_for_entries ds))

  table_told : after_report (choices room_for_entries ds) ≡ (indication (datapoints_only ds)).after.datapoints
  unfolding indication
  table_told = refl

  -- nothing is marked
  module _ (none : length carried ≡ 0) (out : List ℕ) (at : ℕ) where
    carried_none : carried ≡ []
    carried_none = go carried none
      where
        go : (xs : List Datapoint) → length xs ≡ 0 → xs ≡ []
        go [] n = refl
        go (x ∷ xs) n = absurd (omega (arith, n))

    says_nothing : (indication (datapoints_only ds)).says ≡ []
    unfolding indication indication_of
    says_nothing = ap indication_of carried_none

    told_nothing : bytes ≡ []
    unfolding flatten
    told_nothing = ap (λ (xs : List Datapoint). flatten (map (λ x. x.bytes) (map value_entry xs))) carried_none

    pub indicated_nothing : Indicated out at (put out (at + 6) bytes) at
    indicated_nothing =
        record {
          table = table_told;
          buffer = ap (put out (at + 6)) told_nothing ∙ sym (put_none out (at + 6)) ∙ put_none out at ∙ ap (put out at) (sym says_nothing);
          ends = omega (arith, ap (λ (bs : List ℕ). length bs) says_nothing);
        }

  -- something is
  module _ (some : 1 ≤ length carried) (out : List ℕ) (at : ℕ) (room : at + 254 ≤ length out) where
    bytes_some : 2 ≤ length bytes
    bytes_some = go carried some
      where
        go : (xs : List Datapoint) → 1 ≤ length xs → 2 ≤ length (flatten (map (λ x. x.bytes) (map value_entry xs)))
        go [] n = absurd (omega (arith, n))
        go (x ∷ xs) n = unfold value_entry flatten in omega arith

    says_all : (indication (datapoints_only ds)).says ≡ 0xF0 ∷ 0xC1 ∷ take 2 bytes ++ two_bytes (length carried) ++ bytes
    unfolding indication
    says_all = go carried some
      where
        go : (xs : List Datapoint) → 1 ≤ length xs
            → indication_of xs ≡ 0xF0 ∷ 0xC1 ∷ take 2 (flatten (map (λ x. x.bytes) (map value_entry xs))) ++ two_bytes (length xs) ++ flatten (map (λ x. x.bytes) (map value_entry xs))
        go [] n = absurd (omega (arith, n))
        go (x ∷ xs) n = unfold indication_of listing value_entry flatten in rw (length-map (x ∷ xs) value_entry)

    pub indicated_all : Indicated out at
        (put (put out (at + 6) bytes) at (0xF0 ∷ 0xC1 ∷ get_or (put out (at + 6) bytes) (at + 6) 0 ∷ get_or (put out (at + 6) bytes) (at + 7) 0 ∷ two_bytes (length carried))) (at + 6 + length bytes)
    indicated_all =
        record {
          table = table_told;
          buffer = headed out bytes at (length carried) bytes_some (omega (arith, room, bytes_few)) ∙ ap (put out at) (sym says_all);
          ends = omega (arith, ap (λ (bs : List ℕ). length bs) says_all, headed_long bytes (length carried) bytes_some);
        }
