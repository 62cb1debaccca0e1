-- A get, exit by exit: what its callees say of table, buffer and result is what the get has to answer and leave.
use Prim.Native.Nat.{ℕ, ◌+◌, ◌≤◌}
use mathlib.Core.Path.{◌≡◌, refl, sym, ◌∙◌, ap, subst}
use mathlib.Core.Bool.{Bool, true, false, not}
use mathlib.Core.List.{List, ◌∷◌, ◌++◌, map}
use native.Mathlib.Omega.{arith}
use lib.ListN.{length, take, drop, length-append}
use lib.Dec.{T, leb, eqb, leb→le}
use borrow.Author.Tests.{eqb-true, eqb-false}
use Rattle.words.specs.Words.{put, two_bytes, every}
use Rattle.words.proofs.ByteLaws.{put-put}
use Rattle.baos.specs.declared.datapoint.Datapoint.{Datapoint}
use Rattle.baos.specs.declared.item.Item.{Item}
use Rattle.baos.specs.declared.inner.Wanted.{Wanted}
use Rattle.baos.specs.Inner.Gather.{Gathered}
use Rattle.baos.specs.Message.{Verdict}
use Rattle.baos.specs.Text.{TextLists}
use Rattle.baos.specs.Table.{Tables, datapoints_only, items_only, datapoints_with_texts, rising, place, table_ok}
use Rattle.baos.specs.Datapoint.{datapoint_id, datapoint_ok}
use Rattle.baos.specs.Item.{item_id, item_ok}
use Rattle.baos.specs.Message.{sub_service, start_of, coded, verdict_of, Served}
use Rattle.baos.specs.Get.{AnswerEntry, get_server_item, get_description_string}
use Rattle.baos.specs.Inner.Gather.{request_finding, gathered_verdict, walked, nothing_gathered, datapoint_step, item_step, datapoints_built, datapoints_left, items_built, wanted_of, get_datapoints}
use Rattle.baos.specs.Inner.Strings.{string_step, strings_built}
use Rattle.baos.specs.Inner.Promise.{Written, Answered}
use Rattle.words.proofs.WordLaws.{parts3}
use Rattle.baos.proofs.TableLaws.{ids_rise}
use Rattle.baos.proofs.GetLaws.{gets, refused_first}
use Rattle.baos.proofs.WrittenLaws.{coded_says}
use Rattle.baos.proofs.GatherLaws.{Passed, datapoints_small, items_small}
use Rattle.baos.proofs.AnsweredLaws.{answered_bad, answered_fine, datapoint_entries, datapoints_after, datapoints_passed, gets_datapoints, item_entries, items_passed, gets_items}
use Rattle.baos.proofs.StringLaws.{string_entries, strings_passed, strings_small, gets_strings}

-- what a test for a code other than 0 showed
pub not_zero : (n : ℕ) → T (not (eqb n 0)) → n ≡ 0 → ⊥
not_zero n t e = go (eqb n 0) refl t
  where
    go : (b : Bool) → eqb n 0 ≡ b → T (not b) → ⊥
    go true f s = s
    go false f s = eqb-false n 0 f e

pub is_zero : (n : ℕ) → T (not (not (eqb n 0))) → n ≡ 0
is_zero n t = go (eqb n 0) refl t
  where
    go : (b : Bool) → eqb n 0 ≡ b → T (not (not b)) → n ≡ 0
    go true f s = eqb-true n 0 f
    go false f s = absurd s

-- a table as it has to be: not too long, and its IDs rise
module _ {A : Type 0} (most : ℕ) (id_of : A → ℕ) (ok : A → Bool) (xs : List A) (e : table_ok most id_of ok xs ≡ true) where
  is_ok : T (table_ok most id_of ok xs)
  is_ok = subst T (sym e) tt

  pub they_rise : T (rising 0 (map id_of xs))
  they_rise = ids_rise id_of most ok xs is_ok

  pub sought : (length xs ≤ most) × (rising 0 (map id_of xs) ≡ true)
  unfolding table_ok
  sought = (leb→le (length xs) most (parts3 (leb (length xs) most) (rising 0 (map id_of xs)) (every ok xs) is_ok).0, go (rising 0 (map id_of xs)) they_rise)
    where
      go : (b : Bool) → T b → b ≡ true
      go true t = refl
      go false t = absurd t

-- what stands in front of n entries
abbrev pub head_of : List ℕ → ℕ → List ℕ
head_of m n = 0xF0 ∷ (sub_service m + 0x80) ∷ two_bytes (start_of m) ++ two_bytes n

-- a refusal, and an answer with its entries
module _ (m : List ℕ) (out : List ℕ) (at : ℕ) (s : Served) where
  said-coded : (i c : ℕ) (t : Tables) → s ≡ record { says = coded m i c; after = t } → Written out at s.says (at + 7) (put out at (coded m i c))
  said-coded i c t e = coded_says out at m i c (ap (λ (x : Served). x.says) e)

  said_fine : (n : ℕ) (bytes : List ℕ) (t : Tables) → at + 254 ≤ length out → length bytes ≤ 248 → s ≡ record { says = head_of m n ++ bytes; after = t }
      → Written out at s.says (at + 6 + length bytes) (put (put out at (head_of m n)) (at + 6) bytes)
  said_fine n bytes t room small e =
      let f : s.says ≡ head_of m n ++ bytes = ap (λ (x : Served). x.says) e in
      record {
        buffer = put-put out at (at + 6) (head_of m n) bytes (omega arith) (omega (arith, room, small)) ∙ ap (put out at) (sym f);
        ends = omega (arith, length-append (head_of m n) bytes, ap length f);
      }

-- what was measured is what is built, where all entries fit
built_size : (es : List AnswerEntry) (g : Gathered) (bytes : List ℕ) → Passed es g bytes → (start : ℕ) → (gathered_verdict start g).code ≡ 0 → g.size ≡ length bytes
unfolding gathered_verdict
built_size es g bytes p start z = go (eqb g.over 0) refl
  where
    go : (b : Bool) → eqb g.over 0 ≡ b → g.size ≡ length bytes
    go true e = omega (arith, p.size (eqb-true g.over 0 e), ap length p.built)
    go false e = absurd (omega (arith, simp e at z))

built_small : (es : List AnswerEntry) (g : Gathered) (bytes : List ℕ) → Passed es g bytes → g.size ≤ 248 → (start : ℕ) → (gathered_verdict start g).code ≡ 0 → length bytes ≤ 248
built_small es g bytes p small start z = omega (arith, small, built_size es g bytes p start z)

-- ---- the two gets of datapoints
module _ (values : Bool) (m : List ℕ) (ds : List Datapoint) (ok : table_ok 1000 datapoint_id datapoint_ok ds ≡ true) (out : List ℕ) (at : ℕ) where
  abbrev w : Wanted
  w = wanted_of values m

  abbrev v : Verdict
  v = verdict_of (request_finding values m)

  abbrev from : ℕ
  from = place datapoint_id w.start ds

  abbrev g : Gathered
  g = walked (datapoint_step w) nothing_gathered (drop from ds)

  abbrev u : Verdict
  u = gathered_verdict w.start g

  abbrev bytes : List ℕ
  bytes = datapoints_built w (drop from ds)

  abbrev s : Served
  s = get_datapoints values (datapoints_only ds) m

  abbrev r : T (rising 0 (map datapoint_id ds))
  r = they_rise 1000 datapoint_id datapoint_ok ds ok

  abbrev es : List AnswerEntry
  es = datapoint_entries values m ds

  abbrev Answers : List Datapoint → List ℕ → ℕ → Type 0
  Answers t o n = Answered s.after.datapoints out at s.says n o t

  passed : Passed es g bytes
  unfolding wanted_of
  passed = datapoints_passed m ds r values

  pub datapoints_refused : T (not (eqb v.code 0)) → Answers ds (put out at (coded m v.id v.code)) (at + 7)
  datapoints_refused t =
      let e = gets_datapoints m ds r values ∙ refused_first values m es (datapoints_only ds) (datapoints_only (datapoints_after values m ds)) (not_zero v.code t) in
      let f = said-coded m out at s v.id v.code (datapoints_only ds) e in
      record { table = sym (ap (λ (x : Served). x.after.datapoints) e); buffer = f.buffer; ends = f.ends }

  module _ (z : T (not (not (eqb v.code 0)))) where
    pub datapoints_bad : T (not (eqb u.code 0)) → Answers ds (put out at (coded m u.id u.code)) (at + 7)
    unfolding wanted_of
    datapoints_bad t =
        let e = gets_datapoints m ds r values ∙ answered_bad values m es g bytes passed (datapoints_only ds) (datapoints_only (datapoints_after values m ds)) (is_zero v.code z) (not_zero u.code t) in
        let f = said-coded m out at s u.id u.code (datapoints_only ds) e in
        record { table = sym (ap (λ (x : Served). x.after.datapoints) e); buffer = f.buffer; ends = f.ends }

    module _ (y : T (not (not (eqb u.code 0)))) where
      pub datapoints_fit : length bytes ≤ 248
      datapoints_fit = built_small es g bytes passed (datapoints_small w (drop from ds)).1 w.start (is_zero u.code y)

      pub datapoints_sized : g.size ≡ length bytes
      datapoints_sized = built_size es g bytes passed w.start (is_zero u.code y)

      pub datapoints_fine : at + 254 ≤ length out
          → Answers (take from ds ++ datapoints_left w (drop from ds)) (put (put out at (head_of m g.count)) (at + 6) bytes) (at + 6 + length bytes)
      unfolding wanted_of
      datapoints_fine room =
          let e = gets_datapoints m ds r values ∙ answered_fine values m es g bytes passed (datapoints_only ds) (datapoints_only (datapoints_after values m ds)) (is_zero v.code z) (is_zero u.code y) in
          let f = said_fine m out at s g.count bytes (datapoints_only (datapoints_after values m ds)) room datapoints_fit e in
          record { table = sym (ap (λ (x : Served). x.after.datapoints) e); buffer = f.buffer; ends = f.ends }

-- ---- a get that leaves its table: of items, or of strings
module _ (m : List ℕ) (answer : Served) (es : List AnswerEntry) (g : Gathered) (bytes : List ℕ) (t : Tables) (gone : Passed es g bytes) (small : g.size ≤ 248) (is : answer ≡ gets false es t t m) (out : List ℕ) (at : ℕ) where
  abbrev first : Verdict
  first = verdict_of (request_finding false m)

  abbrev later : Verdict
  later = gathered_verdict (start_of m) g

  abbrev Answers' : List ℕ → ℕ → Type 0
  Answers' o n = Written out at answer.says n o

  get_refused : T (not (eqb first.code 0)) → Answers' (put out at (coded m first.id first.code)) (at + 7)
  get_refused x = said-coded m out at answer first.id first.code t (is ∙ refused_first false m es t t (not_zero first.code x))

  module _ (z : T (not (not (eqb first.code 0)))) where
    get_bad : T (not (eqb later.code 0)) → Answers' (put out at (coded m later.id later.code)) (at + 7)
    get_bad x = said-coded m out at answer later.id later.code t (is ∙ answered_bad false m es g bytes gone t t (is_zero first.code z) (not_zero later.code x))

    module _ (y : T (not (not (eqb later.code 0)))) where
      get_fits : length bytes ≤ 248
      get_fits = built_small es g bytes gone small (start_of m) (is_zero later.code y)

      get_fine : at + 254 ≤ length out → Answers' (put (put out at (head_of m g.count)) (at + 6) bytes) (at + 6 + length bytes)
      get_fine room = said_fine m out at answer g.count bytes t room get_fits (is ∙ answered_fine false m es g bytes gone t t (is_zero first.code z) (is_zero later.code y))

-- ---- the get of items
module _ (m : List ℕ) (is : List Item) (ok : table_ok 64 item_id item_ok is ≡ true) (out : List ℕ) (at : ℕ) where
  abbrev iw : Wanted
  iw = wanted_of false m

  abbrev ig : Gathered
  ig = walked (item_step iw) nothing_gathered (drop (place item_id iw.start is) is)

  abbrev ibytes : List ℕ
  ibytes = items_built iw (drop (place item_id iw.start is) is)

  abbrev iv : Verdict
  iv = verdict_of (request_finding false m)

  abbrev iu : Verdict
  iu = gathered_verdict iw.start ig

  abbrev ir : T (rising 0 (map item_id is))
  ir = they_rise 64 item_id item_ok is ok

  abbrev ItemAnswers : List ℕ → ℕ → Type 0
  ItemAnswers o n = Written out at (get_server_item (items_only is) m).says n o

  items_gone : Passed (item_entries m is) ig ibytes
  unfolding wanted_of
  items_gone = items_passed m is ir

  items_few : ig.size ≤ 248
  items_few = (items_small iw (drop (place item_id iw.start is) is)).1

  pub items_refused : T (not (eqb iv.code 0)) → ItemAnswers (put out at (coded m iv.id iv.code)) (at + 7)
  items_refused = get_refused m _ (item_entries m is) ig ibytes (items_only is) items_gone items_few (gets_items m is ir) out at

  module _ (z : T (not (not (eqb iv.code 0)))) where
    pub items_bad : T (not (eqb iu.code 0)) → ItemAnswers (put out at (coded m iu.id iu.code)) (at + 7)
    unfolding wanted_of
    items_bad = get_bad m _ (item_entries m is) ig ibytes (items_only is) items_gone items_few (gets_items m is ir) out at z

    module _ (y : T (not (not (eqb iu.code 0)))) where
      pub items_fit : length ibytes ≤ 248
      unfolding wanted_of
      items_fit = get_fits m _ (item_entries m is) ig ibytes (items_only is) items_gone items_few (gets_items m is ir) out at z y

      pub items_fine : at + 254 ≤ length out → ItemAnswers (put (put out at (head_of m ig.count)) (at + 6) ibytes) (at + 6 + length ibytes)
      unfolding wanted_of
      items_fine = get_fine m _ (item_entries m is) ig ibytes (items_only is) items_gone items_few (gets_items m is ir) out at z y

-- ---- the get of strings
module _ (ts : TextLists) (m : List ℕ) (ds : List Datapoint) (ok : table_ok 1000 datapoint_id datapoint_ok ds ≡ true) (out : List ℕ) (at : ℕ) where
  abbrev sw : Wanted
  sw = wanted_of false m

  abbrev sg : Gathered
  sg = walked (string_step ts sw) nothing_gathered (drop (place datapoint_id sw.start ds) ds)

  abbrev sbytes : List ℕ
  sbytes = strings_built ts sw (drop (place datapoint_id sw.start ds) ds)

  abbrev sv : Verdict
  sv = verdict_of (request_finding false m)

  abbrev su : Verdict
  su = gathered_verdict sw.start sg

  abbrev sr : T (rising 0 (map datapoint_id ds))
  sr = they_rise 1000 datapoint_id datapoint_ok ds ok

  abbrev StringAnswers : List ℕ → ℕ → Type 0
  StringAnswers o n = Written out at (get_description_string (datapoints_with_texts ds ts) m).says n o

  strings_gone : Passed (string_entries ts m ds) sg sbytes
  unfolding wanted_of
  strings_gone = strings_passed ts m ds sr

  strings_few : sg.size ≤ 248
  strings_few = strings_small ts sw (drop (place datapoint_id sw.start ds) ds)

  pub strings_refused_lem : T (not (eqb sv.code 0)) → StringAnswers (put out at (coded m sv.id sv.code)) (at + 7)
  strings_refused_lem = get_refused m _ (string_entries ts m ds) sg sbytes (datapoints_with_texts ds ts) strings_gone strings_few (gets_strings ts m ds sr) out at

  module _ (z : T (not (not (eqb sv.code 0)))) where
    pub strings_bad : T (not (eqb su.code 0)) → StringAnswers (put out at (coded m su.id su.code)) (at + 7)
    unfolding wanted_of
    strings_bad = get_bad m _ (string_entries ts m ds) sg sbytes (datapoints_with_texts ds ts) strings_gone strings_few (gets_strings ts m ds sr) out at z

    module _ (y : T (not (not (eqb su.code 0)))) where
      pub strings_fit : length sbytes ≤ 248
      unfolding wanted_of
      strings_fit = get_fits m _ (string_entries ts m ds) sg sbytes (datapoints_with_texts ds ts) strings_gone strings_few (gets_strings ts m ds sr) out at z y

      pub strings_fine : at + 254 ≤ length out → StringAnswers (put (put out at (head_of m sg.count)) (at + 6) sbytes) (at + 6 + length sbytes)
      unfolding wanted_of
      strings_fine = get_fine m _ (string_entries ts m ds) sg sbytes (datapoints_with_texts ds ts) strings_gone strings_few (gets_strings ts m ds sr) out at z y
