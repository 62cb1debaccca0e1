-- The laws of the first pass, turn by turn, of a table of any records: how far it has come, by the entries found.
use Rattle.std.proofs.Common.{◌≡◌, ◌≢◌, refl, sym, ◌∙◌, ap, subst, ℕ, ◌+◌, ◌-◌, ◌<◌, ◌≤◌, Bool, true, false, not, ◌&&◌, List, [], ◌∷◌, length, get_or, take, drop, arith, Option, Some, None, Result, Ok, Err, T, leb, drop_of_length-le, lt-ltb, le-ltb, ne_eqb, eq-eqb}
use Rattle.std.proofs.Common.{MatchResult}
use Rattle.std.specs.Result.{IsErrAnd}
use Rattle.std.proofs.lemmas.Result.{err_from_is_err_and}
use Rattle.std.proofs.Math.Seq.{get_or-drop, take-length}
use Rattle.std.proofs.lemmas.List.{length-drop}
use Rattle.words.specs.Words.{every}
use Rattle.words.proofs.WordLaws.{true_T, T_true}
use Rattle.baos.specs.declared.code.Code.{Code}
use Rattle.baos.specs.declared.code.Code.TheVariants.{NoElementFound, BufferTooSmall, ItemNotWritable, ServiceNotSupported, BadServiceParameter, BadId, BadCommandOrValue, BadLength, MessageInconsistent}
use Rattle.baos.specs.declared.inner.Fault.{Fault}
use Rattle.baos.specs.Inner.Gather.{Gathered}
use Rattle.baos.specs.declared.inner.Wanted.{Wanted}
use Rattle.baos.specs.Message.{verdict_of, code_number}
use Rattle.baos.specs.Get.{AnswerEntry}
use Rattle.baos.specs.Table.{place, table_ok}
use Rattle.baos.specs.Inner.Gather.{is_behind, walked, nothing_gathered, ended, with_entry, gathered_verdict}
use Rattle.baos.proofs.AnswerJoins.{they_rise}
use Rattle.baos.proofs.MeasureLaws.{measured_behind, measured_wanted, measured_other}
use Rattle.baos.proofs.PassLaws.{here_ok, pass_ends, pass_on}
use Rattle.baos.proofs.PlaceLaws.{above, at_place, from_id, from_ok}
use Rattle.gets.specs.Measure.{size_wanted, record_step, Measured}
use Rattle.gets.specs.declared.found.Entries.{Entries}
use Rattle.gets.specs.declared.found.Faulty.{Faulty}

-- the part of a table from place n on, and what is read there
abbrev pub part : {A : Type 0} → ℕ → List A → List A
part n xs = take (length xs - n) (drop n xs)

pub part_reads : {A : Type 0} (xs : List A) (n k : ℕ) (z : A) → get_or (part n xs) k z ≡ get_or xs (n + k) z
part_reads xs n k z = ap (λ (s : List _). get_or s k z) (ap (λ (j : ℕ). take j (drop n xs)) (sym (length-drop n xs)) ∙ take-length (drop n xs)) ∙ get_or-drop n xs k z

pub part_size : {A : Type 0} (xs : List A) (n : ℕ) → length (part n xs) ≡ length xs - n
part_size xs n = ap length (ap (λ (j : ℕ). take j (drop n xs)) (sym (length-drop n xs)) ∙ take-length (drop n xs)) ∙ length-drop n xs

-- no error code is 0
pub code_some : (c : Code) → code_number c ≡ 0 → ⊥
unfolding code_number
code_some NoElementFound e = omega (arith, e)
code_some BufferTooSmall e = omega (arith, e)
code_some ItemNotWritable e = omega (arith, e)
code_some ServiceNotSupported e = omega (arith, e)
code_some BadServiceParameter e = omega (arith, e)
code_some BadId e = omega (arith, e)
code_some BadCommandOrValue e = omega (arith, e)
code_some BadLength e = omega (arith, e)
code_some MessageInconsistent e = omega (arith, e)

-- a size is that of an entry that is wanted, or there is none
pub size_some : (b : Bool) (e : AnswerEntry) (n : ℕ) → Some n ≡ size_wanted b e → (b ≡ true) × (n ≡ length e.bytes)
size_some true e n q = (refl, ap (λ (o : Option ℕ). value_or o n) q)
  where
    value_or : Option ℕ → ℕ → ℕ
    value_or (Some x) y = x
    value_or None y = y
size_some false e n q = cc

pub size_none : (b : Bool) (e : AnswerEntry) → (size_wanted b e ≡ None) → b ≡ false
size_none true e q = cc
size_none false e q = refl

-- the entries found, and nothing that does not fit
abbrev pub so_far : Entries → Gathered
so_far e = record { count = e.count; size = e.size; over = 0; ended = false }

-- all that was found are these
pub record Comes (g : Gathered) (e : Entries) : Type 0 where
  pub over : g.over ≡ 0
  pub count : g.count ≡ e.count
  pub size : g.size ≡ e.size

-- a fault, with those that were found until then
abbrev pub Kept : Entries → Fault → Faulty → Type 0
Kept e f s = (s.found.count ≡ e.count) × (s.found.size ≡ e.size) × (s.fault ≡ f)

-- entries, or a fault with those that were found until then: what is known of either stays known
pub with_found : (P : Entries → Type 0) (Q : Fault → Type 0) (R : Fault → Faulty → Type 0) (e : Entries) (r : Result Entries Fault) (o : Result Entries Faulty)
    → MatchResult r P Q → MatchResult r (λ x. o ≡ Ok x) (λ f. IsErrAnd o (R f)) → ((f : Fault) (s : Faulty) → R f s → Kept e f s)
    → MatchResult o P (λ s. (f : Fault) × Kept e f s × Q f)
with_found P Q R e (Ok x) o m k h = rw k m
with_found P Q R e (Err f) o m k h = let p = err_from_is_err_and o k in rw p.1 (f, h f p.0 p.2, m)

-- rows 2 and 3, of these
pub judged : (start : ℕ) (g : Gathered) (e : Entries) → Comes g e → (r : Result Entries Faulty)
    → MatchResult r (λ x. (e.count ≢ 0) × (x.count ≡ e.count) × (x.size ≡ e.size))
    (λ s. (f : Fault) × Kept e f s × ((e.count ≡ 0) × (f ≡ record { id = start; code = NoElementFound })))
    → Measured start g r
unfolding gathered_verdict verdict_of code_number
judged start g e c (Ok x) m =
    (simp (eq-eqb g.over 0 c.over, ne_eqb g.count 0 (λ z. m.0 (sym c.count ∙ z))), m.1 ∙ sym c.count, m.2 ∙ sym c.size)
judged start g e c (Err s) (f, k, m) =
    (rw (k.2, m.1) (simp (eq-eqb g.over 0 c.over, eq-eqb g.count 0 (c.count ∙ m.0)) refl), k.0 ∙ sym c.count, k.1 ∙ sym c.size)

module _ {A : Type 0} (most : ℕ) (id_of : A → ℕ) (ok : A → Bool) (wanted : Wanted → A → Bool) (entry : Wanted → A → AnswerEntry) (w : Wanted) (xs : List A) (from : ℕ) where
  abbrev fits : A → Bool
  fits r = leb w.start (id_of r) && ok r

  abbrev pub step : A → Gathered → Gathered
  step = record_step id_of wanted entry w

  abbrev pub all : Gathered
  all = walked step nothing_gathered (drop from xs)

  -- the records before the k-th from there are measured; those from it on are in the range or behind it, and pass their test
  pub record MeasuredTo (k : ℕ) (e : Entries) : Type 0 where
    pub each : T (every fits (drop (from + k) xs))
    pub comes : walked step (so_far e) (drop (from + k) xs) ≡ all
    pub few : e.count ≤ e.size

  module _ (t : table_ok most id_of ok xs ≡ true) (p : from ≡ place id_of w.start xs) where
    none_here : T (every fits (drop from []))
    none_here = let s : List A = [] in subst (λ (r : List A). T (every fits r)) (sym (drop_of_length-le s (omega arith))) tt

    begins : (from ≤ length xs) × T (every fits (drop from xs))
    unfolding place
    begins = go xs t p
      where
        go : (ys : List A) → table_ok most id_of ok ys ≡ true → from ≡ place id_of w.start ys → (from ≤ length ys) × T (every fits (drop from ys))
        go [] u q = (omega (arith, q), none_here)
        go (y ∷ ys) u q = at_place id_of y w.start ok most (y ∷ ys) from u q

    pub inside : from ≤ length xs
    inside = begins.0

    pub measured_none : (e : Entries) → e.count ≡ 0 → e.size ≡ 0 → MeasuredTo 0 e
    measured_none e c s =
        let i : from + 0 ≡ from = omega arith in
        record { each = rw i begins.1; comes = rw (i, c, s) refl; few = omega (arith, c, s) }

    id_some : (i : ℕ) (r : A) → i < length xs → r ≡ get_or xs i r → 1 ≤ id_of r
    id_some i r l e = omega (arith, ap id_of e, above id_of r 0 xs (they_rise most id_of ok xs t) i l)

-- ---- a turn
module _ {A : Type 0} {most : ℕ} {id_of : A → ℕ} {ok : A → Bool} {wanted : Wanted → A → Bool} {entry : Wanted → A → AnswerEntry} {w : Wanted} {xs : List A} {from k : ℕ} {e : Entries} (h : MeasuredTo most id_of ok wanted entry w xs from k e) where
  abbrev test : A → Bool
  test = fits most id_of ok wanted entry w xs from

  abbrev next : A → Gathered → Gathered
  next = step most id_of ok wanted entry w xs from

  abbrev sum : Gathered
  sum = all most id_of ok wanted entry w xs from

  abbrev MeasuredNext : Entries → Type 0
  MeasuredNext = MeasuredTo most id_of ok wanted entry w xs from (k + 1)

  pub comes_end : length (part from xs) ≤ k → Comes sum e
  unfolding walked
  comes_end u =
      let l : length xs ≤ from + k = omega (arith, u, part_size xs from) in
      let q : so_far e ≡ sum = sym (ap (walked next (so_far e)) (drop_of_length-le xs l)) ∙ h.comes in
      record { over = sym (ap (λ (g : Gathered). g.over) q); count = sym (ap (λ (g : Gathered). g.count) q); size = sym (ap (λ (g : Gathered). g.size) q) }

  module _ (u : k < length (part from xs)) (r : A) (same : r ≡ get_or (part from xs) k r) where
    l : from + k < length xs
    l = omega (arith, u, part_size xs from)

    is : r ≡ get_or xs (from + k) r
    is = same ∙ part_reads xs from k r

    here : T (test r) × T (every test (drop (from + k + 1) xs))
    here = let p = here_ok test xs (from + k) r l h.each in (subst (λ (x : A). T (test x)) (sym is) p.0, p.1)

    pub in_front : w.start ≤ id_of r
    in_front = from_id id_of r w.start ok r here.0

    pub passes : ok r ≡ true
    passes = T_true (ok r) (from_ok id_of r w.start ok r here.0)

    same_step : next (get_or xs (from + k) r) (so_far e) ≡ next r (so_far e)
    same_step = ap (λ (x : A). next x (so_far e)) (sym is)

    stops : (g : Gathered) → next r (so_far e) ≡ g → g.ended ≡ true → g ≡ sum
    stops g q f =
        let u : next (get_or xs (from + k) r) (so_far e) ≡ g = same_step ∙ q in
        sym u ∙ pass_ends next r xs (so_far e) sum (from + k) l h.comes (true_T (ap (λ (x : Gathered). x.ended) u ∙ f))

    goes : (e' : Entries) → next r (so_far e) ≡ so_far e' → e'.count ≤ e'.size → MeasuredNext e'
    goes e' q few =
        let u : next (get_or xs (from + k) r) (so_far e) ≡ so_far e' = same_step ∙ q in
        let i : from + (k + 1) ≡ from + k + 1 = omega arith in
        record {
          each = rw i here.1;
          comes = rw (i, sym u) (pass_on next r xs (so_far e) sum (from + k) l h.comes (true_T (ap (λ (x : Gathered). not x.ended) u)));
          few = few;
        }

    -- it is behind the range
    pub comes_behind : is_behind w (id_of r) ≡ true → Comes sum e
    unfolding ended
    comes_behind b =
        let q : ended (so_far e) ≡ sum = stops (ended (so_far e)) (measured_behind (is_behind w (id_of r)) (wanted w r) (entry w r) (so_far e) b) refl in
        record { over = sym (ap (λ (g : Gathered). g.over) q); count = sym (ap (λ (g : Gathered). g.count) q); size = sym (ap (λ (g : Gathered). g.size) q) }

    module _ (ahead : is_behind w (id_of r) ≡ false) where
      -- it is not wanted
      pub goes_over : wanted w r ≡ false → MeasuredNext e
      goes_over miss = goes e (measured_other (is_behind w (id_of r)) (wanted w r) (entry w r) (so_far e) ahead miss) h.few

      module _ (hit : wanted w r ≡ true) (n : ℕ) (size : n ≡ length (entry w r).bytes) where
        counted : next r (so_far e) ≡ with_entry (entry w r).id n (so_far e)
        counted = measured_wanted (is_behind w (id_of r)) (wanted w r) (entry w r) (so_far e) ahead hit ∙ ap (λ (j : ℕ). with_entry (entry w r).id j (so_far e)) (sym size)

        -- its entry test
        pub goes_on : 1 ≤ n → (e' : Entries) → e'.count ≡ e.count + 1 → e'.size ≡ e.size + n → MeasuredNext e'
        unfolding with_entry
        goes_on some e' c s =
            goes e' (counted ∙ simp (le-ltb 248 (e.size + n) (omega (arith, s, e'.fit))) (λ i. record { count = sym c i; size = sym s i; over = 0; ended = false }))
            (omega (arith, some, c, s, h.few))

        -- it does not
        pub found_over : (start : ℕ) → (entry w r).id ≡ id_of r → table_ok most id_of ok xs ≡ true → from ≡ place id_of w.start xs → 248 < e.size + n
            → (f : Fault) → f ≡ record { id = id_of r; code = BufferTooSmall } → (s : Faulty) → Kept e f s → Measured start sum (Err s)
        unfolding with_entry gathered_verdict verdict_of code_number
        found_over start named t p over f is_f s kept =
            let some : 1 ≤ id_of r = id_some most id_of ok wanted entry w xs from t p (from + k) r l is in
            let g : Gathered = record { count = e.count; size = e.size; over = id_of r; ended = true } in
            let q : g ≡ sum = stops g (counted ∙ ap (λ (j : ℕ). with_entry j n (so_far e)) named ∙ simp (lt-ltb 248 (e.size + n) over) refl) refl in
            rw (sym q, kept.2, is_f) (simp (ne_eqb (id_of r) 0 (λ z. omega (arith, some, z))) refl, kept.0, kept.1)
