-- The parameter bytes that a request asks for are one part of them.
use Prim.Native.Nat.{ℕ, zero, suc, ◌+◌, ◌-◌, ◌≤◌, ◌<◌}
use mathlib.Core.Bool.{Bool, true, false, ◌&&◌}
use mathlib.Core.List.{List, [], ◌∷◌, ◌++◌, map, flatten}
use mathlib.Core.Path.{◌≡◌, refl, sym, ◌∙◌, ap}
use native.Mathlib.Nat.{pos_of_ne-zero}
use native.Mathlib.Omega.{arith}
use lib.Dec.{leb, ltb, eqb}
use lib.ListN.{length, get_or, take, drop, length-drop}
use lib.Seq.{take_all, length-take-le}
use borrow.Author.Tests.{lt-ltb, le-ltb, le-leb, lt-leb, eq-eqb, ne_eqb, ltb-true, ltb-false, eqb-false}
use Rattle.std.specs.Prelude.{if◌then◌else◌}
use Rattle.words.specs.Words.{two_bytes, keep, is_empty}
use Rattle.baos.specs.Inner.Gather.{filter_asked, size_asked, request_finding, parameters_present}
use Rattle.baos.specs.Get.{AnswerEntry, in_request, overflow, listing, parameter_entries, get_parameter_byte}
use Rattle.baos.specs.Message.{sub_service, start_of, number_of, coded, verdict_of, Served}
use Rattle.baos.specs.Table.{parameters_only}
use Rattle.baos.specs.Message.{Verdict}
use Rattle.baos.proofs.GetLaws.{refused_first, empty_refused, over_refused, fits_answered}

-- those from s on, n of them
abbrev within : ℕ → ℕ → AnswerEntry → Bool
within s n e = leb s e.id && ltb e.id (s + n)

none_behind : (s n k : ℕ) (ps : List ℕ) → s + n ≤ k → keep (within s n) (parameter_entries k ps) ≡ []
unfolding parameter_entries
none_behind s n k [] h = refl
none_behind s n k (b ∷ ps) h = simp (le-leb s k (omega arith), le-ltb k (s + n) h) (none_behind s n (suc k) ps (omega arith))

kept_from : (s n k j : ℕ) (ps : List ℕ) → s ≤ k → k + j ≡ s + n → keep (within s n) (parameter_entries k ps) ≡ parameter_entries k (take j ps)
unfolding parameter_entries
kept_from s n k zero ps h e = none_behind s n k ps (omega arith)
kept_from s n k (suc j) [] h e = refl
kept_from s n k (suc j) (b ∷ ps) h e =
    simp (le-leb s k h, lt-ltb k (s + n) (omega arith)) (ap (λ (es : List AnswerEntry). record { id = k; bytes = b ∷ [] } ∷ es) (kept_from s n (suc k) j ps (omega arith) (omega arith)))

pub kept_part : (s n k i : ℕ) (ps : List ℕ) → k + i ≡ s → keep (within s n) (parameter_entries k ps) ≡ parameter_entries s (take n (drop i ps))
unfolding parameter_entries
kept_part s n k zero ps e = kept_from s n k n ps (omega arith) (omega arith) ∙ ap (λ (j : ℕ). parameter_entries j (take n ps)) {x = k} {y = s} (omega arith)
kept_part s n k (suc i) [] e = go n
  where
    go : (j : ℕ) → ◌≡◌ {A = List AnswerEntry} [] (parameter_entries s (take {A = ℕ} j []))
    go zero = refl
    go (suc j) = refl
kept_part s n k (suc i) (b ∷ ps) e = simp (lt-leb s k (omega arith)) (kept_part s n (suc k) i ps (omega arith))

pub entries_bytes : (k : ℕ) (ps : List ℕ) → flatten (map (λ (e : AnswerEntry). e.bytes) (parameter_entries k ps)) ≡ ps
unfolding parameter_entries flatten
entries_bytes k [] = refl
entries_bytes k (b ∷ ps) = ap (λ (r : List ℕ). b ∷ r) (entries_bytes (suc k) ps)

pub entries_count : (k : ℕ) (ps : List ℕ) → length (parameter_entries k ps) ≡ length ps
unfolding parameter_entries
entries_count k [] = refl
entries_count k (b ∷ ps) = ap suc (entries_count (suc k) ps)

pub all_fit : (room k : ℕ) (ps : List ℕ) → length ps ≤ room → overflow room (parameter_entries k ps) ≡ []
unfolding parameter_entries overflow
all_fit room k [] h = refl
all_fit room k (b ∷ ps) h = simp (le-ltb room 1 (omega arith)) (all_fit (room - 1) (suc k) ps (omega arith))

pub one_over : (room k : ℕ) (ps : List ℕ) → room < length ps → overflow room (parameter_entries k ps) ≡ (k + room) ∷ []
unfolding parameter_entries overflow
one_over zero k (b ∷ ps) h = ap {B = List ℕ} (λ (i : ℕ). i ∷ []) {x = k} {y = k + 0} (omega arith)
one_over (suc room) k (b ∷ ps) h =
    simp (le-ltb (suc room) 1 (omega arith))
    (one_over (suc room - 1) (suc k) ps (omega arith) ∙ ap {B = List ℕ} (λ (i : ℕ). i ∷ []) {x = suc k + (suc room - 1)} {y = k + suc room} (omega arith))
one_over room k [] h = absurd (omega arith)

-- ---- how many there are to return
-- all that were asked for, where the range is in the table
pub present_all : (count start number : ℕ) → 1 ≤ start → start + number ≤ count + 1 → parameters_present count start number ≡ number
unfolding parameters_present
present_all count start number l h = go (ltb number (count - (start - 1))) refl
  where
    go : (u : Bool) → ltb number (count - (start - 1)) ≡ u → parameters_present count start number ≡ number
    go true e = simp (ne_eqb start 0 (λ z. omega (arith, z, l)), e)
    go false e = simp (ne_eqb start 0 (λ z. omega (arith, z, l)), e) (omega (arith, ltb-false number (count - (start - 1)) e, l, h))

-- ---- the answer
module _ (ps m : List ℕ) where
  abbrev start : ℕ
  start = start_of m

  abbrev present : ℕ
  present = parameters_present (length ps) (start_of m) (number_of m)

  abbrev verdict : Verdict
  verdict = verdict_of (request_finding false m)

  abbrev part : List ℕ
  part = take present (drop (start - 1) ps)

  entries_asked : List AnswerEntry
  entries_asked = if eqb (start_of m) 0 then [] else keep (λ (e : AnswerEntry). in_request m e.id) (parameter_entries 1 ps)

  -- as many as there are, of those asked for
  present_part : (start ≡ 0 → ⊥) → take (number_of m) (drop (start - 1) ps) ≡ part
  unfolding parameters_present
  present_part n = go (ltb (number_of m) (length ps - (start - 1))) refl
    where
      go : (b : Bool) → ltb (number_of m) (length ps - (start - 1)) ≡ b → take (number_of m) (drop (start - 1) ps) ≡ part
      go true e = simp (ne_eqb start 0 n, e)
      go false e =
          simp (ne_eqb start 0 n, e)
          (take_all (number_of m) (drop (start - 1) ps) (omega (arith, length-drop (start - 1) ps, ltb-false (number_of m) (length ps - (start - 1)) e))
          ∙ sym (take_all (length ps - (start - 1)) (drop (start - 1) ps) (omega (arith, length-drop (start - 1) ps))))

  present_fits : (start ≡ 0 → ⊥) → present ≤ length ps - (start - 1)
  unfolding parameters_present
  present_fits n = go (ltb (number_of m) (length ps - (start - 1))) refl
    where
      go : (b : Bool) → ltb (number_of m) (length ps - (start - 1)) ≡ b → present ≤ length ps - (start - 1)
      go true e = simp (ne_eqb start 0 n, e) (omega (arith, ltb-true (number_of m) (length ps - (start - 1)) e))
      go false e = simp (ne_eqb start 0 n, e) (omega arith)

  none_at_0 : start ≡ 0 → present ≡ 0
  unfolding parameters_present
  none_at_0 e = simp (eq-eqb start 0 e)

  pub start_there : 1 ≤ present → start ≡ 0 → ⊥
  start_there h e = omega (arith, none_at_0 e)

  pub present_short : 1 ≤ present → (1 ≤ start) × (start - 1 + present ≤ length ps)
  present_short h = (pos_of_ne-zero (start_there h), omega (arith, present_fits (start_there h)))

  pub part_length : (start ≡ 0 → ⊥) → length part ≡ present
  part_length n = length-take-le present (drop (start - 1) ps) (omega (arith, length-drop (start - 1) ps, present_fits n))

  asked_part : (start ≡ 0 → ⊥) → entries_asked ≡ parameter_entries start part
  unfolding entries_asked in_request
  asked_part n = simp (ne_eqb start 0 n) (kept_part start (number_of m) 1 (start - 1) ps (omega arith) ∙ ap (parameter_entries start) (present_part n))

  pub parameters_refused : (verdict.code ≡ 0 → ⊥) → (get_parameter_byte (parameters_only ps) m).says ≡ coded m verdict.id verdict.code
  unfolding get_parameter_byte entries_asked size_asked filter_asked
  parameters_refused n = ap (λ (v : Served). v.says) (refused_first false m entries_asked (parameters_only ps) (parameters_only ps) n)

  pub parameters_none : verdict.code ≡ 0 → present ≡ 0 → (get_parameter_byte (parameters_only ps) m).says ≡ coded m start 2
  unfolding get_parameter_byte entries_asked size_asked filter_asked parameter_entries
  parameters_none z p = ap (λ (v : Served). v.says) (empty_refused false m entries_asked (parameters_only ps) (parameters_only ps) z (ap is_empty (go (eqb start 0) refl)))
    where
      go : (b : Bool) → eqb start 0 ≡ b → entries_asked ≡ []
      go true e = simp e
      go false e =
          asked_part (eqb-false start 0 e)
          ∙ ap (λ (k : ℕ). parameter_entries start (take k (drop (start - 1) ps))) p

  module _ (z : verdict.code ≡ 0) (h : 1 ≤ present) where
    some : is_empty entries_asked ≡ false
    some = go entries_asked (omega (arith, ap length (asked_part (start_there h)), entries_count start part, part_length (start_there h)))
      where
        go : (es : List AnswerEntry) → 1 ≤ length es → is_empty es ≡ false
        go [] l = absurd (omega arith)
        go (e ∷ es) l = refl

    pub parameters_over : 248 < present → (get_parameter_byte (parameters_only ps) m).says ≡ coded m (start + 248) 3
    unfolding get_parameter_byte entries_asked size_asked filter_asked
    parameters_over l =
        let o : overflow 248 entries_asked ≡ (start + 248) ∷ [] = ap (overflow 248) (asked_part (start_there h)) ∙ one_over 248 start part (omega (arith, part_length (start_there h))) in
        ap (λ (v : Served). v.says) (over_refused false m entries_asked (parameters_only ps) (parameters_only ps) z some (ap is_empty o))
        ∙ ap (λ (ids : List ℕ). coded m (get_or ids 0 0) 3) o

    pub parameters_all : present ≤ 248
        → (get_parameter_byte (parameters_only ps) m).says ≡ (0xF0 ∷ (sub_service m + 0x80) ∷ two_bytes start ++ two_bytes present) ++ part
    unfolding get_parameter_byte entries_asked size_asked filter_asked listing
    parameters_all l =
        ap (λ (v : Served). v.says)
        (fits_answered false m entries_asked (parameters_only ps) (parameters_only ps) z some
        (ap (λ (es : List AnswerEntry). is_empty (overflow 248 es)) (asked_part (start_there h)) ∙ ap is_empty (all_fit 248 start part (omega (arith, part_length (start_there h))))))
        ∙ ap (listing (sub_service m + 0x80) start) (asked_part (start_there h))
        ∙ (λ i. 0xF0 ∷ (sub_service m + 0x80) ∷ two_bytes start ++ two_bytes ((entries_count start part ∙ part_length (start_there h)) i) ++ entries_bytes start part i)
