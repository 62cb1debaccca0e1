-- Whether a set's entries fill its message: one entry after the other, from byte `at` on.
use Prim.Native.Nat.{ℕ, suc, ◌+◌, ◌-◌, ◌≤◌, ◌<◌}
use mathlib.Core.Path.{◌≡◌, refl, sym, ◌∙◌, ap}
use mathlib.Core.Bool.{Bool, true, false, ◌&&◌}
use mathlib.Core.List.{List, [], ◌∷◌}
use native.Mathlib.Omega.{arith}
use lib.ListN.{length, get_or, drop, length-drop}
use lib.Seq.{get_or-drop, drop-drop}
use lib.Dec.{leb, eqb}
use borrow.Author.Tests.{lt-leb, le-leb, eq-eqb, ne_eqb}
use Rattle.words.specs.Words.{is_empty}
use Rattle.baos.specs.Set.{span, fills}

-- no byte is left from `at` on exactly if the bytes end there
none_left : (at : ℕ) (s : List ℕ) → at ≤ length s → is_empty (drop at s) ≡ eqb at (length s)
none_left at s l = go (drop at s) refl
  where
    go : (r : List ℕ) → drop at s ≡ r → is_empty r ≡ eqb at (length s)
    go [] e = sym (eq-eqb at (length s) (omega (arith, length-drop at s, ap length e)))
    go (x ∷ r) e = sym (ne_eqb at (length s) (λ q. omega (arith, length-drop at s, ap length e, q)))

-- an entry has its head
pub span_head : (h : ℕ) (s : List ℕ) → h ≤ span h s
unfolding span
span_head h s = omega arith

module _ (h n at : ℕ) (s : List ℕ) where
  -- there is one more entry
  more : 1 ≤ n → fills h n (drop at s) ≡ fills h (suc (n - 1)) (drop at s)
  more p = ap (λ (k : ℕ). fills h k (drop at s)) {x = n} {y = suc (n - 1)} (omega arith)

  pub filled_end : at ≤ length s → fills h 0 (drop at s) ≡ eqb at (length s)
  unfolding fills
  filled_end l = none_left at s l

  -- how far the entry from byte `at` on goes
  pub span_at_lem : 1 ≤ h → span h (drop at s) ≡ h + get_or s (at + h - 1) 0
  unfolding span
  span_at_lem p = ap (λ (b : ℕ). h + b) (get_or-drop at s (h - 1) 0 ∙ ap (λ (i : ℕ). get_or s i 0) {x = at + (h - 1)} {y = at + h - 1} (omega arith))

  -- the test of one entry, with its two halves as they come out
  abbrev one : Bool → Bool → Bool
  one a b = elim (a && b) [ true ↦ fills h (n - 1) (drop (span h (drop at s)) (drop at s)) | false ↦ false ]

  pub short_head : 1 ≤ n → length s - at < h → fills h n (drop at s) ≡ false
  unfolding fills
  short_head q l = more q ∙ ap (λ (t : Bool). one t (leb (span h (drop at s)) (length (drop at s)))) (lt-leb h (length (drop at s)) (omega (arith, length-drop at s)))

  pub short_value : 1 ≤ n → 1 ≤ h → h ≤ length s - at → length s - at < h + get_or s (at + h - 1) 0 → fills h n (drop at s) ≡ false
  unfolding fills
  short_value q p k l =
      more q
      ∙ ap (λ (t : Bool). one t (leb (span h (drop at s)) (length (drop at s)))) (le-leb h (length (drop at s)) (omega (arith, length-drop at s)))
      ∙ ap (one true) (lt-leb (span h (drop at s)) (length (drop at s)) (omega (arith, length-drop at s, span_at_lem p)))

  pub entry_fits : 1 ≤ n → 1 ≤ h → h + get_or s (at + h - 1) 0 ≤ length s - at → fills h n (drop at s) ≡ fills h (n - 1) (drop (at + (h + get_or s (at + h - 1) 0)) s)
  unfolding fills
  entry_fits q p l =
      more q
      ∙ ap (λ (t : Bool). one t (leb (span h (drop at s)) (length (drop at s)))) (le-leb h (length (drop at s)) (omega (arith, length-drop at s)))
      ∙ ap (one true) (le-leb (span h (drop at s)) (length (drop at s)) (omega (arith, length-drop at s, span_at_lem p)))
      ∙ ap (fills h (n - 1)) (drop-drop (span h (drop at s)) at s ∙ ap (λ (k : ℕ). drop (at + k) s) (span_at_lem p))
