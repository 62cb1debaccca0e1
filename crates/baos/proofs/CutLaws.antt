-- Entries of a set cut in two: what fills the bytes, which entries are read from them, how they are judged and applied.
use Prim.Native.Nat.{ℕ, zero, suc, ◌+◌, ◌-◌, ◌≤◌}
use mathlib.Core.Path.{◌≡◌, refl, ◌∙◌, ap}
use mathlib.Core.Bool.{Bool, true, false, ◌&&◌}
use mathlib.Core.List.{List, [], ◌∷◌, ◌++◌}
use native.Mathlib.Omega.{arith}
use native.Mathlib.Nat.{zero-add, suc-add}
use lib.ListN.{get_or-append, length, get_or, drop, length-append, length-drop}
use lib.Seq.{take-append-le, drop-append-le}
use lib.Dec.{leb, eqb}
use borrow.Author.Tests.{le-leb}
use Rattle.words.proofs.WordLaws.{empty_eq}
use Rattle.baos.specs.Table.{changed_at}
use Rattle.baos.specs.Message.{fine}
use Rattle.baos.specs.Set.{SetEntry, first_item_entry, first_datapoint_entry, span, fills, set_entries, first_bad, applied}
use Rattle.baos.proofs.SetLaws.{span_head}
use Rattle.baos.proofs.LeftLaws.{fills_one, bad_fine}

-- ---- bytes that entries fill, and bytes behind them
module _ (h : ℕ) (pos : 1 ≤ h) where
  -- an entry is read from its own bytes
  module _ (s r : List ℕ) (fits : span h s ≤ length s) where
    pub span-append : span h (s ++ r) ≡ span h s
    unfolding span
    span-append = ap (λ (b : ℕ). h + b) (get_or-append s r 0 (h - 1) (omega (arith, pos, span_head h s, fits)))

    pub behind_entry : drop (span h (s ++ r)) (s ++ r) ≡ drop (span h s) s ++ r
    behind_entry = rw span-append (drop-append-le (span h s) s r fits)

  pub one_more : (n : ℕ) (s : List ℕ) → span h s ≤ length s → fills h (suc n) s ≡ fills h n (drop (span h s) s)
  unfolding fills
  one_more n s fits =
      let both : (leb h (length s) && leb (span h s) (length s)) ≡ true = simp (le-leb h (length s) (omega (arith, span_head h s, fits)), le-leb (span h s) (length s) fits) in
      ap (λ (u : Bool). elim u [ true ↦ fills h n (drop (span h s) s) | false ↦ false ]) both

  pub fills-append : (n k : ℕ) (s r : List ℕ) → fills h n s ≡ true → fills h (n + k) (s ++ r) ≡ fills h k r
  fills-append zero k s r e = rw (empty_eq s (unfold fills in e), zero-add k)
  fills-append (suc n) k s r e =
      let x = fills_one h n s e in
      ap (λ (i : ℕ). fills h i (s ++ r)) (suc-add n k)
      ∙ one_more (n + k) (s ++ r) (omega (arith, x.0, length-append s r, span-append s r x.0))
      ∙ ap (fills h (n + k)) (behind_entry s r x.0)
      ∙ fills-append n k (drop (span h s) s) r x.1

  module _ (first : List ℕ → SetEntry) (own : (s r : List ℕ) → span h s ≤ length s → first (s ++ r) ≡ first s) where
    one_first : (n k : ℕ) (s r : List ℕ) → span h s ≤ length s → set_entries first h (n + k) (drop (span h s) s ++ r) ≡ set_entries first h n (drop (span h s) s) ++ set_entries first h k r
        → set_entries first h (suc (n + k)) (s ++ r) ≡ set_entries first h (suc n) s ++ set_entries first h k r
    unfolding set_entries
    one_first n k s r fits e = rw (own s r fits, behind_entry s r fits, e)

    pub entries_append : (n k : ℕ) (s r : List ℕ) → fills h n s ≡ true → set_entries first h (n + k) (s ++ r) ≡ set_entries first h n s ++ set_entries first h k r
    entries_append zero k s r e = rw (empty_eq s (unfold fills in e), zero-add k) (unfold set_entries in refl)
    entries_append (suc n) k s r e =
        let x = fills_one h n s e in
        ap (λ (i : ℕ). set_entries first h i (s ++ r)) (suc-add n k)
        ∙ one_first n k s r x.0 (entries_append n k (drop (span h s) s) r x.1)

pub item_own : (s r : List ℕ) → span 3 s ≤ length s → first_item_entry (s ++ r) ≡ first_item_entry s
unfolding first_item_entry span
item_own s r fits =
    rw (
      get_or-append s r 0 0 (omega (arith, fits)),
      get_or-append s r 0 1 (omega (arith, fits)),
      get_or-append s r 0 2 (omega (arith, fits)),
      drop-append-le 3 s r (omega (arith, fits)),
      take-append-le (get_or s 2 0) (drop 3 s) r (omega (arith, fits, length-drop 3 s)),
    )

pub datapoint_own : (s r : List ℕ) → span 4 s ≤ length s → first_datapoint_entry (s ++ r) ≡ first_datapoint_entry s
unfolding first_datapoint_entry span
datapoint_own s r fits =
    rw (
      get_or-append s r 0 0 (omega (arith, fits)),
      get_or-append s r 0 1 (omega (arith, fits)),
      get_or-append s r 0 2 (omega (arith, fits)),
      get_or-append s r 0 3 (omega (arith, fits)),
      drop-append-le 4 s r (omega (arith, fits)),
      take-append-le (get_or s 3 0) (drop 4 s) r (omega (arith, fits, length-drop 4 s)),
    )

-- ---- judged
module _ (judge : SetEntry → ℕ) where
  pub first_both : (es fs : List SetEntry) → first_bad judge (es ++ fs) ≡ fine → (first_bad judge es ≡ fine) × (first_bad judge fs ≡ fine)
  unfolding first_bad
  first_both [] fs e = (refl, e)
  first_both (x ∷ es) fs e = go (eqb (judge x) 0) refl (first_both es fs)
    where
      go : (u : Bool) → eqb (judge x) 0 ≡ u → (first_bad judge (es ++ fs) ≡ fine → (first_bad judge es ≡ fine) × (first_bad judge fs ≡ fine)) → (first_bad judge (x ∷ es) ≡ fine) × (first_bad judge fs ≡ fine)
      go true p r = let q = r (simp p at e) in (simp p q.0, q.1)
      go false p r = absurd (bad_fine (simp p at e))

  pub first_none : (es fs : List SetEntry) → first_bad judge es ≡ fine → first_bad judge (es ++ fs) ≡ first_bad judge fs
  unfolding first_bad
  first_none [] fs e = refl
  first_none (x ∷ es) fs e = go (eqb (judge x) 0) refl (first_none es fs)
    where
      go : (u : Bool) → eqb (judge x) 0 ≡ u → (first_bad judge es ≡ fine → first_bad judge (es ++ fs) ≡ first_bad judge fs) → first_bad judge (x ∷ es ++ fs) ≡ first_bad judge fs
      go true p r = simp p (r (simp p at e))
      go false p r = absurd (bad_fine (simp p at e))

-- ---- applied
pub applied-append : {A : Type 0} (id_of : A → ℕ) (f : SetEntry → A → A) (es fs : List SetEntry) (xs : List A) → applied id_of f (es ++ fs) xs ≡ applied id_of f fs (applied id_of f es xs)
unfolding applied
applied-append id_of f [] fs xs = refl
applied-append id_of f (e ∷ es) fs xs = applied-append id_of f es fs (changed_at id_of e.id (f e) xs)
