-- Parts of slices and of arrays, lent to a call.
--     lends_prefix, prefix_back    `&mut x.field[..m]` of an array in memory, lent as a `&mut [D]`, and back
--     shares_prefix, prefix_unshared   `&x.field[..m]` of an array in memory, lent as a `&[D]`, and back
-- Assumes `Logic`.
use mathlib.Core.Path.{◌≡◌, refl, sym, ap, subst, ◌∙◌}
use Prim.Native.Nat.{ℕ, ◌≤◌}
use native.Mathlib.Omega.{arith}
use mathlib.Core.List.{List, [], ◌∷◌, ◌++◌}
use lib.ListN.{length, length-append, take, drop as drop_l, take-append-drop, length-drop}
use lib.Seq.{length-take-le}
use seplogic.Ra.Ura.{Ura}
use base.Fraction.{full_share}
use base.Fml.{GName, Share, Fml, fsep, flft, flent}
use types.Logic.{Logic}
use types.Kit.{Item, ‵, Goal, Soaks, Seq, Step, step, ◌$◌, move, rewrite, fsplit, fjoin}
use denote.Memory.{part_at, mem, shares}
use denote.Array.{Array}
use denote.ArrayMemory.{Single}
use types.Share.{arr_parts}
use denote.Slice.{Room}
use denote.Lend.{Held as HeldS}
use denote.Index.{row, place}
use Rattle.walks.proofs.Data.{Data, MutS, ShrS}
use Rattle.walks.proofs.Slices.{LeftS, cuts_row, joins_row, shares_row, row_unshared, lends_row, row_back, elems_of, array_of}

-- ---- the first m elements of an array in memory are lent as a `&mut [D]`
-- what stays while the first m of xs are lent for ν under δ
abbrev pub Prefix : (D : Data) → ℕ → List D.row.Denot → ℕ → ℕ → ℕ → GName → Fml
Prefix D m xs b o ν δ = fsep (flent (ν ∷ []) (HeldS D.row (length (take m xs)) b o δ)) (row D.row full_share (drop_l m xs) b (place (mem D.row).size o (length (take m xs))))

prefix_long : {X : Type 0} (n m : ℕ) (xs y : List X) → length xs ≡ n → m ≤ n → length y ≡ m → length (y ++ drop_l m xs) ≡ n
prefix_long n m xs y long le ey = length-append y (drop_l m xs) ∙ omega (arith, long, le, ey, length-drop m xs)

module _ {M : Type 1} {𝓤 : Ura M} {𝓛 : Logic 𝓤} {K : Type 0} {Γ : List (Item 𝓤)} {G : Goal 𝓤 𝓛.H} where
  -- `&mut x.field[..m]`
  pub lends_prefix : K → Soaks G → (D : Data) → Single D.row.mir → (n m : ℕ) (xs : List D.row.Denot) (b o : ℕ) → m ≤ n → Room D.row m
      → ((ν : ℕ) (δ : GName) → length xs ≡ n → length (take m xs) ≡ m → Seq K 𝓛 (‵ (flft (ν ∷ []) full_share) ∷ ‵ (MutS D (ν ∷ []) b o δ m (take m xs)) ∷ ‵ (Prefix D m xs b o ν δ) ∷ Γ) G)
      → Seq K 𝓛 (‵ (part_at (Array D.row n) full_share xs b o) ∷ Γ) G
  lends_prefix t z D one n m xs b o le rm k = elems_of t D.row one full_share n xs b o (λ long.
      let us : List D.row.Denot = take m xs in
      let lu : length us ≡ m = length-take-le m xs (omega (arith, long, le)) in
      rewrite t 0 (λ (zs : List D.row.Denot). ‵ (row D.row full_share zs b o)) (sym (take-append-drop m xs)) refl $ cuts_row t D.row full_share us (drop_l m xs) b o $
      lends_row t z D us b o (subst (Room D.row) (sym lu) rm) (λ ν δ. rewrite t 1 (λ (j : ℕ). ‵ (MutS D (ν ∷ []) b o δ j us)) lu refl $ move t (2 ∷ 3 ∷ []) $ fjoin t $ move t (1 ∷ 2 ∷ 0 ∷ []) $ k ν δ long lu))

  -- and it comes back, at y and then the others
  pub prefix_back : K → Soaks G → (D : Data) (n m : ℕ) (xs : List D.row.Denot) (b o : ℕ) → m ≤ n → length xs ≡ n → length (take m xs) ≡ m → (w y : List D.row.Denot) → w ≡ y → {ν : ℕ} {δ : GName}
      → Seq K 𝓛 (‵ (part_at (Array D.row n) full_share (y ++ drop_l m xs) b o) ∷ Γ) G
      → Seq K 𝓛 (‵ (flft (ν ∷ []) full_share) ∷ ‵ (LeftS D (ν ∷ []) b o δ (length (take m xs)) w) ∷ ‵ (Prefix D m xs b o ν δ) ∷ Γ) G
  prefix_back t z D n m xs b o le long lu w y e s = move t (2 ∷ []) $ fsplit t $ move t (2 ∷ 3 ∷ 0 ∷ []) $ row_back t z D (take m xs) w b o (λ l.
      rewrite t 0 (λ (zs : List D.row.Denot). ‵ (row D.row full_share zs b o)) e refl $
      rewrite t 1 (λ (j : ℕ). ‵ (row D.row full_share (drop_l m xs) b (place (mem D.row).size o j))) (sym (ap length (sym e) ∙ l)) refl $
      joins_row t D.row full_share y (drop_l m xs) b o $ array_of t D.row full_share n (y ++ drop_l m xs) b o (prefix_long n m xs y long le (ap length (sym e) ∙ l ∙ lu)) $ s)

-- ---- the first m elements of an array in memory are lent as a `&[D]`
-- what stays while the first m of xs are lent for ν
abbrev pub PrefixKept : (D : Data) → Share → ℕ → ℕ → List D.row.Denot → ℕ → ℕ → Fml
PrefixKept D q ν m xs b o =
    fsep (flent (ν ∷ []) ((arr_parts (shares D.row) (length (take m xs))).part q (take m xs) b o))
    (row D.row q (drop_l m xs) b (place (mem D.row).size o (length (take m xs))))

module _ {M : Type 1} {𝓤 : Ura M} {𝓛 : Logic 𝓤} {K : Type 0} {Γ : List (Item 𝓤)} {G : Goal 𝓤 𝓛.H} where
  pub shares_prefix : K → Soaks G → (D : Data) → Single D.row.mir → (q : Share) (n m : ℕ) (xs : List D.row.Denot) (b o : ℕ) → m ≤ n → Room D.row m
      → ((ν : ℕ) → length xs ≡ n → Seq K 𝓛 (‵ (flft (ν ∷ []) full_share) ∷ ‵ (ShrS D (ν ∷ []) b o m (take m xs)) ∷ ‵ (PrefixKept D q ν m xs b o) ∷ Γ) G)
      → Seq K 𝓛 (‵ (part_at (Array D.row n) q xs b o) ∷ Γ) G
  shares_prefix t z D one q n m xs b o le rm k = elems_of t D.row one q n xs b o (λ long.
      let us : List D.row.Denot = take m xs in
      let lu : length us ≡ m = length-take-le m xs (omega (arith, long, le)) in
      rewrite t 0 (λ (zs : List D.row.Denot). ‵ (row D.row q zs b o)) (sym (take-append-drop m xs)) refl $ cuts_row t D.row q us (drop_l m xs) b o $
      shares_row t z D q us b o (subst (Room D.row) (sym lu) rm) (λ ν. rewrite t 1 (λ (j : ℕ). ‵ (ShrS D (ν ∷ []) b o j us)) lu refl $
      move t (2 ∷ 3 ∷ []) $ fjoin t $ move t (1 ∷ 2 ∷ 0 ∷ []) $ k ν long))

  -- and back
  pub prefix_unshared : K → Soaks G → (D : Data) (q : Share) (n m : ℕ) (xs : List D.row.Denot) (b o : ℕ) → length xs ≡ n → {ν : ℕ}
      → Step K 𝓛 (‵ (part_at (Array D.row n) q xs b o) ∷ Γ) G (‵ (flft (ν ∷ []) full_share) ∷ ‵ (PrefixKept D q ν m xs b o) ∷ Γ) G
  prefix_unshared t z D q n m xs b o long = step (λ s. move t (1 ∷ []) $ fsplit t $ move t (2 ∷ 0 ∷ []) $ row_unshared t z D q (take m xs) b o $
      joins_row t D.row q (take m xs) (drop_l m xs) b o $ rewrite t 0 (λ (zs : List D.row.Denot). ‵ (row D.row q zs b o)) (take-append-drop m xs) refl $
      array_of t D.row q n xs b o long $ s)
