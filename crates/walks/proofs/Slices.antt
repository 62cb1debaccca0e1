-- Rows of elements, arrays in memory, and slices.
--     takes_at, back_at, puts_at   element i of a row, as a cell that a statement reads or stores; put back as it was, or with another value
--     cuts_row, joins_row          a row of us ++ vs is a row of us and a row of vs behind it, and back
--     shares_row, row_unshared     a share of a row is lent as a `&[D]`, and comes back
--     lends_row, row_back          a row that is owned is lent as a `&mut [D]`, and comes back at its last list
--     elems_of, array_of           an array in memory is its elements in a row, and back
--     lends_array, array_back      an array is lent as a `&mut [D]` of its count, and comes back
--     shares_array, array_unshared a share of an array is lent as a `&[D]`, and comes back
--     opened_slice, closed_slice   a `&mut [D]` is opened to its row, and closed at another list of the same length
--     looked_slice, shut_slice     a `&[D]` is looked into, which gives a share of its row, and shut
--     lends_s, backs_s               a `&mut [D]` is lent again as a `&mut [D]`, and comes back at its last list
--     lends_as_shr, shr_back       a `&mut [D]` is lent as a `&[D]`, and comes back
-- What comes back is always asked in the order [token; what the call left of the reference, `LeftS` of a `&mut [D]`; what was kept].
-- Assumes `Logic`.
use mathlib.Core.Path.{◌≡◌, refl, sym, ap, subst, ◌∙◌}
use Prim.Native.Nat.{ℕ, ◌+◌, ◌<◌}
use mathlib.Core.List.{List, [], ◌∷◌, ◌++◌}
use lib.ListN.{length, get_or, set}
use seplogic.Ra.Ura.{Ura}
use base.Fraction.{full_share}
use mir.Syntax.{erased}
use mir.Val.{Val}
use base.Fml.{Lft, GName, Share, Fml, fsep, flft, flent, fbor, fobor, fobs, fauth, feq, ftrue, fdead, fhide}
use types.Logic.{Logic, sem}
use types.Kit.{Item, ‵, raw, mean, ◌⊛◌, some, later, Goal, Soaks, Seq, Step, step, ◌$◌, move, use1, use2, use3, drop, split, join, pick, rewrite, fsplit, fjoin, feq_l, await, feq_i, use0, qed, done, !, ◌∵◌, updating, now as at_once}
use types.Tokens.{lft_new, lft_end, lent_back}
use types.SemTy.{cells, Arr}
use denote.Memory.{cell_at, part_at, mem, shares}
use denote.Array.{Array}
use denote.ArrayMemory.{Single, Array-apart, Array-whole}
use types.Share.{arr_parts}
use denote.Laws.{Is, shows}
use denote.Shadow.{pure_l, pure_i}
use denote.Slice.{slice_val, mut_slice_at, shr_slice_at, ShrSlice, shr_slice_copy, Room, heres, finally, coded_holeys, elements_shared, elements_shr_laws}
use denote.Lend.{Held as HeldS, lends_slice, slice_back}
use denote.Lends.{Lent, Lent-map}
use denote.Copied.{each_lends}
use denote.Opens.{Shut}
use denote.SharingLaws.{shortens}
use denote.Index.{row, others, place, whole_in, whole_out, opens_slice, closes_slice, looks_slice, shuts_slice, elem_out, elem_put, elem_back}
use denote.Steps.{owned, peeks}
use borrow.Rule.Slice.Reshare.{kept_s, sl_reshare_as, sl_reshare_back}
use base.Logic.{ent, id⊢, sep, emp}
use denote.RattleType.{RattleType}
use borrow.Table.Owned as table
use borrow.Rule.Array.Rows.{parts_f}
use types.Late.{deep, deep_out}
use Rattle.walks.proofs.Data.{Data, Good, MutS, ShrS}

-- what a call leaves of a `&κ mut [D]` of n elements at (b, o) under δ, at its last list w: that list for good, with its length, and the borrow, closed
abbrev pub LeftS : (D : Data) → Lft → ℕ → ℕ → GName → ℕ → List D.row.Denot → Fml
LeftS D κ b o δ n w = fsep (fsep (finally D.row δ w) (feq ℕ (length w) n)) (fbor κ (HeldS D.row n b o δ))

-- ---- rows: `row R q xs b o` is "a share q of each of xs lies one after the other from (b, o) on"
module _ {M : Type 1} {𝓤 : Ura M} (𝓛 : Logic 𝓤) (R : RattleType) (q : Share) where
  row_cut : (us vs : List R.Denot) (b o : ℕ) → ent 𝓤 (sem 𝓛 (row R q (us ++ vs) b o)) (sep 𝓤 (sem 𝓛 (row R q us b o)) (sem 𝓛 (row R q vs b (place (mem R).size o (length us)))))
  row_cut [] vs b o = qed 𝓛 (‵ (row R q vs b o) ∷ []) ∵ use0 𝓛 (‵ ftrue) (id⊢ 𝓤 (emp 𝓤)) $ done !
  row_cut (u ∷ us) vs b o = qed 𝓛 (‵ (row R q (u ∷ (us ++ vs)) b o) ∷ []) ∵ fsplit ! $ move ! (1 ∷ []) $
      use1 𝓛 (‵ (row R q us b (o + (mem R).size)) ⊛ ‵ (row R q vs b (place (mem R).size (o + (mem R).size) (length us)))) (row_cut us vs b (o + (mem R).size)) $ split ! $ move ! (2 ∷ 0 ∷ []) $ fjoin ! $ done !

  row_join : (us vs : List R.Denot) (b o : ℕ) → ent 𝓤 (sep 𝓤 (sem 𝓛 (row R q us b o)) (sem 𝓛 (row R q vs b (place (mem R).size o (length us))))) (sem 𝓛 (row R q (us ++ vs) b o))
  row_join [] vs b o = qed 𝓛 (‵ (row R q [] b o) ∷ ‵ (row R q vs b o) ∷ []) ∵ drop ! $ done !
  row_join (u ∷ us) vs b o = qed 𝓛 (‵ (row R q (u ∷ us) b o) ∷ ‵ (row R q vs b (place (mem R).size (o + (mem R).size) (length us))) ∷ []) ∵ fsplit ! $ move ! (1 ∷ 2 ∷ []) $
      use2 𝓛 (‵ (row R q (us ++ vs) b (o + (mem R).size))) (row_join us vs b (o + (mem R).size)) $ move ! (1 ∷ 0 ∷ []) $ fjoin ! $ done !

module _ {M : Type 1} {𝓤 : Ura M} (𝓛 : Logic 𝓤) (D : Data) where
  open 𝓛 use {H, A}

  -- a share of a row as what a `&[D]` holds and the lender's right, at any κ
  row_lent : (q : Share) (xs : List D.row.Denot) (b o : ℕ) → Lent 𝓛 ((arr_parts (shares D.row) (length xs)).part q xs b o) (elements_shared D.row xs b o)
  row_lent q xs b o = Lent-map 𝓛 ((arr_parts (shares D.row) (length xs)).part q xs b o) (row D.row q xs b o) (elements_shared D.row xs b o)
      (qed 𝓛 (‵ ((arr_parts (shares D.row) (length xs)).part q xs b o) ∷ []) ∵ fsplit ! $ drop ! $ done !)
      (qed 𝓛 (‵ (row D.row q xs b o) ∷ []) ∵ feq_i ! ℕ (length xs) (length xs) refl $ done !)
      (each_lends 𝓛 D.row (D.copied 𝓛) q xs b o)

  -- so it is lent as a `&[D]`
  row_shared : (κ : Lft) (q : Share) (xs : List D.row.Denot) (b o : ℕ) → Room D.row (length xs)
      → ent 𝓤 (sem 𝓛 (row D.row q xs b o)) (H.⇛ (sep 𝓤 (sem 𝓛 (ShrS D κ b o (length xs) xs)) (A.lent κ ((arr_parts (shares D.row) (length xs)).part q xs b o))))
  row_shared κ q xs b o rm =
      qed 𝓛 (‵ (row D.row q xs b o) ∷ []) ∵ updating ! $ feq_i ! ℕ (length xs) (length xs) refl $ fjoin ! $
      use1 𝓛 (later (‵ (fhide (elements_shared D.row xs b o κ)) ⊛ ‵ (flent κ ((arr_parts (shares D.row) (length xs)).part q xs b o)))) (row_lent q xs b o κ) $ await ! tt $ split ! $
      pure_i ! (shr_slice_at D.row (record { ref_ptr = (b, o); now = xs }) (slice_val (b, o) (length xs) ∷ [])) (tt, (tt, tt)) (refl, rm) $ fjoin ! $ at_once ! $ done !

module _ {M : Type 1} {𝓤 : Ura M} {𝓛 : Logic 𝓤} {K : Type 0} {Γ : List (Item 𝓤)} {G : Goal 𝓤 𝓛.H} where
  -- a row is cut in two, and joined
  pub cuts_row : K → (R : RattleType) (q : Share) (us vs : List R.Denot) (b o : ℕ) → Step K 𝓛 (‵ (row R q us b o) ∷ ‵ (row R q vs b (place (mem R).size o (length us))) ∷ Γ) G (‵ (row R q (us ++ vs) b o) ∷ Γ) G
  cuts_row t R q us vs b o = step (λ s. use1 𝓛 (‵ (row R q us b o) ⊛ ‵ (row R q vs b (place (mem R).size o (length us)))) (row_cut 𝓛 R q us vs b o) $ split t $ s)

  -- and joined
  pub joins_row : K → (R : RattleType) (q : Share) (us vs : List R.Denot) (b o : ℕ) → Step K 𝓛 (‵ (row R q (us ++ vs) b o) ∷ Γ) G (‵ (row R q us b o) ∷ ‵ (row R q vs b (place (mem R).size o (length us))) ∷ Γ) G
  joins_row t R q us vs b o = step (λ s. use2 𝓛 (‵ (row R q (us ++ vs) b o)) (row_join 𝓛 R q us vs b o) $ s)

  -- element i of a row, as a cell
  pub takes_at : K → (D : Data) (q : Share) (xs : List D.row.Denot) (i : ℕ) (d : D.row.Denot) (b o : ℕ) → i < length xs
      → (Good D (get_or xs i d) → Seq K 𝓛 (‵ (cell_at q D.row.mir (D.val (get_or xs i d) ∷ []) b (place (mem D.row).size o i)) ∷ ‵ (others (shares D.row) q xs i b o) ∷ Γ) G)
      → Seq K 𝓛 (‵ (row D.row q xs b o) ∷ Γ) G
  takes_at t D q xs i d b o l k = elem_out t D.row (Is D.row) (shows 𝓛 D.row) (λ y. D.val y ∷ []) D.tells q xs i d b o l (λ is. move t (1 ∷ []) $ drop t $ k is)

  -- it is put back as it was
  pub back_at : K → (D : Data) (q : Share) (xs : List D.row.Denot) (i : ℕ) (d : D.row.Denot) (b o : ℕ) → i < length xs → Good D (get_or xs i d)
      → Step K 𝓛 (‵ (row D.row q xs b o) ∷ Γ) G (‵ (cell_at q D.row.mir (D.val (get_or xs i d) ∷ []) b (place (mem D.row).size o i)) ∷ ‵ (others (shares D.row) q xs i b o) ∷ Γ) G
  back_at t D q xs i d b o l is = step (λ s. owned t D.row (Is D.row) (D.made 𝓛) (get_or xs i d) (D.val (get_or xs i d) ∷ []) is $ move t (1 ∷ 0 ∷ []) $ elem_back t D.row q xs i d (D.val (get_or xs i d) ∷ []) b o l $ s)

  -- once its cell holds y, the row has y in its place
  pub puts_at : K → (D : Data) (q : Share) (xs : List D.row.Denot) (i : ℕ) (y : D.row.Denot) (b o : ℕ) → i < length xs → Good D y
      → Step K 𝓛 (‵ (row D.row q (set xs i y) b o) ∷ Γ) G (‵ (cell_at q D.row.mir (D.val y ∷ []) b (place (mem D.row).size o i)) ∷ ‵ (others (shares D.row) q xs i b o) ∷ Γ) G
  puts_at t D q xs i y b o l is = step (λ s. owned t D.row (Is D.row) (D.made 𝓛) y (D.val y ∷ []) is $ move t (1 ∷ 0 ∷ []) $ elem_put t D.row q xs i y (D.val y ∷ []) b o l $ s)

  -- a share of a row is lent as a `&[D]`, for a lifetime of its own, and comes back
  pub shares_row : K → Soaks G → (D : Data) (q : Share) (xs : List D.row.Denot) (b o : ℕ) → Room D.row (length xs)
      → ((ν : ℕ) → Seq K 𝓛 (‵ (flft (ν ∷ []) full_share) ∷ ‵ (ShrS D (ν ∷ []) b o (length xs) xs) ∷ ‵ (flent (ν ∷ []) ((arr_parts (shares D.row) (length xs)).part q xs b o)) ∷ Γ) G)
      → Seq K 𝓛 (‵ (row D.row q xs b o) ∷ Γ) G
  shares_row t z D q xs b o rm k = lft_new t z (λ ν. move t (1 ∷ []) $
      use1 𝓛 (later (‵ (ShrS D (ν ∷ []) b o (length xs) xs) ⊛ ‵ (flent (ν ∷ []) ((arr_parts (shares D.row) (length xs)).part q xs b o)))) (row_shared 𝓛 D (ν ∷ []) q xs b o rm) $
      await t z $ split t $ move t (2 ∷ []) $ k ν)

  -- and comes back
  pub row_unshared : K → Soaks G → (D : Data) (q : Share) (xs : List D.row.Denot) (b o : ℕ) {ν : ℕ}
      → Step K 𝓛 (‵ (row D.row q xs b o) ∷ Γ) G (‵ (flft (ν ∷ []) full_share) ∷ ‵ (flent (ν ∷ []) ((arr_parts (shares D.row) (length xs)).part q xs b o)) ∷ Γ) G
  row_unshared t z D q xs b o = step (λ s. lft_end t z $ lent_back t z $ fsplit t $ drop t $ s)

  -- a row that is owned is lent as a `&mut [D]`, for a lifetime of its own, and comes back at its last list
  pub lends_row : K → Soaks G → (D : Data) (ys : List D.row.Denot) (b o : ℕ) → Room D.row (length ys)
      → ((ν : ℕ) (δ : GName) → Seq K 𝓛 (‵ (flft (ν ∷ []) full_share) ∷ ‵ (MutS D (ν ∷ []) b o δ (length ys) ys) ∷ ‵ (flent (ν ∷ []) (HeldS D.row (length ys) b o δ)) ∷ Γ) G)
      → Seq K 𝓛 (‵ (row D.row full_share ys b o) ∷ Γ) G
  lends_row t z D ys b o rm k = use1 𝓛 (‵ (cells (mem D.row) ys b o)) (whole_in 𝓛 D.row ys b o) $ lft_new t z (λ ν. move t (1 ∷ []) $
      use1 𝓛 (later (some (λ (δ : GName). ‵ (MutS D (ν ∷ []) b o δ (length ys) ys) ⊛ ‵ (flent (ν ∷ []) (HeldS D.row (length ys) b o δ)))))
      (lends_slice 𝓛 D.row erased (ν ∷ []) ys b o rm) $ await t z $ pick t (λ δ. split t $ move t (2 ∷ []) $ k ν δ))

  -- and comes back, at the last list w, of the same length
  pub row_back : K → Soaks G → (D : Data) (ys w : List D.row.Denot) (b o : ℕ) {ν : ℕ} {δ : GName} → (length w ≡ length ys → Seq K 𝓛 (‵ (row D.row full_share w b o) ∷ Γ) G)
      → Seq K 𝓛 (‵ (flft (ν ∷ []) full_share) ∷ ‵ (LeftS D (ν ∷ []) b o δ (length ys) w) ∷ ‵ (flent (ν ∷ []) (HeldS D.row (length ys) b o δ)) ∷ Γ) G
  row_back t z D ys w b o {ν} {δ} k = move t (1 ∷ []) $ fsplit t $ move t (1 ∷ []) $ drop t $ fsplit t $ move t (1 ∷ []) $ feq_l t (λ l. move t (1 ∷ []) $ lft_end t z $ move t (0 ∷ 2 ∷ 1 ∷ []) $
      use3 𝓛 (later (‵ ((Arr (mem D.row) (length ys)).own_at w b o))) (slice_back 𝓛 D.row (ν ∷ []) δ w (length ys) b o) $ await t z $ fsplit t $ drop t $
      use1 𝓛 (‵ (row D.row full_share w b o)) (whole_out 𝓛 D.row w b o) $ k l)

-- ---- arrays in memory
module _ {M : Type 1} {𝓤 : Ura M} {𝓛 : Logic 𝓤} {K : Type 0} {Γ : List (Item 𝓤)} {G : Goal 𝓤 𝓛.H} where
  -- an array in memory is its elements in a row, and back
  pub elems_of : K → (R : RattleType) → Single R.mir → (q : Share) (n : ℕ) (xs : List R.Denot) (b o : ℕ) → (length xs ≡ n → Seq K 𝓛 (‵ (row R q xs b o) ∷ Γ) G) → Seq K 𝓛 (‵ (part_at (Array R n) q xs b o) ∷ Γ) G
  elems_of t R one q n xs b o k = use1 𝓛 (‵ ((arr_parts (shares R) n).part q xs b o)) (Array-apart 𝓛 R q one n xs b o) $ fsplit t $ feq_l t (λ e. k e)

  -- and back
  pub array_of : K → (R : RattleType) (q : Share) (n : ℕ) (xs : List R.Denot) (b o : ℕ) → length xs ≡ n → Step K 𝓛 (‵ (part_at (Array R n) q xs b o) ∷ Γ) G (‵ (row R q xs b o) ∷ Γ) G
  array_of t R q n xs b o e = step (λ s. feq_i t ℕ (length xs) n e $ fjoin t $ use1 𝓛 (‵ (part_at (Array R n) q xs b o)) (Array-whole 𝓛 R q n xs b o) $ s)

  -- an array is lent as a `&mut [D]`, and comes back at the list y that the callee's contract says
  pub lends_array : K → Soaks G → (D : Data) → Single D.row.mir → (n : ℕ) (xs : List D.row.Denot) (b o : ℕ) → Room D.row n
      → ((ν : ℕ) (δ : GName) → length xs ≡ n → Seq K 𝓛 (‵ (flft (ν ∷ []) full_share) ∷ ‵ (MutS D (ν ∷ []) b o δ n xs) ∷ ‵ (flent (ν ∷ []) (HeldS D.row (length xs) b o δ)) ∷ Γ) G)
      → Seq K 𝓛 (‵ (part_at (Array D.row n) full_share xs b o) ∷ Γ) G
  lends_array t z D one n xs b o rm k = elems_of t D.row one full_share n xs b o (λ long. lends_row t z D xs b o (subst (Room D.row) (sym long) rm) (λ ν δ.
      rewrite t 1 (λ (j : ℕ). ‵ (MutS D (ν ∷ []) b o δ j xs)) long refl $ k ν δ long))

  -- and comes back
  pub array_back : K → Soaks G → (D : Data) (n : ℕ) (xs : List D.row.Denot) (b o : ℕ) → length xs ≡ n → (w y : List D.row.Denot) → w ≡ y → {ν : ℕ} {δ : GName}
      → Seq K 𝓛 (‵ (part_at (Array D.row n) full_share y b o) ∷ Γ) G
      → Seq K 𝓛 (‵ (flft (ν ∷ []) full_share) ∷ ‵ (LeftS D (ν ∷ []) b o δ (length xs) w) ∷ ‵ (flent (ν ∷ []) (HeldS D.row (length xs) b o δ)) ∷ Γ) G
  array_back t z D n xs b o long w y e s = row_back t z D xs w b o (λ l. rewrite t 0 (λ (zs : List D.row.Denot). ‵ (row D.row full_share zs b o)) e refl $
      array_of t D.row full_share n y b o (ap length (sym e) ∙ l ∙ long) $ s)

  -- a share of an array is lent as a `&[D]`, and comes back
  pub shares_array : K → Soaks G → (D : Data) → Single D.row.mir → (q : Share) (n : ℕ) (xs : List D.row.Denot) (b o : ℕ) → Room D.row n
      → ((ν : ℕ) → length xs ≡ n → Seq K 𝓛 (‵ (flft (ν ∷ []) full_share) ∷ ‵ (ShrS D (ν ∷ []) b o n xs) ∷ ‵ (flent (ν ∷ []) ((arr_parts (shares D.row) (length xs)).part q xs b o)) ∷ Γ) G)
      → Seq K 𝓛 (‵ (part_at (Array D.row n) q xs b o) ∷ Γ) G
  shares_array t z D one q n xs b o rm k = elems_of t D.row one q n xs b o (λ long. shares_row t z D q xs b o (subst (Room D.row) (sym long) rm) (λ ν.
      rewrite t 1 (λ (j : ℕ). ‵ (ShrS D (ν ∷ []) b o j xs)) long refl $ k ν long))

  -- and comes back
  pub array_unshared : K → Soaks G → (D : Data) (q : Share) (n : ℕ) (xs : List D.row.Denot) (b o : ℕ) → length xs ≡ n → {ν : ℕ}
      → Step K 𝓛 (‵ (part_at (Array D.row n) q xs b o) ∷ Γ) G (‵ (flft (ν ∷ []) full_share) ∷ ‵ (flent (ν ∷ []) ((arr_parts (shares D.row) (length xs)).part q xs b o)) ∷ Γ) G
  array_unshared t z D q n xs b o long = step (λ s. row_unshared t z D q xs b o $ array_of t D.row q n xs b o long $ s)

-- ---- a `&mut [D]` and a `&[D]`, opened
-- what is left of a `&κ mut [D]` under γ that was opened at xs
abbrev pub OpenS : (D : Data) → Lft → Share → GName → List D.row.Denot → ℕ → ℕ → Fml
OpenS D κ q γ xs b o = fsep (fobor κ q (HeldS D.row (length xs) b o γ)) (fsep (fobs γ ((coded_holeys D.row).code (heres D.row xs))) (fauth γ ((coded_holeys D.row).code (heres D.row xs))))

-- what is left of a `&κ [D]` that was looked into at the share s
abbrev pub LookS : {M : Type 1} {𝓤 : Ura M} (𝓛 : Logic 𝓤) (D : Data) → Lft → Share → Share → List D.row.Denot → ℕ → ℕ → Item 𝓤
LookS 𝓛 D κ q s ys b o = Shut 𝓛 κ q (row D.row s ys b o) ⊛ ‵ (ShrS D κ b o (length ys) ys)

module _ {M : Type 1} {𝓤 : Ura M} {𝓛 : Logic 𝓤} {K : Type 0} {Γ : List (Item 𝓤)} {G : Goal 𝓤 𝓛.H} where
  -- a `&mut [D]` is opened to its row, and closed at another list of the same length
  pub opened_slice : K → Soaks G → (D : Data) {κ : Lft} {q : Share} {γ : GName} (m : ℕ) (xs : List D.row.Denot) (b o : ℕ) → m ≡ length xs
      → (Room D.row (length xs) → Seq K 𝓛 (‵ (row D.row full_share xs b o) ∷ ‵ (OpenS D κ q γ xs b o) ∷ Γ) G) → Seq K 𝓛 (‵ (MutS D κ b o γ m xs) ∷ ‵ (flft κ q) ∷ Γ) G
  opened_slice t z D {κ} {q} {γ} m xs b o em k = rewrite t 0 (λ (j : ℕ). ‵ (MutS D κ b o γ j xs)) em refl $ fsplit t $
      pure_l t (mut_slice_at D.row (record { ref_ptr = (b, o); ghost_name = γ; now = xs }) (slice_val (b, o) (length xs) ∷ [])) (λ p. fsplit t $ opens_slice t z D.row xs b o $
      move t (2 ∷ 3 ∷ []) $ fjoin t $ move t (2 ∷ 0 ∷ []) $ fjoin t $ move t (1 ∷ 0 ∷ []) $ k p.1)

  -- and closed at another list of the same length
  pub closed_slice : K → Soaks G → (D : Data) {κ : Lft} {q : Share} {γ : GName} (m : ℕ) (xs ys : List D.row.Denot) (b o : ℕ) → m ≡ length xs → length ys ≡ length xs → Room D.row (length xs)
      → Step K 𝓛 (‵ (MutS D κ b o γ m ys) ∷ ‵ (flft κ q) ∷ Γ) G (‵ (row D.row full_share ys b o) ∷ ‵ (OpenS D κ q γ xs b o) ∷ Γ) G
  closed_slice t z D {κ} {q} {γ} m xs ys b o em e rm = step (λ s. move t (1 ∷ []) $ fsplit t $ move t (1 ∷ []) $ fsplit t $ move t (3 ∷ 2 ∷ 0 ∷ 1 ∷ []) $ closes_slice t z D.row xs ys e b o $
      fjoin t $ pure_i t (mut_slice_at D.row (record { ref_ptr = (b, o); ghost_name = γ; now = ys }) (slice_val (b, o) (length xs) ∷ [])) (tt, (tt, tt)) (ap (λ (j : ℕ). slice_val (b, o) j ∷ []) (sym e), subst (Room D.row) (sym e) rm) $ fjoin t $
      rewrite t 0 (λ (j : ℕ). ‵ (MutS D κ b o γ j ys)) (sym em) refl $ s)

  -- a `&[D]` is looked into, which gives a share of its row, and shut
  pub looked_slice : K → Soaks G → (D : Data) {κ : Lft} {q : Share} (ys : List D.row.Denot) (b o : ℕ)
      → ((s : Share) → Room D.row (length ys) → Seq K 𝓛 (‵ (row D.row s ys b o) ∷ LookS 𝓛 D κ q s ys b o ∷ Γ) G) → Seq K 𝓛 (‵ (ShrS D κ b o (length ys) ys) ∷ ‵ (flft κ q) ∷ Γ) G
  looked_slice t z D {κ} {q} ys b o k =
      peeks t (ShrSlice erased κ D.row) (Is (ShrSlice erased κ D.row)) (shows 𝓛 (ShrSlice erased κ D.row)) (record { ref_ptr = (b, o); now = ys }) (slice_val (b, o) (length ys) ∷ []) (λ p.
      use1 𝓛 (‵ (ShrS D κ b o (length ys) ys) ⊛ ‵ (ShrS D κ b o (length ys) ys)) ((shr_slice_copy 𝓛 erased κ D.row D.shr_laws).twice (record { ref_ptr = (b, o); now = ys }) (slice_val (b, o) (length ys) ∷ [])) $ split t $
      fsplit t $ drop t $ move t (0 ∷ 2 ∷ []) $
      looks_slice t z D.row (D.copied 𝓛) ys b o (λ s.
      -- [the share; what shuts; what the `&` holds; the reference]
      move t (2 ∷ []) $ drop t $ move t (1 ∷ 2 ∷ []) $ join t $ move t (1 ∷ 0 ∷ []) $ k s p.0.1))

  -- and shut
  pub shut_slice : K → Soaks G → (D : Data) {κ : Lft} {q : Share} (s : Share) (ys : List D.row.Denot) (b o : ℕ)
      → Step K 𝓛 (‵ (ShrS D κ b o (length ys) ys) ∷ ‵ (flft κ q) ∷ Γ) G (‵ (row D.row s ys b o) ∷ LookS 𝓛 D κ q s ys b o ∷ Γ) G
  shut_slice t z D s ys b o = step (λ p. move t (1 ∷ []) $ split t $ move t (2 ∷ 0 ∷ []) $ shuts_slice t z D.row s ys b o $ move t (1 ∷ 0 ∷ []) $ p)

-- ---- a `&mut [D]` lent again
-- what the holder of a `&κ mut [D]` keeps while it is lent again for κ' under δ
abbrev pub KeptM : (D : Data) → Lft → Lft → Share → GName → ℕ → ℕ → GName → List D.row.Denot → Fml
KeptM D κ κ' q γ b o δ xs = fsep (flent κ' (HeldS D.row (length xs) b o δ)) (OpenS D κ q γ xs b o)

module _ {M : Type 1} {𝓤 : Ura M} {𝓛 : Logic 𝓤} {K : Type 0} {Γ : List (Item 𝓤)} {G : Goal 𝓤 𝓛.H} where
  -- as a `&mut [D]`, at the list us; and it comes back at the list y that the callee's contract says
  pub lends_s : K → Soaks G → (D : Data) {κ : Lft} {s : Share} {b o : ℕ} {γ : GName} (m : ℕ) (us : List D.row.Denot) → m ≡ length us
      → ((ν : ℕ) (δ : GName) → Room D.row (length us) → Seq K 𝓛 (‵ (flft (ν ∷ []) full_share) ∷ ‵ (MutS D (ν ∷ []) b o δ m us) ∷ ‵ (KeptM D κ (ν ∷ []) s γ b o δ us) ∷ Γ) G)
      → Seq K 𝓛 (‵ (MutS D κ b o γ m us) ∷ ‵ (flft κ s) ∷ Γ) G
  lends_s t z D {κ} {s} {b} {o} {γ} m us em k = opened_slice t z D m us b o em (λ rm. lends_row t z D us b o rm (λ ν δ.
      -- [token; reference; lent; open]
      rewrite t 1 (λ (j : ℕ). ‵ (MutS D (ν ∷ []) b o δ j us)) (sym em) refl $ move t (2 ∷ 3 ∷ []) $ fjoin t $ move t (1 ∷ 2 ∷ 0 ∷ []) $ k ν δ rm))

  -- and comes back
  pub backs_s : K → Soaks G → (D : Data) {κ : Lft} {ν : ℕ} {s : Share} {b o : ℕ} {γ δ : GName} (m : ℕ) (us : List D.row.Denot) → m ≡ length us → Room D.row (length us) → (w y : List D.row.Denot) → w ≡ y
      → (m ≡ length y → Seq K 𝓛 (‵ (MutS D κ b o γ m y) ∷ ‵ (flft κ s) ∷ Γ) G)
      → Seq K 𝓛 (‵ (flft (ν ∷ []) full_share) ∷ ‵ (LeftS D (ν ∷ []) b o δ (length us) w) ∷ ‵ (KeptM D κ (ν ∷ []) s γ b o δ us) ∷ Γ) G
  backs_s t z D {κ} {ν} {s} {b} {o} {γ} {δ} m us em rm w y e k = move t (2 ∷ []) $ fsplit t $ move t (2 ∷ 3 ∷ 0 ∷ []) $ row_back t z D us w b o (λ l.
      rewrite t 0 (λ (x : List D.row.Denot). ‵ (row D.row full_share x b o)) e refl $ closed_slice t z D m us y b o em (ap length (sym e) ∙ l) rm $ k (em ∙ sym (ap length (sym e) ∙ l)))

module _ {M : Type 1} {𝓤 : Ura M} (𝓛 : Logic 𝓤) (D : Data) (κ κ' : Lft) (q : Share) (γ : GName) (b o : ℕ) where
  open 𝓛 use {H, A}

  -- all the elements, lent at κ' with the lender's right at any age
  each_shared : (ys : List D.row.Denot) → Room D.row (length ys) → (n : ℕ) → ent 𝓤 (sep 𝓤 (sem 𝓛 (cells (mem D.row) ys b o)) (emp 𝓤))
      (H.⇛ (sep 𝓤 (sep 𝓤 (sem 𝓛 ((table.ShrSlice erased κ' D.row).own_val (record { ref_ptr = (b, o); now = ys }))) (A.lent (deep n κ') (parts_f D.row ys b o))) (emp 𝓤)))
  each_shared ys rm n =
      qed 𝓛 (‵ (cells (mem D.row) ys b o) ∷ raw (emp 𝓤) ∷ []) ∵ updating ! $ use1 𝓛 (‵ (row D.row full_share ys b o)) (whole_out 𝓛 D.row ys b o) $
      use1 𝓛 (later (‵ (ShrS D (deep n κ') b o (length ys) ys) ⊛ ‵ (flent (deep n κ') (parts_f D.row ys b o)))) (row_shared 𝓛 D (deep n κ') full_share ys b o rm) $ await ! tt $ split ! $ fsplit ! $ move ! (1 ∷ []) $
      use1 𝓛 (‵ (fhide (elements_shared D.row ys b o κ'))) (shortens 𝓛 (elements_shared D.row ys b o) (elements_shr_laws D.row D.shr_laws ys b o) (deep n κ') κ' (deep_out n κ')) $ move ! (1 ∷ []) $
      fsplit ! $ drop ! $ fjoin ! $ join ! $ at_once ! $ done !

  shares_s : (xs : List D.row.Denot) → ent 𝓤 (sep 𝓤 (sem 𝓛 (MutS D κ b o γ (length xs) xs)) (A.lft κ q)) (H.⇛ (sep 𝓤 (sem 𝓛 (ShrS D κ' b o (length xs) xs)) (mean 𝓛 (kept_s 𝓛 D.row κ q κ' γ xs b o))))
  shares_s xs =
      qed 𝓛 (‵ (MutS D κ b o γ (length xs) xs) ∷ ‵ (flft κ q) ∷ []) ∵ updating ! $ fsplit ! $ fsplit ! $ drop ! $ move ! (0 ∷ 1 ∷ []) $ fjoin ! $ use0 𝓛 (raw (emp 𝓤)) (id⊢ 𝓤 (emp 𝓤)) $ move ! (1 ∷ 2 ∷ 0 ∷ []) $
      use3 𝓛 (later (‵ ((table.ShrSlice erased κ' D.row).own_val (record { ref_ptr = (b, o); now = xs })) ⊛ (kept_s 𝓛 D.row κ q κ' γ xs b o ⊛ raw (emp 𝓤)))) (sl_reshare_as 𝓛 D.row κ q κ' b o γ (emp 𝓤) each_shared xs) $ await ! tt $ split ! $ move ! (1 ∷ []) $ split ! $
      move ! (1 ∷ []) $ drop ! $ move ! (1 ∷ []) $ at_once ! $
      fsplit ! $ feq_i ! (List Val) (slice_val (b, o) (length xs) ∷ []) (slice_val (b, o) (length xs) ∷ []) refl $ fjoin ! $ fjoin ! $ done !

  unshares_s : (xs : List D.row.Denot) → ent 𝓤 (sep 𝓤 (A.dead κ') (mean 𝓛 (kept_s 𝓛 D.row κ q κ' γ xs b o))) (H.⇛ (sep 𝓤 (sem 𝓛 (MutS D κ b o γ (length xs) xs)) (A.lft κ q)))
  unshares_s xs =
      qed 𝓛 (‵ (fdead κ') ∷ kept_s 𝓛 D.row κ q κ' γ xs b o ∷ []) ∵ updating ! $
      use2 𝓛 (later (‵ ((table.MutSlice erased κ D.row).own_val (record { ref_ptr = (b, o); ghost_name = γ; now = xs })) ⊛ ‵ (flft κ q))) (sl_reshare_back 𝓛 D.row κ q κ' b o γ xs) $ await ! tt $ split ! $ at_once ! $
      fsplit ! $ feq_i ! (List Val) (slice_val (b, o) (length xs) ∷ []) (slice_val (b, o) (length xs) ∷ []) refl $ fjoin ! $ fjoin ! $ done !

module _ {M : Type 1} {𝓤 : Ura M} {𝓛 : Logic 𝓤} {K : Type 0} {Γ : List (Item 𝓤)} {G : Goal 𝓤 𝓛.H} where
  -- as a `&[D]`, and it comes back as it was
  pub lends_as_shr : K → Soaks G → (D : Data) {κ : Lft} {q : Share} {b o : ℕ} {γ : GName} (m : ℕ) (us : List D.row.Denot) → m ≡ length us
      → ((ν : ℕ) → Seq K 𝓛 (‵ (flft (ν ∷ []) full_share) ∷ ‵ (ShrS D (ν ∷ []) b o m us) ∷ kept_s 𝓛 D.row κ q (ν ∷ []) γ us b o ∷ Γ) G) → Seq K 𝓛 (‵ (MutS D κ b o γ m us) ∷ ‵ (flft κ q) ∷ Γ) G
  lends_as_shr t z D {κ} {q} {b} {o} {γ} m us em k = rewrite t 0 (λ (j : ℕ). ‵ (MutS D κ b o γ j us)) em refl $ lft_new t z (λ ν. move t (1 ∷ 2 ∷ []) $
      use2 𝓛 (later (‵ (ShrS D (ν ∷ []) b o (length us) us) ⊛ kept_s 𝓛 D.row κ q (ν ∷ []) γ us b o)) (shares_s 𝓛 D κ (ν ∷ []) q γ b o us) $ await t z $ split t $
      rewrite t 0 (λ (j : ℕ). ‵ (ShrS D (ν ∷ []) b o j us)) (sym em) refl $ move t (2 ∷ []) $ k ν)

  -- and comes back as it was
  pub shr_back : K → Soaks G → (D : Data) {κ : Lft} {q : Share} {b o : ℕ} {γ : GName} (m : ℕ) (us : List D.row.Denot) {ν : ℕ} → m ≡ length us
      → Step K 𝓛 (‵ (MutS D κ b o γ m us) ∷ ‵ (flft κ q) ∷ Γ) G (‵ (flft (ν ∷ []) full_share) ∷ kept_s 𝓛 D.row κ q (ν ∷ []) γ us b o ∷ Γ) G
  shr_back t z D {κ} {q} {b} {o} {γ} m us {ν} em = step (λ s. lft_end t z $ use2 𝓛 (later (‵ (MutS D κ b o γ (length us) us) ⊛ ‵ (flft κ q))) (unshares_s 𝓛 D κ (ν ∷ []) q γ b o us) $ await t z $ split t $
      rewrite t 0 (λ (j : ℕ). ‵ (MutS D κ b o γ j us)) (sym em) refl $ s)
