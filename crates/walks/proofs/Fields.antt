-- A value of plain data in memory, behind a `&` or a `&mut`; and a struct taken apart into its fields, each of which lies in memory by itself and can be lent to a call.
-- `part_at R q x b o` is "a share q of the value x of the row R lies at (b, o)".
--     opened_part, closed_part     a `&mut D` is opened to the value in memory, and closed at another value
--     opened, closed               a `&mut D` is opened to its cell, which a statement reads and stores, and closed at another value
--     looked_part, shut_part       a `&D` is looked into, which gives a share of the value in memory, and shut
--     part_of, cell_of             a value in memory from its cell, and its cell
--     lends, backs                 a `&mut D` is lent again for a call, and comes back at its last value
--     LeftR                        what a call leaves of a `&mut`: its last value for good, and the borrow, closed. `backs` and `part_back` ask for it
--     lends_as_ref, ref_back_as    a `&mut D` is lent as a `&D`, and comes back as it was
--     lends_part, part_back        what lies in memory is lent as a `&mut`, for a lifetime of its own, and comes back at its last value
--     shares_part, part_unshared   a share of it is lent as a `&`, and comes back
--     parts_out, parts_in, Again   a declared struct in memory is its fields side by side, and back, at any values of the fields
--     as_record, as_tuple          a field that is a struct, from its tuple to its record, and back
--     as_records, as_tuples        a field that is an array of structs
-- Assumes `Logic`.
use mathlib.Core.Path.{◌≡◌, refl, sym}
use Prim.Native.Nat.{ℕ, zero}
use mathlib.Core.List.{List, [], ◌∷◌, map}
use seplogic.Ra.Ura.{Ura}
use base.Fraction.{full_share}
use mir.Syntax.{Sym, erased}
use mir.Val.{Val, vptr}
use base.Logic.{SProp, ent, sep, wand, all, via, comm∗, mono_r, wand_e, all_i, all_e}
use base.Fml.{Lft, GName, Share, Fml, fsep, flft, flent, fres, fobs, fauth, fbor, fobor}
use types.Logic.{Logic, sem}
use types.Kit.{Item, ‵, ◌⊛◌, some, later, Goal, Soaks, Seq, Step, step, ◌$◌, move, use1, use3, drop, split, pick, fsplit, fsplit3, fjoin, fjoin3, fpick, fpack, feq_i, await, use2, rewrite}
use types.Tokens.{lft_new, lft_end, lent_back}
use types.Mut.{open_ref, close_ref}
use types.SemTy.{Body}
use denote.RattleType.{RattleType, Denots}
use denote.Laws.{Is, Lawfuls, Copy, shows}
use denote.Memory.{part_at, part_of as lies, cell_at, mem, shared_of}
use denote.Ref.{MutRef, ShrRef}
use denote.Lend.{lends_ref, ref_back, lends_free, LentAgain, lends_again, comes_back}
use denote.Lends.{Lent}
use denote.Opens.{Shut, shr_open, shr_Shut}
use denote.Steps.{peeks, owned}
use denote.Struct.Struct.{Struct}
use denote.Struct.Recorded.{Recorded, Recorded-part}
use denote.Struct.Steps.{spelt}
use denote.Struct.Members.{Member, rows_of, parts_at}
use denote.Struct.Parts.{shape_of, PartsBack, Struct-parts}
use denote.Array.{Array}
use lib.Dec.{T}
use borrow.Struct.Items.{Array-same}
use denote.Struct.Declared as SD
use Rattle.walks.proofs.Data.{Data, Good, Mut, Shr}

-- what the holder of a `&κ mut D` at (b, o) under γ keeps while it is lent as a `&D` for κ', at the value x
abbrev pub KeptR : (D : Data) → Lft → Lft → Share → GName → ℕ → ℕ → D.row.Denot → Fml
KeptR D κ κ' q γ b o x = fsep (flent κ' (part_at D.row full_share x b o)) (fsep (fobor κ q (Body (mem D.row) b o γ)) (fsep (fobs γ (D.row.coded.code x)) (fauth γ (D.row.coded.code x))))

-- what a call leaves of a `&κ mut R` at (b, o) under δ, at its last value y: that value for good, and the borrow, closed
abbrev pub LeftR : (R : RattleType) → Lft → ℕ → ℕ → GName → R.Denot → Fml
LeftR R κ b o δ y = fsep (fres δ (R.coded.code y)) (fbor κ (Body (mem R) b o δ))

-- ---- a value in memory, and references to it
module _ {M : Type 1} {𝓤 : Ura M} {𝓛 : Logic 𝓤} {K : Type 0} {Γ : List (Item 𝓤)} {G : Goal 𝓤 𝓛.H} where
  -- a value in memory, from its cell (what `look_in`, `store_in` want), and back
  pub part_of : K → (D : Data) (q : Share) (x : D.row.Denot) (b o : ℕ) → Good D x → Step K 𝓛 (‵ (part_at D.row q x b o) ∷ Γ) G (‵ (cell_at q D.row.mir (D.val x ∷ []) b o) ∷ Γ) G
  unfolding lies
  part_of t D q x b o is = step (λ s. owned t D.row (Is D.row) (D.made 𝓛) x (D.val x ∷ []) is $ move t (1 ∷ 0 ∷ []) $ fjoin t $
      fpack t (List Val) (λ us. fsep (cell_at q D.row.mir us b o) (D.row.own_val x us)) (D.val x ∷ []) $ s)

  -- and its cell, from the value in memory
  pub cell_of : K → (D : Data) (q : Share) (x : D.row.Denot) (b o : ℕ) → (Good D x → Seq K 𝓛 (‵ (cell_at q D.row.mir (D.val x ∷ []) b o) ∷ Γ) G) → Seq K 𝓛 (‵ (part_at D.row q x b o) ∷ Γ) G
  unfolding lies
  cell_of t D q x b o k = fpick t (λ vs. fsplit t $ spelt t D.row (Is D.row) (shows 𝓛 D.row) (λ y. D.val y ∷ []) D.tells q x vs b o $
      move t (1 ∷ []) $ peeks t D.row (Is D.row) (shows 𝓛 D.row) x (D.val x ∷ []) (λ is. drop t $ k is))

  -- a `&mut D` is opened: the value in memory, and three entries of the open borrow; and closed at another value
  pub opened_part : K → Soaks G → (D : Data) (x : D.row.Denot) {κ : Lft} {q : Share} {b o : ℕ} {γ : GName}
      → Step K 𝓛 (‵ (part_at D.row full_share x b o) ∷ ‵ (fobor κ q (Body (mem D.row) b o γ)) ∷ ‵ (fobs γ (D.row.coded.code x)) ∷ ‵ (fauth γ (D.row.coded.code x)) ∷ Γ) G (‵ (Mut D κ b o γ x) ∷ ‵ (flft κ q) ∷ Γ) G
  opened_part t z D x {b = b} {o = o} = step (λ s. fsplit3 t $ drop t $ open_ref t z (mem D.row) {x = x} {b = b} {o = o} $ s)

  -- and closed at another value
  pub closed_part : K → Soaks G → (D : Data) (x y : D.row.Denot) {κ : Lft} {q : Share} {b o : ℕ} {γ : GName}
      → Step K 𝓛 (‵ (Mut D κ b o γ y) ∷ ‵ (flft κ q) ∷ Γ) G (‵ (part_at D.row full_share y b o) ∷ ‵ (fobor κ q (Body (mem D.row) b o γ)) ∷ ‵ (fobs γ (D.row.coded.code x)) ∷ ‵ (fauth γ (D.row.coded.code x)) ∷ Γ) G
  closed_part t z D x y {b = b} {o = o} = step (λ s. close_ref t z (mem D.row) y {b = b} {o = o} $ feq_i t (List Val) (vptr b o ∷ []) (vptr b o ∷ []) refl $ fjoin3 t $ s)

  -- a `&D` is looked into: a share of the value, and what shuts it; and shut. The reference is used up, since it can be copied
  pub looked_part : K → Soaks G → (D : Data) → Copy 𝓛 D.row → (x : D.row.Denot) {κ : Lft} {q : Share} {b o : ℕ}
      → ((q' : Share) → Seq K 𝓛 (‵ (part_at D.row q' x b o) ∷ Shut 𝓛 κ q (part_at D.row q' x b o) ∷ Γ) G) → Seq K 𝓛 (‵ (Shr D κ b o x) ∷ ‵ (flft κ q) ∷ Γ) G
  looked_part t z D _ x {b = b} {o = o} k = fsplit t $ drop t $
      shr_open t z (λ s. part_at D.row s x b o) (shared_of D.row x b o) ((D.copied 𝓛).opens x b o).0 (λ q'. move t (1 ∷ []) $ k q')

  -- and shut
  pub shut_part : K → Soaks G → (D : Data) (x : D.row.Denot) {κ : Lft} {q : Share} (q' : Share) (b o : ℕ) → Step K 𝓛 (‵ (flft κ q) ∷ Γ) G (‵ (part_at D.row q' x b o) ∷ Shut 𝓛 κ q (part_at D.row q' x b o) ∷ Γ) G
  shut_part t z D x q' b o = step (λ s. move t (1 ∷ []) $ shr_Shut t z $ s)

  -- what lies in memory is lent as a `&mut`, for a lifetime ν and under a name δ of its own
  pub lends_part : K → Soaks G → (R : RattleType) (x : R.Denot) (b o : ℕ)
      → ((ν : ℕ) (δ : GName) → Seq K 𝓛 (‵ (flft (ν ∷ []) full_share) ∷ ‵ ((MutRef erased (ν ∷ []) R).own_val (record { ref_ptr = (b, o); ghost_name = δ; now = x }) (vptr b o ∷ [])) ∷ ‵ (flent (ν ∷ []) (Body (mem R) b o δ)) ∷ Γ) G)
      → Seq K 𝓛 (‵ (part_at R full_share x b o) ∷ Γ) G
  lends_part t z R x b o k = lft_new t z (λ ν. move t (1 ∷ []) $
      use1 𝓛 (later (some (λ (δ : GName). ‵ ((MutRef erased (ν ∷ []) R).own_val (record { ref_ptr = (b, o); ghost_name = δ; now = x }) (vptr b o ∷ [])) ⊛ ‵ (flent (ν ∷ []) (Body (mem R) b o δ))))) (lends_ref 𝓛 R erased (ν ∷ []) x b o) $
      await t z $ pick t (λ δ. split t $ move t (2 ∷ []) $ k ν δ))

  -- and comes back, at its last value
  pub part_back : K → Soaks G → (R : RattleType) (y : R.Denot) (b o : ℕ) {ν : ℕ} {δ : GName}
      → Step K 𝓛 (‵ (part_at R full_share y b o) ∷ Γ) G (‵ (flft (ν ∷ []) full_share) ∷ ‵ (LeftR R (ν ∷ []) b o δ y) ∷ ‵ (flent (ν ∷ []) (Body (mem R) b o δ)) ∷ Γ) G
  part_back t z R y b o {ν} {δ} = step (λ s. move t (1 ∷ []) $ fsplit t $ move t (1 ∷ []) $ drop t $ move t (1 ∷ []) $ lft_end t z $ move t (0 ∷ 2 ∷ 1 ∷ []) $ use3 𝓛 (later (‵ (part_at R full_share y b o))) (ref_back 𝓛 R (ν ∷ []) δ y b o) $ await t z $ s)

  -- a share of what lies in memory is lent as a `&`, and comes back. That it can be lent so is `(D.copied 𝓛).lends q x b o` at plain data
  pub shares_part : K → Soaks G → (R : RattleType) (q : Share) (x : R.Denot) (b o : ℕ) → Lent 𝓛 (part_at R q x b o) (shared_of R x b o)
      → ((ν : ℕ) → Seq K 𝓛 (‵ (flft (ν ∷ []) full_share) ∷ ‵ ((ShrRef erased (ν ∷ []) R).own_val (record { ref_ptr = (b, o); now = x }) (vptr b o ∷ [])) ∷ ‵ (flent (ν ∷ []) (part_at R q x b o)) ∷ Γ) G)
      → Seq K 𝓛 (‵ (part_at R q x b o) ∷ Γ) G
  shares_part t z R q x b o l k = lft_new t z (λ ν. move t (1 ∷ []) $
      use1 𝓛 (later (‵ ((ShrRef erased (ν ∷ []) R).own_val (record { ref_ptr = (b, o); now = x }) (vptr b o ∷ [])) ⊛ ‵ (flent (ν ∷ []) (part_at R q x b o)))) (lends_free 𝓛 R erased (ν ∷ []) q x b o l) $
      await t z $ split t $ move t (2 ∷ []) $ k ν)

  -- and comes back
  pub part_unshared : K → Soaks G → (R : RattleType) (q : Share) (x : R.Denot) (b o : ℕ) {ν : ℕ}
      → Step K 𝓛 (‵ (part_at R q x b o) ∷ Γ) G (‵ (flft (ν ∷ []) full_share) ∷ ‵ (flent (ν ∷ []) (part_at R q x b o)) ∷ Γ) G
  part_unshared t z R q x b o = step (λ s. lft_end t z $ lent_back t z $ s)

module _ {M : Type 1} {𝓤 : Ura M} {𝓛 : Logic 𝓤} {K : Type 0} {Γ : List (Item 𝓤)} {G : Goal 𝓤 𝓛.H} where
  -- a `&mut D` is opened to its cell, and closed once the cell holds y: `opened_part` with `cell_of`
  pub opened : K → Soaks G → (D : Data) (x : D.row.Denot) {κ : Lft} {q : Share} {b o : ℕ} {γ : GName}
      → (Good D x → Seq K 𝓛 (‵ (cell_at full_share D.row.mir (D.val x ∷ []) b o) ∷ ‵ (fobor κ q (Body (mem D.row) b o γ)) ∷ ‵ (fobs γ (D.row.coded.code x)) ∷ ‵ (fauth γ (D.row.coded.code x)) ∷ Γ) G)
      → Seq K 𝓛 (‵ (Mut D κ b o γ x) ∷ ‵ (flft κ q) ∷ Γ) G
  opened t z D x {b = b} {o = o} k = opened_part t z D x $ cell_of t D full_share x b o k

  -- and closed, once the cell holds y
  pub closed : K → Soaks G → (D : Data) (x : D.row.Denot) {κ : Lft} {q : Share} {b o : ℕ} {γ : GName} (y : D.row.Denot) → Good D y
      → Step K 𝓛 (‵ (Mut D κ b o γ y) ∷ ‵ (flft κ q) ∷ Γ) G
      (‵ (cell_at full_share D.row.mir (D.val y ∷ []) b o) ∷ ‵ (fobor κ q (Body (mem D.row) b o γ)) ∷ ‵ (fobs γ (D.row.coded.code x)) ∷ ‵ (fauth γ (D.row.coded.code x)) ∷ Γ) G
  closed t z D x {b = b} {o = o} y is = step (λ s. part_of t D full_share y b o is $ closed_part t z D x y $ s)

  -- a `&mut D` is lent again, for a lifetime ν and under a name δ of the call
  pub lends : K → Soaks G → (D : Data) (x : D.row.Denot) {κ : Lft} {q : Share} {b o : ℕ} {γ : GName}
      → ((ν : ℕ) (δ : GName) → Seq K 𝓛 (‵ (flft (ν ∷ []) full_share) ∷ ‵ (Mut D (ν ∷ []) b o δ x) ∷ ‵ (LentAgain D.row κ (ν ∷ []) q γ b o δ x) ∷ Γ) G)
      → Seq K 𝓛 (‵ (Mut D κ b o γ x) ∷ ‵ (flft κ q) ∷ Γ) G
  lends t z D x {κ} {q} {b} {o} {γ} k = lft_new t z (λ ν. move t (1 ∷ 2 ∷ []) $
      use2 𝓛 (later (some (λ (δ : GName). ‵ (Mut D (ν ∷ []) b o δ x) ⊛ ‵ (LentAgain D.row κ (ν ∷ []) q γ b o δ x)))) (lends_again 𝓛 D.row erased κ (ν ∷ []) q γ b o erased x) $ await t z $ pick t (λ δ. split t $ move t (2 ∷ []) $ k ν δ))

  -- and comes back, at its last value
  pub backs : K → Soaks G → (D : Data) {κ : Lft} {ν : ℕ} {q : Share} {b o : ℕ} {γ δ : GName} (x y : D.row.Denot)
      → Step K 𝓛 (‵ (Mut D κ b o γ y) ∷ ‵ (flft κ q) ∷ Γ) G (‵ (flft (ν ∷ []) full_share) ∷ ‵ (LeftR D.row (ν ∷ []) b o δ y) ∷ ‵ (LentAgain D.row κ (ν ∷ []) q γ b o δ x) ∷ Γ) G
  backs t z D {κ} {ν} {q} {b} {o} {γ} {δ} x y = step (λ s. move t (1 ∷ []) $ fsplit t $ move t (1 ∷ []) $ drop t $ move t (1 ∷ []) $ lft_end t z $ move t (0 ∷ 2 ∷ 1 ∷ []) $
      use3 𝓛 (later (‵ (Mut D κ b o γ y) ⊛ ‵ (flft κ q))) (comes_back 𝓛 D.row erased κ (ν ∷ []) q γ b o δ x y) $ await t z $ split t $ s)

  -- a `&mut D` is lent as a `&D`, for a lifetime ν of the call
  pub lends_as_ref : K → Soaks G → (D : Data) (x : D.row.Denot) {κ : Lft} {q : Share} {b o : ℕ} {γ : GName}
      → ((ν : ℕ) → Seq K 𝓛 (‵ (flft (ν ∷ []) full_share) ∷ ‵ (Shr D (ν ∷ []) b o x) ∷ ‵ (KeptR D κ (ν ∷ []) q γ b o x) ∷ Γ) G)
      → Seq K 𝓛 (‵ (Mut D κ b o γ x) ∷ ‵ (flft κ q) ∷ Γ) G
  lends_as_ref t z D x {b = b} {o = o} k = opened_part t z D x $ shares_part t z D.row full_share x b o ((D.copied 𝓛).lends full_share x b o) (λ ν.
      -- [token; reference; lent; the open borrow, in three entries]
      move t (4 ∷ 5 ∷ []) $ fjoin t $ move t (4 ∷ 0 ∷ []) $ fjoin t $ move t (3 ∷ 0 ∷ []) $ fjoin t $ move t (1 ∷ 2 ∷ 0 ∷ []) $ k ν)

  -- and comes back as it was
  pub ref_back_as : K → Soaks G → (D : Data) (x : D.row.Denot) {κ : Lft} {ν : ℕ} {q : Share} {b o : ℕ} {γ : GName}
      → Step K 𝓛 (‵ (Mut D κ b o γ x) ∷ ‵ (flft κ q) ∷ Γ) G (‵ (flft (ν ∷ []) full_share) ∷ ‵ (KeptR D κ (ν ∷ []) q γ b o x) ∷ Γ) G
  ref_back_as t z D x {b = b} {o = o} = step (λ s. move t (1 ∷ []) $ fsplit t $ move t (2 ∷ 0 ∷ []) $ part_unshared t z D.row full_share x b o $
      move t (1 ∷ []) $ fsplit t $ move t (1 ∷ []) $ fsplit t $ move t (3 ∷ 2 ∷ 0 ∷ 1 ∷ []) $ closed_part t z D x x $ s)

  -- a field that is a struct stands in its holder at the struct's tuple: it is the struct's own row at the record, and back
  pub as_record : K → (T : SD.Declared) (q : Share) (x : T.D) (b o : ℕ) → Step K 𝓛 (‵ (part_at (SD.row T) q x b o) ∷ Γ) G (‵ (part_at (Struct (SD.shape T)) q (T.to x) b o) ∷ Γ) G
  as_record t T q x b o = rewrite t 0 (λ (F : Fml). ‵ F) (sym (Recorded-part (Struct (SD.shape T)) T.D T.to T.to_one q x b o)) refl

  -- and back
  pub as_tuple : K → (T : SD.Declared) (q : Share) (x : T.D) (b o : ℕ) → Step K 𝓛 (‵ (part_at (Struct (SD.shape T)) q (T.to x) b o) ∷ Γ) G (‵ (part_at (SD.row T) q x b o) ∷ Γ) G
  as_tuple t T q x b o = rewrite t 0 (λ (F : Fml). ‵ F) (Recorded-part (Struct (SD.shape T)) T.D T.to T.to_one q x b o) refl

  -- the same of a field that is an array of structs
  pub as_records : K → (T : SD.Declared) (n : ℕ) (q : Share) (xs : List T.D) (b o : ℕ) → Step K 𝓛 (‵ (part_at (Array (SD.row T) n) q xs b o) ∷ Γ) G (‵ (part_at (Array (Struct (SD.shape T)) n) q (map T.to xs) b o) ∷ Γ) G
  as_records t T n q xs b o = rewrite t 0 (λ (F : Fml). ‵ F) (sym (Array-same (Struct (SD.shape T)) T.D T.to T.to_one n q xs b o)) refl

  -- and back
  pub as_tuples : K → (T : SD.Declared) (n : ℕ) (q : Share) (xs : List T.D) (b o : ℕ) → Step K 𝓛 (‵ (part_at (Array (Struct (SD.shape T)) n) q (map T.to xs) b o) ∷ Γ) G (‵ (part_at (Array (SD.row T) n) q xs b o) ∷ Γ) G
  as_tuples t T n q xs b o = rewrite t 0 (λ (F : Fml). ‵ F) (Array-same (Struct (SD.shape T)) T.D T.to T.to_one n q xs b o) refl

-- ---- a declared struct of these members
module _ (ν : Sym) (ms : List Member) (D : Type 0) (to : D → Denots (rows_of ms)) (one : (x y : D) → to x ≡ to y → x ≡ y) where
  -- its row
  abbrev pub row_as : RattleType
  row_as = Recorded (Struct (shape_of ν ms)) D to one

  -- the struct again, from its fields at the values of any x
  abbrev pub Again : {M : Type 1} {𝓤 : Ura M} (𝓛 : Logic 𝓤) → Share → ℕ → ℕ → SProp 𝓤
  Again {𝓤 = 𝓤} 𝓛 q b o = all 𝓤 (λ (x : D). wand 𝓤 (sem 𝓛 (parts_at q ms zero (to x) b o)) (sem 𝓛 (part_at row_as q x b o)))

  module _ {M : Type 1} {𝓤 : Ura M} (𝓛 : Logic 𝓤) (L : Lawfuls 𝓛 (rows_of ms)) where
    at_records : (q : Share) (b o : ℕ) → ent 𝓤 (PartsBack 𝓛 q ν ms b o) (Again 𝓛 q b o)
    unfolding lies
    at_records q b o = all_i 𝓤 (λ (x : D). wand 𝓤 (sem 𝓛 (parts_at q ms zero (to x) b o)) (sem 𝓛 (part_at row_as q x b o))) (λ x.
        all_e 𝓤 (λ (a : Denots (rows_of ms)). wand 𝓤 (sem 𝓛 (parts_at q ms zero a b o)) (sem 𝓛 (part_at (Struct (shape_of ν ms)) q a b o))) (to x))

    -- the struct in memory, to its fields side by side and the way back
    pub parts_out : (q : Share) (x : D) (b o : ℕ) → ent 𝓤 (sem 𝓛 (part_at row_as q x b o)) (sep 𝓤 (sem 𝓛 (parts_at q ms zero (to x) b o)) (Again 𝓛 q b o))
    unfolding lies
    parts_out q x b o = via 𝓤 (sep 𝓤 (sem 𝓛 (parts_at q ms zero (to x) b o)) (PartsBack 𝓛 q ν ms b o)) (Struct-parts 𝓛 q ν ms L (to x) b o) (mono_r 𝓤 (sem 𝓛 (parts_at q ms zero (to x) b o)) (at_records q b o))

    -- the fields, at the values of any x, and the way back, to the struct in memory
    pub parts_in : (q : Share) (x : D) (b o : ℕ) → ent 𝓤 (sep 𝓤 (sem 𝓛 (parts_at q ms zero (to x) b o)) (Again 𝓛 q b o)) (sem 𝓛 (part_at row_as q x b o))
    parts_in q x b o = via 𝓤 (sep 𝓤 (Again 𝓛 q b o) (sem 𝓛 (parts_at q ms zero (to x) b o))) (comm∗ 𝓤 (sem 𝓛 (parts_at q ms zero (to x) b o)) (Again 𝓛 q b o))
        (wand_e 𝓤 (Again 𝓛 q b o) (sem 𝓛 (parts_at q ms zero (to x) b o)) (sem 𝓛 (part_at row_as q x b o)) (all_e 𝓤 (λ (y : D). wand 𝓤 (sem 𝓛 (parts_at q ms zero (to y) b o)) (sem 𝓛 (part_at row_as q y b o))) x))
