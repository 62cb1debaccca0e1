-- A local array that is made of one value, n times, lent as `Slices` has it, and done with.
--     repeated_typed       the machine value of `[x; n]` has MIR's type: what `init` asks after `rep`
--     repeated             the local's cell, once it holds `[x; n]`, is the array in memory
--     array_room           the array in memory is the local's room
-- Assumes `Logic`.
use mathlib.Core.Path.{refl}
use Prim.Native.Nat.{ℕ, zero, suc}
use mathlib.Core.List.{List, [], ◌∷◌}
use lib.ListN.{replicate, length-replicate}
use seplogic.Ra.Ura.{Ura}
use base.Fraction.{full_share}
use mir.Syntax.{ty_array}
use mir.Val.{Val}
use base.Fml.{fat, froom}
use types.Logic.{Logic}
use types.Kit.{Item, ‵, ◌⊛◌, some, Goal, Step, step, ◌$◌, move, use1, use2, drop, split, pick}
use denote.Array.{Array, array_val, each, Array-Lawful, Array-Makes}
use denote.Laws.{Is, Typed}
use denote.Memory.{lone, part_at}
use denote.Shadow.{shadow}
use denote.Steps.{owned}
use borrow.Table.OneValue.{part_in, part_out}
use Rattle.walks.proofs.Data.{Data, Good}

module _ (D : Data) (x : D.row.Denot) (is : Good D x) where
  each_is : (n : ℕ) → shadow (each D.row.Denot D.row.own_val (replicate n x) (replicate n (D.val x)))
  each_is zero = tt
  each_is (suc n) = (is, each_is n)

  repeated_is : (n : ℕ) → Is (Array D.row n) (replicate n x) (array_val (replicate n (D.val x)) ∷ [])
  repeated_is n = (replicate n (D.val x), ((refl, length-replicate n x), each_is n))

module _ {M : Type 1} {𝓤 : Ura M} (𝓛 : Logic 𝓤) where
  pub repeated_typed : (D : Data) (n : ℕ) (x : D.row.Denot) → Good D x → Typed (ty_array (lone D.row.mir) n ∷ []) (array_val (replicate n (D.val x)) ∷ [])
  repeated_typed D n x is = (Array-Lawful 𝓛 D.row (D.lawful 𝓛) n).typed (replicate n x) (array_val (replicate n (D.val x)) ∷ []) (repeated_is D x is n)

module _ {M : Type 1} {𝓤 : Ura M} {𝓛 : Logic 𝓤} {K : Type 0} {Γ : List (Item 𝓤)} {G : Goal 𝓤 𝓛.H} where
  pub repeated : K → (D : Data) (n : ℕ) (x : D.row.Denot) (b : ℕ) → Good D x
      → Step K 𝓛 (‵ (part_at (Array D.row n) full_share (replicate n x) b 0) ∷ Γ) G (‵ (fat full_share (ty_array (lone D.row.mir) n) b 0 (array_val (replicate n (D.val x)))) ∷ Γ) G
  repeated t D n x b is = step (λ s.
      owned t (Array D.row n) (Is (Array D.row n)) (Array-Makes 𝓛 D.row (D.made 𝓛) n) (replicate n x) (array_val (replicate n (D.val x)) ∷ []) (repeated_is D x is n) $ move t (1 ∷ 0 ∷ []) $
      use2 𝓛 (‵ (part_at (Array D.row n) full_share (replicate n x) b 0)) (part_in 𝓛 (Array D.row n) refl full_share (replicate n x) b 0 (array_val (replicate n (D.val x)))) $ s)

  pub array_room : K → (D : Data) (n : ℕ) (xs : List D.row.Denot) (b : ℕ) → Step K 𝓛 (‵ (froom (ty_array (lone D.row.mir) n) b 0) ∷ Γ) G (‵ (part_at (Array D.row n) full_share xs b 0) ∷ Γ) G
  array_room t D n xs b = step (λ s.
      use1 𝓛 (some (λ (v : Val). ‵ (fat full_share (ty_array (lone D.row.mir) n) b 0 v) ⊛ ‵ ((Array D.row n).own_val xs (v ∷ [])))) (part_out 𝓛 (Array D.row n) refl full_share xs b 0) $ pick t (λ v. split t $ move t (1 ∷ []) $ drop t $
      use1 𝓛 (‵ (froom (ty_array (lone D.row.mir) n) b 0)) (𝓛.laws.at_room (ty_array (lone D.row.mir) n) b 0 v) $ s))
