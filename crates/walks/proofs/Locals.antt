-- A local of plain data, lent to a call: it is a value in memory, whose fields and parts are lent by `Fields`, `Slices`, `Parts`.
--     local_part, part_local       a local's cell is the value in memory (`part_at`), and back
-- Assumes `Logic`.
use mathlib.Core.Path.{refl, ap}
use Prim.Native.Nat.{ℕ}
use mathlib.Core.List.{List, [], ◌∷◌}
use seplogic.Ra.Ura.{Ura}
use base.Fraction.{full_share}
use mir.Val.{Val}
use base.Fml.{fat}
use types.Logic.{Logic}
use types.Kit.{Item, ‵, ◌⊛◌, some, Goal, Seq, Step, step, ◌$◌, move, use1, use2, drop, split, pick, rewrite}
use denote.Laws.{Is, shows}
use denote.Memory.{lone, part_at}
use denote.Steps.{owned, peeks, only}
use borrow.Table.OneValue.{One, part_in, part_out}
use Rattle.walks.proofs.Data.{Data, Good, good}

module _ {M : Type 1} {𝓤 : Ura M} {𝓛 : Logic 𝓤} {K : Type 0} {Γ : List (Item 𝓤)} {G : Goal 𝓤 𝓛.H} where
  -- a local's cell, with its machine value, is the value in memory
  pub local_part : K → (D : Data) → One D.row → (x : D.row.Denot) (b : ℕ) → Good D x → Step K 𝓛 (‵ (part_at D.row full_share x b 0) ∷ Γ) G (‵ (fat full_share (lone D.row.mir) b 0 (D.val x)) ∷ Γ) G
  local_part t D one x b is = step (λ s. owned t D.row (Is D.row) (D.made 𝓛) x (D.val x ∷ []) is $ move t (1 ∷ 0 ∷ []) $
      use2 𝓛 (‵ (part_at D.row full_share x b 0)) (part_in 𝓛 D.row one full_share x b 0 (D.val x)) $ s)

  -- and back
  pub part_local : K → (D : Data) → One D.row → (x : D.row.Denot) (b : ℕ) → (Good D x → Seq K 𝓛 (‵ (fat full_share (lone D.row.mir) b 0 (D.val x)) ∷ Γ) G) → Seq K 𝓛 (‵ (part_at D.row full_share x b 0) ∷ Γ) G
  part_local t D one x b k =
      use1 𝓛 (some (λ (v : Val). ‵ (fat full_share (lone D.row.mir) b 0 v) ⊛ ‵ (D.row.own_val x (v ∷ [])))) (part_out 𝓛 D.row one full_share x b 0) $ pick t (λ v. split t $ move t (1 ∷ []) $
      peeks t D.row (Is D.row) (shows 𝓛 D.row) x (v ∷ []) (λ is. drop t $
      rewrite t 0 (λ (u : Val). ‵ (fat full_share (lone D.row.mir) b 0 u)) (ap only (D.tells x (v ∷ []) is)) refl $ k (good D x v is)))
