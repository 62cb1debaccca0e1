-- Loops, and short forms for statements.
--     by_measure           an order by a number, for `loops`
--     stack                the locals of a function where they lie in a context, for a loop's invariant
--     drop_step            the list from i on is its element i and the list from i + 1 on
--     done_to, done_length, done_get, done_set, done_all       a list whose first i elements are changed: an in-place map, turn by turn
--     val, lets, sets      a local read whole; written whole, where it holds nothing, and where it holds something
-- Assumes nothing.
use mathlib.Core.Path.{◌≡◌, refl, ap}
use Prim.Native.Nat.{ℕ, zero, suc, ◌<◌, ◌≤◌}
use native.Mathlib.Nat.{le_of_suc-le-suc, not-suc-le-zero}
use mathlib.Core.Option.{Option, none, some}
use mathlib.Core.List.{List, [], ◌∷◌, map}
use mathlib.Core.WellFounded.InvImage
use mathlib.Core.WellFounded.{WellFounded}
use lib.WfN.{lt-wf_rel}
use lib.Dec.{T}
use lib.ListN.{length, get_or, set, drop as drop_l}
use seplogic.Ra.Ura.{Ura}
use base.Fraction.{full_share}
use mir.Syntax.{Ty, Body, Rv as RValue, seq, assign, copy}
use mir.Val.{Val, WT, has_ty}
use base.Fml.{Share, Fml, fat, froom, fdies}
use prog.Wp.{Heap, spot_of, Env, Calls, Loops}
use types.Logic.{Logic}
use types.Kit.{Item, ‵, nth, put, Post, runs, Step}
use types.Run.{Opd, Rv, look, init, store, stop, from, load, assigns}
use mir.Syntax as Syntax

-- an order by a number, for `loops`
pub by_measure : {X : Type 0} (μ : X → ℕ) → WellFounded (λ (a b : X). μ a < μ b)
by_measure μ = InvImage.wf μ lt-wf_rel.wf

-- the list from the index i on, where there is one
pub drop_step : {X : Type 0} (ys : List X) (i : ℕ) (d : X) → i < length ys → drop_l i ys ≡ get_or ys i d ∷ drop_l (suc i) ys
drop_step [] i d l = absurd (not-suc-le-zero l)
drop_step (y ∷ ys) zero d l = refl
drop_step (y ∷ ys) (suc i) d l = drop_step ys i d (le_of_suc-le-suc l)

-- ---- the locals, in a loop's invariant
module _ {M : Type 1} (𝓤 : Ura M) (H : Heap 𝓤) where
  abbrev content : Ty → ℕ → Option Val → Fml
  content τ l none = froom τ l 0
  content τ l (some v) = fat full_share τ l 0 v

  -- the locals with what is in each (those that are not listed hold nothing), the last first, as the allocations leave them, in front of Γ
  abbrev pub stack : Env 𝓤 H → List (Option Val) → List (Item 𝓤) → List (Item 𝓤)
  stack [] st Γ = Γ
  stack (e ∷ E) [] Γ = stack E [] (‵ (froom e.0 e.1 0) ∷ ‵ (fdies e.0 e.1) ∷ Γ)
  stack (e ∷ E) (s ∷ st) Γ = stack E st (‵ (content e.0 e.1 s) ∷ ‵ (fdies e.0 e.1) ∷ Γ)

-- ---- a list whose first i elements are changed
module _ {X : Type 0} (f : X → X) where
  -- the list with its first i elements changed by f
  abbrev pub done_to : ℕ → List X → List X
  done_to zero ys = ys
  done_to (suc i) [] = []
  done_to (suc i) (y ∷ ys) = f y ∷ done_to i ys

  -- its length is that of the list
  pub done_length : (i : ℕ) (ys : List X) → length (done_to i ys) ≡ length ys
  done_length zero ys = refl
  done_length (suc i) [] = refl
  done_length (suc i) (y ∷ ys) = ap suc (done_length i ys)

  -- its element i is not yet changed
  pub done_get : (i : ℕ) (ys : List X) (d : X) → get_or (done_to i ys) i d ≡ get_or ys i d
  done_get zero ys d = refl
  done_get (suc i) [] d = refl
  done_get (suc i) (y ∷ ys) d = done_get i ys d

  -- with element i changed too, it is the list where i + 1 are
  pub done_set : (i : ℕ) (ys : List X) (d : X) → i < length ys → set (done_to i ys) i (f (get_or ys i d)) ≡ done_to (suc i) ys
  done_set i [] d l = absurd (not-suc-le-zero l)
  done_set zero (y ∷ ys) d l = refl
  done_set (suc i) (y ∷ ys) d l = ap (λ (zs : List X). f y ∷ zs) (done_set i ys d (le_of_suc-le-suc l))

  -- with all changed, it is `map f`
  pub done_all : (i : ℕ) (ys : List X) → length ys ≤ i → done_to i ys ≡ map f ys
  done_all zero [] l = refl
  done_all zero (y ∷ ys) l = absurd (not-suc-le-zero l)
  done_all (suc i) [] l = refl
  done_all (suc i) (y ∷ ys) l = ap (λ (zs : List X). f y ∷ zs) (done_all i ys (le_of_suc-le-suc l))

-- ---- short forms: a local read whole, or one field of it, and a local written whole. The number is where the local stands in the context
module _ {M : Type 1} {𝓤 : Ura M} {𝓛 : Logic 𝓤} {K : Type 0} {Γ : List (Item 𝓤)} {E : Env 𝓤 𝓛.H} where
  -- the whole of a local, as an operand
  open 𝓛 use {H}

  pub val : K → (n : ℕ) {j : ℕ} {s : Share} {v : Val} → nth 𝓛 n Γ ≡ ‵ (fat s (spot_of 𝓤 H E j).0 (spot_of 𝓤 H E j).1 0 v) → Opd K 𝓛 Γ E (copy (Syntax.place j [])) v
  val t n e = load t (from t (stop t)) (look t n e)

  module _ {C : Calls 𝓤 H} {Λ : Loops 𝓤 H} {q : Post 𝓤 H} {j : ℕ} {rv : RValue} {rest : Body} {v : Val} where
    -- a local that holds nothing is written whole
    pub lets : K → (n : ℕ) → Rv K 𝓛 Γ E rv v → nth 𝓛 n Γ ≡ ‵ (froom (spot_of 𝓤 H E j).0 (spot_of 𝓤 H E j).1 0) → T (has_ty (spot_of 𝓤 H E j).0 v) × WT v
        → Step K 𝓛 (put 𝓛 n (‵ (fat full_share (spot_of 𝓤 H E j).0 (spot_of 𝓤 H E j).1 0 v)) Γ) (runs C Λ E rest q) Γ (runs C Λ E (seq (assign (Syntax.place j []) rv) rest) q)
    lets t n r e wt = assigns t r (from t (stop t)) (init t n e wt)

    -- a local that holds something is written whole
    pub sets : K → (n : ℕ) {u : Val} → Rv K 𝓛 Γ E rv v → nth 𝓛 n Γ ≡ ‵ (fat full_share (spot_of 𝓤 H E j).0 (spot_of 𝓤 H E j).1 0 u) → T (has_ty (spot_of 𝓤 H E j).0 v) × WT v
        → Step K 𝓛 (put 𝓛 n (‵ (fat full_share (spot_of 𝓤 H E j).0 (spot_of 𝓤 H E j).1 0 v)) Γ) (runs C Λ E rest q) Γ (runs C Λ E (seq (assign (Syntax.place j []) rv) rest) q)
    sets t n r e wt = assigns t r (from t (stop t)) (store t n e wt)
