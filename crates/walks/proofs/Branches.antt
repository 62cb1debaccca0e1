-- Branches: `if`, `while`, `match`.
--     leaves_early         `if c { .. return .. }`, and the rest
--     tests                the test of a `while`
--     both                 `if c { a } else { b }`, with the code after it taken into both arms
--     goes_to, arm_of       a `match` on an enum in a local whose value is known: the arm that runs, and then the code after it
--     goes_flat            the same, where the arm ends in a call: the code after the match stands behind the arm
--     cases                by cases on a Bool, which leaves the context as it is
--     no_T, yes_T, is_T    what a test showed
-- Assumes `Logic`.
use mathlib.Core.Path.{◌≡◌, refl, sym, subst}
use Prim.Native.Nat.{ℕ, zero, suc}
use mathlib.Core.Bool.{Bool, true, false, not}
use mathlib.Core.List.{List}
use seplogic.Ra.Ura.{Ura}
use mir.Syntax.{Width, Body, Opd as Operand, Arms, skip, seq, assign, block, loop, cond, switch, exit, return, call, unreachable, call_v, lend_static, arm, default, no_default}
use mir.Val.{vint, vbool}
use base.Logic.{SProp, ent, id⊢, via}
use prog.Wp.{Out, next, exits, returns, Env, Wp, WpArms, after_seq, Tables, Calls, Loops}
use types.Logic.{Logic}
use sound.WpLaws.{Wp-mono}
use types.Kit.{Item, Goal, Post, post, runs, Seq, Sq, Step, step, ◌$◌, ⋆, prop, any_q}
use types.Run.{Opd, first, branches, switches_on, skips, jumps}
use lib.Dec.{T}

-- ---- branches
module _ {M : Type 1} {𝓤 : Ura M} {𝓛 : Logic 𝓤} {K : Type 0} {Γ : List (Item 𝓤)} {E : Env 𝓤 𝓛.H} {C : Calls 𝓤 𝓛.H} {Λ : Loops 𝓤 𝓛.H} {q : Post 𝓤 𝓛.H} where
  -- `if c { a }`, where a returns, and then the rest
  open 𝓛 use {H}

  pub leaves_early : K → {c : Operand} {a rest : Body} {y : Bool} → Opd K 𝓛 Γ E c (vbool y) → (T y → Seq K 𝓛 Γ (runs C Λ E a (any_q (after_seq 𝓤 H (Wp 𝓤 H C Λ E rest (post 𝓤 H q)) (post 𝓤 H q))))) → (T (not y) → Seq K 𝓛 Γ (runs C Λ E rest q))
      → Seq K 𝓛 Γ (runs C Λ E (seq (cond c a skip) rest) q)
  leaves_early t o k₁ k₂ = first t $ branches t o k₁ (λ h. skips t $ record { prf = (k₂ h).prf })

  -- the test of a `while`
  pub tests : K → {c : Operand} {n : ℕ} {b : Body} {y : Bool} → Opd K 𝓛 Γ E c (vbool y) → (T y → Seq K 𝓛 Γ (runs C Λ E b q)) → (T (not y) → Seq K 𝓛 Γ (prop (post 𝓤 H q (exits n))))
      → Seq K 𝓛 Γ (runs C Λ E (seq (cond c skip (exit n)) b) q)
  tests t o on off = first t $ branches t o (λ z. skips t $ record { prf = (on z).prf }) (λ z. jumps t $ record { prf = (off z).prf })

-- ---- what a test showed
pub no_T : (t : Bool) → T (not t) → t ≡ false
no_T true h = absurd h
no_T false h = refl

-- a test that was `!t`, and failed
pub yes_T : (t : Bool) → T (not (not t)) → t ≡ true
yes_T true h = refl
yes_T false h = absurd h

-- a test that held
pub is_T : (t : Bool) → T t → t ≡ true
is_T true h = refl
is_T false h = absurd h

-- ---- a match on an enum that is in a local, once its value is known: the arm that runs is the kth of the switch s
abbrev nth_arm : Arms → ℕ → Body
nth_arm (arm ks b arms) zero = b
nth_arm (arm ks b arms) (suc k) = nth_arm arms k
nth_arm (default b) k = b
nth_arm no_default k = skip

-- the kth arm of a match
abbrev pub arm_of : Body → ℕ → Body
arm_of skip k = skip
arm_of (seq a b) k = skip
arm_of (assign p r) k = skip
arm_of (block b) k = skip
arm_of (loop b) k = skip
arm_of (cond c a b) k = skip
arm_of (switch c arms) k = nth_arm arms k
arm_of (exit n) k = skip
arm_of return k = skip
arm_of (call f xs d) k = skip
arm_of unreachable k = skip
arm_of (call_v _ _ _ _) k = skip
arm_of (lend_static _ _ _) k = skip

module _ {M : Type 1} {𝓤 : Ura M} {𝓛 : Logic 𝓤} {K : Type 0} {Γ : List (Item 𝓤)} {E : Env 𝓤 𝓛.H} {C : Calls 𝓤 𝓛.H} {Λ : Loops 𝓤 𝓛.H} {q : Post 𝓤 𝓛.H} where
  -- the arm is walked, and then the code after the match
  open 𝓛 use {H}

  pub goes_to : K → {c : Operand} {arms : Arms} {rest : Body} {w : Width} {x : ℕ} (b : Body) → Opd K 𝓛 Γ E c (vint w x) → ((Q : Out → SProp 𝓤) → WpArms 𝓤 H C Λ E arms x Q ≡ Wp 𝓤 H C Λ E b Q)
      → Step K 𝓛 Γ (runs C Λ E b (any_q (after_seq 𝓤 H (Wp 𝓤 H C Λ E rest (post 𝓤 H q)) (post 𝓤 H q)))) Γ (runs C Λ E (seq (switch c arms) rest) q)
  goes_to t b o e = step (λ s. first t $ switches_on t o $ record { prf = subst (λ (P : SProp 𝓤). ent 𝓤 (⋆ 𝓛 Γ) P) (sym (e _)) s.prf })

-- ---- code laid flat: the statements of a, and then rest
abbrev pub in_line : Body → Body → Body
in_line skip rest = rest
in_line (seq a b) rest = in_line a (in_line b rest)
in_line (assign p rv) rest = seq (assign p rv) rest
in_line (block b) rest = seq (block b) rest
in_line (loop b) rest = seq (loop b) rest
in_line (cond c a b) rest = seq (cond c a b) rest
in_line (switch c arms) rest = seq (switch c arms) rest
in_line (exit n) rest = seq (exit n) rest
in_line return rest = seq return rest
in_line (call f xs d) rest = seq (call f xs d) rest
in_line unreachable rest = seq unreachable rest
in_line (call_v f g xs d) rest = seq (call_v f g xs d) rest
in_line (lend_static p q r) rest = seq (lend_static p q r) rest

module _ {M : Type 1} {𝓤 : Ura M} (𝓛 : Logic 𝓤) (𝓣 : Tables 𝓤 𝓛.H) (E : Env 𝓤 𝓛.H) (Q : Out → SProp 𝓤) where
  open 𝓛 use {H}

  abbrev wp : Body → SProp 𝓤
  wp b = Wp 𝓤 H 𝓣.C 𝓣.Λ E b Q

  abbrev then : Body → Out → SProp 𝓤
  then b = after_seq 𝓤 H (wp b) Q

  then_mono : (b c : Body) → ent 𝓤 (wp b) (wp c) → (u : Out) → ent 𝓤 (then b u) (then c u)
  then_mono b c h next = h
  then_mono b c h (exits n) = id⊢ 𝓤 _
  then_mono b c h returns = id⊢ 𝓤 _

  reassoc : (b c : Body) (u : Out) → ent 𝓤 (then (seq b c) u) (after_seq 𝓤 H (Wp 𝓤 H 𝓣.C 𝓣.Λ E b (then c)) (then c) u)
  reassoc b c next = id⊢ 𝓤 _
  reassoc b c (exits n) = id⊢ 𝓤 _
  reassoc b c returns = id⊢ 𝓤 _

  laid : (a rest : Body) → ent 𝓤 (wp (in_line a rest)) (wp (seq a rest))
  laid skip rest = 𝓛.laws.⇛_intro _
  laid (seq a b) rest =
      via 𝓤 (wp (seq a (in_line b rest))) (laid a (in_line b rest)) (via 𝓤 (wp (seq a (seq b rest))) (Wp-mono 𝓤 H 𝓛.laws 𝓣 E a _ _ (then_mono (in_line b rest) (seq b rest) (laid b rest)))
      (Wp-mono 𝓤 H 𝓛.laws 𝓣 E a _ _ (reassoc b rest)))
  laid (assign p rv) rest = id⊢ 𝓤 _
  laid (block b) rest = id⊢ 𝓤 _
  laid (loop b) rest = id⊢ 𝓤 _
  laid (cond c a b) rest = id⊢ 𝓤 _
  laid (switch c arms) rest = id⊢ 𝓤 _
  laid (exit n) rest = id⊢ 𝓤 _
  laid return rest = id⊢ 𝓤 _
  laid (call f xs d) rest = id⊢ 𝓤 _
  laid unreachable rest = id⊢ 𝓤 _
  laid (call_v f g xs d) rest = id⊢ 𝓤 _
  laid (lend_static p q r) rest = id⊢ 𝓤 _

module _ {M : Type 1} {𝓤 : Ura M} {𝓛 : Logic 𝓤} {K : Type 0} {Γ : List (Item 𝓤)} {E : Env 𝓤 𝓛.H} {q : Post 𝓤 𝓛.H} where
  -- a branch, with the code after it taken into both arms
  open 𝓛 use {H}

  pub both : K → (𝓣 : Tables 𝓤 H) {c : Operand} {a b rest : Body} {y : Bool} → Opd K 𝓛 Γ E c (vbool y) → (T y → Seq K 𝓛 Γ (runs 𝓣.C 𝓣.Λ E (in_line a rest) q)) → (T (not y) → Seq K 𝓛 Γ (runs 𝓣.C 𝓣.Λ E (in_line b rest) q))
      → Seq K 𝓛 Γ (runs 𝓣.C 𝓣.Λ E (seq (cond c a b) rest) q)
  both t 𝓣 {c} {a} {b} {rest} o on off = first t $ branches t o (λ z. record { prf = via 𝓤 _ (on z).prf (laid 𝓛 𝓣 E (post 𝓤 H q) a rest) }) (λ z. record { prf = via 𝓤 _ (off z).prf (laid 𝓛 𝓣 E (post 𝓤 H q) b rest) })

  -- a match whose arm is known, with the code after it behind the arm, so that the arm may end in a call
  pub goes_flat : K → (𝓣 : Tables 𝓤 H) {c : Operand} {arms : Arms} {rest : Body} {w : Width} {x : ℕ} (b : Body) → Opd K 𝓛 Γ E c (vint w x) → ((Q : Out → SProp 𝓤) → WpArms 𝓤 H 𝓣.C 𝓣.Λ E arms x Q ≡ Wp 𝓤 H 𝓣.C 𝓣.Λ E b Q)
      → Step K 𝓛 Γ (runs 𝓣.C 𝓣.Λ E (in_line b rest) q) Γ (runs 𝓣.C 𝓣.Λ E (seq (switch c arms) rest) q)
  goes_flat t 𝓣 {rest = rest} b o e = step (λ s. goes_to t b o e $ record { prf = via 𝓤 _ s.prf (laid 𝓛 𝓣 E (post 𝓤 H q) b rest) })

module _ {M : Type 1} {𝓤 : Ura M} {𝓛 : Logic 𝓤} {Γ : List (Item 𝓤)} {G : Goal 𝓤 𝓛.H} where
  -- by cases on a Bool, which leaves the context as it is
  pub cases : (t : Bool) → (t ≡ true → Sq 𝓛 Γ G) → (t ≡ false → Sq 𝓛 Γ G) → Sq 𝓛 Γ G
  cases true a b = a refl
  cases false a b = b refl
