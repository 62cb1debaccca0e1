-- Calls that take two lent slices, the second one a `&`, and then plain data: both stand first, each before its token, and are had again.
-- Assumes `Logic`.
use mathlib.Core.Path.{◌≡◌}
use Prim.Native.Nat.{ℕ}
use mathlib.Core.List.{List, [], ◌∷◌}
use lib.ListN.{length}
use seplogic.Ra.Ura.{Ura}
use base.Fraction.{full_share}
use mir.Syntax.{named, erased, Callee, Place, Opd as Operand, seq, call, Body}
use base.Logic.{ent, emp, id⊢, via}
use base.Fml.{Lft, GName, Share, ftrue, flft}
use prog.Wp.{Env, Calls, Loops}
use types.Logic.{Logic}
use sound.WpLaws.{FmC}
use contract.Monad.{fact, fact_i, fact_use}
use types.Kit.{Item, ‵, ◌⊛◌, Post, runs, lands, Seq, ◌$◌, move, use0, use1, drop, split}
use types.Run.{Opds}
use denote.RattleType.{flat}
use denote.Slice.{slice_val, MutSlice, ShrSlice, shr_slice_copy}
use denote.Signature.{types_at}
use denote.Triple.Statement.{Triple}
use denote.Triple.Spec.{triple_of}
use denote.Triple.Clauses.{Clauses, Lasts, at_exit, closing}
use Rattle.walks.proofs.Data.{Data, Good, MutS, ShrS}
use Rattle.walks.proofs.Slices.{lends_s, backs_s}
use Rattle.walks.proofs.Calls.{slots_of, Values, vals_of, Goods, lent2_t, calls_lent2}

and_tt : {M : Type 1} (𝓤 : Ura M) (φ : Type 0) → ent 𝓤 (fact 𝓤 φ) (fact 𝓤 (Unit {0} × φ))
and_tt 𝓤 φ = fact_use 𝓤 φ (id⊢ 𝓤 (fact 𝓤 φ)) (λ x. fact_i 𝓤 (Unit {0} × φ) (fact 𝓤 φ) (tt, x))

module _ {M : Type 1} {𝓤 : Ura M} {𝓛 : Logic 𝓤} {K : Type 0} {Γ : List (Item 𝓤)} {E : Env 𝓤 𝓛.H} {C : Calls 𝓤 𝓛.H} {f : Callee} {xs : List Operand} {Λ : Loops 𝓤 𝓛.H} {q : Post 𝓤 𝓛.H} {d : Place} {rest : Body} where
  -- two `&` slices that are passed on
  open 𝓛 use {H}

  pub calls_shr_s_shr_s : K → FmC 𝓤 H 𝓛.laws C → (D D' : Data) (Ds : List Data) (Q : Data) (c : Clauses 𝓤 (lent2_t (λ κ. ShrSlice (named 0) κ D.row) (λ κ. ShrSlice (named 1) κ D'.row) Ds Q))
      → Triple 𝓤 (C f) (triple_of 𝓛 (lent2_t (λ κ. ShrSlice (named 0) κ D.row) (λ κ. ShrSlice (named 1) κ D'.row) Ds Q).signature (closing 𝓛 (lent2_t (λ κ. ShrSlice (named 0) κ D.row) (λ κ. ShrSlice (named 1) κ D'.row) Ds Q) c))
      → {κ κ' : Lft} {s s' : Share} {b o b' o' : ℕ} (us : List D.row.Denot) (us' : List D'.row.Denot)
      → (a : Values 2 (κ, (κ', tt)) Ds) (g : (c (κ, (κ', tt)) (record { ref_ptr = (b, o); now = us }, (record { ref_ptr = (b', o'); now = us' }, a))).ghost)
      → Goods 2 (κ, (κ', tt)) Ds a → ent 𝓤 (emp 𝓤) ((c (κ, (κ', tt)) (record { ref_ptr = (b, o); now = us }, (record { ref_ptr = (b', o'); now = us' }, a))).requires g)
      → (r₀ : Q.row.Denot)
      → ((r : Q.row.Denot) (ws : Lasts (lent2_t (λ κ. ShrSlice (named 0) κ D.row) (λ κ. ShrSlice (named 1) κ D'.row) Ds Q) (κ, (κ', tt)) (record { ref_ptr = (b, o); now = us }, (record { ref_ptr = (b', o'); now = us' }, a)))
      → ent 𝓤 ((c (κ, (κ', tt)) (record { ref_ptr = (b, o); now = us }, (record { ref_ptr = (b', o'); now = us' }, a))).ensures g r (at_exit (lent2_t (λ κ. ShrSlice (named 0) κ D.row) (λ κ. ShrSlice (named 1) κ D'.row) Ds Q) (κ, (κ', tt)) (record { ref_ptr = (b, o); now = us }, (record { ref_ptr = (b', o'); now = us' }, a)) ws)) (fact 𝓤 (r ≡ r₀)))
      → ((i j k l : Item 𝓤) → Opds K 𝓛 (i ∷ j ∷ k ∷ l ∷ Γ) E xs (slice_val (b, o) (length us) ∷ slice_val (b', o') (length us') ∷ flat (types_at (slots_of {n = 2} Ds) (κ, (κ', tt))) (vals_of 2 (κ, (κ', tt)) Ds a)))
      → (Good Q r₀ → Seq K 𝓛 (‵ (ShrS D κ b o (length us) us) ∷ ‵ (flft κ s) ∷ ‵ (ShrS D' κ' b' o' (length us') us') ∷ ‵ (flft κ' s') ∷ Γ) (lands C Λ E d (Q.val r₀) rest q))
      → Seq K 𝓛 (‵ (ShrS D κ b o (length us) us) ∷ ‵ (flft κ s) ∷ ‵ (ShrS D' κ' b' o' (length us') us') ∷ ‵ (flft κ' s') ∷ Γ) (runs C Λ E (seq (call f xs d) rest) q)
  calls_shr_s_shr_s t fm D D' Ds Q c known {κ} {κ'} {s} {s'} {b} {o} {b'} {o'} us us' a g gs req r₀ said os k =
      use1 𝓛 (‵ (ShrS D κ b o (length us) us) ⊛ ‵ (ShrS D κ b o (length us) us)) ((shr_slice_copy 𝓛 erased κ D.row D.shr_laws).twice (record { ref_ptr = (b, o); now = us }) (slice_val (b, o) (length us) ∷ [])) $ split t $
      move t (3 ∷ []) $
      use1 𝓛 (‵ (ShrS D' κ' b' o' (length us') us') ⊛ ‵ (ShrS D' κ' b' o' (length us') us')) ((shr_slice_copy 𝓛 erased κ' D'.row D'.shr_laws).twice (record { ref_ptr = (b', o'); now = us' }) (slice_val (b', o') (length us') ∷ [])) $ split t $
      -- [the second twice; the first twice; the two tokens; Γ]
      use0 𝓛 (‵ ftrue) (id⊢ 𝓤 (emp 𝓤)) $ move t (5 ∷ 6 ∷ 3 ∷ 1 ∷ 4 ∷ 2 ∷ 0 ∷ []) $
      calls_lent2 t fm (λ κ₁. ShrSlice (named 0) κ₁ D.row) (λ κ₁. ShrSlice (named 1) κ₁ D'.row) Ds Q c known κ κ' s s' (record { ref_ptr = (b, o); now = us }) (record { ref_ptr = (b', o'); now = us' }) (slice_val (b, o) (length us)) (slice_val (b', o') (length us'))
      a g gs req (λ _ _. Unit {0}) r₀ (λ r ws. via 𝓤 (fact 𝓤 (r ≡ r₀)) (said r ws) (and_tt 𝓤 (r ≡ r₀))) (os _ _ _ _) (λ _ _ _ is.
      -- [the two tokens; the two last values; the two slices; true; Γ]
      move t (2 ∷ 3 ∷ 6 ∷ []) $ drop t $ drop t $ drop t $ move t (2 ∷ 0 ∷ 3 ∷ 1 ∷ []) $ k is)

module _ {M : Type 1} {𝓤 : Ura M} {𝓛 : Logic 𝓤} {K : Type 0} {Γ : List (Item 𝓤)} {E : Env 𝓤 𝓛.H} {C : Calls 𝓤 𝓛.H} {f : Callee} {xs : List Operand} {Λ : Loops 𝓤 𝓛.H} {q : Post 𝓤 𝓛.H} {d : Place} {rest : Body} where
  -- a `&mut [D]` that is lent again, at the list us, and comes back at the list y, and a `&[D']` that is passed on
  open 𝓛 use {H}

  pub calls_mut_s_shr_s : K → FmC 𝓤 H 𝓛.laws C → (D D' : Data) (Ds : List Data) (Q : Data) (c : Clauses 𝓤 (lent2_t (λ κ. MutSlice (named 0) κ D.row) (λ κ. ShrSlice (named 1) κ D'.row) Ds Q))
      → Triple 𝓤 (C f) (triple_of 𝓛 (lent2_t (λ κ. MutSlice (named 0) κ D.row) (λ κ. ShrSlice (named 1) κ D'.row) Ds Q).signature (closing 𝓛 (lent2_t (λ κ. MutSlice (named 0) κ D.row) (λ κ. ShrSlice (named 1) κ D'.row) Ds Q) c))
      → {κ κ' : Lft} {s s' : Share} {b o b' o' : ℕ} {γ : GName} (m : ℕ) (us : List D.row.Denot) → m ≡ length us → (us' : List D'.row.Denot)
      → (a : (κ'' : Lft) → Values 2 (κ'', (κ', tt)) Ds) (g : (κ'' : Lft) (δ : GName) → (c (κ'', (κ', tt)) (record { ref_ptr = (b, o); ghost_name = δ; now = us }, (record { ref_ptr = (b', o'); now = us' }, a κ''))).ghost)
      → ((κ'' : Lft) → Goods 2 (κ'', (κ', tt)) Ds (a κ'')) → ((κ'' : Lft) (δ : GName) → ent 𝓤 (emp 𝓤) ((c (κ'', (κ', tt)) (record { ref_ptr = (b, o); ghost_name = δ; now = us }, (record { ref_ptr = (b', o'); now = us' }, a κ''))).requires (g κ'' δ)))
      → (y : List D.row.Denot) (r₀ : Q.row.Denot)
      → ((κ'' : Lft) (δ : GName) (r : Q.row.Denot) (ws : Lasts (lent2_t (λ κ. MutSlice (named 0) κ D.row) (λ κ. ShrSlice (named 1) κ D'.row) Ds Q) (κ'', (κ', tt)) (record { ref_ptr = (b, o); ghost_name = δ; now = us }, (record { ref_ptr = (b', o'); now = us' }, a κ'')))
      → ent 𝓤 ((c (κ'', (κ', tt)) (record { ref_ptr = (b, o); ghost_name = δ; now = us }, (record { ref_ptr = (b', o'); now = us' }, a κ''))).ensures (g κ'' δ) r (at_exit (lent2_t (λ κ. MutSlice (named 0) κ D.row) (λ κ. ShrSlice (named 1) κ D'.row) Ds Q) (κ'', (κ', tt)) (record { ref_ptr = (b, o); ghost_name = δ; now = us }, (record { ref_ptr = (b', o'); now = us' }, a κ'')) ws)) (fact 𝓤 ((ws.0 ≡ y) × (r ≡ r₀))))
      → ((i j k l : Item 𝓤) (κ'' : Lft) → Opds K 𝓛 (i ∷ j ∷ k ∷ l ∷ Γ) E xs (slice_val (b, o) m ∷ slice_val (b', o') (length us') ∷ flat (types_at (slots_of {n = 2} Ds) (κ'', (κ', tt))) (vals_of 2 (κ'', (κ', tt)) Ds (a κ''))))
      → (m ≡ length y → Good Q r₀ → Seq K 𝓛 (‵ (MutS D κ b o γ m y) ∷ ‵ (flft κ s) ∷ ‵ (ShrS D' κ' b' o' (length us') us') ∷ ‵ (flft κ' s') ∷ Γ) (lands C Λ E d (Q.val r₀) rest q))
      → Seq K 𝓛 (‵ (MutS D κ b o γ m us) ∷ ‵ (flft κ s) ∷ ‵ (ShrS D' κ' b' o' (length us') us') ∷ ‵ (flft κ' s') ∷ Γ) (runs C Λ E (seq (call f xs d) rest) q)
  calls_mut_s_shr_s t fm D D' Ds Q c known {κ} {κ'} {s} {s'} {b} {o} {b'} {o'} {γ} m us em us' a g gs req y r₀ said os k = lends_s t tt D m us em (λ ν δ rm.
      -- [the new token; the new slice; what is kept; the `&`; its token; Γ]
      move t (3 ∷ []) $
      use1 𝓛 (‵ (ShrS D' κ' b' o' (length us') us') ⊛ ‵ (ShrS D' κ' b' o' (length us') us')) ((shr_slice_copy 𝓛 erased κ' D'.row D'.shr_laws).twice (record { ref_ptr = (b', o'); now = us' }) (slice_val (b', o') (length us') ∷ [])) $ split t $
      use0 𝓛 (‵ ftrue) (id⊢ 𝓤 (emp 𝓤)) $ move t (3 ∷ 6 ∷ 4 ∷ 1 ∷ 5 ∷ 2 ∷ 0 ∷ []) $
      calls_lent2 t fm (λ κ₁. MutSlice (named 0) κ₁ D.row) (λ κ₁. ShrSlice (named 1) κ₁ D'.row) Ds Q c known (ν ∷ []) κ' full_share s' (record { ref_ptr = (b, o); ghost_name = δ; now = us }) (record { ref_ptr = (b', o'); now = us' }) (slice_val (b, o) m) (slice_val (b', o') (length us'))
      (a (ν ∷ [])) (g (ν ∷ []) δ) (gs (ν ∷ [])) (req (ν ∷ []) δ) (λ w _. w ≡ y) r₀ (said (ν ∷ []) δ) (os _ _ _ _ (ν ∷ [])) (λ w _ e is.
      -- [the new token; the `&`'s token; the last list; true; what is kept; the `&`; true; Γ]
      move t (0 ∷ 2 ∷ 4 ∷ []) $ backs_s t tt D m us em rm w y e (λ long. move t (3 ∷ 5 ∷ []) $ drop t $ drop t $ move t (0 ∷ 1 ∷ 3 ∷ 2 ∷ []) $ k long is)))
