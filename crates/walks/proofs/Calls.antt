-- Calls. All that is known of a callee is that it meets its contract, which fixes the result, as the value r₀ of the plain type Q, and the last value of what it is lent.
-- A rule takes the callee's `clauses`, the plain arguments with what is known of each, the last value y and the result r₀ (terms of specs/), `id⊢` for `requires` and `ensures`, the operands; and hands on `Good Q r₀`.
-- The operands are read where the entries in the rule's context stand: one further for `calls_plain` and `calls_mut_r`, as before for the others.
--     calls_plain          plain data alone
--     calls_mut            a `&mut D` that is lent again, and plain data
--     calls_mut_s, calls_as_shr_s, calls_shr_s        a `&mut [D]` that is lent again; that is lent as a `&[D]`; a `&[D]` that is passed on; and plain data
--     calls_mut_r           a row that was opened is lent as a `&mut [D]`; and plain data
--     calls_any            any number of references: the tokens and what each parameter owns stand first, one entry each; afterwards the tokens and what is left of each
--     calls_of, calls_lent, calls_lent2, exactly   what these are made of
-- Assumes `Logic`.
use mathlib.Core.Path.{◌≡◌, refl, sym, ap, subst, ◌∙◌}
use Prim.Native.Nat.{ℕ, zero, suc}
use mathlib.Core.List.{List, [], ◌∷◌, ◌++◌}
use lib.ListN.{length}
use lib.Dec.{T}
use seplogic.Ra.Ura.{Ura}
use base.Fraction.{full_share}
use mir.Syntax.{named, erased, Callee, Place, Opd as Operand, seq, call, Body}
use mir.Val.{Val, vptr}
use base.Logic.{SProp, ent, sep, emp, id⊢, via, comm∗, emp∗, mono∗, mono_l, mono_r}
use base.Fml.{Lft, GName, Share, ftrue, flft}
use prog.Wp.{Env, Calls, Loops}
use types.Logic.{Logic, sem}
use sound.WpLaws.{FmC}
use contract.Monad.{fact, fact_i, fact_use}
use contract.Lifetimes.{Lfts, Shares, toks}
use types.Kit.{Item, ‵, raw, ◌⊛◌, some, later, cut, ⋆, push, pop, ++⊢, ⊢++, Post, runs, lands, Seq, ◌$◌, move, use0, use1, use2, drop, split, split3, join, pick, rewrite, fjoin, await}
use types.Run.{Opds}
use denote.RattleType.{RattleType, Denots, Valss, owns, flat}
use denote.Laws.{Is, shows}
use denote.Ref.{MutRef}
use denote.Slice.{slice_val, MutSlice, ShrSlice, Room, shr_slice_copy}
use denote.Signature.{Slot, plain, type_at, types_at}
use denote.Steps.{only, peeks, heard}
use denote.Exit.{yes, Last, left}
use denote.Triple.Entry.{Res, alive}
use denote.Triple.End.{Kepts, Fins, all, lasts_of}
use denote.Triple.Statement.{Triple}
use denote.Triple.Spec.{triple_of}
use denote.Triple.Call.{calls_at}
use denote.Triple.Clauses.{Ended, Clauses, Lasts, at_exit, lasts, closing}
use denote.Index.{row}
use Rattle.walks.proofs.Data.{Data, Good, good, Mut, MutS, ShrS}
use Rattle.walks.proofs.Walk.{tokens, owneds, to_tokens}
use Rattle.walks.proofs.Fields.{LeftR, lends, backs}
use Rattle.walks.proofs.Slices.{lends_row, row_back, lends_s, backs_s, lends_as_shr, shr_back}

-- ---- any call: the post is taken apart
module _ {M : Type 1} {𝓤 : Ura M} {𝓛 : Logic 𝓤} {K : Type 0} {Γ : List (Item 𝓤)} {E : Env 𝓤 𝓛.H} {C : Calls 𝓤 𝓛.H} {f : Callee} {xs : List Operand} {Λ : Loops 𝓤 𝓛.H} {q : Post 𝓤 𝓛.H} {d : Place} {rest : Body} where
  -- the ghost y has the lifetimes, the shares, the values and the machine values of the arguments
  open 𝓛 use {H}

  pub calls_of : K → FmC 𝓤 H 𝓛.laws C → (T : Ended) (c : Clauses 𝓤 T) → Triple 𝓤 (C f) (triple_of 𝓛 T.signature (closing 𝓛 T c))
      → (y : (triple_of 𝓛 T.signature (closing 𝓛 T c)).Ghost) → Opds K 𝓛 (raw ((triple_of 𝓛 T.signature (closing 𝓛 T c)).pre y) ∷ Γ) E xs ((triple_of 𝓛 T.signature (closing 𝓛 T c)).args y)
      → ((v : Val) (r : Res T.signature y.0.0) (ws : Lasts T y.0.0 y.0.3) → Is (type_at T.signature.result y.0.0) r (v ∷ [])
      → Seq K 𝓛 (raw (alive 𝓛 T.signature y.0.0 y.0.1) ∷ ‵ (lasts T y.0.0 y.0.3 ws) ∷ raw ((c y.0.0 y.0.3).ensures y.1 r (at_exit T y.0.0 y.0.3 ws)) ∷ Γ) (lands C Λ E d v rest q))
      → Seq K 𝓛 (raw ((triple_of 𝓛 T.signature (closing 𝓛 T c)).pre y) ∷ Γ) (runs C Λ E (seq (call f xs d) rest) q)
  calls_of t fm T c known y os k = calls_at t fm (triple_of 𝓛 T.signature (closing 𝓛 T c)) known y os (λ v.
      use1 𝓛 (later (some (λ (r : Res T.signature y.0.0). (raw (alive 𝓛 T.signature y.0.0 y.0.1) ⊛ ‵ ((type_at T.signature.result y.0.0).own_val r (v ∷ [])))
      ⊛ some (λ (ws : Lasts T y.0.0 y.0.3). ‵ (lasts T y.0.0 y.0.3 ws) ⊛ raw ((c y.0.0 y.0.3).ensures y.1 r (at_exit T y.0.0 y.0.3 ws)))))) (id⊢ 𝓤 _) $ await t tt $ pick t (λ r.
      split t $ split t $ move t (2 ∷ []) $ pick t (λ ws. split t $ move t (3 ∷ []) $
      peeks t (type_at T.signature.result y.0.0) (Is (type_at T.signature.result y.0.0)) (shows 𝓛 (type_at T.signature.result y.0.0)) r (v ∷ []) (λ is. drop t $ move t (2 ∷ 0 ∷ 1 ∷ []) $ k v r ws is))))

-- ---- a call whose contract fixes the result, as the value r₀ of the plain type Q, and the last value of what it is lent
module _ {M : Type 1} {𝓤 : Ura M} {𝓛 : Logic 𝓤} {K : Type 0} {Γ : List (Item 𝓤)} {E : Env 𝓤 𝓛.H} {C : Calls 𝓤 𝓛.H} {Λ : Loops 𝓤 𝓛.H} {q : Post 𝓤 𝓛.H} {d : Place} {rest : Body} where
  -- the machine value that came back is that of r₀
  pub exactly : K → (Q : Data) {r r₀ : Q.row.Denot} {v : Val} → Is Q.row r (v ∷ []) → r ≡ r₀ → (Good Q r₀ → Seq K 𝓛 Γ (lands C Λ E d (Q.val r₀) rest q)) → Seq K 𝓛 Γ (lands C Λ E d v rest q)
  exactly t Q {r} {r₀} {v} is e k =
      subst (λ (u : Val). Seq K 𝓛 Γ (lands C Λ E d u rest q)) (sym (ap only (Q.tells r (v ∷ []) is) ∙ ap Q.val e)) (k (subst (Good Q) e (good Q r v is)))

-- ---- parameters of plain data: their slots, their machine values, what is known of each, and what they own, for nothing
module _ {n : ℕ} where
  -- their slots
  abbrev pub slots_of : List Data → List (Slot n)
  slots_of [] = []
  slots_of (D ∷ Ds) = plain (λ _. D.row) ∷ slots_of Ds

module _ (n : ℕ) where
  module _ (κs : Lfts n) where
    -- their values
    abbrev pub Values : List Data → Type 0
    Values Ds = Denots (types_at (slots_of {n = n} Ds) κs)

    -- their machine values
    abbrev pub vals_of : (Ds : List Data) → Values Ds → Valss (types_at (slots_of {n = n} Ds) κs)
    vals_of [] a = tt
    vals_of (D ∷ Ds) a = (D.val a.0 ∷ [], vals_of Ds a.1)

    -- what is known of each
    abbrev pub Goods : (Ds : List Data) → Values Ds → Type 0
    Goods [] a = Unit {0}
    Goods (D ∷ Ds) a = Good D a.0 × Goods Ds a.1

    -- what they own, for nothing
    pub goods_own : {M : Type 1} {𝓤 : Ura M} (𝓛 : Logic 𝓤) → (Ds : List Data) (a : Values Ds) → Goods Ds a → ent 𝓤 (emp 𝓤) (sem 𝓛 (owns (types_at (slots_of {n = n} Ds) κs) a (vals_of Ds a)))
    goods_own {𝓤 = 𝓤} 𝓛 [] a gs = id⊢ 𝓤 (emp 𝓤)
    goods_own {𝓤 = 𝓤} 𝓛 (D ∷ Ds) a gs = via 𝓤 (sep 𝓤 (emp 𝓤) (emp 𝓤)) (emp∗ 𝓤 (emp 𝓤)) (mono∗ 𝓤 (D.made 𝓛 a.0 (D.val a.0 ∷ []) gs.0) (goods_own 𝓛 Ds a.1 gs.1))

-- a function that takes and answers plain data
abbrev pub plain_t : List Data → Data → Ended
plain_t Ds Q = record { signature = record { lifetimes = 0; outlives = []; params = slots_of {n = 0} Ds; result = plain (λ _. Q.row) }; kept = all yes (slots_of {n = 0} Ds) }

and_tt : {M : Type 1} (𝓤 : Ura M) (φ : Type 0) → ent 𝓤 (fact 𝓤 φ) (fact 𝓤 (Unit {0} × φ))
and_tt 𝓤 φ = fact_use 𝓤 φ (id⊢ 𝓤 (fact 𝓤 φ)) (λ x. fact_i 𝓤 (Unit {0} × φ) (fact 𝓤 φ) (tt, x))

-- one that takes a reference first, of the type F κ at the lifetime κ, and then plain data
abbrev pub lent_t : (Lft → RattleType) → List Data → Data → Ended
lent_t F Ds Q = record { signature = record { lifetimes = 1; outlives = []; params = plain (λ κs. F κs.0) ∷ slots_of {n = 1} Ds; result = plain (λ _. Q.row) }; kept = (yes, all yes (slots_of {n = 1} Ds)) }

module _ {M : Type 1} {𝓤 : Ura M} {𝓛 : Logic 𝓤} {K : Type 0} {Γ : List (Item 𝓤)} {E : Env 𝓤 𝓛.H} {C : Calls 𝓤 𝓛.H} {f : Callee} {xs : List Operand} {Λ : Loops 𝓤 𝓛.H} {q : Post 𝓤 𝓛.H} {d : Place} {rest : Body} where
  -- a call that takes plain data alone: the context is as it was
  open 𝓛 use {H}

  pub calls_plain : K → FmC 𝓤 H 𝓛.laws C → (Ds : List Data) (Q : Data) (c : Clauses 𝓤 (plain_t Ds Q)) → Triple 𝓤 (C f) (triple_of 𝓛 (plain_t Ds Q).signature (closing 𝓛 (plain_t Ds Q) c))
      → (a : Values 0 tt Ds) (g : (c tt a).ghost) → Goods 0 tt Ds a → ent 𝓤 (emp 𝓤) ((c tt a).requires g)
      → (r₀ : Q.row.Denot) → ((r : Q.row.Denot) (ws : Lasts (plain_t Ds Q) tt a) → ent 𝓤 ((c tt a).ensures g r (at_exit (plain_t Ds Q) tt a ws)) (fact 𝓤 (r ≡ r₀)))
      → ((i : Item 𝓤) → Opds K 𝓛 (i ∷ Γ) E xs (flat (types_at (slots_of {n = 0} Ds) tt) (vals_of 0 tt Ds a)))
      → (Good Q r₀ → Seq K 𝓛 Γ (lands C Λ E d (Q.val r₀) rest q)) → Seq K 𝓛 Γ (runs C Λ E (seq (call f xs d) rest) q)
  calls_plain t fm Ds Q c known a g gs req r₀ said os k =
      use0 𝓛 (‵ (owns (types_at (slots_of {n = 0} Ds) tt) a (vals_of 0 tt Ds a))) (goods_own 0 tt 𝓛 Ds a gs) $ use0 𝓛 (‵ ftrue) (id⊢ 𝓤 (emp 𝓤)) $ join t $ use0 𝓛 (raw ((c tt a).requires g)) req $ move t (1 ∷ 0 ∷ []) $
      use2 𝓛 (raw ((triple_of 𝓛 (plain_t Ds Q).signature (closing 𝓛 (plain_t Ds Q) c)).pre ((tt, tt, tt, a, vals_of 0 tt Ds a), g))) (id⊢ 𝓤 _) $
      calls_of t fm (plain_t Ds Q) c known ((tt, tt, tt, a, vals_of 0 tt Ds a), g) (os _) (λ v r ws is. drop t $ drop t $
      use1 𝓛 (raw (fact 𝓤 (r ≡ r₀))) (said r ws) $ heard t (r ≡ r₀) (λ e. exactly t Q is e k))

  -- a call that takes one reference x, and then plain data: x and the token of its lifetime stand first. Afterwards there is what is said of its last value w
  pub calls_lent : K → FmC 𝓤 H 𝓛.laws C → (F : Lft → RattleType) (Ds : List Data) (Q : Data) (c : Clauses 𝓤 (lent_t F Ds Q)) → Triple 𝓤 (C f) (triple_of 𝓛 (lent_t F Ds Q).signature (closing 𝓛 (lent_t F Ds Q) c))
      → (κ : Lft) (s : Share) (x : (F κ).Denot) (v₀ : Val) (a : Values 1 (κ, tt) Ds) (g : (c (κ, tt) (x, a)).ghost) → Goods 1 (κ, tt) Ds a → ent 𝓤 (emp 𝓤) ((c (κ, tt) (x, a)).requires g)
      → (φ : Last ((F κ).exit yes) x → Type 0) (r₀ : Q.row.Denot)
      → ((r : Q.row.Denot) (ws : Lasts (lent_t F Ds Q) (κ, tt) (x, a)) → ent 𝓤 ((c (κ, tt) (x, a)).ensures g r (at_exit (lent_t F Ds Q) (κ, tt) (x, a) ws)) (fact 𝓤 (φ ws.0 × (r ≡ r₀))))
      → Opds K 𝓛 (raw ((triple_of 𝓛 (lent_t F Ds Q).signature (closing 𝓛 (lent_t F Ds Q) c)).pre (((κ, tt), (s, tt), tt, (x, a), (v₀ ∷ [], vals_of 1 (κ, tt) Ds a)), g)) ∷ Γ) E xs (v₀ ∷ flat (types_at (slots_of {n = 1} Ds) (κ, tt)) (vals_of 1 (κ, tt) Ds a))
      → ((w : Last ((F κ).exit yes) x) → φ w → Good Q r₀ → Seq K 𝓛 (‵ (flft κ s) ∷ ‵ (left ((F κ).exit yes) x w) ∷ Γ) (lands C Λ E d (Q.val r₀) rest q))
      → Seq K 𝓛 (‵ (flft κ s) ∷ ‵ ((F κ).own_val x (v₀ ∷ [])) ∷ Γ) (runs C Λ E (seq (call f xs d) rest) q)
  calls_lent t fm F Ds Q c known κ s x v₀ a g gs req φ r₀ said os k =
      let y : (triple_of 𝓛 (lent_t F Ds Q).signature (closing 𝓛 (lent_t F Ds Q) c)).Ghost = (((κ, tt), (s, tt), tt, (x, a), (v₀ ∷ [], vals_of 1 (κ, tt) Ds a)), g) in
      use0 𝓛 (‵ ftrue) (id⊢ 𝓤 (emp 𝓤)) $ move t (1 ∷ 0 ∷ []) $ join t $ use0 𝓛 (‵ (owns (types_at (slots_of {n = 1} Ds) (κ, tt)) a (vals_of 1 (κ, tt) Ds a))) (goods_own 1 (κ, tt) 𝓛 Ds a gs) $ move t (2 ∷ 0 ∷ []) $ fjoin t $ move t (1 ∷ 0 ∷ []) $ join t $
      use0 𝓛 (raw ((c (κ, tt) (x, a)).requires g)) req $ move t (1 ∷ 0 ∷ []) $ use2 𝓛 (raw ((triple_of 𝓛 (lent_t F Ds Q).signature (closing 𝓛 (lent_t F Ds Q) c)).pre y)) (id⊢ 𝓤 _) $
      calls_of t fm (lent_t F Ds Q) c known y os (λ v r ws is.
      use1 𝓛 (‵ (flft κ s) ⊛ ‵ ftrue) (id⊢ 𝓤 _) $ split t $ move t (3 ∷ []) $ use1 𝓛 (raw (fact 𝓤 (φ ws.0 × (r ≡ r₀)))) (said r ws) $ heard t (φ ws.0 × (r ≡ r₀)) (λ e.
      -- [the token; true; the last values; Γ]
      move t (2 ∷ []) $ use1 𝓛 (‵ (left ((F κ).exit yes) x ws.0) ⊛ ‵ (lasts_of (κ, tt) (slots_of {n = 1} Ds) (all yes (slots_of {n = 1} Ds)) a ws.1)) (id⊢ 𝓤 _) $ split t $
      move t (1 ∷ 3 ∷ []) $ drop t $ drop t $ move t (1 ∷ 0 ∷ []) $ exactly t Q is e.1 (k ws.0 e.0)))

module _ {M : Type 1} {𝓤 : Ura M} {𝓛 : Logic 𝓤} {K : Type 0} {Γ : List (Item 𝓤)} {E : Env 𝓤 𝓛.H} {C : Calls 𝓤 𝓛.H} {f : Callee} {xs : List Operand} {Λ : Loops 𝓤 𝓛.H} {q : Post 𝓤 𝓛.H} {d : Place} {rest : Body} where
  -- a `&mut D` that is lent again, and comes back at y
  open 𝓛 use {H}

  pub calls_mut : K → FmC 𝓤 H 𝓛.laws C → (D : Data) (Ds : List Data) (Q : Data) (c : Clauses 𝓤 (lent_t (λ κ. MutRef (named 0) κ D.row) Ds Q)) → Triple 𝓤 (C f) (triple_of 𝓛 (lent_t (λ κ. MutRef (named 0) κ D.row) Ds Q).signature (closing 𝓛 (lent_t (λ κ. MutRef (named 0) κ D.row) Ds Q) c))
      → {κ : Lft} {s : Share} {b o : ℕ} {γ : GName} {x : D.row.Denot}
      → (a : (κ' : Lft) → Values 1 (κ', tt) Ds) (g : (κ' : Lft) (δ : GName) → (c (κ', tt) (record { ref_ptr = (b, o); ghost_name = δ; now = x }, a κ')).ghost)
      → ((κ' : Lft) → Goods 1 (κ', tt) Ds (a κ')) → ((κ' : Lft) (δ : GName) → ent 𝓤 (emp 𝓤) ((c (κ', tt) (record { ref_ptr = (b, o); ghost_name = δ; now = x }, a κ')).requires (g κ' δ)))
      → (y : D.row.Denot) (r₀ : Q.row.Denot)
      → ((κ' : Lft) (δ : GName) (r : Q.row.Denot) (ws : Lasts (lent_t (λ κ. MutRef (named 0) κ D.row) Ds Q) (κ', tt) (record { ref_ptr = (b, o); ghost_name = δ; now = x }, a κ'))
      → ent 𝓤 ((c (κ', tt) (record { ref_ptr = (b, o); ghost_name = δ; now = x }, a κ')).ensures (g κ' δ) r (at_exit (lent_t (λ κ. MutRef (named 0) κ D.row) Ds Q) (κ', tt) (record { ref_ptr = (b, o); ghost_name = δ; now = x }, a κ') ws)) (fact 𝓤 ((ws.0 ≡ y) × (r ≡ r₀))))
      → ((i j : Item 𝓤) (κ' : Lft) → Opds K 𝓛 (i ∷ j ∷ Γ) E xs (vptr b o ∷ flat (types_at (slots_of {n = 1} Ds) (κ', tt)) (vals_of 1 (κ', tt) Ds (a κ'))))
      → (Good Q r₀ → Seq K 𝓛 (‵ (Mut D κ b o γ y) ∷ ‵ (flft κ s) ∷ Γ) (lands C Λ E d (Q.val r₀) rest q)) → Seq K 𝓛 (‵ (Mut D κ b o γ x) ∷ ‵ (flft κ s) ∷ Γ) (runs C Λ E (seq (call f xs d) rest) q)
  calls_mut t fm D Ds Q c known {b = b} {o = o} {x = x} a g gs req y r₀ said os k = lends t tt D x (λ ν δ.
      calls_lent t fm (λ κ. MutRef (named 0) κ D.row) Ds Q c known (ν ∷ []) full_share (record { ref_ptr = (b, o); ghost_name = δ; now = x }) (vptr b o) (a (ν ∷ [])) (g (ν ∷ []) δ) (gs (ν ∷ [])) (req (ν ∷ []) δ) (λ w. w ≡ y) r₀ (said (ν ∷ []) δ) (os _ _ (ν ∷ [])) (λ w e is.
      rewrite t 1 (λ (z : D.row.Denot). ‵ (LeftR D.row (ν ∷ []) b o δ z)) e refl $ backs t tt D x y $ k is))

  -- a `&mut [D]` that is lent again, at the list us, and comes back at the list y
  pub calls_mut_s : K → FmC 𝓤 H 𝓛.laws C → (D : Data) (Ds : List Data) (Q : Data) (c : Clauses 𝓤 (lent_t (λ κ. MutSlice (named 0) κ D.row) Ds Q)) → Triple 𝓤 (C f) (triple_of 𝓛 (lent_t (λ κ. MutSlice (named 0) κ D.row) Ds Q).signature (closing 𝓛 (lent_t (λ κ. MutSlice (named 0) κ D.row) Ds Q) c))
      → {κ : Lft} {s : Share} {b o : ℕ} {γ : GName} (m : ℕ) (us : List D.row.Denot) → m ≡ length us
      → (a : (κ' : Lft) → Values 1 (κ', tt) Ds) (g : (κ' : Lft) (δ : GName) → (c (κ', tt) (record { ref_ptr = (b, o); ghost_name = δ; now = us }, a κ')).ghost)
      → ((κ' : Lft) → Goods 1 (κ', tt) Ds (a κ')) → ((κ' : Lft) (δ : GName) → ent 𝓤 (emp 𝓤) ((c (κ', tt) (record { ref_ptr = (b, o); ghost_name = δ; now = us }, a κ')).requires (g κ' δ)))
      → (y : List D.row.Denot) (r₀ : Q.row.Denot)
      → ((κ' : Lft) (δ : GName) (r : Q.row.Denot) (ws : Lasts (lent_t (λ κ. MutSlice (named 0) κ D.row) Ds Q) (κ', tt) (record { ref_ptr = (b, o); ghost_name = δ; now = us }, a κ'))
      → ent 𝓤 ((c (κ', tt) (record { ref_ptr = (b, o); ghost_name = δ; now = us }, a κ')).ensures (g κ' δ) r (at_exit (lent_t (λ κ. MutSlice (named 0) κ D.row) Ds Q) (κ', tt) (record { ref_ptr = (b, o); ghost_name = δ; now = us }, a κ') ws)) (fact 𝓤 ((ws.0 ≡ y) × (r ≡ r₀))))
      → ((i j : Item 𝓤) (κ' : Lft) → Opds K 𝓛 (i ∷ j ∷ Γ) E xs (slice_val (b, o) m ∷ flat (types_at (slots_of {n = 1} Ds) (κ', tt)) (vals_of 1 (κ', tt) Ds (a κ'))))
      → (m ≡ length y → Good Q r₀ → Seq K 𝓛 (‵ (MutS D κ b o γ m y) ∷ ‵ (flft κ s) ∷ Γ) (lands C Λ E d (Q.val r₀) rest q)) → Seq K 𝓛 (‵ (MutS D κ b o γ m us) ∷ ‵ (flft κ s) ∷ Γ) (runs C Λ E (seq (call f xs d) rest) q)
  calls_mut_s t fm D Ds Q c known {κ} {s} {b} {o} {γ} m us em a g gs req y r₀ said os k = lends_s t tt D m us em (λ ν δ rm.
      calls_lent t fm (λ κ'. MutSlice (named 0) κ' D.row) Ds Q c known (ν ∷ []) full_share (record { ref_ptr = (b, o); ghost_name = δ; now = us }) (slice_val (b, o) m) (a (ν ∷ [])) (g (ν ∷ []) δ) (gs (ν ∷ [])) (req (ν ∷ []) δ) (λ w. w ≡ y) r₀ (said (ν ∷ []) δ) (os _ _ (ν ∷ [])) (λ w e is.
      backs_s t tt D m us em rm w y e (λ long. k long is)))

  -- a `&mut [D]` that is lent as a `&[D]`
  pub calls_as_shr_s : K → FmC 𝓤 H 𝓛.laws C → (D : Data) (Ds : List Data) (Q : Data) (c : Clauses 𝓤 (lent_t (λ κ. ShrSlice (named 0) κ D.row) Ds Q)) → Triple 𝓤 (C f) (triple_of 𝓛 (lent_t (λ κ. ShrSlice (named 0) κ D.row) Ds Q).signature (closing 𝓛 (lent_t (λ κ. ShrSlice (named 0) κ D.row) Ds Q) c))
      → {κ : Lft} {s : Share} {b o : ℕ} {γ : GName} (m : ℕ) (us : List D.row.Denot) → m ≡ length us
      → (a : (κ' : Lft) → Values 1 (κ', tt) Ds) (g : (κ' : Lft) → (c (κ', tt) (record { ref_ptr = (b, o); now = us }, a κ')).ghost)
      → ((κ' : Lft) → Goods 1 (κ', tt) Ds (a κ')) → ((κ' : Lft) → ent 𝓤 (emp 𝓤) ((c (κ', tt) (record { ref_ptr = (b, o); now = us }, a κ')).requires (g κ')))
      → (r₀ : Q.row.Denot)
      → ((κ' : Lft) (r : Q.row.Denot) (ws : Lasts (lent_t (λ κ. ShrSlice (named 0) κ D.row) Ds Q) (κ', tt) (record { ref_ptr = (b, o); now = us }, a κ'))
      → ent 𝓤 ((c (κ', tt) (record { ref_ptr = (b, o); now = us }, a κ')).ensures (g κ') r (at_exit (lent_t (λ κ. ShrSlice (named 0) κ D.row) Ds Q) (κ', tt) (record { ref_ptr = (b, o); now = us }, a κ') ws)) (fact 𝓤 (r ≡ r₀)))
      → ((i j : Item 𝓤) (κ' : Lft) → Opds K 𝓛 (i ∷ j ∷ Γ) E xs (slice_val (b, o) m ∷ flat (types_at (slots_of {n = 1} Ds) (κ', tt)) (vals_of 1 (κ', tt) Ds (a κ'))))
      → (Good Q r₀ → Seq K 𝓛 (‵ (MutS D κ b o γ m us) ∷ ‵ (flft κ s) ∷ Γ) (lands C Λ E d (Q.val r₀) rest q)) → Seq K 𝓛 (‵ (MutS D κ b o γ m us) ∷ ‵ (flft κ s) ∷ Γ) (runs C Λ E (seq (call f xs d) rest) q)
  calls_as_shr_s t fm D Ds Q c known {κ} {s} {b} {o} {γ} m us em a g gs req r₀ said os k = lends_as_shr t tt D m us em (λ ν.
      calls_lent t fm (λ κ'. ShrSlice (named 0) κ' D.row) Ds Q c known (ν ∷ []) full_share (record { ref_ptr = (b, o); now = us }) (slice_val (b, o) m) (a (ν ∷ [])) (g (ν ∷ [])) (gs (ν ∷ [])) (req (ν ∷ [])) (λ w. Unit {0}) r₀ (λ r ws. via 𝓤 (fact 𝓤 (r ≡ r₀)) (said (ν ∷ []) r ws) (and_tt 𝓤 (r ≡ r₀))) (os _ _ (ν ∷ [])) (λ w e is.
      move t (1 ∷ []) $ drop t $ shr_back t tt D m us em $ k is))

  -- a `&[D]` that is passed on
  pub calls_shr_s : K → FmC 𝓤 H 𝓛.laws C → (D : Data) (Ds : List Data) (Q : Data) (c : Clauses 𝓤 (lent_t (λ κ. ShrSlice (named 0) κ D.row) Ds Q)) → Triple 𝓤 (C f) (triple_of 𝓛 (lent_t (λ κ. ShrSlice (named 0) κ D.row) Ds Q).signature (closing 𝓛 (lent_t (λ κ. ShrSlice (named 0) κ D.row) Ds Q) c))
      → {κ : Lft} {s : Share} {b o : ℕ} (us : List D.row.Denot)
      → (a : Values 1 (κ, tt) Ds) (g : (c (κ, tt) (record { ref_ptr = (b, o); now = us }, a)).ghost) → Goods 1 (κ, tt) Ds a → ent 𝓤 (emp 𝓤) ((c (κ, tt) (record { ref_ptr = (b, o); now = us }, a)).requires g)
      → (r₀ : Q.row.Denot)
      → ((r : Q.row.Denot) (ws : Lasts (lent_t (λ κ. ShrSlice (named 0) κ D.row) Ds Q) (κ, tt) (record { ref_ptr = (b, o); now = us }, a))
      → ent 𝓤 ((c (κ, tt) (record { ref_ptr = (b, o); now = us }, a)).ensures g r (at_exit (lent_t (λ κ. ShrSlice (named 0) κ D.row) Ds Q) (κ, tt) (record { ref_ptr = (b, o); now = us }, a) ws)) (fact 𝓤 (r ≡ r₀)))
      → ((i j : Item 𝓤) → Opds K 𝓛 (i ∷ j ∷ Γ) E xs (slice_val (b, o) (length us) ∷ flat (types_at (slots_of {n = 1} Ds) (κ, tt)) (vals_of 1 (κ, tt) Ds a)))
      → (Good Q r₀ → Seq K 𝓛 (‵ (ShrS D κ b o (length us) us) ∷ ‵ (flft κ s) ∷ Γ) (lands C Λ E d (Q.val r₀) rest q)) → Seq K 𝓛 (‵ (ShrS D κ b o (length us) us) ∷ ‵ (flft κ s) ∷ Γ) (runs C Λ E (seq (call f xs d) rest) q)
  calls_shr_s t fm D Ds Q c known {κ} {s} {b} {o} us a g gs req r₀ said os k =
      use1 𝓛 (‵ (ShrS D κ b o (length us) us) ⊛ ‵ (ShrS D κ b o (length us) us)) ((shr_slice_copy 𝓛 erased κ D.row D.shr_laws).twice (record { ref_ptr = (b, o); now = us }) (slice_val (b, o) (length us) ∷ [])) $ split t $ move t (2 ∷ 1 ∷ 0 ∷ []) $
      calls_lent t fm (λ κ'. ShrSlice (named 0) κ' D.row) Ds Q c known κ s (record { ref_ptr = (b, o); now = us }) (slice_val (b, o) (length us)) a g gs req (λ w. Unit {0}) r₀ (λ r ws. via 𝓤 (fact 𝓤 (r ≡ r₀)) (said r ws) (and_tt 𝓤 (r ≡ r₀))) (os _ _) (λ w e is.
      move t (1 ∷ []) $ drop t $ move t (1 ∷ 0 ∷ []) $ k is)

-- ---- a row that was opened, lent to a call
module _ {M : Type 1} {𝓤 : Ura M} {𝓛 : Logic 𝓤} {K : Type 0} {Γ : List (Item 𝓤)} {E : Env 𝓤 𝓛.H} {C : Calls 𝓤 𝓛.H} {f : Callee} {xs : List Operand} {Λ : Loops 𝓤 𝓛.H} {q : Post 𝓤 𝓛.H} {d : Place} {rest : Body} where
  -- as a `&mut [D]`, at the list us, and it comes back at the list y
  open 𝓛 use {H}

  pub calls_mut_r : K → FmC 𝓤 H 𝓛.laws C → (D : Data) (Ds : List Data) (Q : Data) (c : Clauses 𝓤 (lent_t (λ κ. MutSlice (named 0) κ D.row) Ds Q)) → Triple 𝓤 (C f) (triple_of 𝓛 (lent_t (λ κ. MutSlice (named 0) κ D.row) Ds Q).signature (closing 𝓛 (lent_t (λ κ. MutSlice (named 0) κ D.row) Ds Q) c))
      → {b o : ℕ} (m : ℕ) (us : List D.row.Denot) → m ≡ length us → Room D.row (length us)
      → (a : (κ' : Lft) → Values 1 (κ', tt) Ds) (g : (κ' : Lft) (δ : GName) → (c (κ', tt) (record { ref_ptr = (b, o); ghost_name = δ; now = us }, a κ')).ghost)
      → ((κ' : Lft) → Goods 1 (κ', tt) Ds (a κ')) → ((κ' : Lft) (δ : GName) → ent 𝓤 (emp 𝓤) ((c (κ', tt) (record { ref_ptr = (b, o); ghost_name = δ; now = us }, a κ')).requires (g κ' δ)))
      → (y : List D.row.Denot) (r₀ : Q.row.Denot)
      → ((κ' : Lft) (δ : GName) (r : Q.row.Denot) (ws : Lasts (lent_t (λ κ. MutSlice (named 0) κ D.row) Ds Q) (κ', tt) (record { ref_ptr = (b, o); ghost_name = δ; now = us }, a κ'))
      → ent 𝓤 ((c (κ', tt) (record { ref_ptr = (b, o); ghost_name = δ; now = us }, a κ')).ensures (g κ' δ) r (at_exit (lent_t (λ κ. MutSlice (named 0) κ D.row) Ds Q) (κ', tt) (record { ref_ptr = (b, o); ghost_name = δ; now = us }, a κ') ws)) (fact 𝓤 ((ws.0 ≡ y) × (r ≡ r₀))))
      → ((i j : Item 𝓤) (κ' : Lft) → Opds K 𝓛 (i ∷ j ∷ Γ) E xs (slice_val (b, o) m ∷ flat (types_at (slots_of {n = 1} Ds) (κ', tt)) (vals_of 1 (κ', tt) Ds (a κ'))))
      → (m ≡ length y → Good Q r₀ → Seq K 𝓛 (‵ (row D.row full_share y b o) ∷ Γ) (lands C Λ E d (Q.val r₀) rest q)) → Seq K 𝓛 (‵ (row D.row full_share us b o) ∷ Γ) (runs C Λ E (seq (call f xs d) rest) q)
  calls_mut_r t fm D Ds Q c known {b} {o} m us em rm a g gs req y r₀ said os k = lends_row t tt D us b o rm (λ ν δ. rewrite t 1 (λ (j : ℕ). ‵ (MutS D (ν ∷ []) b o δ j us)) (sym em) refl $
      calls_lent t fm (λ κ'. MutSlice (named 0) κ' D.row) Ds Q c known (ν ∷ []) full_share (record { ref_ptr = (b, o); ghost_name = δ; now = us }) (slice_val (b, o) m) (a (ν ∷ [])) (g (ν ∷ []) δ) (gs (ν ∷ [])) (req (ν ∷ []) δ) (λ w. w ≡ y) r₀ (said (ν ∷ []) δ) (os _ _ (ν ∷ [])) (λ w e is.
      row_back t tt D us w b o (λ l. rewrite t 0 (λ (zs : List D.row.Denot). ‵ (row D.row full_share zs b o)) e refl $ k (em ∙ sym (ap length (sym e) ∙ l)) is)))

-- ---- a call that takes two references, of the types F κ and G κ', and then plain data
abbrev pub lent2_t : (Lft → RattleType) → (Lft → RattleType) → List Data → Data → Ended
lent2_t F G Ds Q = record { signature = record { lifetimes = 2; outlives = []; params = plain (λ κs. F κs.0) ∷ plain (λ κs. G κs.1.0) ∷ slots_of {n = 2} Ds; result = plain (λ _. Q.row) }; kept = (yes, (yes, all yes (slots_of {n = 2} Ds))) }

module _ {M : Type 1} {𝓤 : Ura M} {𝓛 : Logic 𝓤} {K : Type 0} {Γ : List (Item 𝓤)} {E : Env 𝓤 𝓛.H} {C : Calls 𝓤 𝓛.H} {f : Callee} {xs : List Operand} {Λ : Loops 𝓤 𝓛.H} {q : Post 𝓤 𝓛.H} {d : Place} {rest : Body} where
  -- the two tokens and the two references stand first
  open 𝓛 use {H}

  pub calls_lent2 : K → FmC 𝓤 H 𝓛.laws C → (F G : Lft → RattleType) (Ds : List Data) (Q : Data) (c : Clauses 𝓤 (lent2_t F G Ds Q)) → Triple 𝓤 (C f) (triple_of 𝓛 (lent2_t F G Ds Q).signature (closing 𝓛 (lent2_t F G Ds Q) c))
      → (κ κ' : Lft) (s s' : Share) (x : (F κ).Denot) (x' : (G κ').Denot) (v₀ v₁ : Val) (a : Values 2 (κ, (κ', tt)) Ds) (g : (c (κ, (κ', tt)) (x, (x', a))).ghost) → Goods 2 (κ, (κ', tt)) Ds a → ent 𝓤 (emp 𝓤) ((c (κ, (κ', tt)) (x, (x', a))).requires g)
      → (φ : Last ((F κ).exit yes) x → Last ((G κ').exit yes) x' → Type 0) (r₀ : Q.row.Denot)
      → ((r : Q.row.Denot) (ws : Lasts (lent2_t F G Ds Q) (κ, (κ', tt)) (x, (x', a))) → ent 𝓤 ((c (κ, (κ', tt)) (x, (x', a))).ensures g r (at_exit (lent2_t F G Ds Q) (κ, (κ', tt)) (x, (x', a)) ws)) (fact 𝓤 (φ ws.0 ws.1.0 × (r ≡ r₀))))
      → Opds K 𝓛 (raw ((triple_of 𝓛 (lent2_t F G Ds Q).signature (closing 𝓛 (lent2_t F G Ds Q) c)).pre (((κ, (κ', tt)), (s, (s', tt)), tt, (x, (x', a)), (v₀ ∷ [], (v₁ ∷ [], vals_of 2 (κ, (κ', tt)) Ds a))), g)) ∷ Γ) E xs (v₀ ∷ v₁ ∷ flat (types_at (slots_of {n = 2} Ds) (κ, (κ', tt))) (vals_of 2 (κ, (κ', tt)) Ds a))
      → ((w : Last ((F κ).exit yes) x) (w' : Last ((G κ').exit yes) x') → φ w w' → Good Q r₀ → Seq K 𝓛 (‵ (flft κ s) ∷ ‵ (flft κ' s') ∷ ‵ (left ((F κ).exit yes) x w) ∷ ‵ (left ((G κ').exit yes) x' w') ∷ Γ) (lands C Λ E d (Q.val r₀) rest q))
      → Seq K 𝓛 (‵ (flft κ s) ∷ ‵ (flft κ' s') ∷ ‵ ((F κ).own_val x (v₀ ∷ [])) ∷ ‵ ((G κ').own_val x' (v₁ ∷ [])) ∷ Γ) (runs C Λ E (seq (call f xs d) rest) q)
  calls_lent2 t fm F G Ds Q c known κ κ' s s' x x' v₀ v₁ a g gs req φ r₀ said os k =
      let y : (triple_of 𝓛 (lent2_t F G Ds Q).signature (closing 𝓛 (lent2_t F G Ds Q) c)).Ghost = (((κ, (κ', tt)), (s, (s', tt)), tt, (x, (x', a)), (v₀ ∷ [], (v₁ ∷ [], vals_of 2 (κ, (κ', tt)) Ds a))), g) in
      use0 𝓛 (‵ ftrue) (id⊢ 𝓤 (emp 𝓤)) $ use0 𝓛 (‵ (owns (types_at (slots_of {n = 2} Ds) (κ, (κ', tt))) a (vals_of 2 (κ, (κ', tt)) Ds a))) (goods_own 2 (κ, (κ', tt)) 𝓛 Ds a gs) $
      -- [the data; true; the two tokens; the two references; Γ]
      move t (5 ∷ 0 ∷ []) $ fjoin t $ move t (4 ∷ 0 ∷ []) $ fjoin t $ move t (3 ∷ 1 ∷ []) $ join t $ move t (2 ∷ 0 ∷ []) $ join t $ join t $
      use0 𝓛 (raw ((c (κ, (κ', tt)) (x, (x', a))).requires g)) req $ move t (1 ∷ 0 ∷ []) $ use2 𝓛 (raw ((triple_of 𝓛 (lent2_t F G Ds Q).signature (closing 𝓛 (lent2_t F G Ds Q) c)).pre y)) (id⊢ 𝓤 _) $
      calls_of t fm (lent2_t F G Ds Q) c known y os (λ v r ws is.
      use1 𝓛 (‵ (flft κ s) ⊛ ‵ (flft κ' s') ⊛ ‵ ftrue) (id⊢ 𝓤 _) $ split3 t $ move t (4 ∷ []) $ use1 𝓛 (raw (fact 𝓤 (φ ws.0 ws.1.0 × (r ≡ r₀)))) (said r ws) $ heard t (φ ws.0 ws.1.0 × (r ≡ r₀)) (λ e.
      -- [the two tokens; true; the last values; Γ]
      move t (3 ∷ []) $ use1 𝓛 (‵ (left ((F κ).exit yes) x ws.0) ⊛ ‵ (left ((G κ').exit yes) x' ws.1.0) ⊛ ‵ (lasts_of (κ, (κ', tt)) (slots_of {n = 2} Ds) (all yes (slots_of {n = 2} Ds)) a ws.1.1)) (id⊢ 𝓤 _) $ split3 t $
      move t (2 ∷ 5 ∷ []) $ drop t $ drop t $ move t (2 ∷ 3 ∷ []) $ exactly t Q is e.1 (k ws.0 ws.1.0 e.0)))

-- ---- a call with any number of references: the tokens and what each parameter owns stand first, one entry each; afterwards the tokens, what is said of each parameter's last value, and the `ensures`
module _ {M : Type 1} {𝓤 : Ura M} (𝓛 : Logic 𝓤) where
  open 𝓛 use {A}

  from_tokens : (n : ℕ) (κs : Lfts n) (qs : Shares n) → ent 𝓤 (⋆ 𝓛 (tokens 𝓛 n κs qs)) (toks 𝓛 n κs qs)
  from_tokens zero κs qs = id⊢ 𝓤 (emp 𝓤)
  from_tokens (suc n) κs qs = via 𝓤 (sep 𝓤 (A.lft κs.0 qs.0) (⋆ 𝓛 (tokens 𝓛 n κs.1 qs.1))) (pop 𝓛 (‵ (flft κs.0 qs.0)) (tokens 𝓛 n κs.1 qs.1)) (mono_r 𝓤 (A.lft κs.0 qs.0) (from_tokens n κs.1 qs.1))

  from_owneds : (Rs : List RattleType) (a : Denots Rs) (vss : Valss Rs) → ent 𝓤 (⋆ 𝓛 (owneds 𝓛 Rs a vss)) (sem 𝓛 (owns Rs a vss))
  from_owneds [] a vss = id⊢ 𝓤 (emp 𝓤)
  from_owneds (R ∷ Rs) a vss = via 𝓤 (sep 𝓤 (sem 𝓛 (R.own_val a.0 vss.0)) (⋆ 𝓛 (owneds 𝓛 Rs a.1 vss.1))) (pop 𝓛 (‵ (R.own_val a.0 vss.0)) (owneds 𝓛 Rs a.1 vss.1)) (mono_r 𝓤 (sem 𝓛 (R.own_val a.0 vss.0)) (from_owneds Rs a.1 vss.1))

  -- what is said of each parameter's last value, one entry each
  abbrev pub lefts : {n : ℕ} (κs : Lfts n) (ss : List (Slot n)) (ks : Kepts ss) (a : Denots (types_at ss κs)) → Fins κs ss ks a → List (Item 𝓤)
  lefts κs [] ks a ws = []
  lefts κs (s ∷ ss) ks a ws = ‵ (left ((s.row κs).exit ks.0) a.0 ws.0) ∷ lefts κs ss ks.1 a.1 ws.1

  to_lefts : {n : ℕ} (κs : Lfts n) (ss : List (Slot n)) (ks : Kepts ss) (a : Denots (types_at ss κs)) (ws : Fins κs ss ks a) → ent 𝓤 (sem 𝓛 (lasts_of κs ss ks a ws)) (⋆ 𝓛 (lefts κs ss ks a ws))
  to_lefts κs [] ks a ws = id⊢ 𝓤 (emp 𝓤)
  to_lefts κs (s ∷ ss) ks a ws = via 𝓤 (sep 𝓤 (sem 𝓛 (left ((s.row κs).exit ks.0) a.0 ws.0)) (⋆ 𝓛 (lefts κs ss ks.1 a.1 ws.1))) (mono_r 𝓤 (sem 𝓛 (left ((s.row κs).exit ks.0) a.0 ws.0)) (to_lefts κs ss ks.1 a.1 ws.1)) (push 𝓛 (‵ (left ((s.row κs).exit ks.0) a.0 ws.0)) (lefts κs ss ks.1 a.1 ws.1))

module _ {M : Type 1} {𝓤 : Ura M} {𝓛 : Logic 𝓤} {K : Type 0} {Γ : List (Item 𝓤)} {E : Env 𝓤 𝓛.H} {C : Calls 𝓤 𝓛.H} {f : Callee} {xs : List Operand} {Λ : Loops 𝓤 𝓛.H} {q : Post 𝓤 𝓛.H} {d : Place} {rest : Body} where
  -- `pinned` gives the last part of what the `ensures` has to say
  open 𝓛 use {H}

  pub calls_any : K → FmC 𝓤 H 𝓛.laws C → (T : Ended) (c : Clauses 𝓤 T) → Triple 𝓤 (C f) (triple_of 𝓛 T.signature (closing 𝓛 T c)) → (y : (triple_of 𝓛 T.signature (closing 𝓛 T c)).Ghost)
      → ent 𝓤 (emp 𝓤) ((c y.0.0 y.0.3).requires y.1) → (Q : Data) (r₀ : Q.row.Denot) (φ : Lasts T y.0.0 y.0.3 → Type 0)
      → ((v : Val) (r : Res T.signature y.0.0) (ws : Lasts T y.0.0 y.0.3) → Is (type_at T.signature.result y.0.0) r (v ∷ []) → ent 𝓤 ((c y.0.0 y.0.3).ensures y.1 r (at_exit T y.0.0 y.0.3 ws)) (fact 𝓤 (φ ws × ((v ≡ Q.val r₀) × Good Q r₀))))
      → Opds K 𝓛 (raw ((triple_of 𝓛 T.signature (closing 𝓛 T c)).pre y) ∷ Γ) E xs ((triple_of 𝓛 T.signature (closing 𝓛 T c)).args y)
      → ((ws : Lasts T y.0.0 y.0.3) → φ ws → Good Q r₀ → Seq K 𝓛 ((tokens 𝓛 T.signature.lifetimes y.0.0 y.0.1 ++ lefts 𝓛 y.0.0 T.signature.params T.kept y.0.3 ws) ++ Γ) (lands C Λ E d (Q.val r₀) rest q))
      → Seq K 𝓛 ((tokens 𝓛 T.signature.lifetimes y.0.0 y.0.1 ++ owneds 𝓛 (types_at T.signature.params y.0.0) y.0.3 y.0.4) ++ Γ) (runs C Λ E (seq (call f xs d) rest) q)
  calls_any t fm T c known y req Q r₀ φ said os k =
      let To : List (Item 𝓤) = tokens 𝓛 T.signature.lifetimes y.0.0 y.0.1 in
      let P : SProp 𝓤 = sep 𝓤 (toks 𝓛 T.signature.lifetimes y.0.0 y.0.1) (sem 𝓛 (owns (types_at T.signature.params y.0.0) y.0.3 y.0.4)) in
      let R : SProp 𝓤 = (c y.0.0 y.0.3).requires y.1 in
      let Ow : List (Item 𝓤) = owneds 𝓛 (types_at T.signature.params y.0.0) y.0.3 y.0.4 in
      cut (To ++ Ow) (raw ((triple_of 𝓛 T.signature (closing 𝓛 T c)).pre y) ∷ []) Γ
      (via 𝓤 (sep 𝓤 (⋆ 𝓛 To) (⋆ 𝓛 Ow)) (⊢++ 𝓛 To Ow) (via 𝓤 (sep 𝓤 (toks 𝓛 T.signature.lifetimes y.0.0 y.0.1) (sem 𝓛 (owns (types_at T.signature.params y.0.0) y.0.3 y.0.4)))
      (mono∗ 𝓤 (from_tokens 𝓛 T.signature.lifetimes y.0.0 y.0.1) (from_owneds 𝓛 (types_at T.signature.params y.0.0) y.0.3 y.0.4))
      (via 𝓤 (sep 𝓤 (emp 𝓤) P) (emp∗ 𝓤 P) (via 𝓤 (sep 𝓤 R P) (mono_l 𝓤 P req) (comm∗ 𝓤 R P))))) $
      calls_of t fm T c known y os (λ v r ws is. move t (2 ∷ []) $ use1 𝓛 (raw (fact 𝓤 (φ ws × ((v ≡ Q.val r₀) × Good Q r₀)))) (said v r ws is) $ heard t (φ ws × ((v ≡ Q.val r₀) × Good Q r₀)) (λ e.
      cut (raw (alive 𝓛 T.signature y.0.0 y.0.1) ∷ ‵ (lasts T y.0.0 y.0.3 ws) ∷ []) (To ++ lefts 𝓛 y.0.0 T.signature.params T.kept y.0.3 ws) Γ
      (via 𝓤 (sep 𝓤 (⋆ 𝓛 To) (⋆ 𝓛 (lefts 𝓛 y.0.0 T.signature.params T.kept y.0.3 ws)))
      (mono∗ 𝓤 (to_tokens 𝓛 T.signature.lifetimes y.0.0 y.0.1) (to_lefts 𝓛 y.0.0 T.signature.params T.kept y.0.3 ws)) (++⊢ 𝓛 To (lefts 𝓛 y.0.0 T.signature.params T.kept y.0.3 ws))) $
      subst (λ (u : Val). Seq K 𝓛 ((To ++ lefts 𝓛 y.0.0 T.signature.params T.kept y.0.3 ws) ++ Γ) (lands C Λ E d u rest q)) (sym e.1.0) (k ws e.0 e.1.1)))
