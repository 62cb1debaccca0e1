-- How a walk begins and ends.
--     Param, data_p, mut_p, shr_p, mut_slice_p, shr_slice_p      a parameter: plain data, `&mut D`, `&D`, `&mut [D]`, `&[D]`. Of plain data and of `&` nothing is had at exit
--     Walk, starts         what a walk shows, and its first step: the tokens, then what each parameter owns
--     allocs_all, frees_all        the locals, all at once; freed by whether each holds something (`cell`) or not (`room`), the last one first
--     behind               the first n entries go behind the others, so that the locals stand first
--     Ends, ends_in        what a walk ends in, and how: with a result, last values, and what the `ensures` says of them
--     meets_by             the walk taken to the function's contract
--     tokens, owneds       the tokens of the lifetimes, and what a list of types owns, one entry each
-- Assumes `Logic`.
use mathlib.Core.Path.{refl}
use Prim.Native.Nat.{ℕ, zero, suc}
use mathlib.Core.List.{List, [], ◌∷◌, ◌++◌}
use seplogic.Ra.Ura.{Ura}
use base.Fraction.{full_share}
use mir.Syntax.{named, Ty, Local, local, Fn}
use mir.Val.{Val}
use base.Logic.{SProp, ent, sep, emp, id⊢, via, comm∗, mono∗, mono_l, mono_r}
use base.Fml.{Fml, flft, fat, froom, fdies}
use prog.Wp.{Heap, Env, WpFn, Tables}
use types.Logic.{Logic, sem}
use sound.WpLaws.{WpFn-mono}
use contract.Lifetimes.{Lfts, Shares, toks}
use types.Kit.{Item, ‵, raw, ◌⊛◌, mean, ⋆, push, pop, ++⊢, Sq, prop, Goal, allocs, frees, Seq, Step, step, ◌$◌, ◌∵◌, !, qed, suffices, frame, group, done, move, use0, use1, use3, drop, split3}
use types.Run.{alloc1, alloc0, free1, free0}
use denote.RattleType.{RattleType, Denots, Valss, owns, flat}
use denote.Laws.{Is, Tells, Spells, Tellss, Ises, Are, valss}
use denote.Ref.{shr_vals, mut_vals, mut_Tells, shr_Tells}
use denote.Slice.{shr_slice_vals, mut_slice_vals, mut_slice_Tells, shr_slice_Tells}
use denote.Signature.{Slot, AllWithin, meet_at, plain, mut_ref, mut_slice, shr_slice, types_at, shr_ref}
use denote.Exit.{yes}
use denote.Triple.Entry.{Args}
use denote.Triple.End.{all}
use denote.Triple.Spec.{Meets}
use denote.Triple.Clauses.{Ended, Clauses, Lasts, at_exit, closing}
use denote.Triple.Walked.{Stay, Stays, stay_dropped, stay_ref, stay_slice, walk_of, has_of, Fit, Goes, Goes-dropped, Goes-ref, Goes-slice, AllGo, ends_at, walked, walk_Meets}
use Rattle.walks.proofs.Data.{Data, Good}

-- ---- a function's locals, all at once: they are allocated, the last one first in the context; and freed, by whether each holds something (`cell`) or not (`room`)
abbrev pub Blocks : List Local → Type 0
Blocks [] = Unit {0}
Blocks (local τ h ∷ ls) = ℕ × Blocks ls

-- whether a local holds something (`cell`) or not (`room`)
pub data Kind : Type 0 where
  cell : Kind
  room : Kind

-- a local by its kind: its type, its block, and what it holds
abbrev pub Held : Kind → Type 0
Held cell = (Ty × ℕ) × Val
Held room = (Ty × ℕ) × Unit {0}

-- several of them
abbrev pub Helds : List Kind → Type 0
Helds [] = Unit {0}
Helds (k ∷ ks) = Held k × Helds ks

-- its type and its block
abbrev pub at_home : (k : Kind) → Held k → Ty × ℕ
at_home cell t = t.0
at_home room t = t.0

module _ {M : Type 1} (𝓤 : Ura M) (H : Heap 𝓤) where
  -- the locals as the allocations leave them, in front of Γ
  abbrev pub rooms : (ls : List Local) → Blocks ls → List (Item 𝓤) → List (Item 𝓤)
  rooms [] bs Γ = Γ
  rooms (local τ h ∷ ls) bs Γ = rooms ls bs.1 (‵ (froom τ bs.0 0) ∷ ‵ (fdies τ bs.0) ∷ Γ)

  -- the walk's environment
  abbrev pub homes : (ls : List Local) → Blocks ls → Env 𝓤 H
  homes [] bs = []
  homes (local τ h ∷ ls) bs = (τ, bs.0) ∷ homes ls bs.1

  -- the entry of one local
  abbrev pub held : (k : Kind) → Held k → Item 𝓤
  held cell t = ‵ (fat full_share t.0.0 t.0.1 0 t.1)
  held room t = ‵ (froom t.0.0 t.0.1 0)

  -- the entries of several, in front of Θ
  abbrev pub helds : (ks : List Kind) → Helds ks → List (Item 𝓤) → List (Item 𝓤)
  helds [] t Θ = Θ
  helds (k ∷ ks) t Θ = held k t.0 ∷ ‵ (fdies (at_home k t.0).0 (at_home k t.0).1) ∷ helds ks t.1 Θ

  -- and their environment
  abbrev pub held_homes : (ks : List Kind) → Helds ks → Env 𝓤 H → Env 𝓤 H
  held_homes [] t E = E
  held_homes (k ∷ ks) t E = held_homes ks t.1 (at_home k t.0 ∷ E)

module _ {M : Type 1} {𝓤 : Ura M} (𝓛 : Logic 𝓤) where
  open 𝓛 use {H}

  roomy : (k : Kind) (t : Held k) → ent 𝓤 (mean 𝓛 (held 𝓤 H k t)) (H.room (at_home k t).0 (at_home k t).1 0)
  roomy cell t = 𝓛.laws.at_room t.0.0 t.0.1 0 t.1
  roomy room t = id⊢ 𝓤 (H.room t.0.0 t.0.1 0)

module _ {M : Type 1} {𝓤 : Ura M} {𝓛 : Logic 𝓤} {K : Type 0} where
  -- the locals are allocated: l is the tuple of their blocks
  open 𝓛 use {H}

  pub allocs_all : K → {Γ : List (Item 𝓤)} (ls : List Local) {Kt : Env 𝓤 H → Goal 𝓤 H} → ((bs : Blocks ls) → Seq K 𝓛 (rooms 𝓤 H ls bs Γ) (Kt (homes 𝓤 H ls bs))) → Seq K 𝓛 Γ (allocs ls Kt)
  allocs_all t [] k = alloc0 t $ k tt
  allocs_all t {Γ = Γ} (local τ h ∷ ls) {Kt = Kt} k = alloc1 t (λ b. allocs_all t {Γ = ‵ (froom τ b 0) ∷ ‵ (fdies τ b) ∷ Γ} ls {Kt = λ E. Kt ((τ, b) ∷ E)} (λ bs. k (b, bs)))

  freed : K → {Θ : List (Item 𝓤)} {g : Goal 𝓤 H} (ks : List Kind) (hs : Helds ks) (E : Env 𝓤 H) (X : SProp 𝓤) → Seq K 𝓛 (raw X ∷ Θ) (frees E g) → Seq K 𝓛 (raw X ∷ helds 𝓤 H ks hs Θ) (frees (held_homes 𝓤 H ks hs E) g)
  freed t [] hs E X s = s
  freed t (k ∷ ks) hs E X s =
      let τ : Ty = (at_home k hs.0).0 in
      let b : ℕ = (at_home k hs.0).1 in
      use3 𝓛 (raw (sep 𝓤 X (sep 𝓤 (H.room τ b 0) (H.dies τ b)))) (mono_r 𝓤 X (mono_l 𝓤 (H.dies τ b) (roomy 𝓛 k hs.0))) $
      freed t ks hs.1 ((τ, b) ∷ E) (sep 𝓤 X (sep 𝓤 (H.room τ b 0) (H.dies τ b)))
      (use1 𝓛 (raw X ⊛ ‵ (froom τ b 0) ⊛ ‵ (fdies τ b)) (id⊢ 𝓤 _) $ split3 t $ move t (1 ∷ 2 ∷ []) $ free1 t $ s)

  -- the locals stand first, the last one first: they are freed, and what stands behind them is left
  pub frees_all : K → {Θ : List (Item 𝓤)} {g : Goal 𝓤 H} (ks : List Kind) (hs : Helds ks) → Step K 𝓛 Θ g (helds 𝓤 H ks hs Θ) (frees (held_homes 𝓤 H ks hs []) g)
  frees_all t ks hs = step (λ s. use0 𝓛 (raw (emp 𝓤)) (id⊢ 𝓤 (emp 𝓤)) $ freed t ks hs [] (emp 𝓤) (drop t $ free0 t $ s))

-- ---- the parameters of a function that is walked: what is had of each at exit, how it is spelled, and its laws
pub record Param (n : ℕ) : Type 2 where
  -- the parameter, as the signature has it
  pub slot : Slot n
  -- what is had of it at exit
  pub stay : Stay slot yes
  -- its machine values
  pub spell : (κs : Lfts n) → (slot.row κs).Denot → List Val
  -- it has no others
  pub tell : (κs : Lfts n) → Tells (slot.row κs) (Is (slot.row κs)) (spell κs)
  -- what is had of it is what the contract speaks of
  pub goes : {M : Type 1} {𝓤 : Ura M} (𝓛 : Logic 𝓤) → Goes 𝓛 n slot yes stay

module _ (n : ℕ) where
  -- plain data: nothing is had of it at exit
  abbrev pub data_p : Data → Param n
  data_p D = record { slot = plain (λ _. D.row); stay = stay_dropped (plain (λ _. D.row)) yes; spell = λ _ y. D.val y ∷ []; tell = λ _. D.tells; goes = λ 𝓛. Goes-dropped 𝓛 n (plain (λ _. D.row)) yes (λ κs. D.silent) }

  -- a `&'j mut D` that is owned at exit
  abbrev pub mut_p : (j : ℕ) → AllWithin n (j ∷ []) → Data → Param n
  mut_p j ok D = record { slot = mut_ref j ok (λ _. D.row); stay = stay_ref (j ∷ []) ok (plain (λ _. D.row)); spell = λ _. mut_vals; tell = λ κs. mut_Tells (named j) (meet_at n (j ∷ []) ok κs) D.row; goes = λ 𝓛. Goes-ref 𝓛 n j ok (plain (λ _. D.row)) }

  -- a `&'j mut [D]` that is owned at exit
  abbrev pub mut_slice_p : (j : ℕ) → AllWithin n (j ∷ []) → Data → Param n
  mut_slice_p j ok D = record { slot = mut_slice j ok (λ _. D.row); stay = stay_slice (j ∷ []) ok (plain (λ _. D.row)); spell = λ _. mut_slice_vals; tell = λ κs. mut_slice_Tells (named j) (meet_at n (j ∷ []) ok κs) D.row; goes = λ 𝓛. Goes-slice 𝓛 n j ok (plain (λ _. D.row)) }

  -- a `&'j [D]`: nothing is had of it at exit
  abbrev pub shr_slice_p : (j : ℕ) → AllWithin n (j ∷ []) → Data → Param n
  shr_slice_p j ok D = record { slot = shr_slice j ok (λ _. D.row); stay = stay_dropped (shr_slice j ok (λ _. D.row)) yes; spell = λ _. shr_slice_vals; tell = λ κs. shr_slice_Tells (named j) (meet_at n (j ∷ []) ok κs) D.row; goes = λ 𝓛. Goes-dropped 𝓛 n (shr_slice j ok (λ _. D.row)) yes (λ κs x f. refl) }

  -- a `&'j D`: nothing is had of it at exit
  abbrev pub shr_p : (j : ℕ) → AllWithin n (j ∷ []) → Data → Param n
  shr_p j ok D = record { slot = shr_ref j ok (λ _. D.row); stay = stay_dropped (shr_ref j ok (λ _. D.row)) yes; spell = λ _. shr_vals; tell = λ κs. shr_Tells (named j) (meet_at n (j ∷ []) ok κs) D.row; goes = λ 𝓛. Goes-dropped 𝓛 n (shr_ref j ok (λ _. D.row)) yes (λ κs x f. refl) }

  -- all the parameters: their slots, what is had of each at exit, how they are spelled, and their laws
  abbrev pub slots : List (Param n) → List (Slot n)
  slots [] = []
  slots (p ∷ ps) = p.slot ∷ slots ps

  -- what is had of each at exit
  abbrev pub stays : (ps : List (Param n)) → Stays (slots ps) (all yes (slots ps))
  stays [] = tt
  stays (p ∷ ps) = (p.stay, stays ps)

  -- how each is spelled
  abbrev pub spells : (ps : List (Param n)) (κs : Lfts n) → Spells (types_at (slots ps) κs)
  spells [] κs = tt
  spells (p ∷ ps) κs = (p.spell κs, spells ps κs)

  -- that this spelling is the only one
  abbrev pub tells : (ps : List (Param n)) (κs : Lfts n) → Tellss (types_at (slots ps) κs) (Ises (types_at (slots ps) κs)) (spells ps κs)
  tells [] κs = tt
  tells (p ∷ ps) κs = (p.tell κs, tells ps κs)

  -- that what is had of each at exit is what its contract speaks of
  abbrev pub all_go : {M : Type 1} {𝓤 : Ura M} (𝓛 : Logic 𝓤) (ps : List (Param n)) → AllGo 𝓛 n (slots ps) (all yes (slots ps)) (stays ps)
  all_go 𝓛 [] = tt
  all_go 𝓛 (p ∷ ps) = (p.goes 𝓛, all_go 𝓛 ps)

  -- what the parameters own at entry
  abbrev pub owned_by : (ps : List (Param n)) (κs : Lfts n) → Denots (types_at (slots ps) κs) → Fml
  owned_by ps κs a = owns (types_at (slots ps) κs) a (valss (types_at (slots ps) κs) (spells ps κs) a)

  -- a function with these parameters, and with the result Q
  abbrev pub ended_of : List (Param n) → Data → Ended
  ended_of ps Q = record { signature = record { lifetimes = n; outlives = []; params = slots ps; result = plain (λ _. Q.row) }; kept = all yes (slots ps) }

  module _ {M : Type 1} {𝓤 : Ura M} (𝓛 : Logic 𝓤) (ps : List (Param n)) (Q : Data) (c : Clauses 𝓤 (ended_of ps Q)) where
    -- what a walk ends in, at what is bound outside
    open 𝓛 use {H}

    abbrev pub Ends : (κs : Lfts n) → Shares n → (a : Args (ended_of ps Q).signature κs) → (c κs a).ghost → Val → SProp 𝓤
    Ends κs qs a g = (walk_of 𝓛 (ended_of ps Q) (stays ps) c).post ((κs, qs, tt, a, valss (types_at (slots ps) κs) (spells ps κs) a), g)

    -- how it ends: with the result r, the last values ws and what the `ensures` says of them; what is left to show is the tokens and what is had of the parameters
    pub ends_in : (κs : Lfts n) (qs : Shares n) (a : Args (ended_of ps Q).signature κs) (g : (c κs a).ghost) (r : Q.row.Denot) (ws : Lasts (ended_of ps Q) κs a) → Fit (ended_of ps Q) (stays ps) κs a ws → Good Q r
        → ent 𝓤 (emp 𝓤) ((c κs a).ensures g r (at_exit (ended_of ps Q) κs a ws))
        → ent 𝓤 (sep 𝓤 (toks 𝓛 n κs qs) (sem 𝓛 (has_of κs (slots ps) (all yes (slots ps)) (stays ps) a ws (valss (types_at (slots ps) κs) (spells ps κs) a)))) (Ends κs qs a g (Q.val r))
    ends_in κs qs a g r ws fits is says =
        qed 𝓛 (raw (toks 𝓛 n κs qs) ∷ ‵ (has_of κs (slots ps) (all yes (slots ps)) (stays ps) a ws (valss (types_at (slots ps) κs) (spells ps κs) a)) ∷ []) ∵
        suffices ! _ (ends_at 𝓛 (ended_of ps Q) (stays ps) c ((κs, qs, tt, a, valss (types_at (slots ps) κs) (spells ps κs) a), g) (Q.val r) r ws fits) $
        use0 𝓛 (raw ((c κs a).ensures g r (at_exit (ended_of ps Q) κs a ws))) says $ use0 𝓛 (‵ (Q.row.own_val r (Q.val r ∷ []))) (Q.made 𝓛 r (Q.val r ∷ []) is) $ move ! (2 ∷ 3 ∷ 0 ∷ []) $ group ! 3 $ frame ! $ done !

    -- the walk: from the tokens and what the parameters own
    abbrev pub Walk : Tables 𝓤 H → Fn → (κs : Lfts n) → Shares n → (a : Args (ended_of ps Q).signature κs) → (c κs a).ghost → Type 1
    Walk 𝓣 fn κs qs a g = ent 𝓤 (sep 𝓤 (toks 𝓛 n κs qs) (sem 𝓛 (owned_by ps κs a))) (WpFn 𝓤 H 𝓣.C 𝓣.Λ fn (flat (types_at (slots ps) κs) (valss (types_at (slots ps) κs) (spells ps κs) a)) (Ends κs qs a g))

    -- the walk of the function's MIR, taken to its contract
    pub meets_by : (𝓣 : Tables 𝓤 H) (fn : Fn)
        → ((κs : Lfts n) (qs : Shares n) (a : Args (ended_of ps Q).signature κs) (g : (c κs a).ghost) → Are (types_at (slots ps) κs) (Ises (types_at (slots ps) κs)) a (valss (types_at (slots ps) κs) (spells ps κs) a)
        → ent 𝓤 (sep 𝓤 (sep 𝓤 (toks 𝓛 n κs qs) (sem 𝓛 (owns (types_at (slots ps) κs) a (valss (types_at (slots ps) κs) (spells ps κs) a)))) ((c κs a).requires g))
        (WpFn 𝓤 H 𝓣.C 𝓣.Λ fn (flat (types_at (slots ps) κs) (valss (types_at (slots ps) κs) (spells ps κs) a)) (Ends κs qs a g)))
        → Meets 𝓛 (ended_of ps Q).signature (WpFn 𝓤 H 𝓣.C 𝓣.Λ fn) (closing 𝓛 (ended_of ps Q) c)
    meets_by 𝓣 fn k = walk_Meets 𝓛 (ended_of ps Q) (stays ps) (all_go 𝓛 ps) c (WpFn 𝓤 H 𝓣.C 𝓣.Λ fn) (WpFn-mono 𝓤 H 𝓛.laws 𝓣 fn)
        (walked 𝓛 (ended_of ps Q) (stays ps) c (WpFn 𝓤 H 𝓣.C 𝓣.Λ fn) (spells ps) (tells ps) (λ κs qs bounds a g are. k κs qs a g are))

-- ---- the first n entries go behind the others
module _ {M : Type 1} {𝓤 : Ura M} (𝓛 : Logic 𝓤) where
  -- the context with its first n entries behind the others
  abbrev pub turned : ℕ → List (Item 𝓤) → List (Item 𝓤)
  turned zero Γ = Γ
  turned (suc n) [] = []
  turned (suc n) (i ∷ Γ) = turned n (Γ ++ (i ∷ []))

  turns : (n : ℕ) (Γ : List (Item 𝓤)) → ent 𝓤 (⋆ 𝓛 Γ) (⋆ 𝓛 (turned n Γ))
  turns zero Γ = id⊢ 𝓤 (⋆ 𝓛 Γ)
  turns (suc n) [] = id⊢ 𝓤 (emp 𝓤)
  turns (suc n) (i ∷ Γ) = via 𝓤 (sep 𝓤 (mean 𝓛 i) (⋆ 𝓛 Γ)) (pop 𝓛 i Γ) (via 𝓤 (sep 𝓤 (⋆ 𝓛 Γ) (mean 𝓛 i)) (comm∗ 𝓤 (mean 𝓛 i) (⋆ 𝓛 Γ)) (via 𝓤 (⋆ 𝓛 (Γ ++ (i ∷ []))) (++⊢ 𝓛 Γ (i ∷ [])) (turns n (Γ ++ (i ∷ [])))))

module _ {M : Type 1} {𝓤 : Ura M} {𝓛 : Logic 𝓤} {K : Type 0} {Γ : List (Item 𝓤)} {G : Goal 𝓤 𝓛.H} where
  -- what stands in front of the locals is put behind them, in the same order
  pub behind : K → (n : ℕ) → Step K 𝓛 (turned 𝓛 n Γ) G Γ G
  behind t n = step (λ s. record { prf = via 𝓤 (⋆ 𝓛 (turned 𝓛 n Γ)) (turns 𝓛 n Γ) s.prf })

-- ---- the start of a walk: the tokens, and then what each parameter owns, one entry for each
module _ {M : Type 1} {𝓤 : Ura M} (𝓛 : Logic 𝓤) where
  -- the tokens, one entry each
  open 𝓛 use {A}

  abbrev pub tokens : (n : ℕ) → Lfts n → Shares n → List (Item 𝓤)
  tokens zero κs qs = []
  tokens (suc n) κs qs = ‵ (flft κs.0 qs.0) ∷ tokens n κs.1 qs.1

  -- what each of a list of types owns, one entry each
  abbrev pub owneds : (Rs : List RattleType) → Denots Rs → Valss Rs → List (Item 𝓤)
  owneds [] a vss = []
  owneds (R ∷ Rs) a vss = ‵ (R.own_val a.0 vss.0) ∷ owneds Rs a.1 vss.1

  -- the tokens, from one entry to one each
  pub to_tokens : (n : ℕ) (κs : Lfts n) (qs : Shares n) → ent 𝓤 (toks 𝓛 n κs qs) (⋆ 𝓛 (tokens n κs qs))
  to_tokens zero κs qs = id⊢ 𝓤 (emp 𝓤)
  to_tokens (suc n) κs qs = via 𝓤 (sep 𝓤 (A.lft κs.0 qs.0) (⋆ 𝓛 (tokens n κs.1 qs.1))) (mono_r 𝓤 (A.lft κs.0 qs.0) (to_tokens n κs.1 qs.1)) (push 𝓛 (‵ (flft κs.0 qs.0)) (tokens n κs.1 qs.1))

  to_owneds : (Rs : List RattleType) (a : Denots Rs) (vss : Valss Rs) → ent 𝓤 (sem 𝓛 (owns Rs a vss)) (⋆ 𝓛 (owneds Rs a vss))
  to_owneds [] a vss = id⊢ 𝓤 (emp 𝓤)
  to_owneds (R ∷ Rs) a vss = via 𝓤 (sep 𝓤 (sem 𝓛 (R.own_val a.0 vss.0)) (⋆ 𝓛 (owneds Rs a.1 vss.1))) (mono_r 𝓤 (sem 𝓛 (R.own_val a.0 vss.0)) (to_owneds Rs a.1 vss.1)) (push 𝓛 (‵ (R.own_val a.0 vss.0)) (owneds Rs a.1 vss.1))

  -- a walk is entered
  pub starts : (n : ℕ) (ps : List (Param n)) (κs : Lfts n) (qs : Shares n) (a : Denots (types_at (slots n ps) κs)) {P : SProp 𝓤}
      → Sq 𝓛 (tokens n κs qs ++ owneds (types_at (slots n ps) κs) a (valss (types_at (slots n ps) κs) (spells n ps κs) a)) (prop P) → ent 𝓤 (sep 𝓤 (toks 𝓛 n κs qs) (sem 𝓛 (owned_by n ps κs a))) P
  starts n ps κs qs a s =
      via 𝓤 (sep 𝓤 (⋆ 𝓛 (tokens n κs qs)) (⋆ 𝓛 (owneds (types_at (slots n ps) κs) a (valss (types_at (slots n ps) κs) (spells n ps κs) a))))
      (mono∗ 𝓤 (to_tokens n κs qs) (to_owneds (types_at (slots n ps) κs) a (valss (types_at (slots n ps) κs) (spells n ps κs) a)))
      (via 𝓤 (⋆ 𝓛 (tokens n κs qs ++ owneds (types_at (slots n ps) κs) a (valss (types_at (slots n ps) κs) (spells n ps κs) a)))
      (++⊢ 𝓛 (tokens n κs qs) (owneds (types_at (slots n ps) κs) a (valss (types_at (slots n ps) κs) (spells n ps κs) a))) s.prf)
