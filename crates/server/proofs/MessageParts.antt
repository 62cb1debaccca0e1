-- A request's message where it stands: behind a `&mut Link` the receiver's bytes are lent as a `&[u8; 260]` to the function that hands back the message, a `&[u8]` that lives as long as the loan.
--     hands_message    that call: the loan's token, the message, and what is kept meanwhile
--     message_back     the `&mut Link` and its token again, from the loan's token and what was kept
-- Assumes `Logic`.
use mathlib.Core.Path.{◌≡◌, sym, ap, subst}
use Prim.Native.Nat.{ℕ, ◌+◌}
use mathlib.Core.List.{List, [], ◌∷◌}
use lib.ListN.{length}
use seplogic.Ra.Ura.{Ura}
use base.Fraction.{full_share}
use mir.Syntax.{named, erased, Callee, Place, Opd as Operand, seq, call, Body as Code}
use mir.Val.{Val, vptr}
use base.Logic.{ent, emp, id⊢}
use base.Fml.{Lft, GName, Share, ftrue, flft, flent, fobs, fauth, fobor}
use prog.Wp.{Env, Calls, Loops}
use types.Logic.{Logic}
use sound.WpLaws.{FmC}
use contract.Monad.{fact}
use types.Kit.{Item, ‵, raw, ◌⊛◌, some, later, Goal, Soaks, Post, runs, lands, Seq, Step, step, ◌$◌, move, use0, use1, use2, drop, split, join, pick, fsplit, fjoin, await}
use types.Run.{Opds}
use types.SemTy.{Body}
use denote.Laws.{Is, shows}
use denote.Memory.{part_at, mem}
use denote.RattleType.{owns}
use denote.Ref.{Bor, ShrRef}
use denote.Slice.{slice_val, ShrSlice}
use denote.Signature.{plain, types_at}
use denote.Steps.{only, peeks, heard}
use denote.Exit.{yes}
use denote.Struct.Members.{Member, parts_at}
use denote.Triple.Entry.{alive}
use denote.Triple.Statement.{Triple}
use denote.Triple.Spec.{triple_of}
use denote.Triple.Call.{calls_at}
use denote.Triple.Clauses.{Ended, Clauses, Lasts, at_exit, lasts, closing}
use denote.Copied.{Array-Copied}
use Rattle.walks.proofs.Data.{Good, Mut, ShrS}
use Rattle.walks.proofs.Calls.{slots_of, vals_of, goods_own}
use Rattle.walks.proofs.Fields.{opened_part, closed_part, shares_part, part_unshared, Again, parts_out, parts_in}
use Rattle.ft12.specs.declared.record.Link.{Link}
use Rattle.ft12.proofs.Types.{byte_d, link_d, receiver_r, members, lawfuls}
use Rattle.ft12.specs.contracts.record.Link as L

-- the fields behind the receiver's bytes
abbrev others : List Member → List Member
others [] = []
others (m ∷ ms) = ms

-- what is kept while the receiver's bytes are lent for ν: they, the other fields, the way back and the open borrow
abbrev pub MessageKept : {M : Type 1} {𝓤 : Ura M} (𝓛 : Logic 𝓤) → Lft → Share → GName → ℕ → Link → ℕ → ℕ → Item 𝓤
MessageKept 𝓛 κ q γ ν h b o =
    ‵ (flent (ν ∷ []) (part_at receiver_r full_share h.receiver b (o + 0))) ⊛ ‵ (parts_at full_share (others members) 260 ((L.the_type).to h).1 b o)
    ⊛ raw (Again (L.the_type).name members Link (L.the_type).to (L.the_type).to_one 𝓛 full_share b o)
    ⊛ ‵ (fobor κ q (Body (mem link_d.row) b o γ)) ⊛ ‵ (fobs γ (link_d.row.coded.code h)) ⊛ ‵ (fauth γ (link_d.row.coded.code h))

-- a function that is lent the receiver's bytes, takes a byte, and hands back a part of the bytes
abbrev pub hands_t : Ended
hands_t = record {
  signature = record {
    lifetimes = 1;
    outlives = [];
    params = plain (λ κs. ShrRef (named 0) κs.0 receiver_r) ∷ slots_of {n = 1} (byte_d ∷ []);
    result = plain (λ κs. ShrSlice (named 0) κs.0 byte_d.row);
  };
  kept = (yes, (yes, tt));
}

-- the receiver's bytes at (b, o), lent
abbrev pub lent_at : Link → ℕ → ℕ → Bor (List ℕ)
lent_at h b o = record { ref_ptr = (b, o + 0); now = h.receiver }

module _ {M : Type 1} {𝓤 : Ura M} {𝓛 : Logic 𝓤} {K : Type 0} {Γ : List (Item 𝓤)} where
  -- the receiver's bytes are lent
  open 𝓛 use {H}

  lends_receiver : K → {G : Goal 𝓤 H} → Soaks G → (h : Link) {κ : Lft} {q : Share} {γ : GName} (b o : ℕ)
      → ((ν : ℕ) → Seq K 𝓛 (‵ (flft (ν ∷ []) full_share) ∷ ‵ ((ShrRef erased (ν ∷ []) receiver_r).own_val (lent_at h b o) (vptr b (o + 0) ∷ [])) ∷ MessageKept 𝓛 κ q γ ν h b o ∷ Γ) G)
      → Seq K 𝓛 (‵ (Mut link_d κ b o γ h) ∷ ‵ (flft κ q) ∷ Γ) G
  lends_receiver t z h b o k = opened_part t z link_d h $
      use1 𝓛 (‵ (parts_at full_share members 0 ((L.the_type).to h) b o) ⊛ raw (Again (L.the_type).name members Link (L.the_type).to (L.the_type).to_one 𝓛 full_share b o)) (parts_out (L.the_type).name members Link (L.the_type).to (L.the_type).to_one 𝓛 (lawfuls 𝓛) full_share h b o) $ split t $
      fsplit t $
      shares_part t z receiver_r full_share h.receiver b (o + 0) ((Array-Copied 𝓛 byte_d.row (byte_d.copied 𝓛) tt 260).lends full_share h.receiver b (o + 0)) (λ ν.
      -- [token; reference; the bytes; the other fields; the way back; three of the open borrow]
      move t (6 ∷ 7 ∷ []) $ join t $ move t (6 ∷ 0 ∷ []) $ join t $ move t (5 ∷ 0 ∷ []) $ join t $ move t (4 ∷ 0 ∷ []) $ join t $ move t (3 ∷ 0 ∷ []) $ join t $ move t (1 ∷ 2 ∷ 0 ∷ []) $ k ν)

  pub message_back : K → {G : Goal 𝓤 H} → Soaks G → (h : Link) {κ : Lft} {q : Share} {γ : GName} (b o : ℕ) {ν : ℕ}
      → Step K 𝓛 (‵ (Mut link_d κ b o γ h) ∷ ‵ (flft κ q) ∷ Γ) G (‵ (flft (ν ∷ []) full_share) ∷ MessageKept 𝓛 κ q γ ν h b o ∷ Γ) G
  message_back t z h b o = step (λ s.
      move t (1 ∷ []) $ split t $ move t (1 ∷ []) $ split t $ move t (1 ∷ []) $ split t $ move t (1 ∷ []) $ split t $ move t (1 ∷ []) $ split t $
      -- [two of the open borrow; its first; the way back; the other fields; the bytes; token]
      move t (6 ∷ 5 ∷ []) $ part_unshared t z receiver_r full_share h.receiver b (o + 0) $
      move t (0 ∷ 5 ∷ []) $ fjoin t $ move t (0 ∷ 4 ∷ []) $
      use2 𝓛 (‵ (part_at link_d.row full_share h b o)) (parts_in (L.the_type).name members Link (L.the_type).to (L.the_type).to_one 𝓛 (lawfuls 𝓛) full_share h b o) $
      move t (0 ∷ 3 ∷ 1 ∷ 2 ∷ []) $ closed_part t z link_d h h $ s)

module _ {M : Type 1} {𝓤 : Ura M} {𝓛 : Logic 𝓤} {K : Type 0} {Γ : List (Item 𝓤)} {E : Env 𝓤 𝓛.H} {C : Calls 𝓤 𝓛.H} {f : Callee} {xs : List Operand} {Λ : Loops 𝓤 𝓛.H} {q : Post 𝓤 𝓛.H} {d : Place} {rest : Code} where
  -- us is the message, as the `ensures` says. Where it lies is not told
  open 𝓛 use {H}

  pub hands_message : K → FmC 𝓤 H 𝓛.laws C → (c : Clauses 𝓤 hands_t) → Triple 𝓤 (C f) (triple_of 𝓛 hands_t.signature (closing 𝓛 hands_t c))
      → (h : Link) {κ : Lft} {s : Share} {γ : GName} (b o l : ℕ) (g : (κ' : Lft) → (c (κ', tt) (lent_at h b o, (l, tt))).ghost) → Good byte_d l
      → ((κ' : Lft) → ent 𝓤 (emp 𝓤) ((c (κ', tt) (lent_at h b o, (l, tt))).requires (g κ'))) → (us : List ℕ)
      → ((κ' : Lft) (r : Bor (List ℕ)) (ws : Lasts hands_t (κ', tt) (lent_at h b o, (l, tt))) → ent 𝓤 ((c (κ', tt) (lent_at h b o, (l, tt))).ensures (g κ') r (at_exit hands_t (κ', tt) (lent_at h b o, (l, tt)) ws)) (fact 𝓤 (r.now ≡ us)))
      → ((i j : Item 𝓤) → Opds K 𝓛 (i ∷ j ∷ Γ) E xs (vptr b (o + 0) ∷ byte_d.val l ∷ []))
      → ((ν : ℕ) (p : ℕ × ℕ) → Is (ShrSlice erased (ν ∷ []) byte_d.row) (record { ref_ptr = p; now = us }) (slice_val p (length us) ∷ [])
      → Seq K 𝓛 (‵ (flft (ν ∷ []) full_share) ∷ ‵ (ShrS byte_d (ν ∷ []) p.0 p.1 (length us) us) ∷ MessageKept 𝓛 κ s γ ν h b o ∷ Γ) (lands C Λ E d (slice_val p (length us)) rest q))
      → Seq K 𝓛 (‵ (Mut link_d κ b o γ h) ∷ ‵ (flft κ s) ∷ Γ) (runs C Λ E (seq (call f xs d) rest) q)
  hands_message t fm c known h {κ} {s} {γ} b o l g is req us said os k = lends_receiver t tt h b o (λ ν.
      let κ' : Lft = ν ∷ [] in
      let y : (triple_of 𝓛 hands_t.signature (closing 𝓛 hands_t c)).Ghost = (((κ', tt), (full_share, tt), tt, (lent_at h b o, (l, tt)), (vptr b (o + 0) ∷ [], vals_of 1 (κ', tt) (byte_d ∷ []) (l, tt))), g κ') in
      use0 𝓛 (‵ ftrue) (id⊢ 𝓤 (emp 𝓤)) $ move t (1 ∷ 0 ∷ []) $ join t $
      use0 𝓛 (‵ (owns (types_at (slots_of {n = 1} (byte_d ∷ [])) (κ', tt)) (l, tt) (vals_of 1 (κ', tt) (byte_d ∷ []) (l, tt)))) (goods_own 1 (κ', tt) 𝓛 (byte_d ∷ []) (l, tt) (is, tt)) $ move t (2 ∷ 0 ∷ []) $ fjoin t $ move t (1 ∷ 0 ∷ []) $ join t $
      use0 𝓛 (raw ((c (κ', tt) (lent_at h b o, (l, tt))).requires (g κ'))) (req κ') $ move t (1 ∷ 0 ∷ []) $ use2 𝓛 (raw ((triple_of 𝓛 hands_t.signature (closing 𝓛 hands_t c)).pre y)) (id⊢ 𝓤 _) $
      calls_at t fm (triple_of 𝓛 hands_t.signature (closing 𝓛 hands_t c)) known y (os _ _) (λ v.
      use1 𝓛 (later (some (λ (r : Bor (List ℕ)). (raw (alive 𝓛 hands_t.signature (κ', tt) (full_share, tt)) ⊛ ‵ ((ShrSlice erased κ' byte_d.row).own_val r (v ∷ [])))
      ⊛ some (λ (ws : Lasts hands_t (κ', tt) (lent_at h b o, (l, tt))). ‵ (lasts hands_t (κ', tt) (lent_at h b o, (l, tt)) ws) ⊛ raw ((c (κ', tt) (lent_at h b o, (l, tt))).ensures (g κ') r (at_exit hands_t (κ', tt) (lent_at h b o, (l, tt)) ws)))))) (id⊢ 𝓤 _) $ await t tt $ pick t (λ r.
      split t $ split t $ move t (2 ∷ []) $ pick t (λ ws. split t $ drop t $
      -- [what the `ensures` says; what is alive; the message; what is kept]
      use1 𝓛 (raw (fact 𝓤 (r.now ≡ us))) (said κ' r ws) $ heard t (r.now ≡ us) (λ e.
      use1 𝓛 (‵ (flft κ' full_share) ⊛ ‵ ftrue) (id⊢ 𝓤 _) $ split t $ move t (1 ∷ []) $ drop t $ move t (1 ∷ []) $
      peeks t (ShrSlice erased κ' byte_d.row) (Is (ShrSlice erased κ' byte_d.row)) (shows 𝓛 (ShrSlice erased κ' byte_d.row)) r (v ∷ []) (λ p.
      told ν r.ref_ptr r.now e v (ap only p.0.0) p))))))
    where
      -- the message lies at p, is zs, and came back as v: it is us, and v is the slice at p
      told : (ν : ℕ) (p : ℕ × ℕ) (zs : List ℕ) → zs ≡ us → (v : Val) → v ≡ slice_val p (length zs) → Is (ShrSlice erased (ν ∷ []) byte_d.row) (record { ref_ptr = p; now = zs }) (v ∷ [])
          → Seq K 𝓛 (‵ ((ShrSlice erased (ν ∷ []) byte_d.row).own_val (record { ref_ptr = p; now = zs }) (v ∷ [])) ∷ ‵ (flft (ν ∷ []) full_share) ∷ MessageKept 𝓛 κ s γ ν h b o ∷ Γ) (lands C Λ E d v rest q)
      told ν p zs e v ev =
          subst (λ (u : Val). Is (ShrSlice erased (ν ∷ []) byte_d.row) (record { ref_ptr = p; now = zs }) (u ∷ [])
          → Seq K 𝓛 (‵ ((ShrSlice erased (ν ∷ []) byte_d.row).own_val (record { ref_ptr = p; now = zs }) (u ∷ [])) ∷ ‵ (flft (ν ∷ []) full_share) ∷ MessageKept 𝓛 κ s γ ν h b o ∷ Γ) (lands C Λ E d u rest q)) (sym ev)
          (subst (λ (ys : List ℕ). Is (ShrSlice erased (ν ∷ []) byte_d.row) (record { ref_ptr = p; now = ys }) (slice_val p (length ys) ∷ [])
          → Seq K 𝓛 (‵ (ShrS byte_d (ν ∷ []) p.0 p.1 (length ys) ys) ∷ ‵ (flft (ν ∷ []) full_share) ∷ MessageKept 𝓛 κ s γ ν h b o ∷ Γ) (lands C Λ E d (slice_val p (length ys)) rest q)) (sym e)
          (λ fits. move t (1 ∷ 0 ∷ []) $ k ν p fits))
