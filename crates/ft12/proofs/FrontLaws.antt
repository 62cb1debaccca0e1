-- What stands in front of a run of bytes at a frame start: a whole form, or else they stop short of a frame's end or are
-- damage at some byte.
use Rattle.std.proofs.Common.{ℕ, suc, ◌+◌, ◌≤◌, ◌<◌, ◌≡◌, refl, sym, ◌∙◌, Bool, true, false, ◌&&◌, List, [], ◌∷◌, ◌++◌, append-nil, arith, length, length-append, T, leb, eqb, eqb-true}
use native.Mathlib.Decide.{ℕ_discrete}
use lib.Seq.{append_snoc}
use Rattle.std.specs.Prelude.{if◌then◌else◌}
use Rattle.ft12.specs.Frame.{acknowledgement, fixed_frame, checksum, data_frame}
use Rattle.ft12.specs.Receiver.{judged_first, judged, is_more, gathers, is_beginning}
use Rattle.ft12.specs.declared.receiver.Judgement.{Judgement}
use Rattle.ft12.specs.declared.receiver.Judgement.TheVariants.{More, Damage, Acknowledgement, Fixed, Data}
use Rattle.ft12.proofs.ReceiverLaws
use Rattle.ft12.proofs.HearingLaws
use Rattle.ft12.proofs.FrameLaws.{frame_but_last, frame_length, fixed_beginning, summed_beginning}

-- ---- the whole forms
pub data Form (f : List ℕ) : Type 0 where
  acknowledges : f ≡ acknowledgement → Form f
  fixes : (c : ℕ) → f ≡ fixed_frame c → Form f
  carries : (c : ℕ) (m : List ℕ) → length m ≤ 254 → f ≡ data_frame c m → Form f

-- the judgements that end one
pub data Ends (j : Judgement) : Type 0 where
  acknowledged : j ≡ Acknowledgement → Ends j
  fixed : (c : ℕ) → j ≡ Fixed c → Ends j
  carried : (c n : ℕ) → j ≡ Data c n → Ends j

-- the last byte of a form ends it, behind a beginning
pub record Ended (f : List ℕ) : Type 0 where
  pub gathered : List ℕ
  pub last : ℕ
  pub bytes : f ≡ gathered ++ last ∷ []
  pub begins : T (is_beginning gathered)
  pub ends : Ends (judged gathered last)

pub form_ended : (f : List ℕ) → Form f → Ended f
form_ended f (acknowledges e) =
    record {
      gathered = [];
      last = 0xE5;
      bytes = e;
      begins = unfold is_beginning gathers in tt;
      ends = acknowledged (ReceiverLaws.judged_start 0xE5 ∙ (unfold judged_first in refl));
    }
form_ended f (fixes c e) =
    record {
      gathered = 0x10 ∷ c ∷ c ∷ [];
      last = 0x16;
      bytes = e ∙ (unfold fixed_frame in refl);
      begins = fixed_beginning c;
      ends = fixed c (ReceiverLaws.judged_fixed_3 c 0x16);
    }
form_ended f (carries c m h e) =
    let n : ℕ = suc (length m) in
    let b : List ℕ = (c ∷ m) ++ checksum (c ∷ m) ∷ [] in
    let k : length b ≡ n + 1 = omega (arith, length-append m (checksum (c ∷ m) ∷ [])) in
    record {
      gathered = ReceiverLaws.headed n b;
      last = 0x16;
      bytes = e ∙ frame_but_last c m;
      begins = summed_beginning n (c ∷ m) (omega arith) (omega arith) refl;
      ends = carried c n (ReceiverLaws.judged_end n b 0x16 k);
    }

pub form_filled : (f : List ℕ) → Form f → 0 < length f
form_filled f (acknowledges e) = rw e (omega arith)
form_filled f (fixes c e) = rw e (unfold fixed_frame in omega arith)
form_filled f (carries c m h e) = rw e (omega (arith, frame_length c m))

-- ---- a byte behind a beginning
pub data Next (g : List ℕ) (x : ℕ) : Type 0 where
  asks : judged g x ≡ More → Next g x
  breaks : judged g x ≡ Damage → Next g x
  ends : Ends (judged g x) → Form (g ++ x ∷ []) → Next g x

module _ (g : List ℕ) (x : ℕ) where
  -- it asks for more, or breaks the forms
  either : (u : Bool) → judged g x ≡ (if u then More else Damage) → Next g x
  either true e = asks e
  either false e = breaks e

  -- at a frame start
  first : g ≡ [] → Next g x
  unfolding judged_first
  first e = go (eqb x 0xE5) (eqb x 0x10) refl refl
    where
      is : judged g x ≡ judged_first x
      is = rw e (ReceiverLaws.judged_start x)

      go : (u v : Bool) → eqb x 0xE5 ≡ u → eqb x 0x10 ≡ v → Next g x
      go true v a b = ends (acknowledged (is ∙ simp a)) (acknowledges (rw (e, eqb-true x 0xE5 a)))
      go false true a b = asks (is ∙ simp (a, b))
      go false false a b = either (eqb x 0x68) (is ∙ simp (a, b))

  -- the last byte of a fixed frame
  fixed_end : (c : ℕ) → g ≡ 0x10 ∷ c ∷ c ∷ [] → Next g x
  fixed_end c e = go (eqb x 0x16) refl
    where
      is : judged g x ≡ (if eqb x 0x16 then Fixed c else Damage)
      is = rw e (ReceiverLaws.judged_fixed_3 c x)

      go : (u : Bool) → eqb x 0x16 ≡ u → Next g x
      go true a = ends (fixed c (is ∙ simp a)) (fixes c (rw (e, eqb-true x 0x16 a) (unfold fixed_frame in refl)))
      go false a = breaks (is ∙ simp a)

  -- the last byte of a data frame
  data_end : (n : ℕ) (b : List ℕ) → 1 ≤ n → n ≤ 255 → length b ≡ n → g ≡ ReceiverLaws.headed n (b ++ checksum b ∷ []) → Next g x
  data_end n [] p q h e = absurd (omega arith)
  data_end n (c ∷ m) p q h e = go (eqb x 0x16) refl
    where
      k : length ((c ∷ m) ++ checksum (c ∷ m) ∷ []) ≡ n + 1
      k = omega (arith, length-append m (checksum (c ∷ m) ∷ []))

      is : judged g x ≡ (if eqb x 0x16 then Data c n else Damage)
      is = rw e (ReceiverLaws.judged_end n ((c ∷ m) ++ checksum (c ∷ m) ∷ []) x k)

      whole : g ++ 0x16 ∷ [] ≡ data_frame c m
      whole = rw (e, ← h) (sym (frame_but_last c m))

      go : (u : Bool) → eqb x 0x16 ≡ u → Next g x
      go true a = ends (carried c n (is ∙ simp a)) (carries c m (omega arith) (rw (eqb-true x 0x16 a) whole))
      go false a = breaks (is ∙ simp a)

  next_at : ReceiverLaws.Stands g → Next g x
  next_at (ReceiverLaws.start e) = first e
  next_at (ReceiverLaws.fixed_1 e) = asks (rw e (ReceiverLaws.judged_fixed_1 x))
  next_at (ReceiverLaws.fixed_2 c e) = either (eqb x c) (rw e (ReceiverLaws.judged_fixed_2 c x))
  next_at (ReceiverLaws.fixed_3 c e) = fixed_end c e
  next_at (ReceiverLaws.data_1 e) = either (leb 1 x && leb x 255) (rw e (ReceiverLaws.judged_data_1 x))
  next_at (ReceiverLaws.data_2 n p q e) = either (eqb x n) (rw e (ReceiverLaws.judged_data_2 n x))
  next_at (ReceiverLaws.data_3 n p q e) = either (eqb x 0x68) (rw e (ReceiverLaws.judged_data_3 n x))
  next_at (ReceiverLaws.body n b p q h e) = go (ℕ_discrete (length b) n)
    where
      go : Dec (length b ≡ n) → Next g x
      go (yes k) = either (eqb x (checksum b)) (rw e (ReceiverLaws.judged-sum n b x k))
      go (no a) = asks (rw e (ReceiverLaws.judged_body n b x (omega arith)))
  next_at (ReceiverLaws.summed n b p q h e) = data_end n b p q h e

  -- one of the three, always
  pub next : T (is_beginning g) → Next g x
  next t = next_at (ReceiverLaws.beginning_stands g t)

-- ---- what stands in front: one of the two, always
pub data Front (s : List ℕ) : Type 0 where
  whole : (f rest : List ℕ) → Form f → s ≡ f ++ rest → Front s
  fails : HearingLaws.Fails s → Front s

more : {j : Judgement} → j ≡ More → T (is_more j)
unfolding is_more
more e = rw e tt

front_behind : (g s : List ℕ) → T (is_beginning g) → Front (g ++ s)
front_behind g [] t = rw append-nil (fails (HearingLaws.stops t))
front_behind g (x ∷ s) t = go (next g x t) (λ m. front_behind (g ++ x ∷ []) s (ReceiverLaws.beginning_on g x t m))
  where
    go : Next g x → (T (is_more (judged g x)) → Front ((g ++ x ∷ []) ++ s)) → Front (g ++ x ∷ s)
    go (asks e) on = rw (append_snoc g x s) at (on (more e))
    go (breaks e) on = fails (HearingLaws.breaks g x s refl t e)
    go (ends e f) on = whole (g ++ x ∷ []) s f (sym (append_snoc g x s))

pub front : (s : List ℕ) → Front s
front s = front_behind [] s (unfold is_beginning gathers in tt)
