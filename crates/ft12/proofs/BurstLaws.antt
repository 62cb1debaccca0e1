-- What a burst holds, a piece at a time: the byte-wise receiver over a whole frame is one step.
use Rattle.std.proofs.Common.{ℕ, zero, suc, ◌+◌, ◌-◌, ◌≤◌, ◌<◌, ◌≡◌, refl, sym, ◌∙◌, ap, List, [], ◌∷◌, ◌++◌, append-nil, arith, length, get_or, drop, length-append, drop_at, T, eqb, le-ltb, lt-ltb, ℤ, pos, negsuc}
use mathlib.Core.Bool.{or-true}
use lib.ListN.{length-map}
use lib.Seq.{append_snoc}
use Rattle.std.specs.Prelude.{if◌then◌else◌, Result, Ok, Err}
use Rattle.std.specs.Result.{MatchResult, IsErrAnd}
use Rattle.words.specs.Words.{is_empty, put}
use Rattle.words.proofs.WordLaws.{left, right, T_true, kept_and_not, some_filled}
use Rattle.ft12.specs.Frame.{fixed_frame, data_frame}
use Rattle.ft12.specs.Receiver.{judged, is_more, gathers, is_beginning}
use Rattle.ft12.specs.Burst.{Piece, Contents, before, just_ends, gathered_after, with_byte, contents_from, contents, first_size, is_acknowledgement, figures_of, starts_of, burst_refused, BurstReply, Refused, Read, read_burst, number_of_refusal, reply_of, reply_by, ending_number, burst_numbers}
use Rattle.ft12.specs.declared.receiver.Judgement.TheVariants.{More, Damage}
use Rattle.ft12.specs.declared.burst.Ending.{Ending}
use Rattle.ft12.specs.declared.burst.Ending.TheVariants.{Clean, Damaged, Unfinished}
use Rattle.ft12.specs.declared.burst.Figures.{Figures}
use Rattle.ft12.specs.declared.burst.BurstRefusal.{BurstRefusal}
use Rattle.ft12.specs.declared.burst.BurstNumbers.{BurstNumbers}
use Rattle.ft12.proofs.RulesLaws.{is_more_lem}
use Rattle.ft12.proofs.BeginningLaws.{damages}
use Rattle.ft12.proofs.FrontLaws.{Form, acknowledges, fixes, carries, Ends, acknowledged, fixed, carried, Ended, form_ended, form_filled, Front, whole, fails, front}
use Rattle.ft12.proofs.HearingLaws.{Fails, stops, breaks}

abbrev pub piece : ℕ → List ℕ → Piece
piece start bytes = record { start = start; bytes = bytes }

-- ---- bytes one by one
module _ (at : ℕ) (g : List ℕ) (x : ℕ) (bs : List ℕ) where
  more_contents : judged g x ≡ More → contents_from at g (x ∷ bs) ≡ contents_from (suc at) (g ++ x ∷ []) bs
  unfolding contents_from with_byte gathered_after
  more_contents e = rw e

  pub damage_contents : judged g x ≡ Damage → contents_from at g (x ∷ bs) ≡ just_ends Damaged
  unfolding contents_from with_byte
  damage_contents e = rw e

  pub ends_contents : Ends (judged g x) → contents_from at g (x ∷ bs) ≡ before (piece (at - length g) (g ++ x ∷ [])) (contents_from (suc at) [] bs)
  unfolding contents_from with_byte gathered_after
  ends_contents (acknowledged e) = rw e
  ends_contents (fixed c e) = rw e
  ends_contents (carried c n e) = rw e

gathers-contents : (at : ℕ) (g p bs : List ℕ) → T (gathers g p) → contents_from at g (p ++ bs) ≡ contents_from (at + length p) (g ++ p) bs
unfolding gathers
gathers-contents at g [] bs t =
    let a : at ≡ at + length {A = ℕ} [] = omega arith in
    let b : g ≡ g ++ [] = sym (append-nil g) in
    λ i. contents_from (a i) (b i) bs
gathers-contents at g (x ∷ p) bs t =
    let e : judged g x ≡ More = is_more_lem (judged g x) (left (is_more (judged g x)) (gathers (g ++ x ∷ []) p) t) in
    let a : suc at + length p ≡ at + length (x ∷ p) = omega arith in
    more_contents at g x (p ++ bs) e
    ∙ gathers-contents (suc at) (g ++ x ∷ []) p bs (right (is_more (judged g x)) (gathers (g ++ x ∷ []) p) t)
    ∙ (λ i. contents_from (a i) (append_snoc g x p i) bs)

-- from a frame start, a beginning is gathered
beginning_contents : (at : ℕ) (p bs : List ℕ) → T (is_beginning p) → contents_from at [] (p ++ bs) ≡ contents_from (at + length p) p bs
unfolding is_beginning
beginning_contents at p bs t = gathers-contents at [] p bs t

-- ---- what stands in front
-- the bytes stop short of a frame's end
pub stops_contents : (at : ℕ) (s : List ℕ) → T (is_beginning s) → contents_from at [] s ≡ just_ends (if is_empty s then Clean else Unfinished)
stops_contents at s t = ap (contents_from at []) (sym (append-nil s)) ∙ beginning_contents at s [] t ∙ (unfold contents_from in refl)

-- "Any byte that breaks these forms is damage, found at that byte"
pub broken_contents : (at : ℕ) (g : List ℕ) (x : ℕ) (rest : List ℕ) → T (is_beginning g) → judged g x ≡ Damage → contents_from at [] (g ++ x ∷ rest) ≡ just_ends Damaged
broken_contents at g x rest t e = beginning_contents at g (x ∷ rest) t ∙ damage_contents (at + length g) g x rest e

-- a whole form is a piece
pub form_contents : (at : ℕ) (f rest : List ℕ) → Form f → contents_from at [] (f ++ rest) ≡ before (piece at f) (contents_from (at + length f) [] rest)
form_contents at f rest w =
    let d : Ended f = form_ended f w in
    let g : List ℕ = d.gathered in
    let x : ℕ = d.last in
    let e : f ++ rest ≡ g ++ x ∷ rest = ap (λ (l : List ℕ). l ++ rest) d.bytes ∙ append_snoc g x rest in
    let a : at + length g - length g ≡ at = omega arith in
    let n : suc (at + length g) ≡ at + length f = omega (arith, ap length d.bytes, length-append g (x ∷ [])) in
    ap (contents_from at []) e
    ∙ beginning_contents at g (x ∷ rest) d.begins
    ∙ ends_contents (at + length g) g x rest d.ends
    ∙ (λ i. before (piece (a i) (sym d.bytes i)) (contents_from (n i) [] rest))

-- ---- the first piece, by its size
pub form_first : (f rest : List ℕ) → Form f → first_size (f ++ rest) ≡ length f
unfolding first_size contents
form_first f rest w = rw (form_contents 0 f rest w)

fails_first : (s : List ℕ) → Fails s → first_size s ≡ 0
unfolding first_size contents
fails_first s (stops t) = rw (stops_contents 0 s t)
fails_first s (breaks g x rest e t d) = rw (e, broken_contents 0 g x rest t d)

-- where no form stands in front, there is none
pub no_form_first : (s : List ℕ) → ((f rest : List ℕ) → Form f → s ≡ f ++ rest → ⊥) → first_size s ≡ 0
no_form_first s h = go (front s)
  where
    go : Front s → first_size s ≡ 0
    go (whole f rest w e) = absurd (h f rest w e)
    go (fails f) = fails_first s f

-- one step of a reader at place `at`: a piece of so many bytes stands in front of s
pub record Step (at : ℕ) (s : List ℕ) : Type 0 where
  pub bytes : List ℕ
  pub rest : List ℕ
  pub form : Form bytes
  pub stands : s ≡ bytes ++ rest
  pub size : length bytes ≡ first_size s
  pub within : first_size s ≤ length s
  pub contents : contents_from at [] s ≡ before (piece at bytes) (contents_from (at + first_size s) [] (drop (first_size s) s))

pub step : (at : ℕ) (s : List ℕ) → (first_size s ≡ 0 → ⊥) → Step at s
step at s h = go (front s)
  where
    go : Front s → Step at s
    go (whole f rest w e) =
        let k : first_size s ≡ length f = ap first_size e ∙ form_first f rest w in
        let d : drop (first_size s) s ≡ rest = ap (drop (first_size s)) e ∙ drop_at f rest (first_size s) (sym k) in
        record {
          bytes = f;
          rest = rest;
          form = w;
          stands = e;
          size = sym k;
          within = omega (arith, k, ap length e, length-append f rest);
          contents = ap (contents_from at []) e ∙ form_contents at f rest w ∙ (λ i. before (piece at f) (contents_from (at + sym k i) [] (sym d i)));
        }
    go (fails f) = absurd (h (fails_first s f))

-- and where none does, the burst ends in an unfinished frame or in damage
pub no_step : (at : ℕ) (s : List ℕ) → 0 < length s → first_size s ≡ 0 → contents_from at [] s ≡ just_ends (if is_beginning s then Unfinished else Damaged)
no_step at s h z = go (front s)
  where
    go : Front s → contents_from at [] s ≡ just_ends (if is_beginning s then Unfinished else Damaged)
    go (whole f rest w e) = absurd (omega (arith, z, ap first_size e, form_first f rest w, form_filled f w))
    go (fails (breaks g x rest e t d)) = rw (e, damages g x rest d) (broken_contents at g x rest t d)
    go (fails (stops t)) = stops_contents at s t ∙ rw (some_filled s h, T_true (is_beginning s) t)

-- no byte is left
pub none_left : (at : ℕ) → contents_from at [] [] ≡ just_ends Clean
unfolding contents_from
none_left at = refl

-- an acknowledgement is what begins with E5
pub form_kind : (at : ℕ) (f rest : List ℕ) → Form f → is_acknowledgement (piece at f) ≡ eqb (get_or (f ++ rest) 0 0) 0xE5
form_kind at f rest (acknowledges e) = rw e
form_kind at f rest (fixes c e) = rw e (unfold fixed_frame in refl)
form_kind at f rest (carries c m h e) = rw e (unfold data_frame in refl)

-- ---- from piece to piece: what holds where none stands in front, and of a piece and the bytes behind it where it holds of
-- these, holds of all bytes
module _ (P : ℕ → List ℕ → Type 0) (none : (at : ℕ) (s : List ℕ) → Fails s → P at s)
    (some : (at : ℕ) (s f rest : List ℕ) → Form f → s ≡ f ++ rest → P (at + length f) rest → P at s) where
  up_to : (n at : ℕ) (s : List ℕ) → length s ≤ n → P at s
  up_to zero at s h = go (front s)
    where
      go : Front s → P at s
      go (fails f) = none at s f
      go (whole f rest w e) = absurd (omega (arith, h, ap length e, length-append f rest, form_filled f w))
  up_to (suc n) at s h = go (front s) (λ a l. up_to n a l)
    where
      go : Front s → ((a : ℕ) (l : List ℕ) → length l ≤ n → P a l) → P at s
      go (fails f) on = none at s f
      go (whole f rest w e) on = some at s f rest w e (on (at + length f) rest (omega (arith, h, ap length e, length-append f rest, form_filled f w)))

  pub by_pieces : (at : ℕ) (s : List ℕ) → P at s
  by_pieces at s = up_to (length s) at s (omega arith)

-- ---- what is told
-- a start for each piece, and each of one kind
pub starts_length : (c : Contents) → length (starts_of c) ≡ length c.pieces
unfolding starts_of
starts_length c = length-map c.pieces (λ (p : Piece). p.start)

pub figures_sum : (c : Contents) → (figures_of c).frames + (figures_of c).acknowledgements ≡ length c.pieces
unfolding figures_of
figures_sum c = kept_and_not is_acknowledgement c.pieces

-- a burst that is taken, and the two that are not
module _ (burst run : List ℕ) where
  pub burst_read : length burst ≤ 2048 → 2048 ≤ length run
      → read_burst burst run ≡ record { reply = Read (figures_of (contents burst)); run = put run 0 (starts_of (contents burst)) }
  unfolding read_burst burst_refused
  burst_read h k = simp (le-ltb 2048 (length burst) h, le-ltb (length run) 2048 k)

  pub burst_long : 2048 < length burst → read_burst burst run ≡ record { reply = Refused 8; run = run }
  unfolding read_burst burst_refused
  burst_long h = simp (lt-ltb 2048 (length burst) h)

  pub run_short : length run < 2048 → read_burst burst run ≡ record { reply = Refused 8; run = run }
  unfolding read_burst burst_refused
  run_short h = simp (lt-ltb (length run) 2048 h, or-true)

-- ---- the numbers of a reply
-- a reply is had back from its numbers, so that they determine it: a refusal's number is 0 or below, an ending's above
ending_back : ℕ → Ending
ending_back k = if eqb k 1 then Clean else if eqb k 2 then Damaged else Unfinished

reply_back : BurstNumbers → BurstReply
reply_back n = go n.number
  where
    go : ℤ → BurstReply
    go (pos zero) = Refused 0
    go (pos (suc k)) = Read (record { frames = n.frames; acknowledgements = n.acknowledgements; ending = ending_back (suc k) })
    go (negsuc k) = Refused (suc k)

read_back : (e : Ending) (f a : ℕ) → reply_back (burst_numbers (Read (record { frames = f; acknowledgements = a; ending = e }))) ≡ Read (record { frames = f; acknowledgements = a; ending = e })
unfolding burst_numbers ending_number reply_back ending_back
read_back Clean f a = refl
read_back Damaged f a = refl
read_back Unfinished f a = refl

reply_back_lem : (r : BurstReply) → reply_back (burst_numbers r) ≡ r
unfolding burst_numbers reply_back
reply_back_lem (Refused zero) = refl
reply_back_lem (Refused (suc n)) = refl
reply_back_lem (Read f) = read_back f.ending f.frames f.acknowledgements

pub reply_told : (r q : BurstReply) → burst_numbers r ≡ burst_numbers q → r ≡ q
reply_told r q e = sym (reply_back_lem r) ∙ ap reply_back e ∙ reply_back_lem q

-- ---- the refusal by its number says the same
pub by_number : (r : Result Figures BurstRefusal) (s : Result Figures ℕ) → MatchResult r (λ x. s ≡ Ok x) (λ e. IsErrAnd s (λ n. n ≡ number_of_refusal e)) → reply_by s ≡ reply_of r
by_number (Ok x) s m = ap reply_by m
by_number (Err e) (Ok x) m = absurd m
by_number (Err e) (Err n) m = ap Refused m
