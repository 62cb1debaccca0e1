-- Whole bursts: each sentence of item 8, from the laws of `ft12`.
use Prim.Native.Nat.{ℕ, zero, suc, ◌+◌, ◌-◌, ◌≤◌, ◌<◌}
use mathlib.Core.Path.{◌≡◌, refl, sym, ◌∙◌, ap, subst}
use mathlib.Core.Logic.{◌⊎◌, inl, inr}
use mathlib.Core.Bool.{Bool, true, false, not, ◌&&◌, ◌||◌}
use mathlib.Core.List.{List, [], ◌∷◌, ◌++◌, append-nil}
use native.Mathlib.Omega.{arith}
use lib.ListN.{length, get_or, take, drop, length-append, length-drop, take-append-drop, get_or-map}
use lib.Seq.{append_snoc, drop-append-add, take_at, get_or-drop}
use lib.Dec.{T, ltb, eqb}
use Rattle.std.specs.Prelude.{if◌then◌else◌}
use Rattle.words.specs.Words.{is_empty, put, are_bytes}
use Rattle.words.proofs.WordLaws.{every_prefix, every_suffix, some_filled, bytes_at}
use Rattle.words.proofs.ByteLaws.{length-put, get_d_put_within, get_d_put_behind}
use Rattle.ft12.specs.Frame.{acknowledgement, fixed_frame, checksum, data_frame, longest_message, Sound, fixed, carries}
use Rattle.ft12.specs.Receiver.{judged, is_more, is_beginning}
use Rattle.ft12.specs.Record.{Line, host_control, server_control}
use Rattle.ft12.specs.Rules.{Moved, still, nothing, case_of, case_of_acknowledgement, case_of_fixed, case_of_data, heard_at, on_heard, on_host_byte, on_message, on_idle_mark, at_start, start_dropping, gathering, cleared, holding, expecting}
use Rattle.ft12.specs.Delivery.{delivered}
use Rattle.ft12.specs.Burst.{Piece, Contents, before, just_ends, gathered_after, with_byte, contents_from, contents, figures_of, starts_of, BurstReply, Read, BurstCalled, read_burst, BurstLeaves, BurstGives}
use Rattle.ft12.specs.declared.receiver.Judgement.{Judgement}
use Rattle.ft12.specs.declared.receiver.Judgement.TheVariants.{More, Damage, Acknowledgement, Fixed, Data}
use Rattle.ft12.specs.declared.rules.Heard.{Heard}
use Rattle.ft12.specs.declared.rules.Heard.TheVariants.{Dropped, Ignored, Acknowledged, Reset, Repeat, Request}
use Rattle.ft12.specs.declared.burst.Ending.{Ending}
use Rattle.ft12.specs.declared.burst.Ending.TheVariants.{Clean, Damaged, Unfinished}
use Rattle.ft12.specs.declared.burst.BurstNumbers.{BurstNumbers}
use Rattle.ft12.proofs.HearingLaws
use Rattle.ft12.proofs.ReceiverLaws.{beginning_on}
use Rattle.ft12.proofs.BeginningLaws.{damages}
use Rattle.ft12.proofs.FrameLaws.{begins_tested, tested_begins, fixed_length, frame_length}
use Rattle.ft12.proofs.FrontLaws
use Rattle.ft12.proofs.BurstLaws.{piece, none_left, stops_contents, broken_contents, form_contents, form_kind, by_pieces, starts_length, figures_sum, burst_read, burst_long, run_short, reply_told}
use Rattle.demands.specs.Bursts

-- ---- the receiver of the line
-- the receiver has gathered these bytes, and drops or not
record Receives (l : Line) (g : List ℕ) (d : Bool) : Type 0 where
  gathered : l.gathered ≡ g
  dropping : l.dropping ≡ d

-- a whole frame or an acknowledgement leaves it at a frame start, whatever the link makes of it
abbrev AtStart : Heard → Type 0
AtStart h = (b : ℕ) (l : Line) → Receives (on_heard h b l).line [] false

ignored_start : AtStart Ignored
unfolding on_heard at_start
ignored_start b l = record { gathered = refl; dropping = refl }

acknowledged_start : AtStart Acknowledged
unfolding on_heard at_start cleared
acknowledged_start b l = record { gathered = refl; dropping = refl }

reset_start : AtStart Reset
unfolding on_heard at_start cleared expecting
reset_start b l = record { gathered = refl; dropping = refl }

repeat_start : AtStart Repeat
unfolding on_heard at_start
repeat_start b l = record { gathered = refl; dropping = refl }

request_start : (n : ℕ) → AtStart (Request n)
unfolding on_heard at_start expecting
request_start n b l = record { gathered = refl; dropping = refl }

choose_start : (u : Bool) (h k : Heard) → AtStart h → AtStart k → AtStart (if u then h else k)
choose_start true h k p q = p
choose_start false h k p q = q

module _ (expected free : Bool) where
  acknowledgement_start : AtStart (case_of Acknowledgement expected free)
  unfolding case_of case_of_acknowledgement
  acknowledgement_start = choose_start free Ignored Acknowledged ignored_start acknowledged_start

  fixed_start : (c : ℕ) → AtStart (case_of (Fixed c) expected free)
  unfolding case_of case_of_fixed
  fixed_start c = choose_start (eqb c 0x40) Reset Ignored reset_start ignored_start

  data_start : (c n : ℕ) → AtStart (case_of (Data c n) expected free)
  unfolding case_of case_of_data
  data_start c n =
      choose_start (eqb c (host_control expected)) (if free then Request n else Ignored) (if eqb c (host_control (not expected)) then Repeat else Ignored)
      (choose_start free (Request n) Ignored (request_start n) ignored_start)
      (choose_start (eqb c (host_control (not expected))) Repeat Ignored repeat_start ignored_start)

unfoldable is_damage : Judgement → Bool
is_damage More = false
is_damage Damage = true
is_damage Acknowledgement = false
is_damage (Fixed c) = false
is_damage (Data c n) = false

case_receives : (j : Judgement) (expected free : Bool) (b : ℕ) (l : Line)
    → Receives (on_heard (case_of j expected free) b l).line (gathered_after j l.gathered b) (is_damage j)
unfolding gathered_after is_damage
case_receives More expected free b l = unfold case_of on_heard gathering in record { gathered = refl; dropping = refl }
case_receives Damage expected free b l = unfold case_of on_heard start_dropping in record { gathered = refl; dropping = refl }
case_receives Acknowledgement expected free b l = acknowledgement_start expected free b l
case_receives (Fixed c) expected free b l = fixed_start expected free c b l
case_receives (Data c n) expected free b l = data_start expected free c n b l

-- a message taken back does not touch it
choose_receives : (u : Bool) (x y : Moved) {g : List ℕ} {d : Bool} → Receives x.line g d → Receives y.line g d → Receives (if u then x else y).line g d
choose_receives true x y p q = p
choose_receives false x y p q = q

message_receives : (m : List ℕ) (l : Line) {g : List ℕ} {d : Bool} → Receives l g d → Receives (on_message m l).line g d
unfolding on_message
message_receives m l r =
    choose_receives (is_empty m || ltb longest_message (length m) || not (is_empty l.outstanding)) (still l)
    (record { sent = data_frame (server_control l.send) m; up = nothing; line = holding (data_frame (server_control l.send) m) 0 l }) r (held r)
  where
    held : {g : List ℕ} {d : Bool} → Receives l g d → Receives (holding (data_frame (server_control l.send) m) 0 l) g d
    held q = unfold holding in (record { gathered = q.gathered; dropping = q.dropping })

-- the receiver after a host byte, and whatever is taken back behind it
module _ (m : List ℕ) (b : ℕ) (l : Line) where
  heard_receives : {g : List ℕ} {d : Bool} (h : Heard) → heard_at b l ≡ h → Receives (on_heard h b l).line g d → Receives (Bursts.line_after m b l) g d
  heard_receives h e r = message_receives m (on_host_byte b l).line (unfold on_host_byte in (rw e r))

  byte_receives : l.dropping ≡ false
      → Receives (Bursts.line_after m b l) (gathered_after (judged l.gathered b) l.gathered b) (is_damage (judged l.gathered b))
  byte_receives e =
      let h : Heard = case_of (judged l.gathered b) l.expected (is_empty l.outstanding) in
      heard_receives h (unfold heard_at in (simp e)) (case_receives (judged l.gathered b) l.expected (is_empty l.outstanding) b l)

  -- "the rest is dropped up to the next idle mark"
  byte_dropped : l.dropping ≡ true → Receives (Bursts.line_after m b l) [] true
  byte_dropped e = heard_receives Dropped (unfold heard_at in (simp e)) (unfold on_heard start_dropping in (record { gathered = refl; dropping = refl }))

-- whether it is at a frame start
at_start_is : (l : Line) {g : List ℕ} {d : Bool} → Receives l g d → Bursts.is_at_start l ≡ (not d && is_empty g)
at_start_is l r = λ i. not (r.dropping i) && is_empty (r.gathered i)

one_more : (g : List ℕ) (b : ℕ) → is_empty (g ++ b ∷ []) ≡ false
one_more [] b = refl
one_more (x ∷ g) b = refl

-- ---- the line watched
module _ (given : ℕ → List ℕ) where
  dropping_watched : (at : ℕ) (l : Line) (bs : List ℕ) → l.dropping ≡ true → Bursts.watched given at l bs ≡ just_ends Damaged
  unfolding Bursts.watched
  dropping_watched at l [] e = rw e
  dropping_watched at l (b ∷ bs) e =
      let r : Receives (Bursts.line_after (given at) b l) [] true = byte_dropped (given at) b l e in
      rw (at_start_is (Bursts.line_after (given at) b l) r) (dropping_watched (suc at) (Bursts.line_after (given at) b l) bs r.dropping)

  watched-contents : (at : ℕ) (l : Line) (bs : List ℕ) → l.dropping ≡ false → Bursts.watched given at l bs ≡ contents_from at l.gathered bs
  unfolding Bursts.watched contents_from gathered_after is_damage with_byte
  watched-contents at l [] e = rw e
  watched-contents at l (b ∷ bs) e =
      go (judged l.gathered b) (byte_receives (given at) b l e)
      (watched-contents (suc at) (Bursts.line_after (given at) b l) bs)
      (dropping_watched (suc at) (Bursts.line_after (given at) b l) bs)
    where
      after : Line
      after = Bursts.line_after (given at) b l

      p : Piece
      p = piece (at - length l.gathered) (l.gathered ++ b ∷ [])

      rest : Contents
      rest = Bursts.watched given (suc at) after bs

      ended : Receives after [] false → (after.dropping ≡ false → rest ≡ contents_from (suc at) after.gathered bs)
          → (if Bursts.is_at_start after then before p rest else rest) ≡ before p (contents_from (suc at) [] bs)
      ended r on = rw (at_start_is after r) (ap (before p) (on r.dropping ∙ ap (λ (g : List ℕ). contents_from (suc at) g bs) r.gathered))

      go : (j : Judgement) → Receives after (gathered_after j l.gathered b) (is_damage j)
          → (after.dropping ≡ false → rest ≡ contents_from (suc at) after.gathered bs) → (after.dropping ≡ true → rest ≡ just_ends Damaged)
          → (if Bursts.is_at_start after then before p rest else rest) ≡ with_byte j p (contents_from (suc at) (gathered_after j l.gathered b) bs)
      go More r on dropped = rw (at_start_is after r, one_more l.gathered b) (on r.dropping ∙ ap (λ (g : List ℕ). contents_from (suc at) g bs) r.gathered)
      go Damage r on dropped = rw (at_start_is after r) (dropped r.dropping)
      go Acknowledgement r on dropped = ended r on
      go (Fixed c) r on dropped = ended r on
      go (Data c n) r on dropped = ended r on

  -- "from a receiver at a frame start"
  same_contents : (l : Line) (burst : List ℕ) → l ≡ at_start l → Bursts.watched given 0 l burst ≡ contents burst
  unfolding contents
  same_contents l burst e =
      watched-contents 0 l burst (ap (λ (k : Line). k.dropping) e ∙ (unfold at_start in refl))
      ∙ ap (λ (g : List ℕ). contents_from 0 g burst) (ap (λ (k : Line). k.gathered) e ∙ (unfold at_start in refl))

-- the idle mark leaves it there
mark_start : (other : List ℕ) (l : Line) → (delivered other l).line ≡ at_start (delivered other l).line
unfolding delivered on_idle_mark at_start
mark_start other l = refl

-- ---- the forms, for lists of bytes
byte_parts : (f rest : List ℕ) → T (are_bytes (f ++ rest)) → T (are_bytes f) × T (are_bytes rest)
unfolding are_bytes
byte_parts f rest t = (every_prefix (λ x. ltb x 256) f rest t, every_suffix (λ x. ltb x 256) f rest t)

frame_carries : (c : ℕ) (m : List ℕ) → T (are_bytes (data_frame c m)) → T (are_bytes (c ∷ m))
frame_carries c m t =
    let n : ℕ = suc (length m) in
    let e : data_frame c m ≡ (0x68 ∷ n ∷ n ∷ 0x68 ∷ []) ++ ((c ∷ m) ++ (checksum (c ∷ m) ∷ 0x16 ∷ [])) = unfold data_frame in refl in
    let u : T (are_bytes ((c ∷ m) ++ (checksum (c ∷ m) ∷ 0x16 ∷ []))) = (byte_parts (0x68 ∷ n ∷ n ∷ 0x68 ∷ []) ((c ∷ m) ++ (checksum (c ∷ m) ∷ 0x16 ∷ [])) (subst (λ (l : List ℕ). T (are_bytes l)) e t)).1 in
    (byte_parts (c ∷ m) (checksum (c ∷ m) ∷ 0x16 ∷ []) u).0

form_sound : (f : List ℕ) → T (are_bytes f) → FrontLaws.Form f → (f ≡ acknowledgement) ⊎ Sound f
form_sound f t (FrontLaws.acknowledges e) = inl e
form_sound f t (FrontLaws.fixes c e) = inr (fixed c (fixed_byte c (subst (λ (l : List ℕ). T (are_bytes l)) e t)) e)
  where
    fixed_byte : (c : ℕ) → T (are_bytes (fixed_frame c)) → c < 256
    fixed_byte c t = unfold fixed_frame in (bytes_at (fixed_frame c) 1 t)
form_sound f t (FrontLaws.carries c m h e) = inr (carries c m (frame_carries c m (subst (λ (l : List ℕ). T (are_bytes l)) e t)) h e)

sound_form : (f : List ℕ) → Sound f → FrontLaws.Form f
sound_form f (fixed c h e) = FrontLaws.fixes c e
sound_form f (carries c m t h e) = FrontLaws.carries c m h e

form_fits : (f : List ℕ) → T (are_bytes f) → FrontLaws.Form f → Bursts.Fits f
form_fits f t w = go (form_sound f t w)
  where
    go : (f ≡ acknowledgement) ⊎ Sound f → Bursts.Fits f
    go (inl e) = Bursts.acknowledges e
    go (inr s) = Bursts.sound s

-- a byte that breaks the forms, by the forms and by the receiver
no_fit_damage : (g : List ℕ) (x : ℕ) → T (are_bytes (g ++ x ∷ [])) → T (is_beginning g) → (Bursts.Fits (g ++ x ∷ []) → ⊥) → judged g x ≡ Damage
no_fit_damage g x t b h = go (FrontLaws.next g x b)
  where
    go : FrontLaws.Next g x → judged g x ≡ Damage
    go (FrontLaws.asks e) = absurd (h (Bursts.begins (tested_begins (g ++ x ∷ []) t (beginning_on g x b (rw e (unfold is_more in tt))))))
    go (FrontLaws.breaks e) = e
    go (FrontLaws.ends e f) = absurd (h (form_fits (g ++ x ∷ []) t f))

pieces_differ : {p : Piece} {c : Contents} {e : Ending} → before p c ≡ just_ends e → ⊥
pieces_differ {p} {c} {e} q = absurd (omega (arith, ap (λ (k : Contents). length k.pieces) q))

damage_no_fit : (g : List ℕ) (x : ℕ) → T (is_beginning g) → judged g x ≡ Damage → Bursts.Fits (g ++ x ∷ []) → ⊥
damage_no_fit g x b d f = go f
  where
    broken : contents_from 0 [] (g ++ x ∷ []) ≡ just_ends Damaged
    broken = broken_contents 0 g x [] b d

    no_form : FrontLaws.Form (g ++ x ∷ []) → ⊥
    no_form w = pieces_differ (sym (form_contents 0 (g ++ x ∷ []) [] w) ∙ ap (contents_from 0 []) (append-nil (g ++ x ∷ [])) ∙ broken)

    go : Bursts.Fits (g ++ x ∷ []) → ⊥
    go (Bursts.begins s) = subst (λ (u : Bool). T u) (damages g x [] d) (begins_tested (g ++ x ∷ []) s)
    go (Bursts.sound s) = no_form (sound_form (g ++ x ∷ []) s)
    go (Bursts.acknowledges e) = no_form (FrontLaws.acknowledges e)

-- ---- what the forms say it holds, it holds
holds_contents : {at : ℕ} {s : List ℕ} {c : Contents} → Bursts.Holds at s c → T (are_bytes s) → contents_from at [] s ≡ c
holds_contents {at} (Bursts.clean) t = none_left at
holds_contents {at} {s} (Bursts.unfinished h b) t = stops_contents at s (begins_tested s b) ∙ ap (λ (u : Bool). just_ends (if u then Clean else Unfinished)) (some_filled s h)
holds_contents {at} (Bursts.damaged g x rest b h) t =
    let u : T (are_bytes (g ++ x ∷ [])) = (byte_parts (g ++ x ∷ []) rest (rw (append_snoc g x rest) t)).0 in
    broken_contents at g x rest (begins_tested g b) (no_fit_damage g x u (begins_tested g b) h)
holds_contents {at} (Bursts.acknowledged {rest = rest} d) t =
    form_contents at acknowledgement rest (FrontLaws.acknowledges refl) ∙ ap (before (piece at acknowledgement)) (holds_contents d (byte_parts acknowledgement rest t).1)
holds_contents {at} (Bursts.frame f {rest = rest} w d) t =
    form_contents at f rest (sound_form f w) ∙ ap (before (piece at f)) (holds_contents d (byte_parts f rest t).1)

-- and what it holds, the forms say
stopped_hold : (at : ℕ) (s : List ℕ) → T (is_beginning s) → T (are_bytes s) → Bursts.Holds at s (contents_from at [] s)
stopped_hold at [] b t = subst (Bursts.Holds at []) (sym (none_left at)) Bursts.clean
stopped_hold at (x ∷ s) b t =
    subst (Bursts.Holds at (x ∷ s)) (sym (stops_contents at (x ∷ s) b)) (Bursts.unfinished (omega arith) (tested_begins (x ∷ s) t b))

module _ (at : ℕ) (s : List ℕ) (t : T (are_bytes s)) where
  bytes_of : (f rest : List ℕ) → s ≡ f ++ rest → T (are_bytes f) × T (are_bytes rest)
  bytes_of f rest e = byte_parts f rest (subst (λ (l : List ℕ). T (are_bytes l)) e t)

  fails_hold : HearingLaws.Fails s → Bursts.Holds at s (contents_from at [] s)
  fails_hold (HearingLaws.stops b) = stopped_hold at s b t
  fails_hold (HearingLaws.breaks g x rest e b d) =
      subst (λ (l : List ℕ). Bursts.Holds at l (contents_from at [] l)) (sym e)
      (subst (Bursts.Holds at (g ++ x ∷ rest)) (sym (broken_contents at g x rest b d))
      (Bursts.damaged g x rest (tested_begins g (bytes_of g (x ∷ rest) e).0 b) (damage_no_fit g x b d)))

  whole_hold : (f rest : List ℕ) → FrontLaws.Form f → s ≡ f ++ rest → Bursts.Holds (at + length f) rest (contents_from (at + length f) [] rest)
      → Bursts.Holds at s (contents_from at [] s)
  whole_hold f rest w e on =
      subst (λ (l : List ℕ). Bursts.Holds at l (contents_from at [] l)) (sym e)
      (subst (Bursts.Holds at (f ++ rest)) (sym (form_contents at f rest w)) (go (form_sound f (bytes_of f rest e).0 w)))
    where
      go : (f ≡ acknowledgement) ⊎ Sound f → Bursts.Holds at (f ++ rest) (before (piece at f) (contents_from (at + length f) [] rest))
      go (inl a) =
          subst (λ (l : List ℕ). Bursts.Holds at (l ++ rest) (before (piece at l) (contents_from (at + length l) [] rest))) (sym a)
          (Bursts.acknowledged (subst (λ (l : List ℕ). Bursts.Holds (at + length l) rest (contents_from (at + length l) [] rest)) a on))
      go (inr p) = Bursts.frame f p on

contents_hold : (at : ℕ) (s : List ℕ) → T (are_bytes s) → Bursts.Holds at s (contents_from at [] s)
contents_hold =
    by_pieces (λ at s. T (are_bytes s) → Bursts.Holds at s (contents_from at [] s)) (λ at s f t. fails_hold at s t f)
    (λ at s f rest w e on t. whole_hold at s t f rest w e (on (bytes_of at s t f rest e).1))

each_holds : Bursts.EachHolds
unfolding contents
each_holds burst c t =
    (λ h. holds_contents h t, λ e. subst (Bursts.Holds 0 burst) e (contents_hold 0 burst t))

-- ---- the pieces, one by one
abbrev pieces_from : ℕ → List ℕ → List Piece
pieces_from at s = (contents_from at [] s).pieces

abbrev nth : List Piece → ℕ → Piece
nth ps k = get_or ps k (piece 0 [])

-- it fails, so that there is none
no_pieces : (at : ℕ) (s : List ℕ) → HearingLaws.Fails s → pieces_from at s ≡ []
no_pieces at s (HearingLaws.stops t) = ap (λ (c : Contents). c.pieces) (stops_contents at s t)
no_pieces at s (HearingLaws.breaks g x rest e t d) = ap (pieces_from at) e ∙ ap (λ (c : Contents). c.pieces) (broken_contents at g x rest t d)

-- a form in front, and the pieces behind it
form_pieces : (at : ℕ) (s f rest : List ℕ) → FrontLaws.Form f → s ≡ f ++ rest → pieces_from at s ≡ piece at f ∷ pieces_from (at + length f) rest
form_pieces at s f rest w e = ap (pieces_from at) e ∙ ap (λ (c : Contents). c.pieces) (form_contents at f rest w)

few : (at : ℕ) (s : List ℕ) → length (pieces_from at s) ≤ length s
few =
    by_pieces (λ at s. length (pieces_from at s) ≤ length s) (λ at s f. omega (arith, ap length (no_pieces at s f)))
    (λ at s f rest w e on. omega (arith, on, ap length e, length-append f rest, FrontLaws.form_filled f w, ap length (form_pieces at s f rest w e)))

-- piece k of ps, which the bytes s from place `at` on hold
record There (at : ℕ) (s : List ℕ) (ps : List Piece) (k : ℕ) : Type 0 where
  offset : ℕ
  rest : List ℕ
  start : (nth ps k).start ≡ at + offset
  stands : drop offset s ≡ (nth ps k).bytes ++ rest
  form : FrontLaws.Form (nth ps k).bytes
  first : k ≡ 0 → (nth ps k).start ≡ at
  next : suc k < length ps → (nth ps (suc k)).start ≡ (nth ps k).start + length (nth ps k).bytes

first_start : (at : ℕ) (s : List ℕ) → 0 < length (pieces_from at s) → (nth (pieces_from at s) 0).start ≡ at
first_start at s h = go (FrontLaws.front s)
  where
    go : FrontLaws.Front s → (nth (pieces_from at s) 0).start ≡ at
    go (FrontLaws.fails f) = absurd (omega (arith, h, ap length (no_pieces at s f)))
    go (FrontLaws.whole f rest w e) = ap (λ (ps : List Piece). (nth ps 0).start) (form_pieces at s f rest w e)

module _ (at : ℕ) (f rest : List ℕ) (w : FrontLaws.Form f) where
  there_first : There at (f ++ rest) (piece at f ∷ pieces_from (at + length f) rest) 0
  there_first =
      record {
        offset = 0;
        rest = rest;
        start = omega arith;
        stands = refl;
        form = w;
        first = λ z. refl;
        next = λ h. first_start (at + length f) rest (omega (arith, h));
      }

  there_later : (k : ℕ) → There (at + length f) rest (pieces_from (at + length f) rest) k → There at (f ++ rest) (piece at f ∷ pieces_from (at + length f) rest) (suc k)
  there_later k r =
      record {
        offset = length f + r.offset;
        rest = r.rest;
        start = omega (arith, r.start);
        stands = drop-append-add f rest r.offset ∙ r.stands;
        form = r.form;
        first = λ z. absurd (omega (arith, z));
        next = λ h. r.next (omega (arith, h));
      }

  there_in : (k : ℕ) → k < length (piece at f ∷ pieces_from (at + length f) rest)
      → ((j : ℕ) → j < length (pieces_from (at + length f) rest) → There (at + length f) rest (pieces_from (at + length f) rest) j)
      → There at (f ++ rest) (piece at f ∷ pieces_from (at + length f) rest) k
  there_in zero h on = there_first
  there_in (suc k) h on = there_later k (on k (omega (arith, h)))

abbrev EachThere : ℕ → List ℕ → Type 0
EachThere at s = (k : ℕ) → k < length (pieces_from at s) → There at s (pieces_from at s) k

whole_there : (at : ℕ) (s f rest : List ℕ) → FrontLaws.Form f → s ≡ f ++ rest → EachThere (at + length f) rest → EachThere at s
whole_there at s f rest w e on k l =
    let q : pieces_from at s ≡ piece at f ∷ pieces_from (at + length f) rest = form_pieces at s f rest w e in
    let r : There at (f ++ rest) (piece at f ∷ pieces_from (at + length f) rest) k = there_in at f rest w k (omega (arith, l, ap length q)) on in
    subst (λ (x : List ℕ). There at x (pieces_from at s) k) (sym e) (subst (λ (ps : List Piece). There at (f ++ rest) ps k) (sym q) r)

there : (at : ℕ) (s : List ℕ) → EachThere at s
there = by_pieces EachThere (λ at s f k l. absurd (omega (arith, l, ap length (no_pieces at s f)))) whole_there

-- ---- what the first byte of a piece tells
form_size : (f rest : List ℕ) → FrontLaws.Form f → length f ≡ Bursts.size_at (f ++ rest)
form_size f rest (FrontLaws.acknowledges e) = rw e
form_size f rest (FrontLaws.fixes c e) = rw e (fixed_length c ∙ (unfold fixed_frame in refl))
form_size f rest (FrontLaws.carries c m h e) = rw e (frame_length c m ∙ counted)
  where
    counted : length m + 7 ≡ Bursts.size_at (data_frame c m ++ rest)
    counted = unfold data_frame in omega arith

each_there : Bursts.EachPieceThere
unfolding contents
each_there burst k l =
    record {
      first = r.first;
      next = r.next;
      within = omega (arith, ap length stands, length-drop o burst, length-append p r.rest, FrontLaws.form_filled p r.form);
      there = sym (ap (take (length p)) stands ∙ take_at p r.rest (length p) refl);
      which = λ t. form_sound p (bytes_within t) r.form;
      kind = form_kind o p r.rest r.form ∙ ap (λ (b : ℕ). eqb b 0xE5) (sym first_byte);
      size = form_size p r.rest r.form ∙ ap Bursts.size_at (sym stands);
    }
  where
    r : There 0 burst (pieces_from 0 burst) k
    r = there 0 burst k l

    p : List ℕ
    p = (nth (pieces_from 0 burst) k).bytes

    o : ℕ
    o = (nth (pieces_from 0 burst) k).start

    stands : drop o burst ≡ p ++ r.rest
    stands = ap (λ (i : ℕ). drop i burst) {x = o} {y = r.offset} (omega (arith, r.start)) ∙ r.stands

    bytes_within : T (are_bytes burst) → T (are_bytes p)
    bytes_within t =
        let u : T (are_bytes (take o burst ++ drop o burst)) = subst (λ (l : List ℕ). T (are_bytes l)) (sym (take-append-drop o burst)) t in
        (byte_parts p r.rest (subst (λ (l : List ℕ). T (are_bytes l)) stands (byte_parts (take o burst) (drop o burst) u).1)).0

    first_byte : get_or burst o 0 ≡ get_or (p ++ r.rest) 0 0
    first_byte = ap (λ (i : ℕ). get_or burst i 0) {x = o} {y = o + 0} (omega arith) ∙ sym (get_or-drop o burst 0 0) ∙ ap (λ (l : List ℕ). get_or l 0 0) stands

-- ---- what is returned
each_read : Bursts.EachBurstRead
each_read burst run h k =
    record {
      reply = ap (λ (c : BurstCalled). c.reply) is;
      counted = figures_sum (contents burst);
      room = omega (arith, h, k, found_few);
      starts = λ i l. ap (λ (c : BurstCalled). get_or c.run i 0) is ∙ get_d_put_within run 0 (starts_of (contents burst)) fits i (omega arith) (omega (arith, l, starts_length (contents burst))) ∙ start_at (i - 0) i (omega arith);
      unaltered = λ i l. ap (λ (c : BurstCalled). get_or c.run i 0) is ∙ get_d_put_behind run 0 (starts_of (contents burst)) fits i (omega (arith, l, starts_length (contents burst)));
      as_long = ap (λ (c : BurstCalled). length c.run) is ∙ length-put run 0 (starts_of (contents burst)) fits;
    }
  where
    is : read_burst burst run ≡ record { reply = Read (figures_of (contents burst)); run = put run 0 (starts_of (contents burst)) }
    is = burst_read burst run h k

    found_few : Bursts.found burst ≤ length burst
    found_few = unfold contents in (few 0 burst)

    fits : 0 + length (starts_of (contents burst)) ≤ length run
    fits = omega (arith, h, k, found_few, starts_length (contents burst))

    start_at : (j i : ℕ) → j ≡ i → get_or (starts_of (contents burst)) j 0 ≡ (Bursts.piece_at i burst).start
    start_at j i e =
        let at : get_or (starts_of (contents burst)) i 0 ≡ (Bursts.piece_at i burst).start =
        unfold starts_of in (get_or-map (λ (p : Piece). p.start) (contents burst).pieces i (piece 0 [])) in
        ap (λ (n : ℕ). get_or (starts_of (contents burst)) n 0) e ∙ at

each_refused : Bursts.EachBurstRefused
each_refused burst run (inl h) = burst_long burst run h
each_refused burst run (inr h) = run_short burst run h

-- ---- one outcome
one_outcome : Bursts.OneOutcome
one_outcome =
    record {
      numbers_tell = reply_told;
      promised = promised;
      given = given;
    }
  where
    promised : {c : BurstCalled} {r q : BurstReply} {run run' : List ℕ} → BurstLeaves c r run → BurstLeaves c q run' → (r ≡ q) × (run ≡ run')
    promised {c} {r} {q} a b = (reply_told r q (a.reply ∙ sym b.reply), a.run ∙ sym b.run)

    given : {c : BurstCalled} {r q : BurstNumbers} {run run' : List ℕ} → BurstGives c r run → BurstGives c q run' → (r ≡ q) × (run ≡ run')
    given a b = (a.numbers ∙ sym b.numbers, a.run ∙ sym b.run)

-- ---- the byte-wise receiver
each_byte_wise : Bursts.EachByteWise
each_byte_wise given l burst =
    record {
      same_contents = same_contents given l burst;
      behind_another = λ other. same_contents given (delivered other l).line burst (mark_start other l);
      finds_the_same = finds_the_same;
      nothing_happens = nothing_happens;
    }
  where
    finds_the_same : (run run' : List ℕ) (r : BurstReply) → l ≡ at_start l → length burst ≤ 2048 → 2048 ≤ length run → BurstLeaves (read_burst burst run) r run'
        → (r ≡ Read (figures_of (Bursts.watched given 0 l burst))) × (run' ≡ put run 0 (starts_of (Bursts.watched given 0 l burst)))
    finds_the_same run run' r s h k p =
        let e : contents burst ≡ Bursts.watched given 0 l burst = sym (same_contents given l burst s) in
        let q : read_burst burst run ≡ record { reply = Read (figures_of (contents burst)); run = put run 0 (starts_of (contents burst)) } = burst_read burst run h k in (
          reply_told r (read_burst burst run).reply p.reply ∙ ap (λ (c : BurstCalled). c.reply) q ∙ ap (λ (c : Contents). Read (figures_of c)) e,
          p.run ∙ ap (λ (c : BurstCalled). c.run) q ∙ ap (λ (c : Contents). put run 0 (starts_of c)) e,
        )

    nothing_happens : l ≡ at_start l → (contents burst).pieces ≡ [] → delivered burst l ≡ record { sent = []; ups = []; line = l }
    nothing_happens s e = go (FrontLaws.front burst)
      where
        go : FrontLaws.Front burst → delivered burst l ≡ record { sent = []; ups = []; line = l }
        go (FrontLaws.fails f) = HearingLaws.failing_nothing burst l f s
        go (FrontLaws.whole f rest w q) =
            let none : pieces_from 0 burst ≡ [] = unfold contents in e in
            absurd (omega (arith, ap length (sym (form_pieces 0 burst f rest w q) ∙ none)))

pub whole_bursts : Bursts.WholeBursts
whole_bursts =
    record {
      byte_wise = each_byte_wise;
      holds = each_holds;
      there = each_there;
      read = each_read;
      refused = each_refused;
      one_outcome = one_outcome;
    }
