-- How bytes are heard from a frame start: a beginning, damage, an acknowledgement, a whole data frame, an idle mark.
use Rattle.std.proofs.Common.{ℕ, suc, ◌-◌, ◌≤◌, ◌≡◌, refl, sym, ◌∙◌, ap, ◌≢◌, Bool, true, false, not, List, [], ◌∷◌, ◌++◌, append-nil, arith, length, get_or, take, length-append, take_at, T, eq-eqb, ne_eqb}
use lib.Seq.{append_snoc, get_or_at}
use Rattle.ft12.specs.declared.receiver.Judgement.TheVariants.{More, Damage, Data}
use Rattle.ft12.specs.declared.rules.Heard.{Heard}
use Rattle.ft12.specs.declared.rules.Heard.TheVariants.{Ignored, Repeat, Request}
use Rattle.std.specs.Prelude.{if◌then◌else◌}
use Rattle.words.specs.Words.{is_empty}
use Rattle.ft12.specs.Frame.{acknowledgement, checksum, data_frame, message_of}
use Rattle.ft12.specs.Receiver.{judged_first, judged, is_more, gathers, is_beginning}
use Rattle.ft12.specs.Record.{Line, host_control}
use Rattle.ft12.specs.Rules.{acknowledged, message, Moved, still, receiving, at_start, start_dropping, gathering, cleared, expecting, case_of_acknowledgement, case_of_data, case_of, heard_at, on_heard, on_host_byte, on_idle_mark}
use Rattle.ft12.specs.Delivery.{ReadsAs, Hearing, up_first, hearing, delivered}
use Rattle.words.proofs.WordLaws.{left, right}
use Rattle.ft12.proofs.ReceiverLaws.{headed, judged_start, judged_end}
use Rattle.ft12.proofs.FrameLaws.{summed_beginning, frame_but_last, frame_message}
use Rattle.ft12.proofs.RulesLaws.{is_more_lem, damage_keeps}

-- nothing sent, nothing handed up
abbrev pub quiet : Line → Hearing
quiet l = record { sent = []; ups = []; line = l }

-- ---- runs of bytes
-- a byte that asks for more is gathered
more_heard : (g : List ℕ) (x : ℕ) (l : Line) → judged g x ≡ More → on_host_byte x (gathering g l) ≡ still (gathering (g ++ x ∷ []) l)
unfolding on_host_byte heard_at gathering case_of on_heard
more_heard g x l e = rw e

gathers-run : (g p bs : List ℕ) (l : Line) → T (gathers g p) → hearing (p ++ bs) (gathering g l) ≡ hearing bs (gathering (g ++ p) l)
unfolding hearing up_first gathers
gathers-run g [] bs l t = rw append-nil
gathers-run g (x ∷ p) bs l t =
    let e : judged g x ≡ More = is_more_lem (judged g x) (left (is_more (judged g x)) (gathers (g ++ x ∷ []) p) t) in
    rw (more_heard g x l e, ← append_snoc g x p) (gathers-run (g ++ x ∷ []) p bs l (right (is_more (judged g x)) (gathers (g ++ x ∷ []) p) t))

-- from a frame start, the beginning of a frame is gathered
pub beginning_runs : (p bs : List ℕ) (l : Line) → T (is_beginning p) → hearing (p ++ bs) (at_start l) ≡ hearing bs (gathering p l)
unfolding is_beginning at_start gathering
beginning_runs p bs l t = gathers-run [] p bs l t

-- "the rest is dropped up to the next idle mark"
pub dropping_runs : (bs : List ℕ) (l : Line) → hearing bs (start_dropping l) ≡ quiet (start_dropping l)
unfolding hearing up_first on_host_byte heard_at on_heard start_dropping
dropping_runs [] l = refl
dropping_runs (b ∷ bs) l = dropping_runs bs l

-- "Any byte that breaks these forms is damage, found at that byte"
pub damage_runs : (p : List ℕ) (x : ℕ) (q : List ℕ) (l : Line) → T (is_beginning p) → judged p x ≡ Damage → hearing (p ++ x ∷ q) (at_start l) ≡ quiet (start_dropping l)
damage_runs p x q l t e = beginning_runs p (x ∷ q) l t ∙ (unfold hearing up_first in rw heard (dropping_runs q l))
  where
    heard : on_host_byte x (gathering p l) ≡ still (start_dropping l)
    heard = unfold gathering start_dropping in damage_keeps x (receiving p false l) e

-- ---- a whole data frame
-- what a byte heard so does, and nothing else
abbrev pub alone : Moved → Hearing
alone v = record { sent = v.sent; ups = up_first v.up []; line = v.line }

one_runs : (x : ℕ) (l : Line) → hearing (x ∷ []) l ≡ alone (on_host_byte x l)
unfolding hearing
one_runs x l = simp append-nil

-- the bytes of a data frame but the last
abbrev pub front : ℕ → List ℕ → List ℕ
front c m = headed (suc (length m)) ((c ∷ m) ++ checksum (c ∷ m) ∷ [])

-- what the last byte of a data frame is heard as
frame_heard : (p : List ℕ) (x c n : ℕ) (l : Line) → judged p x ≡ Data c n
    → on_host_byte x (gathering p l) ≡ on_heard (case_of_data c n l.expected (is_empty l.outstanding)) x (gathering p l)
unfolding on_host_byte heard_at gathering case_of
frame_heard p x c n l e = rw e

-- bytes that read as a data frame: what the last one's case does, and nothing before it
pub reading_heard : (f : List ℕ) (c : ℕ) (m : List ℕ) (r : ReadsAs f c m) (l : Line) → l ≡ at_start l
    → hearing f l ≡ alone (on_heard (case_of_data c (suc (length m)) l.expected (is_empty l.outstanding)) r.last (gathering r.before l))
reading_heard f c m r l s =
    ap (hearing f) s ∙ ap (λ (b : List ℕ). hearing b (at_start l)) r.bytes ∙ beginning_runs r.before (r.last ∷ []) l r.gathered
    ∙ one_runs r.last (gathering r.before l) ∙ ap alone (frame_heard r.before r.last c (suc (length m)) l r.ends)

-- "Each data frame we send reads back, by the host's rules, to its one message and count bit": a frame that is built reads as what it was built of
pub frame_reads : (c : ℕ) (m : List ℕ) → length m ≤ 254 → ReadsAs (data_frame c m) c m
frame_reads c m h =
    record {
      before = front c m;
      last = 0x16;
      bytes = frame_but_last c m;
      gathered = summed_beginning (suc (length m)) (c ∷ m) (omega arith) (omega arith) refl;
      ends = judged_end (suc (length m)) ((c ∷ m) ++ checksum (c ∷ m) ∷ []) 0x16 (omega (arith, length-append m (checksum (c ∷ m) ∷ [])));
      carries = frame_message c m;
    }

-- so a frame that is built is heard
pub sound_heard : (c : ℕ) (m : List ℕ) (l : Line) → length m ≤ 254 → l ≡ at_start l
    → hearing (data_frame c m) l ≡ alone (on_heard (case_of_data c (suc (length m)) l.expected (is_empty l.outstanding)) 0x16 (gathering (front c m) l))
unfolding frame_reads
sound_heard c m l h s = reading_heard (data_frame c m) c m (frame_reads c m h) l s

-- the last byte and those before it are the list's to say
but_last : (f p : List ℕ) (x : ℕ) → f ≡ p ++ x ∷ [] → (p ≡ take (length f - 1) f) × (x ≡ get_or f (length f - 1) 0)
but_last f p x e =
    let n : length p ≡ length (p ++ x ∷ []) - 1 = omega (arith, length-append p (x ∷ [])) in
    (rw e (sym (take_at p (x ∷ []) _ n)), rw e (sym (get_or_at p x [] 0 _ n)))

-- "its one message and count bit": the same bytes read as nothing else
pub reads_one : {f : List ℕ} {c c' : ℕ} {m m' : List ℕ} → ReadsAs f c m → ReadsAs f c' m' → (c ≡ c') × (m ≡ m')
reads_one {f} {c} {c'} {m} {m'} r s =
    let p = but_last f r.before r.last r.bytes in
    let q = but_last f s.before s.last s.bytes in
    let e : Data c (suc (length m)) ≡ Data c' (suc (length m')) = sym r.ends ∙ rw (p.0, p.1, ← q.0, ← q.1) s.ends in
    (cc, sym r.carries ∙ s.carries)

-- ---- the four cases of a whole data frame
module _ (c n : ℕ) where
  request_case : (expected : Bool) → c ≡ host_control expected → case_of_data c n expected true ≡ Request n
  unfolding case_of_data
  request_case expected e = simp (eq-eqb c (host_control expected) e)

  waiting_case : (expected : Bool) → c ≡ host_control expected → case_of_data c n expected false ≡ Ignored
  unfolding case_of_data
  waiting_case expected e = simp (eq-eqb c (host_control expected) e)

  repeat_case : (expected free : Bool) → c ≡ host_control (not expected) → case_of_data c n expected free ≡ Repeat
  unfolding case_of_data host_control
  repeat_case true free e = rw e
  repeat_case false free e = rw e

  other_case : (expected free : Bool) → c ≢ 0x73 → c ≢ 0x53 → case_of_data c n expected free ≡ Ignored
  unfolding case_of_data host_control
  other_case true free p q = simp (ne_eqb c 0x73 p, ne_eqb c 0x53 q)
  other_case false free p q = simp (ne_eqb c 0x73 p, ne_eqb c 0x53 q)

module _ (c : ℕ) (m : List ℕ) (l : Line) (short : length m ≤ 254) (start : l ≡ at_start l) where
  heard_as : (h : Heard) → case_of_data c (suc (length m)) l.expected (is_empty l.outstanding) ≡ h → hearing (data_frame c m) l ≡ alone (on_heard h 0x16 (gathering (front c m) l))
  heard_as h e = rw (← e) (sound_heard c m l short start)

  ignored : case_of_data c (suc (length m)) l.expected (is_empty l.outstanding) ≡ Ignored → hearing (data_frame c m) l ≡ quiet l
  ignored e = heard_as Ignored e ∙ (unfold on_heard up_first gathering at_start in ap quiet (sym start))

  carried_out_lem : alone (on_heard (Request (suc (length m))) 0x16 (gathering (front c m) l)) ≡ record { sent = acknowledgement; ups = message m ∷ []; line = expecting (not l.expected) l }
  unfolding on_heard up_first gathering at_start
  carried_out_lem =
      let carried : message_of (front c m ++ 0x16 ∷ []) ≡ m = ap message_of (sym (frame_but_last c m)) ∙ frame_message c m in
      λ i. record { sent = acknowledgement; ups = message (carried i) ∷ []; line = expecting (not l.expected) (sym start i) }

  -- "Expected count bit, nothing outstanding: E5, bit flips, message carried out"
  pub request_heard : c ≡ host_control l.expected → is_empty l.outstanding ≡ true
      → hearing (data_frame c m) l ≡ record { sent = acknowledgement; ups = message m ∷ []; line = expecting (not l.expected) l }
  request_heard e o = heard_as (Request (suc (length m))) (rw o (request_case c (suc (length m)) l.expected e)) ∙ carried_out_lem

  -- "Expected bit, something outstanding: dropped, unanswered, bit kept"
  pub waiting_unheard : c ≡ host_control l.expected → is_empty l.outstanding ≡ false → hearing (data_frame c m) l ≡ quiet l
  waiting_unheard e o = ignored (rw o (waiting_case c (suc (length m)) l.expected e))

  -- "Other bit: E5, message dropped."
  pub repeat_heard : c ≡ host_control (not l.expected) → hearing (data_frame c m) l ≡ record { sent = acknowledgement; ups = []; line = l }
  repeat_heard e =
      heard_as Repeat (repeat_case c (suc (length m)) l.expected (is_empty l.outstanding) e)
      ∙ (unfold on_heard up_first gathering at_start in ap (λ (k : Line). record { sent = acknowledgement; ups = []; line = k }) (sym start))

  -- "A sound frame with another control byte is ignored, unanswered."
  pub other_ignored : c ≢ 0x73 → c ≢ 0x53 → hearing (data_frame c m) l ≡ quiet l
  other_ignored p q = ignored (other_case c (suc (length m)) l.expected (is_empty l.outstanding) p q)

-- ---- idle marks
-- "the mark alters nothing else"
pub idle_alters : (l : Line) → on_idle_mark l ≡ still (receiving [] false l)
unfolding on_idle_mark at_start
idle_alters l = refl

-- ---- bytes in which no whole frame is heard
-- from a frame start they stop short of a frame's end, or are damage at some byte
pub data Fails (bs : List ℕ) : Type 0 where
  stops : T (is_beginning bs) → Fails bs
  breaks : (p : List ℕ) (x : ℕ) (q : List ℕ) → bs ≡ p ++ x ∷ q → T (is_beginning p) → judged p x ≡ Damage → Fails bs

-- "An idle mark in mid-frame drops what was gathered.": then nothing is left of them
pub failing_nothing : (bs : List ℕ) (l : Line) → Fails bs → l ≡ at_start l → delivered bs l ≡ quiet l
unfolding delivered on_idle_mark
failing_nothing bs l f s = rw s (go f)
  where
    go : Fails bs → delivered bs (at_start l) ≡ quiet (at_start l)
    go (stops t) = rw (← append-nil bs, beginning_runs bs [] l t) (unfold hearing at_start gathering in refl)
    go (breaks p x q e t d) = rw (e, damage_runs p x q l t d) (unfold at_start start_dropping in refl)

-- "E5: acknowledgement. Clears the outstanding frame and flips the send bit; with nothing outstanding it is ignored."
abbrev pub acknowledges : Line → Hearing
acknowledges l =
    record {
      sent = [];
      ups = if is_empty l.outstanding then [] else acknowledged ∷ [];
      line = if is_empty l.outstanding then l else cleared (not l.send) l;
    }

-- what one byte did, and what those behind it did
abbrev before : Moved → Hearing → Hearing
before v r = record { sent = v.sent ++ r.sent; ups = up_first v.up r.ups; line = r.line }

first_delivered : (b : ℕ) (bs : List ℕ) (l : Line) (v : Moved) → on_host_byte b l ≡ v → delivered (b ∷ bs) l ≡ before v (delivered bs v.line)
unfolding delivered hearing
first_delivered b bs l v e = ap (λ (w : Moved). before w (delivered bs w.line)) e

E5-heard : (l : Line) → on_host_byte 0xE5 (at_start l) ≡ on_heard (case_of_acknowledgement (is_empty l.outstanding)) 0xE5 (at_start l)
unfolding on_host_byte heard_at at_start case_of judged_first
E5-heard l = rw (judged_start 0xE5)

module _ (l : Line) (start : l ≡ at_start l) where
  E5_ignored : is_empty l.outstanding ≡ true → on_host_byte 0xE5 l ≡ still l
  unfolding case_of_acknowledgement on_heard
  E5_ignored o = ap (on_host_byte 0xE5) start ∙ E5-heard l ∙ rw o (unfold at_start in ap still (sym start))

  abbrev after : Line
  after = cleared (not l.send) l

  E5_clears : is_empty l.outstanding ≡ false → on_host_byte 0xE5 l ≡ record { sent = []; up = acknowledged; line = after }
  unfolding case_of_acknowledgement on_heard at_start
  E5_clears o = ap (on_host_byte 0xE5) start ∙ E5-heard l ∙ rw o (λ i. record { sent = []; up = acknowledged; line = cleared (not l.send) (sym start i) })

  after_start : after ≡ at_start after
  unfolding cleared at_start
  after_start = ap (cleared (not l.send)) start

  -- an E5 before bytes that do nothing where nothing is outstanding
  E5_first : (bs : List ℕ) → ((k : Line) → k ≡ at_start k → is_empty k.outstanding ≡ true → delivered bs k ≡ quiet k) → delivered (0xE5 ∷ bs) l ≡ acknowledges l
  unfolding up_first
  E5_first bs h = go (is_empty l.outstanding) refl
    where
      go : (u : Bool) → is_empty l.outstanding ≡ u → delivered (0xE5 ∷ bs) l ≡ acknowledges l
      go true o = rw (o, first_delivered 0xE5 bs l _ (E5_ignored o)) (h l start o)
      go false o = rw (o, first_delivered 0xE5 bs l _ (E5_clears o), h after after_start (unfold cleared in refl))

-- bytes that are acknowledgements, one at least, and then fail
pub data Echoes : List ℕ → Type 0 where
  once : {bs : List ℕ} → Fails bs → Echoes (0xE5 ∷ bs)
  again : {bs : List ℕ} → Echoes bs → Echoes (0xE5 ∷ bs)

pub echoes_acknowledge : {bs : List ℕ} (l : Line) → Echoes bs → l ≡ at_start l → delivered bs l ≡ acknowledges l
echoes_acknowledge l (once {bs} f) s = E5_first l s bs (λ k p o. failing_nothing bs k f p)
echoes_acknowledge l (again {bs} e) s = E5_first l s bs (λ k p o. echoes_acknowledge k e p ∙ simp o)
