-- The link rules: what none of them does, and that each leaves a line that is in order in order.
use Rattle.std.proofs.Common.{ℕ, ◌+◌, ◌≤◌, ◌<◌, ◌≡◌, refl, sym, ◌∙◌, ap, Bool, true, false, not, ◌||◌, List, [], ◌∷◌, ◌++◌, arith, length, T, leb, ltb, eqb, le→leb, ltb-true, ltb-false, eqb-true, eq-eqb}
use mathlib.Core.Bool.{or-true}
use Rattle.ft12.specs.declared.receiver.Judgement.{Judgement}
use Rattle.ft12.specs.declared.receiver.Judgement.TheVariants.{More, Damage, Acknowledgement, Fixed, Data}
use Rattle.ft12.specs.declared.rules.Heard.{Heard}
use Rattle.ft12.specs.declared.rules.Heard.TheVariants.{Gathered, Dropped, Ignored, Acknowledged, Reset, Repeat, Request}
use Rattle.std.specs.Prelude.{if◌then◌else◌}
use Rattle.words.specs.Words.{is_empty}
use Rattle.ft12.specs.Frame.{acknowledgement, data_frame, is_whole}
use Rattle.ft12.specs.Receiver.{judged, is_more, gathers, is_beginning}
use Rattle.ft12.specs.Record.{Line, host_control, server_control, receiver_ok, outstanding_ok, line_ok}
use Rattle.ft12.specs.Rules.{nothing, reset, message, still, receiving, at_start, start_dropping, gathering, cleared, holding, expecting, case_of_acknowledgement, case_of_fixed, case_of_data, case_of, heard_at, on_heard, on_host_byte, on_idle_mark, on_ack_wait_over, on_message}
use Rattle.words.proofs.WordLaws.{left, right, both, true_T}
use Rattle.ft12.proofs.ReceiverLaws.{beginning_on}
use Rattle.ft12.proofs.FrameLaws.{whole_tested}

-- ---- what no rule does
-- damage: nothing is sent or handed up, and neither bit moves
pub damage_keeps : (b : ℕ) (l : Line) → judged l.gathered b ≡ Damage → on_host_byte b l ≡ still (receiving [] true l)
unfolding on_host_byte heard_at on_heard case_of start_dropping
damage_keeps b l d = go l.dropping refl
  where
    go : (u : Bool) → l.dropping ≡ u → on_host_byte b l ≡ still (receiving [] true l)
    go true e = simp (e, on_host_byte)
    go false e = simp (e, d, on_host_byte)

-- a repeat draws one acknowledgement, and nothing else happens
pub repeat_acknowledged : (n b : ℕ) (l : Line) → l.dropping ≡ false → judged l.gathered b ≡ Data (host_control (not l.expected)) n
    → on_host_byte b l ≡ record { sent = acknowledgement; up = nothing; line = receiving [] false l }
unfolding on_host_byte heard_at on_heard case_of case_of_data host_control at_start
repeat_acknowledged n b l p d = go l.expected refl
  where
    go : (u : Bool) → l.expected ≡ u → on_host_byte b l ≡ record { sent = acknowledgement; up = nothing; line = receiving [] false l }
    go true e = simp (p, d, e, on_host_byte)
    go false e = simp (p, d, e, on_host_byte)

-- "Expected bit, something outstanding: dropped, unanswered, bit kept"
pub waiting_keeps : (n b : ℕ) (l : Line) → l.dropping ≡ false → judged l.gathered b ≡ Data (host_control l.expected) n → is_empty l.outstanding ≡ false
    → on_host_byte b l ≡ still (receiving [] false l)
unfolding on_host_byte heard_at on_heard case_of case_of_data at_start
waiting_keeps n b l p d o = simp (p, d, o, eq-eqb (host_control l.expected) (host_control l.expected) refl)

-- "C = 40 is the reset request: answered E5, both bits become odd, the outstanding frame is dropped"
pub reset_answered : (b : ℕ) (l : Line) → l.dropping ≡ false → judged l.gathered b ≡ Fixed 0x40
    → on_host_byte b l
    ≡ record { sent = acknowledgement; up = reset; line = record { gathered = []; dropping = false; expected = true; send = true; outstanding = []; resends = 0 } }
unfolding on_host_byte heard_at on_heard case_of case_of_fixed at_start cleared expecting
reset_answered b l p d = simp (p, d)

-- with something outstanding a message is not taken back
pub message_waits : (m : List ℕ) (l : Line) → is_empty l.outstanding ≡ false → on_message m l ≡ still l
unfolding on_message
message_waits m l e = simp (e, or-true)

-- ---- lines that are in order
abbrev pub outstanding_fits : Line → Bool
outstanding_fits l = outstanding_ok l.send l.resends l.outstanding

pub outstanding_of : (l : Line) → T (line_ok l) → T (outstanding_fits l)
unfolding line_ok
outstanding_of l t = right (receiver_ok l.dropping l.gathered) (outstanding_fits l) t

receiver_of : (l : Line) → T (line_ok l) → T (receiver_ok l.dropping l.gathered)
unfolding line_ok
receiver_of l t = left (receiver_ok l.dropping l.gathered) (outstanding_fits l) t

-- the receiver at a frame start, or dropping
start_receiver : T (receiver_ok false [])
unfolding receiver_ok is_beginning gathers
start_receiver = tt

pub start_ok : (l : Line) → T (outstanding_fits l) → T (line_ok (at_start l))
unfolding line_ok at_start
start_ok l t = both (receiver_ok false []) (outstanding_fits l) start_receiver t

pub dropping_ok : (l : Line) → T (outstanding_fits l) → T (line_ok (start_dropping l))
unfolding line_ok start_dropping receiver_ok
dropping_ok l t = t

-- nothing outstanding
cleared_ok : (send : Bool) (dropping : Bool) (g : List ℕ) (expected : Bool) → T (receiver_ok dropping g)
    → T (line_ok (record { gathered = g; dropping = dropping; expected = expected; send = send; outstanding = []; resends = 0 }))
unfolding line_ok outstanding_ok
cleared_ok send dropping g expected t = both (receiver_ok dropping g) true t tt

-- ---- a host byte: what it tells that it was heard so
is_gathered : Heard → Bool
is_gathered Gathered = true
is_gathered Dropped = false
is_gathered Ignored = false
is_gathered Acknowledged = false
is_gathered Reset = false
is_gathered Repeat = false
is_gathered (Request n) = false

is_request : Heard → Bool
is_request Gathered = false
is_request Dropped = false
is_request Ignored = false
is_request Acknowledged = false
is_request Reset = false
is_request Repeat = false
is_request (Request n) = true

neither : (p : Heard → Bool) (u : Bool) (x y : Heard) → p x ≡ false → p y ≡ false → p (if u then x else y) ≡ false
neither p true x y e d = e
neither p false x y e d = d

-- only a byte that asks for more is gathered
case_gathered : (j : Judgement) (expected free : Bool) → T (is_gathered (case_of j expected free)) → T (is_more j)
unfolding case_of is_gathered is_more case_of_acknowledgement case_of_fixed case_of_data
case_gathered More expected free t = tt
case_gathered Damage expected free t = t
case_gathered Acknowledgement expected free t = rw (neither is_gathered free Ignored Acknowledged refl refl) at t
case_gathered (Fixed c) expected free t = rw (neither is_gathered (eqb c 0x40) Reset Ignored refl refl) at t
case_gathered (Data c n) expected free t =
    rw (neither is_gathered (eqb c (host_control expected)) (if free then Request n else Ignored) (if eqb c (host_control (not expected)) then Repeat else Ignored)
    (neither is_gathered free (Request n) Ignored refl refl) (neither is_gathered (eqb c (host_control (not expected))) Repeat Ignored refl refl)) at t

-- a request comes with nothing outstanding, in a data frame with the expected count bit
pub record Requested (j : Judgement) (expected free : Bool) : Type 0 where
  pub length : ℕ
  pub judgement : j ≡ Data (host_control expected) length
  pub nothing_outstanding : free ≡ true

case_request : (j : Judgement) (expected free : Bool) → T (is_request (case_of j expected free)) → Requested j expected free
unfolding case_of is_request case_of_acknowledgement case_of_fixed case_of_data
case_request More expected free t = absurd t
case_request Damage expected free t = absurd t
case_request Acknowledgement expected free t = absurd (rw (neither is_request free Ignored Acknowledged refl refl) at t)
case_request (Fixed c) expected free t = absurd (rw (neither is_request (eqb c 0x40) Reset Ignored refl refl) at t)
case_request (Data c n) expected free t = go (eqb c (host_control expected)) free refl refl
  where
    go : (u v : Bool) → eqb c (host_control expected) ≡ u → free ≡ v → Requested (Data c n) expected free
    go true true e d = record { length = n; judgement = ap (λ (x : ℕ). Data x n) (eqb-true c (host_control expected) e); nothing_outstanding = d }
    go true false e d = absurd (simp (e, d) at t)
    go false v e d = absurd (rw (neither is_request (eqb c (host_control (not expected))) Repeat Ignored refl refl) at (simp e at t))

-- the byte that ends a request, and its L
pub request_judged : (b : ℕ) (l : Line) (n : ℕ) → heard_at b l ≡ Request n → (l.dropping ≡ false) × (judged l.gathered b ≡ Data (host_control l.expected) n)
unfolding heard_at is_request
request_judged b l n h = go l.dropping refl
  where
    of_case_lem : Requested (judged l.gathered b) l.expected (is_empty l.outstanding) → case_of (judged l.gathered b) l.expected (is_empty l.outstanding) ≡ Request n
        → judged l.gathered b ≡ Data (host_control l.expected) n
    of_case_lem r e =
        let w : case_of (judged l.gathered b) l.expected (is_empty l.outstanding) ≡ Request r.length =
        unfold case_of case_of_data in simp (r.judgement, r.nothing_outstanding, eq-eqb (host_control l.expected) (host_control l.expected) refl) in
        let x : Request r.length ≡ Request n = sym w ∙ e in
        let y : r.length ≡ n = cc x in
        r.judgement ∙ ap (λ (i : ℕ). Data (host_control l.expected) i) y

    go : (u : Bool) → l.dropping ≡ u → (l.dropping ≡ false) × (judged l.gathered b ≡ Data (host_control l.expected) n)
    go true e = absurd (let z : ◌≡◌ {A = ℕ} 0 1 = cc (simp e at h) in omega arith)
    go false e = (e, of_case_lem (case_request (judged l.gathered b) l.expected (is_empty l.outstanding) (rw (simp e at h) tt)) (simp e at h))

-- ---- each case leaves a line that is in order in order
heard_ok : (h : Heard) (b : ℕ) (l : Line) → (T (is_gathered h) → T (is_beginning (l.gathered ++ b ∷ []))) → T (outstanding_fits l) → T (line_ok (on_heard h b l).line)
unfolding on_heard
heard_ok Gathered b l g o = unfold line_ok gathering receiver_ok in both (is_beginning (l.gathered ++ b ∷ [])) (outstanding_fits l) (g (unfold is_gathered in tt)) o
heard_ok Dropped b l g o = dropping_ok l o
heard_ok Ignored b l g o = start_ok l o
heard_ok Acknowledged b l g o = unfold at_start cleared in cleared_ok (not l.send) false [] l.expected start_receiver
heard_ok Reset b l g o = unfold at_start cleared expecting in cleared_ok true false [] true start_receiver
heard_ok Repeat b l g o = start_ok l o
heard_ok (Request n) b l g o = unfold line_ok at_start expecting in both (receiver_ok false []) (outstanding_fits l) start_receiver o

pub host_byte_ok : (b : ℕ) (l : Line) → T (line_ok l) → T (line_ok (on_host_byte b l).line)
unfolding on_host_byte heard_at is_gathered
host_byte_ok b l t = heard_ok (heard_at b l) b l (go l.dropping refl) (outstanding_of l t)
  where
    go : (u : Bool) → l.dropping ≡ u → T (is_gathered (heard_at b l)) → T (is_beginning (l.gathered ++ b ∷ []))
    go true e g = absurd (simp e at g)
    go false e g =
        beginning_on l.gathered b (unfold receiver_ok in simp e at (receiver_of l t))
        (case_gathered (judged l.gathered b) l.expected (is_empty l.outstanding) (simp e at g))

-- a message is handed up only with nothing outstanding, so that its answer is never kept back
request_up : (h : Heard) (b : ℕ) (l : Line) (m : List ℕ) → (on_heard h b l).up ≡ message m → T (is_request h)
unfolding on_heard is_request
request_up Gathered b l m e = absurd (let z : ◌≡◌ {A = ℕ} 0 1 = cc in omega arith)
request_up Dropped b l m e = absurd (let z : ◌≡◌ {A = ℕ} 0 1 = cc in omega arith)
request_up Ignored b l m e = absurd (let z : ◌≡◌ {A = ℕ} 0 1 = cc in omega arith)
request_up Acknowledged b l m e = absurd (let z : ◌≡◌ {A = ℕ} 0 1 = cc in omega arith)
request_up Reset b l m e = absurd (let z : ◌≡◌ {A = ℕ} 0 1 = cc in omega arith)
request_up Repeat b l m e = absurd (let z : ◌≡◌ {A = ℕ} 0 1 = cc in omega arith)
request_up (Request n) b l m e = tt

pub message_free : (b : ℕ) (l : Line) (m : List ℕ) → (on_host_byte b l).up ≡ message m → is_empty l.outstanding ≡ true
unfolding on_host_byte heard_at is_request
message_free b l m h = go l.dropping refl (request_up (heard_at b l) b l m h)
  where
    go : (u : Bool) → l.dropping ≡ u → T (is_request (heard_at b l)) → is_empty l.outstanding ≡ true
    go true e g = absurd (simp e at g)
    go false e g = (case_request (judged l.gathered b) l.expected (is_empty l.outstanding) (simp e at g)).nothing_outstanding

-- ---- the other events
pub idle_mark_ok : (l : Line) → T (line_ok l) → T (line_ok (on_idle_mark l).line)
unfolding on_idle_mark
idle_mark_ok l t = start_ok l (outstanding_of l t)

-- the receiver stays, and this is outstanding
holding_ok : (f : List ℕ) (n : ℕ) (l : Line) → T (line_ok l) → T (outstanding_ok l.send n f) → T (line_ok (holding f n l))
unfolding line_ok holding
holding_ok f n l t o = both (receiver_ok l.dropping l.gathered) (outstanding_ok l.send n f) (receiver_of l t) o

pub ack_wait_ok : (l : Line) → T (line_ok l) → T (line_ok (on_ack_wait_over l).line)
unfolding on_ack_wait_over
ack_wait_ok l t = go (is_empty l.outstanding) (ltb l.resends 3) refl refl
  where
    w : Bool
    w = is_whole (server_control l.send) l.outstanding

    again : is_empty l.outstanding ≡ false → l.resends < 3 → T (outstanding_ok l.send (l.resends + 1) l.outstanding)
    again e h = unfold outstanding_ok in simp e (both w (leb (l.resends + 1) 3) (left w (leb l.resends 3) (unfold outstanding_ok in simp e at (outstanding_of l t))) (le→leb (l.resends + 1) 3 (omega arith)))

    go : (u v : Bool) → is_empty l.outstanding ≡ u → ltb l.resends 3 ≡ v → T (line_ok (on_ack_wait_over l).line)
    go true v e d = simp e t
    go false true e d = simp (e, d) (holding_ok l.outstanding (l.resends + 1) l t (again e (ltb-true l.resends 3 d)))
    go false false e d = simp (e, d) (unfold cleared in cleared_ok true l.dropping l.gathered l.expected (receiver_of l t))

pub message_ok : (m : List ℕ) (l : Line) → T (line_ok l) → T (line_ok (on_message m l).line)
unfolding on_message
message_ok m l t = go (is_empty m || ltb 254 (length m)) (is_empty l.outstanding) refl refl
  where
    c : ℕ
    c = server_control l.send

    framed : length m ≤ 254 → T (outstanding_ok l.send 0 (data_frame c m))
    framed h =
        unfold outstanding_ok data_frame in
        both (is_whole c (data_frame c m)) true (whole_tested c (data_frame c m) (record { carried = m; short = h; frame = refl })) tt

    short : (is_empty m || ltb 254 (length m)) ≡ false → length m ≤ 254
    short e = go (is_empty m) refl
      where
        go : (u : Bool) → is_empty m ≡ u → length m ≤ 254
        go true d = absurd (true_T (sym (simp d at e)))
        go false d = ltb-false 254 (length m) (simp d at e)

    go : (u v : Bool) → (is_empty m || ltb 254 (length m)) ≡ u → is_empty l.outstanding ≡ v → T (line_ok (on_message m l).line)
    go true v e d = simp e t
    go false false e d = simp (e, d) t
    go false true e d = simp (e, d) (holding_ok (data_frame c m) 0 l t (framed (short e)))

pub is_more_lem : (j : Judgement) → T (is_more j) → j ≡ More
unfolding is_more
is_more_lem More t = refl
is_more_lem Damage t = absurd t
is_more_lem Acknowledgement t = absurd t
is_more_lem (Fixed c) t = absurd t
is_more_lem (Data c n) t = absurd t

-- what the code learns of the byte from its case
pub gathered_is_more : (j : Judgement) (expected free : Bool) → case_of j expected free ≡ Gathered → j ≡ More
gathered_is_more j expected free e = is_more_lem j (case_gathered j expected free (rw e (unfold is_gathered in tt)))
