-- Demand 3. "Start with tables, link record and output room that no call refuses, the receiver at a frame start and
-- nothing outstanding. One request, first byte F0, carrying the expected count bit is delivered any number of times,
-- at least once sound; each other delivery has exactly one byte changed or lost; each is followed by an idle mark,
-- and nothing else happens. Then the tables and the expected bit are those after one sound delivery. Each sound
-- delivery draws one acknowledgement, a damaged one draws none, and the answer is sent at most once, exactly when one
-- sound delivery would send it. This is here because retries are the normal state of the line."
use Rattle.std.specs.Prelude.{if◌then◌else◌, ℕ, suc, ◌≤◌, ◌≡◌, Bool, true, false, not, ◌&&◌, ◌||◌, List, [], ◌∷◌, ◌++◌, map, length, get_or, T, eqb}
use Rattle.words.specs.Words.{is_empty, every, are_bytes}
use Rattle.ft12.specs.declared.record.Link.{Link}
use Rattle.ft12.specs.Frame.{acknowledgement, data_frame, longest_message}
use Rattle.ft12.specs.Record.{Line, line_of, link_of, host_control, server_control, in_range}
use Rattle.ft12.specs.Rules.{cleared}
use Rattle.ft12.specs.Delivery.{Delivery, sound, is_sound, arrives, Possible}
use Rattle.baos.specs.Table.{Tables, well_formed}
use Rattle.baos.specs.Service.{carried_out}
use Rattle.calls.specs.declared.event.Event.{Event}
use Rattle.calls.specs.declared.event.Event.TheVariants.{HostByte, IdleMark}
use Rattle.calls.specs.Reply.{Reply, Refused, Accepted}
use Rattle.calls.specs.Call.{Done, quiet, happens, call}
use Rattle.demands.specs.Run.{Ran, sent_of, before}

-- ---- events in turn where no call is refused, over tables and line; no value lent beside them
unfoldable pub following : List ℕ → Done → Done
following s d = record { sent = s ++ d.sent; tables = d.tables; line = d.line }

unfoldable pub in_turn : List Event → Tables → Line → Done
in_turn [] t l = quiet t l
in_turn (e ∷ es) t l =
    let d = happens e [] t l in
    following d.sent (in_turn es d.tables d.line)

-- ---- the deliveries
-- What is lent to a call beside tables and link record: "other events ignore what is lent there", and an output
-- buffer, which may be as the call before left it, or any other.
pub record Lent : Type 0 where
  pub value : List ℕ
  pub output : List ℕ

-- the events in turn, the n-th with lent n
unfoldable pub calls : (ℕ → Lent) → List Event → Tables → Link → Ran
calls lent [] t k = record { sent = []; tables = t; link = k }
calls lent (e ∷ es) t k =
    let c = call e (lent 0).value t k (lent 0).output in
    before (sent_of c.reply c.output) (calls (λ n. lent (suc n)) es c.tables c.link)

-- host bytes, and the idle mark that each delivery "is followed by"
unfoldable pub then_idle : List ℕ → List Event
then_idle bs = map HostByte bs ++ IdleMark ∷ []

-- one delivery of the frame f: each event is a call
unfoldable pub delivery : (ℕ → Lent) → List ℕ → Delivery → Tables → Link → Ran
delivery lent f d t k = calls lent (then_idle (arrives f d)) t k

-- what was sent during each delivery, and the tables and the link record after the last
pub record Exchange : Type 0 where
  pub sent : List (List ℕ)
  pub tables : Tables
  pub link : Link

-- the i-th delivery has lent i
unfoldable pub exchange : (ℕ → ℕ → Lent) → List ℕ → List Delivery → Tables → Link → Exchange
exchange lent f [] t k = record { sent = []; tables = t; link = k }
exchange lent f (d ∷ ds) t k =
    let r = delivery (lent 0) f d t k in
    let s = exchange (λ i. lent (suc i)) f ds r.tables r.link in
    record { sent = r.sent ∷ s.sent; tables = s.tables; link = s.link }

-- ---- no call is refused
unfoldable pub is_accepted : Reply → Bool
is_accepted (Refused n) = false
is_accepted (Accepted count) = true

-- of the events in turn
unfoldable pub all_accepted : (ℕ → Lent) → List Event → Tables → Link → Bool
all_accepted lent [] t k = true
all_accepted lent (e ∷ es) t k =
    let c = call e (lent 0).value t k (lent 0).output in
    is_accepted c.reply && all_accepted (λ n. lent (suc n)) es c.tables c.link

-- of all deliveries
unfoldable pub none_refused : (ℕ → ℕ → Lent) → List ℕ → List Delivery → Tables → Link → Bool
none_refused lent f [] t k = true
none_refused lent f (d ∷ ds) t k =
    let r = delivery (lent 0) f d t k in
    all_accepted (lent 0) (then_idle (arrives f d)) t k && none_refused (λ i. lent (suc i)) f ds r.tables r.link

-- ---- the premises
-- "Start with tables, link record and output room that no call refuses, the receiver at a frame start and nothing
-- outstanding."
pub record Start (lent : ℕ → ℕ → Lent) (t : Tables) (k : Link) : Type 0 where
  pub tables : T (well_formed t)
  pub link : T (in_range k)
  pub output : (i n : ℕ) → 262 ≤ length (lent i n).output
  pub received : k.received ≡ 0
  pub dropping : (line_of k).dropping ≡ false
  pub held : k.held ≡ 0

-- "One request, first byte F0": a message of bytes that a frame can carry
pub record Request (m : List ℕ) : Type 0 where
  pub first : get_or m 0 0 ≡ 0xF0
  pub short : length m ≤ longest_message
  pub bytes : T (are_bytes m)

-- "carrying the expected count bit"
unfoldable pub request_frame : Link → List ℕ → List ℕ
request_frame k m = data_frame (host_control (line_of k).expected) m

-- "each other delivery has exactly one byte changed or lost"
abbrev pub EachPossible : List ℕ → List Delivery → Type 0
EachPossible f [] = Unit {0}
EachPossible f (d ∷ ds) = Possible f d × EachPossible f ds

-- "at least once sound"
unfoldable pub some_sound : List Delivery → Bool
some_sound [] = false
some_sound (d ∷ ds) = is_sound d || some_sound ds

-- ---- the conclusion
-- the frame of the answer to m, under the send bit; none where m has no answer
unfoldable pub answer_frame : Tables → Link → List ℕ → List ℕ
answer_frame t k m = if is_empty (carried_out t m).says then []
    else data_frame (server_control (line_of k).send) (carried_out t m).says

-- what each delivery draws, where this answer's frame is still to be sent: a sound one the acknowledgement and the
-- answer, and then no later one the answer; a damaged one nothing
unfoldable pub draws : List ℕ → List Delivery → List (List ℕ)
draws answer [] = []
draws answer (d ∷ ds) = (if is_sound d then acknowledgement ++ answer else [])
    ∷ draws (if is_sound d then [] else answer) ds

-- "A damaged frame may begin with E5 [..]. It can then act as the acknowledgement of an outstanding frame and, if its
-- message begins F0, does no more.": the link record k' is k, or k with its outstanding frame acknowledged
pub data Rest (k k' : Link) : Type 0 where
  same : k' ≡ k → Rest k k'
  acknowledged : is_empty (line_of k).outstanding ≡ false → k' ≡ link_of (cleared (not (line_of k).send) (line_of k))
      → Rest k k'

unfoldable pub none_begins_e5 : List ℕ → List Delivery → Bool
none_begins_e5 f ds = every (λ (d : Delivery). not (eqb (get_or (arrives f d) 0 0) 0xE5)) ds

pub record Once (lent : ℕ → ℕ → Lent) (m : List ℕ) (ds : List Delivery) (t : Tables) (k : Link) : Type 0 where
  -- "exactly when one sound delivery would send it": what that sends, and what it does to the tables
  pub alone : (delivery (lent 0) (request_frame k m) sound t k).sent ≡ acknowledgement ++ answer_frame t k m
  pub carried : (delivery (lent 0) (request_frame k m) sound t k).tables ≡ (carried_out t m).after
  -- "Each sound delivery draws one acknowledgement, a damaged one draws none, and the answer is sent at most once,
  -- exactly when [..]"
  pub drawn : (exchange lent (request_frame k m) ds t k).sent ≡ draws (answer_frame t k m) ds
  -- "Then the tables and the expected bit are those after one sound delivery."
  pub tables : (exchange lent (request_frame k m) ds t k).tables ≡ (delivery (lent 0) (request_frame k m) sound t k).tables
  pub expected : (exchange lent (request_frame k m) ds t k).link.expected
      ≡ (delivery (lent 0) (request_frame k m) sound t k).link.expected
  -- none of the calls is refused
  pub accepted : T (none_refused lent (request_frame k m) ds t k)
  -- what the demand leaves open: the rest of the link record
  pub rest : Rest (delivery (lent 0) (request_frame k m) sound t k).link (exchange lent (request_frame k m) ds t k).link
  pub undisturbed : T (none_begins_e5 (request_frame k m) ds)
      → (exchange lent (request_frame k m) ds t k).link ≡ (delivery (lent 0) (request_frame k m) sound t k).link

abbrev pub Demand3 : Type 0
Demand3 =
    (lent : ℕ → ℕ → Lent) (m : List ℕ) (ds : List Delivery) (t : Tables) (k : Link) → Start lent t k → Request m
    → EachPossible (request_frame k m) ds → T (some_sound ds)
    → Once lent m ds t k

-- To read it: whatever is lent beside the events, and whatever stands in the output buffers, which may be others at
-- each call so long as each has 262 bytes, the request is carried out at its first sound delivery and never again. Of
-- all deliveries, each a run of calls with one host byte each and one with an idle mark: `drawn` lists, delivery by
-- delivery, the bytes that are sent; `tables` and `expected` are those after one sound delivery from the same start;
-- no call is refused. Beyond the demand, `rest` and `undisturbed` say what becomes of the rest of the link record.
