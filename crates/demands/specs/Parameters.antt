-- Document 02, item 5. "Add SetParameterByte (document 000, 3.17 and 3.18). The parameter table is lent for writing
-- from now on, and only that service writes it. All or nothing as with items. Demands 2 and 3 read "tables" with the
-- parameters among them. Refusals: code 5 no longer for sub 08; then 10, 6, and 7 with the first index not in the
-- table."
use Rattle.std.specs.Prelude.{ℕ, ◌+◌, ◌-◌, ◌≤◌, ◌<◌, ◌≡◌, ◌≢◌, ◌⊎◌, Bool, true, false, not, ◌&&◌, ◌||◌, List, [], ◌∷◌, ◌++◌, length, get_or, drop, T, leb, eqb}
use Rattle.words.specs.Words.{two_bytes}
use Rattle.ft12.specs.declared.record.Link.{Link}
use Rattle.ft12.specs.Frame.{acknowledgement, data_frame, longest_message}
use Rattle.ft12.specs.Record.{Line, line_of}
use Rattle.ft12.specs.Rules.{on_host_byte}
use Rattle.ft12.specs.Delivery.{Delivery}
use Rattle.baos.specs.Table.{Tables}
use Rattle.baos.specs.Message.{main_service, sub_service, start_of, number_of}
use Rattle.baos.specs.Get.{in_request}
use Rattle.baos.specs.Service.{unanswered, carried_out}
use Rattle.calls.specs.declared.event.Event.{Event}
use Rattle.calls.specs.declared.event.Event.TheVariants.{HostByte, IdleMark, AckWaitOver, Poll, BusValue}
use Rattle.calls.specs.declared.event.Event.TheVariants.{TransmissionOutcome}
use Rattle.calls.specs.Reply.{Reply}
use Rattle.calls.specs.Call.{refusal, call}
use Rattle.calls.specs.Promise.{Leaves}
use Rattle.demands.specs.Run.{sent_of}
use Rattle.demands.specs.HostHears.{Happening}
use Rattle.demands.specs.Answers.{ErrorAnswer, Demand2}
use Rattle.demands.specs.Entries.{message_up}
use Rattle.demands.specs.Status.{tables_after_all}
use Rattle.demands.specs.Exchange.{Lent, exchange, request_frame, Start, Request, EachPossible, some_sound, Demand3}

-- ---- a request to set parameter bytes
-- an answered message whose sub is that of SetParameterByte
unfoldable pub asks_to_set_parameters : List ℕ → Bool
asks_to_set_parameters m = not (unanswered m) && eqb (sub_service m) 0x08

-- it has exactly as many bytes as it states, and at least one
unfoldable pub bytes_as_stated : List ℕ → Bool
bytes_as_stated m = eqb (length m) (6 + number_of m) && leb 1 (number_of m)

-- "parameter bytes [..]; the first has index 1"
unfoldable pub is_parameter_index : Tables → ℕ → Bool
is_parameter_index t i = leb 1 i && leb i (length t.parameters)

-- the byte of an index, 1 or more; 0 behind the last
unfoldable pub parameter_at : Tables → ℕ → ℕ
parameter_at t i = get_or t.parameters (i - 1) 0

-- ---- what it is answered
-- 000, 3.18: main service F0, sub-service 88, an index, number of bytes 0, a code
unfoldable pub set_parameter_answer : ℕ → ℕ → List ℕ
set_parameter_answer i code = 0xF0 ∷ 0x88 ∷ two_bytes i ++ 0 ∷ 0 ∷ code ∷ []

-- "the first index not in the table": an index of the range, not in the table, and each one in front of it is
pub record FirstAbsent (t : Tables) (m : List ℕ) (i : ℕ) : Type 0 where
  pub within_range : T (in_request m i)
  pub absent : T (not (is_parameter_index t i))
  pub first : (j : ℕ) → start_of m ≤ j → j < i → T (is_parameter_index t j)

-- The codes in their order, "10, 6, and 7", and 0 where none of them is met. There is no other, and so not 5 any more.
pub record SetParameterAnswered (t : Tables) (m : List ℕ) : Type 0 where
  pub code_10 : length m ≢ 6 + number_of m → (carried_out t m).says ≡ set_parameter_answer (start_of m) 10
  -- also 000's request to flush what was written, which has start 0, number 0 and no byte
  pub code_6 : length m ≡ 6 → number_of m ≡ 0 → (carried_out t m).says ≡ set_parameter_answer (start_of m) 6
  pub code_7 : T (bytes_as_stated m) → (i : ℕ) → FirstAbsent t m i → (carried_out t m).says ≡ set_parameter_answer i 7
  pub code_0 : T (bytes_as_stated m) → ((i : ℕ) → T (in_request m i) → T (is_parameter_index t i))
      → (carried_out t m).says ≡ set_parameter_answer (start_of m) 0
  -- the same, reckoned: the first index not in the table is the start where that is 0 or behind the last, else the one
  -- behind the last
  pub at_the_start : T (bytes_as_stated m) → T (not (is_parameter_index t (start_of m)))
      → (carried_out t m).says ≡ set_parameter_answer (start_of m) 7
  pub behind_last : T (bytes_as_stated m) → T (is_parameter_index t (start_of m))
      → length t.parameters + 1 < start_of m + number_of m
      → (carried_out t m).says ≡ set_parameter_answer (length t.parameters + 1) 7
  pub within : T (bytes_as_stated m) → T (is_parameter_index t (start_of m))
      → start_of m + number_of m ≤ length t.parameters + 1
      → (carried_out t m).says ≡ set_parameter_answer (start_of m) 0
  -- the 5 would stand for no answer
  pub no_other : let code = get_or (carried_out t m).says 6 5 in (code ≡ 10) ⊎ (code ≡ 6) ⊎ (code ≡ 7) ⊎ (code ≡ 0)

-- ---- what it leaves
-- index by index: the request's byte where the index is in its range, and as it was where it is not
pub record BytesSet (t : Tables) (m : List ℕ) (t' : Tables) : Type 0 where
  pub as_many : length t'.parameters ≡ length t.parameters
  pub within_range : (i : ℕ) → T (in_request m i) → parameter_at t' i ≡ get_or m (6 + (i - start_of m)) 0
  pub others : (i : ℕ) → 1 ≤ i → T (not (in_request m i)) → parameter_at t' i ≡ parameter_at t i
  pub datapoints : t'.datapoints ≡ t.datapoints
  pub items : t'.items ≡ t.items
  pub texts : t'.texts ≡ t.texts

-- "All or nothing as with items": all where the answer's code is 0, nothing where it is not; the 1 would stand for no
-- answer
pub record AllOrNothing (t : Tables) (m : List ℕ) : Type 0 where
  pub all : get_or (carried_out t m).says 6 1 ≡ 0 → BytesSet t m (carried_out t m).after
  pub nothing : get_or (carried_out t m).says 6 1 ≢ 0 → (carried_out t m).after ≡ t

abbrev pub EachAnswered : Type 0
EachAnswered = (t : Tables) (m : List ℕ) → T (asks_to_set_parameters m) → SetParameterAnswered t m

abbrev pub EachAllOrNothing : Type 0
EachAllOrNothing = (t : Tables) (m : List ℕ) → T (asks_to_set_parameters m) → AllOrNothing t m

-- what was set is what the next GetParameterByte of the same start and number gives; the request is one that a frame
-- can carry, so that the answer has room for its bytes
abbrev pub ReadBack : Type 0
ReadBack =
    (t : Tables) (m g : List ℕ) → T (asks_to_set_parameters m) → length m ≤ longest_message
    → get_or (carried_out t m).says 6 1 ≡ 0
    → length g ≡ 6 → main_service g ≡ 0xF0 → sub_service g ≡ 0x07 → start_of g ≡ start_of m → number_of g ≡ number_of m
    → (carried_out (carried_out t m).after g).says
    ≡ 0xF0 ∷ 0x87 ∷ two_bytes (start_of m) ++ two_bytes (number_of m) ++ drop 6 m

-- ---- "only that service writes it"
-- over messages
abbrev pub OnlyThatService : Type 0
OnlyThatService = (t : Tables) (m : List ℕ) → T (not (asks_to_set_parameters m))
    → (carried_out t m).after.parameters ≡ t.parameters

-- over events: of the six, only a host byte that ends such a request may write
unfoldable pub may_set_parameters : Event → Line → Bool
may_set_parameters (HostByte b) l = asks_to_set_parameters (message_up (on_host_byte b l).up)
may_set_parameters IdleMark l = false
may_set_parameters AckWaitOver l = false
may_set_parameters Poll l = false
may_set_parameters (BusValue id) l = false
may_set_parameters (TransmissionOutcome id o) l = false

abbrev pub OnlyThatServiceByCall : Type 0
OnlyThatServiceByCall =
    (e : Event) (v : List ℕ) (t : Tables) (k : Link) (out : List ℕ) → T (not (may_set_parameters e (line_of k)))
    → (call e v t k out).tables.parameters ≡ t.parameters

-- an accepted host byte leaves the tables as the message that it ends leaves them
abbrev pub ByteCarriesOut : Type 0
ByteCarriesOut =
    (b : ℕ) (v : List ℕ) (t : Tables) (k : Link) (out : List ℕ) → refusal (HostByte b) v t k (length out) ≡ 0
    → (call (HostByte b) v t k out).tables ≡ (carried_out t (message_up (on_host_byte b (line_of k)).up)).after

-- so in any run of calls, while none that is accepted ends such a request, the parameter bytes stand
unfoldable pub none_sets : List Happening → Tables → Link → Bool
none_sets [] t k = true
none_sets (h ∷ hs) t k =
    let c = call h.event h.value t k h.output in
    (not (eqb (refusal h.event h.value t k (length h.output)) 0)
    || not (may_set_parameters h.event (line_of k)))
    && none_sets hs c.tables c.link

abbrev pub ParametersStand : Type 0
ParametersStand = (hs : List Happening) (t : Tables) (k : Link) → T (none_sets hs t k)
    → (tables_after_all hs t k).parameters ≡ t.parameters

-- ---- "Demands 2 and 3 read "tables" with the parameters among them"
-- The tables of both demands are one record, of which the parameters are a field. So demand 2 says of the parameter
-- bytes that no second outcome keeps the call's promise, and that an error answer changes none of them.
pub record OfParameters2 : Type 0 where
  pub one_outcome : (e : Event) (v : List ℕ) (t : Tables) (k : Link) (out : List ℕ) (r₁ r₂ : Reply) (t₁ t₂ : Tables)
      (k₁ k₂ : Link) (out₁ out₂ : List ℕ)
      → Leaves (call e v t k out) r₁ t₁ k₁ out₁ → Leaves (call e v t k out) r₂ t₂ k₂ out₂
      → t₁.parameters ≡ t₂.parameters
  pub errors_set_none : (t : Tables) (m : List ℕ) → ErrorAnswer (carried_out t m).says
      → (carried_out t m).after.parameters ≡ t.parameters
  pub error_calls_set_none : (e : Event) (v : List ℕ) (t : Tables) (k : Link) (out : List ℕ) (control : ℕ)
      (answer : List ℕ) → ErrorAnswer answer
      → sent_of (call e v t k out).reply (call e v t k out).output ≡ acknowledgement ++ data_frame control answer
      → (call e v t k out).tables.parameters ≡ t.parameters

-- and demand 3 that a request delivered any number of times leaves those of one carrying out
abbrev pub OfParameters3 : Type 0
OfParameters3 =
    (lent : ℕ → ℕ → Lent) (m : List ℕ) (ds : List Delivery) (t : Tables) (k : Link) → Start lent t k → Request m
    → EachPossible (request_frame k m) ds → T (some_sound ds)
    → (exchange lent (request_frame k m) ds t k).tables.parameters ≡ (carried_out t m).after.parameters

-- ---- the sentences together
pub record SettingParameters : Type 0 where
  pub each_answered : EachAnswered
  pub each_all_or_nothing : EachAllOrNothing
  pub read_back : ReadBack
  pub only_that_service : OnlyThatService
  pub only_that_service_by_call : OnlyThatServiceByCall
  pub byte_carries_out : ByteCarriesOut
  pub parameters_stand : ParametersStand
  -- by the demands' own texts: a field of each, read of the parameters
  pub demand_2_reads_so : Demand2 → OfParameters2
  pub demand_3_reads_so : Demand3 → OfParameters3
  -- and both demands hold
  pub of_parameters_2 : OfParameters2
  pub of_parameters_3 : OfParameters3

-- To read it: an answered message with sub 08 is answered by exactly one of the codes 10, 6, 7 and 0, by what it states
-- and by which of its indices are in the table. With code 0 each index of its range has the request's byte and every
-- other parameter byte, datapoint, item and text is as it was; with any other code nothing has changed. No other
-- message, and no call that ends no such message, changes a parameter byte, so that what was set stands until it is set
-- again.
