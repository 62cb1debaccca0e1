-- Demand 2. "Every answer, every byte sent and every table entry afterwards is what the protocol document and
-- document 01 define. A request that is answered with an error code changes no datapoint and no item. Each data frame
-- we send reads back, by the host's rules, to its one message and count bit."
use Rattle.std.specs.Prelude.{ℕ, ◌≡◌, ◌≢◌, List, ◌++◌, length, get_or}
use Rattle.ft12.specs.declared.record.Link.{Link}
use Rattle.ft12.specs.Frame.{acknowledgement, data_frame}
use Rattle.baos.specs.Table.{Tables}
use Rattle.baos.specs.Service.{carried_out}
use Rattle.calls.specs.declared.event.Event.{Event}
use Rattle.calls.specs.Reply.{Reply}
use Rattle.calls.specs.Call.{call}
use Rattle.calls.specs.Promise.{Leaves}
use Rattle.demands.specs.Run.{sent_of}
use Rattle.demands.specs.SentFrames.{SentFramesRead}
use Rattle.demands.specs.HostHears.{HostHears, SentAgain, HostHearsAll}

-- ---- "Every answer, every byte sent and every table entry afterwards is what [..] define."
-- The call's promise is `Leaves (call ..)`: reply, tables, link record and output are those that the definitions
-- give. "Show that no second outcome satisfies it":
pub record SameOutcome (r₁ r₂ : Reply) (t₁ t₂ : Tables) (k₁ k₂ : Link) (out₁ out₂ : List ℕ) : Type 0 where
  pub reply : r₁ ≡ r₂
  pub tables : t₁ ≡ t₂
  pub link : k₁ ≡ k₂
  pub output : out₁ ≡ out₂

abbrev pub OneOutcome : Type 0
OneOutcome =
    (e : Event) (v : List ℕ) (t : Tables) (k : Link) (out : List ℕ) (r₁ r₂ : Reply) (t₁ t₂ : Tables) (k₁ k₂ : Link)
    (out₁ out₂ : List ℕ)
    → Leaves (call e v t k out) r₁ t₁ k₁ out₁ → Leaves (call e v t k out) r₂ t₂ k₂ out₂
    → SameOutcome r₁ r₂ t₁ t₂ k₁ k₂ out₁ out₂

-- To read it: two outcomes that keep the promise of one call have the same reply, refusal number and count of bytes
-- included, the same tables in each record, the same link record and the same output buffer to its end.

-- so whatever is stated of `call` is stated of each outcome that keeps the promise
abbrev pub OutcomeIsCall : Type 0
OutcomeIsCall =
    (e : Event) (v : List ℕ) (t : Tables) (k : Link) (out : List ℕ) (r : Reply) (t' : Tables) (k' : Link)
    (out' : List ℕ)
    → Leaves (call e v t k out) r t' k' out'
    → call e v t k out ≡ record { reply = r; output = out'; tables = t'; link = k' }

-- ---- "A request that is answered with an error code changes no datapoint and no item." Nor a parameter byte: "Demands
-- 2 and 3 read "tables" with the parameters among them" (document 02, item 5)
-- "an error answer is F0, sub + 80, an ID, 00 00, code (7 bytes)", as it is read from an answer's bytes: seven, no
-- number of entries, a code. The positive answer of a set has code 0; that of a get has a number of entries.
pub record ErrorAnswer (answer : List ℕ) : Type 0 where
  pub seven : length answer ≡ 7
  pub no_entries : (get_or answer 4 0 ≡ 0) × (get_or answer 5 0 ≡ 0)
  pub code : get_or answer 6 0 ≢ 0

-- over messages, for every service and for subs that are none
abbrev pub ErrorsChangeNothing : Type 0
ErrorsChangeNothing = (t : Tables) (m : List ℕ) → ErrorAnswer (carried_out t m).says → (carried_out t m).after ≡ t

-- over calls: the answer is "framed right after the E5"
abbrev pub ErrorCallsChangeNothing : Type 0
ErrorCallsChangeNothing =
    (e : Event) (v : List ℕ) (t : Tables) (k : Link) (out : List ℕ) (control : ℕ) (answer : List ℕ) → ErrorAnswer answer
    → sent_of (call e v t k out).reply (call e v t k out).output ≡ acknowledgement ++ data_frame control answer
    → (call e v t k out).tables ≡ t

-- To read it: a call that sends an acknowledgement and, in a data frame, an error answer leaves datapoints, items and
-- parameter bytes as they were, in every record and field. No call at all changes a text (Strings.antt).

-- ---- the three sentences together
pub record Demand2 : Type 0 where
  pub one_outcome : OneOutcome
  pub outcome_is_call : OutcomeIsCall
  pub errors_change_nothing : ErrorsChangeNothing
  pub error_calls_change_nothing : ErrorCallsChangeNothing
  pub sent_frames_read : SentFramesRead
  pub host_hears : HostHears
  pub sent_again : SentAgain
  pub host_hears_all : HostHearsAll
