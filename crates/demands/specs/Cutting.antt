-- Document 02, item 11. "The host group wants to cut a set request at an entry boundary when it outgrows a frame. Prove
-- the law: if a request is accepted, then its two non-empty parts, each with its own start and number, are accepted one
-- after the other with nothing between, and leave the same tables. Prove too that two accepted set requests with no ID in
-- common leave the same tables in either order. Answers and count bits are not part of it. State it once for items and
-- datapoints."
use Rattle.std.specs.Prelude.{ℕ, zero, suc, ◌+◌, ◌-◌, ◌≤◌, ◌<◌, ◌≡◌, ◌⊎◌, ◌↔◌, Bool, not, ◌&&◌, List, [], ◌∷◌, ◌++◌, take, drop, T, eqb}
use Rattle.words.specs.Words.{two_bytes, every, are_bytes}
use Rattle.baos.specs.Table.{Tables, well_formed}
use Rattle.baos.specs.Message.{sub_service, start_of, number_of, coded}
use Rattle.baos.specs.Set.{SetEntry, first_item_entry, first_datapoint_entry, span, fills, set_entries}
use Rattle.baos.specs.Service.{unanswered, carried_out}
use Rattle.demands.specs.Answers.{ErrorAnswer}
use Rattle.demands.specs.Exchange.{Request}

-- ---- a set request: of items or of datapoints
pub data SetService : Type 0 where
  SetServerItem : SetService
  SetDatapointValue : SetService

unfoldable pub sub_of : SetService → ℕ
sub_of SetServerItem = 0x02
sub_of SetDatapointValue = 0x06

-- how many bytes an entry's head has: ID and length, or ID, command and length
unfoldable pub head_of : SetService → ℕ
head_of SetServerItem = 3
head_of SetDatapointValue = 4

unfoldable pub first_set_entry : SetService → List ℕ → SetEntry
first_set_entry SetServerItem = first_item_entry
first_set_entry SetDatapointValue = first_datapoint_entry

-- an answered message whose sub is that of the service. It may be longer than a frame carries
unfoldable pub asks_to_set : SetService → List ℕ → Bool
asks_to_set s m = not (unanswered m) && eqb (sub_service m) (sub_of s)

-- its entries, so many as it states (of datapoints: `entries_of` of Entries.antt)
unfoldable pub set_entries_in : SetService → List ℕ → List SetEntry
set_entries_in s m = set_entries (first_set_entry s) (head_of s) (number_of m) (drop 6 m)

-- "Positive set answer: start echoed, 00 00, 00."
abbrev pub Accepted : Tables → List ℕ → Type 0
Accepted t m = (carried_out t m).says ≡ coded m (start_of m) 0

-- what is not accepted is answered with an error, and sets nothing
abbrev pub EachAcceptedOrRefused : Type 0
EachAcceptedOrRefused = (s : SetService) (t : Tables) (m : List ℕ) → T (asks_to_set s m)
    → Accepted t m ⊎ (ErrorAnswer (carried_out t m).says × ((carried_out t m).after ≡ t))

-- ---- the parts of a request
pub record PartsOf (s : SetService) (m m₁ m₂ : List ℕ) : Type 0 where
  pub whole : T (asks_to_set s m)
  pub first : T (asks_to_set s m₁)
  pub second : T (asks_to_set s m₂)
  -- behind the first six bytes (F0, sub, start, number): those of the first part, and then those of the second
  pub bytes : drop 6 m ≡ drop 6 m₁ ++ drop 6 m₂
  -- "at an entry boundary": the first part's bytes are as many entries as it states
  pub boundary : T (fills (head_of s) (number_of m₁) (drop 6 m₁))
  -- "each with its own start and number": the numbers add up; of the starts nothing is asked
  pub numbers : number_of m ≡ number_of m₁ + number_of m₂
  -- "non-empty"
  pub some_first : 1 ≤ number_of m₁
  pub some_second : 1 ≤ number_of m₂

-- "are accepted one after the other with nothing between, and leave the same tables"
pub record InTwo (t : Tables) (m m₁ m₂ : List ℕ) : Type 0 where
  pub first : Accepted t m₁
  pub second : Accepted (carried_out t m₁).after m₂
  pub tables : (carried_out (carried_out t m₁).after m₂).after ≡ (carried_out t m).after

abbrev pub CutLaw : Type 0
CutLaw = (s : SetService) (t : Tables) (m m₁ m₂ : List ℕ) → PartsOf s m m₁ m₂ → Accepted t m → InTwo t m m₁ m₂

-- ---- there are such parts at every boundary, and nowhere else
-- how many bytes the first n entries have
unfoldable pub bytes_of_first : ℕ → ℕ → List ℕ → ℕ
bytes_of_first h zero b = 0
bytes_of_first h (suc n) b = span h b + bytes_of_first h n (drop (span h b) b)

-- a request with this start, this number and these bytes of entries
unfoldable pub request_of : SetService → ℕ → ℕ → List ℕ → List ℕ
request_of s start number entries = 0xF0 ∷ sub_of s ∷ two_bytes start ++ two_bytes number ++ entries

-- cut behind n entries, each part with a start of its own
unfoldable pub first_part : SetService → ℕ → ℕ → List ℕ → List ℕ
first_part s n start m = request_of s start n (take (bytes_of_first (head_of s) n (drop 6 m)) (drop 6 m))

unfoldable pub second_part : SetService → ℕ → ℕ → List ℕ → List ℕ
second_part s n start m = request_of s start (number_of m - n) (drop (bytes_of_first (head_of s) n (drop 6 m)) (drop 6 m))

pub record CutBehind (s : SetService) (m : List ℕ) (n start₁ start₂ : ℕ) : Type 0 where
  pub parts : PartsOf s m (first_part s n start₁ m) (second_part s n start₂ m)
  pub starts : (start_of (first_part s n start₁ m) ≡ start₁) × (start_of (second_part s n start₂ m) ≡ start₂)
  -- they are bytes if the request is, and each start has two bytes
  pub of_bytes : T (are_bytes m) → start₁ < 65536 → start₂ < 65536
      → T (are_bytes (first_part s n start₁ m)) × T (are_bytes (second_part s n start₂ m))

-- whatever tables the request is meant for: the entries fill it, and no more is needed to cut it
abbrev pub AtEachBoundary : Type 0
AtEachBoundary = (s : SetService) (m : List ℕ) (n start₁ start₂ : ℕ) → T (asks_to_set s m)
    → T (fills (head_of s) (number_of m) (drop 6 m)) → 1 ≤ n → n < number_of m → CutBehind s m n start₁ start₂

-- requests of bytes that are parts of m are these: the first one's number tells where the cut is
abbrev pub NowhereElse : Type 0
NowhereElse = (s : SetService) (m m₁ m₂ : List ℕ) → PartsOf s m m₁ m₂ → T (are_bytes m₁) → T (are_bytes m₂)
    → (m₁ ≡ first_part s (number_of m₁) (start_of m₁) m) × (m₂ ≡ second_part s (number_of m₁) (start_of m₂) m)

-- ---- as many parts as it takes: the first part stands, and what is left is cut again
pub data CutInto (s : SetService) : List ℕ → List (List ℕ) → Type 0 where
  uncut : {m : List ℕ} → T (asks_to_set s m) → CutInto s m (m ∷ [])
  again : {m m₁ m₂ : List ℕ} {ms : List (List ℕ)} → PartsOf s m m₁ m₂ → CutInto s m₂ ms → CutInto s m (m₁ ∷ ms)

-- one after the other with nothing between
abbrev pub EachAccepted : Tables → List (List ℕ) → Type 0
EachAccepted t [] = Unit {0}
EachAccepted t (m ∷ ms) = Accepted t m × EachAccepted (carried_out t m).after ms

unfoldable pub after_each : Tables → List (List ℕ) → Tables
after_each t [] = t
after_each t (m ∷ ms) = after_each (carried_out t m).after ms

-- A host sees the answers to the parts alone: where each is accepted, the whole would have been, and the tables are as
-- it would have left them.
pub record InParts (t : Tables) (m : List ℕ) (ms : List (List ℕ)) : Type 0 where
  pub accepted : Accepted t m ↔ EachAccepted t ms
  pub tables : Accepted t m → after_each t ms ≡ (carried_out t m).after

abbrev pub CutAgain : Type 0
CutAgain = (s : SetService) (t : Tables) (m : List ℕ) (ms : List (List ℕ)) → CutInto s m ms → InParts t m ms

-- "when it outgrows a frame": in well-formed tables an entry that is accepted has at most nineteen bytes, and so there
-- are always parts that a frame carries (one entry to a part is enough), each of them a request as demand 3 has it
abbrev pub EachRequest : List (List ℕ) → Type 0
EachRequest [] = Unit {0}
EachRequest (m ∷ ms) = Request m × EachRequest ms

abbrev pub CutToFit : Type 0
CutToFit = (s : SetService) (t : Tables) (m : List ℕ) → T (well_formed t) → T (are_bytes m) → T (asks_to_set s m)
    → Accepted t m → (ms : List (List ℕ)) × CutInto s m ms × EachRequest ms

-- ---- "in either order"
unfoldable pub no_id_in_common : List SetEntry → List SetEntry → Bool
no_id_in_common es fs = every (λ (e : SetEntry). every (λ (f : SetEntry). not (eqb e.id f.id)) fs) es

-- An item and a datapoint of one number are two things: of one request of each nothing is asked.
abbrev pub Apart : SetService → SetService → List ℕ → List ℕ → Type 0
Apart s r a b = s ≡ r → T (no_id_in_common (set_entries_in s a) (set_entries_in r b))

pub record EitherOrder (t : Tables) (a b : List ℕ) : Type 0 where
  pub b_after : Accepted (carried_out t a).after b
  pub a_after : Accepted (carried_out t b).after a
  pub tables : (carried_out (carried_out t a).after b).after ≡ (carried_out (carried_out t b).after a).after

-- both are accepted at the tables t; by `AnswersStay` it is all the same to ask it of one of them behind the other
abbrev pub OrderLaw : Type 0
OrderLaw = (s r : SetService) (t : Tables) (a b : List ℕ) → T (asks_to_set s a) → T (asks_to_set r b)
    → Apart s r a b → Accepted t a → Accepted t b → EitherOrder t a b

-- beyond the words: behind a request to set items or datapoints, accepted or refused, any other such request is answered
-- as it would have been without it
abbrev pub AnswersStay : Type 0
AnswersStay = (s r : SetService) (t : Tables) (a b : List ℕ) → T (asks_to_set s a) → T (asks_to_set r b)
    → (carried_out (carried_out t a).after b).says ≡ (carried_out t b).says

-- ---- the sentences together
pub record CuttingSets : Type 0 where
  pub cut : CutLaw
  pub order : OrderLaw
  -- and beyond the words
  pub accepted_or_refused : EachAcceptedOrRefused
  pub at_each_boundary : AtEachBoundary
  pub nowhere_else : NowhereElse
  pub again : CutAgain
  pub to_fit : CutToFit
  pub answers_stay : AnswersStay

-- To read it: a request to set items or datapoints that is accepted may be sent as two requests, or as more, each of one
-- or more whole entries, in their order, with its own number and any start. With nothing carried out between them each is
-- accepted, and after the last one the tables are those that the one request would have left; and where each is accepted,
-- the one request would have been. It may be cut behind every entry but the last, and so, in well-formed tables, into
-- parts that a frame carries. Two accepted requests with no ID in common, or one of items and one of datapoints, leave
-- the same tables in either order. No request to set items or datapoints changes how another such one is answered.
