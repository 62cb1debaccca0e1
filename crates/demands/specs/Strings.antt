-- Document 02, item 1. "Add GetDescriptionString (sub 04, document 000, 3.8 and 3.9): start, count, then per string a
-- length of two bytes and the text. [..] For each datapoint present in the range, the text comes from the site list,
-- failing that the default list, where that has a non-empty entry for the ID, else it is the empty start of the default
-- list, and it is handed on as that stretch of whichever list held it. [..] Lists are lent, strictly rising by ID, and
-- are only read. Demand 2 covers the new sub. Refusals: code 5 no longer for sub 04; code 10 if not 6 bytes, then 6, 2
-- and 3 as for other gets; call refusal 1 also for a list out of order or not made of whole entries."
use Rattle.std.specs.Prelude.{ℕ, suc, ◌+◌, ◌≤◌, ◌<◌, ◌≡◌, ◌≢◌, ◌⊎◌, ◌↔◌, Bool, true, false, not, ◌&&◌, length, get_or, take, T, eqb}
use mathlib.Core.List.{List, [], ◌∷◌, ◌++◌, map, flatten}
use Rattle.words.specs.Words.{two_bytes, keep, are_bytes}
use Rattle.ft12.specs.declared.record.Link.{Link}
use Rattle.ft12.specs.Frame.{longest_message}
use Rattle.baos.specs.declared.datapoint.Datapoint.{Datapoint}
use Rattle.baos.specs.Datapoint.{datapoint_id}
use Rattle.baos.specs.TextList.{ListEntry, list_bytes, MadeOf, text_list_ok}
use Rattle.baos.specs.Text.{TextLists, stretch_of, text_of}
use Rattle.baos.specs.Table.{Tables, Rises, well_formed}
use Rattle.baos.specs.Message.{sub_service, start_of, number_of}
use Rattle.baos.specs.Get.{in_request}
use Rattle.baos.specs.Service.{unanswered, carried_out}
use Rattle.calls.specs.declared.event.Event.{Event}
use Rattle.calls.specs.Reply.{Refused}
use Rattle.calls.specs.Call.{call}
use Rattle.demands.specs.HostHears.{Happening}
use Rattle.demands.specs.Status.{tables_after_all}

-- ---- a request for description strings
-- an answered message whose sub is that of GetDescriptionString
unfoldable pub asks_for_strings : List ℕ → Bool
asks_for_strings m = not (unanswered m) && eqb (sub_service m) 0x04

-- 000, 3.8: "The data packet consists of six bytes", and it asks for one string or more
pub record AsksSome (m : List ℕ) : Type 0 where
  pub six_bytes : length m ≡ 6
  pub some : 1 ≤ number_of m

-- "each datapoint present in the range", in the order of the table
unfoldable pub present_in_range : Tables → List ℕ → List Datapoint
present_in_range t m = keep (λ (d : Datapoint). in_request m d.id) t.datapoints

-- ---- what it is answered
-- 000, 3.9, with the ID that 01's table names: main service F0, sub-service 84, ID, number of strings 0, a code
unfoldable pub strings_refused : ℕ → ℕ → List ℕ
strings_refused id code = 0xF0 ∷ 0x84 ∷ two_bytes id ++ 0 ∷ 0 ∷ code ∷ []

-- "per string a length of two bytes and the text"; 000, 3.9: "not null terminated"
unfoldable pub length_and_text : List ℕ → List ℕ
length_and_text text = two_bytes (length text) ++ text

-- "start, count, then per string [..]": main service F0, sub-service 84, the start as in the request, how many strings,
-- and the strings of these datapoints, each with its text and nothing else
unfoldable pub strings_answer : Tables → List ℕ → List Datapoint → List ℕ
strings_answer t m ds =
    0xF0 ∷ 0x84 ∷ two_bytes (start_of m) ++ two_bytes (length ds)
    ++ flatten (map (λ (d : Datapoint). length_and_text (text_of d.id t.texts)) ds)

-- "answer above 254 bytes | first entry that does not fit": the first i datapoints of the range fit in an answer, and
-- the first i + 1 do not
pub record FirstOver (t : Tables) (m : List ℕ) (i : ℕ) : Type 0 where
  pub present : i < length (present_in_range t m)
  pub fit : length (strings_answer t m (take i (present_in_range t m))) ≤ longest_message
  pub over : longest_message < length (strings_answer t m (take (suc i) (present_in_range t m)))

-- which answers there are
pub data StringsGiven (t : Tables) (m : List ℕ) : Type 0 where
  positive : (carried_out t m).says ≡ strings_answer t m (present_in_range t m) → StringsGiven t m
  negative : (id code : ℕ) → (carried_out t m).says ≡ strings_refused id code
      → (code ≡ 10) ⊎ (code ≡ 6) ⊎ (code ≡ 2) ⊎ (code ≡ 3) → StringsGiven t m

-- "code 10 if not 6 bytes, then 6, 2 and 3 as for other gets", and the strings where none of them is met
pub record StringsAnswered (t : Tables) (m : List ℕ) : Type 0 where
  pub code_10 : length m ≢ 6 → (carried_out t m).says ≡ strings_refused (start_of m) 10
  pub code_6 : length m ≡ 6 → number_of m ≡ 0 → (carried_out t m).says ≡ strings_refused (start_of m) 6
  pub code_2 : AsksSome m → present_in_range t m ≡ [] → (carried_out t m).says ≡ strings_refused (start_of m) 2
  -- (`d` stands where there is no datapoint, and so nowhere.)
  pub code_3 : AsksSome m → (i : ℕ) (d : Datapoint) → FirstOver t m i
      → (carried_out t m).says ≡ strings_refused (get_or (present_in_range t m) i d).id 3
  -- there is such a first one wherever the strings of the range do not fit
  pub some_first : longest_message < length (strings_answer t m (present_in_range t m)) → (i : ℕ) × FirstOver t m i
  pub strings : AsksSome m → 1 ≤ length (present_in_range t m)
      → length (strings_answer t m (present_in_range t m)) ≤ longest_message
      → (carried_out t m).says ≡ strings_answer t m (present_in_range t m)
  -- no other code, and so "code 5 no longer for sub 04"
  pub no_other : StringsGiven t m
  -- of seven datapoints or fewer the strings fit, whatever their texts
  pub seven_fit : length (present_in_range t m) ≤ 7
      → length (strings_answer t m (present_in_range t m)) ≤ longest_message

abbrev pub EachStringsAnswered : Type 0
EachStringsAnswered = (t : Tables) (m : List ℕ) → T (asks_for_strings m) → StringsAnswered t m

-- "entries in rising ID": no call gets past refusal 1 with a table whose IDs do not rise
abbrev pub InRisingId : Type 0
InRisingId = (t : Tables) (m : List ℕ) → T (well_formed t) → Rises (map datapoint_id (present_in_range t m))

-- whatever the answer, it changes nothing: no datapoint, item or parameter byte, and no text
abbrev pub StringsChangeNothing : Type 0
StringsChangeNothing = (t : Tables) (m : List ℕ) → T (asks_for_strings m) → (carried_out t m).after ≡ t

-- ---- "are only read"
-- over messages, over events, and over calls one after the other: of any kind, accepted or refused
abbrev pub TextsOnlyRead : Type 0
TextsOnlyRead = (t : Tables) (m : List ℕ) → (carried_out t m).after.texts ≡ t.texts

abbrev pub TextsOnlyReadByCall : Type 0
TextsOnlyReadByCall = (e : Event) (v : List ℕ) (t : Tables) (k : Link) (out : List ℕ)
    → (call e v t k out).tables.texts ≡ t.texts

abbrev pub TextsStand : Type 0
TextsStand = (hs : List Happening) (t : Tables) (k : Link) → (tables_after_all hs t k).texts ≡ t.texts

-- ---- which text an ID has
-- "a non-empty entry for the ID", at place i of the list's entries
pub record EntryFor (id : ℕ) (text : List ℕ) (i : ℕ) (es : List ListEntry) : Type 0 where
  pub within : i < length es
  pub entry : (e : ListEntry) → get_or es i e ≡ record { id = id; text = text }
  pub not_empty : 1 ≤ length text

abbrev pub NoEntryFor : ℕ → List ListEntry → Type 0
NoEntryFor id es = (text : List ℕ) (i : ℕ) → EntryFor id text i es → ⊥

-- at which byte of its list that entry's text begins: behind the entries in front, its ID and its length byte
unfoldable pub text_begins : ℕ → List ListEntry → ℕ
text_begins i es = length (list_bytes (take i es)) + 3

-- es are the site list's entries, ds the default list's. That the code hands on this very part of the list, and no
-- copy, is the promise of `text_of`: `HandedOn` (baos specs/Text.antt)
pub record TextOf (es ds : List ListEntry) (ts : TextLists) (id : ℕ) : Type 0 where
  -- "the text comes from the site list"
  pub from_site : (text : List ℕ) (i : ℕ) → EntryFor id text i es
      → (text_of id ts ≡ text)
      × (stretch_of id ts ≡ record { ofsite = true; from = text_begins i es; size = length text })
  -- "failing that the default list, where that has a non-empty entry for the ID"
  pub from_default : NoEntryFor id es → (text : List ℕ) (i : ℕ) → EntryFor id text i ds
      → (text_of id ts ≡ text)
      × (stretch_of id ts ≡ record { ofsite = false; from = text_begins i ds; size = length text })
  -- "else it is the empty start of the default list"
  pub empty_start : NoEntryFor id es → NoEntryFor id ds
      → (text_of id ts ≡ []) × (stretch_of id ts ≡ record { ofsite = false; from = 0; size = 0 })

abbrev pub EachTextOf : Type 0
EachTextOf =
    (es ds : List ListEntry) (ts : TextLists) (id : ℕ) → MadeOf es ts.site → MadeOf ds ts.defaults
    → TextOf es ds ts id

-- ---- "call refusal 1 also for a list out of order or not made of whole entries"
-- the test of a list says just that
abbrev pub ListsDecided : Type 0
ListsDecided = (s : List ℕ) → T (are_bytes s) → T (text_list_ok s) ↔ ((es : List ListEntry) × MadeOf es s)

-- and where either list does not pass it, every call is refused with that number, and nothing lent is altered. That 1
-- is given for nothing but tables and lists is demand 1
abbrev pub ListsRefused : Type 0
ListsRefused =
    (e : Event) (v : List ℕ) (t : Tables) (k : Link) (out : List ℕ)
    → (text_list_ok t.texts.site ≡ false) ⊎ (text_list_ok t.texts.defaults ≡ false)
    → call e v t k out ≡ record { reply = Refused 1; output = out; tables = t; link = k }

-- ---- the sentences together
pub record GettingStrings : Type 0 where
  pub each_answered : EachStringsAnswered
  pub in_rising_id : InRisingId
  pub change_nothing : StringsChangeNothing
  pub only_read : TextsOnlyRead
  pub only_read_by_call : TextsOnlyReadByCall
  pub texts_stand : TextsStand
  pub each_text : EachTextOf
  pub lists_decided : ListsDecided
  pub lists_refused : ListsRefused

-- "Demand 2 covers the new sub": its text speaks of every message and every call, and so of these too.

-- To read it: an answered message with sub 04 is answered with code 10, 6, 2 or 3, or, where no condition of these is
-- met, with the strings of the datapoints in its range, each a length of two bytes and that datapoint's text. The text
-- is that of the site list's entry for the ID if there is one that is not empty, else that of the default list's, else
-- it is empty, and it is that stretch of the list, from its first byte to its last. Neither this message nor any other,
-- no call and no run of calls changes a list. A call to which a list is lent that is not made of whole entries, with
-- rising IDs and lengths of 0 to 30, is refused with number 1.
