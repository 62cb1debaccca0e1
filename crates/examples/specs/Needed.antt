-- What demand 3 asks at the start and of the deliveries is needed: with one premise left out and all others kept, its
-- conclusion is false.
use Rattle.std.specs.Prelude.{ℕ, zero, suc, ◌≤◌, ◌≡◌, true, false, List, [], ◌∷◌, ◌++◌, map, length, replicate, T}
use Rattle.words.specs.Words.{are_bytes}
use Rattle.ft12.specs.declared.record.Link.{Link}
use Rattle.ft12.specs.Frame.{checksum, data_frame, longest_message}
use Rattle.ft12.specs.Record.{line_of, link_of, in_range}
use Rattle.ft12.specs.Delivery.{Delivery, changed, lost, arrives}
use Rattle.baos.specs.Table.{Tables, well_formed}
use Rattle.calls.specs.declared.event.Event.{Event}
use Rattle.calls.specs.declared.event.Event.TheVariants.{HostByte}
use Rattle.examples.specs.Example.{line_at, item1, ask1, answer1, datapoint5, set5, answer3}
use Rattle.demands.specs.Exchange.{Lent, Start, Request, request_frame, EachPossible, some_sound, calls, then_idle}
use Rattle.demands.specs.Exchange.{delivery, Once, Demand3}

-- demand 3 with other premises in the places of its own
abbrev pub Demand3For : ((ℕ → ℕ → Lent) → Tables → Link → Type 0) → (List ℕ → Type 0)
    → (List ℕ → List Delivery → Type 0) → (List Delivery → Type 0) → Type 0
Demand3For Starts Requests Deliveries SomeSound =
    (lent : ℕ → ℕ → Lent) (m : List ℕ) (ds : List Delivery) (t : Tables) (k : Link) → Starts lent t k → Requests m
    → Deliveries (request_frame k m) ds → SomeSound ds
    → Once lent m ds t k

-- "tables [..] that no call refuses" left out
pub record StartAnyTables (lent : ℕ → ℕ → Lent) (t : Tables) (k : Link) : Type 0 where
  pub link : T (in_range k)
  pub output : (i n : ℕ) → 262 ≤ length (lent i n).output
  pub received : k.received ≡ 0
  pub dropping : (line_of k).dropping ≡ false
  pub held : k.held ≡ 0

-- "link record [..] that no call refuses" left out
pub record StartAnyLink (lent : ℕ → ℕ → Lent) (t : Tables) (k : Link) : Type 0 where
  pub tables : T (well_formed t)
  pub output : (i n : ℕ) → 262 ≤ length (lent i n).output
  pub received : k.received ≡ 0
  pub dropping : (line_of k).dropping ≡ false
  pub held : k.held ≡ 0

-- "output room that no call refuses" left out
pub record StartAnyRoom (lent : ℕ → ℕ → Lent) (t : Tables) (k : Link) : Type 0 where
  pub tables : T (well_formed t)
  pub link : T (in_range k)
  pub received : k.received ≡ 0
  pub dropping : (line_of k).dropping ≡ false
  pub held : k.held ≡ 0

-- "the receiver at a frame start" left out
pub record StartAnywhere (lent : ℕ → ℕ → Lent) (t : Tables) (k : Link) : Type 0 where
  pub tables : T (well_formed t)
  pub link : T (in_range k)
  pub output : (i n : ℕ) → 262 ≤ length (lent i n).output
  pub held : k.held ≡ 0

-- "nothing outstanding" left out
pub record StartHolding (lent : ℕ → ℕ → Lent) (t : Tables) (k : Link) : Type 0 where
  pub tables : T (well_formed t)
  pub link : T (in_range k)
  pub output : (i n : ℕ) → 262 ≤ length (lent i n).output
  pub received : k.received ≡ 0
  pub dropping : (line_of k).dropping ≡ false

-- "first byte F0" left out
pub record AnyRequest (m : List ℕ) : Type 0 where
  pub short : length m ≤ longest_message
  pub bytes : T (are_bytes m)

abbrev pub AtLeastOneSound : List Delivery → Type 0
AtLeastOneSound ds = T (some_sound ds)

-- "at least once sound" left out
abbrev pub AnyNumberSound : List Delivery → Type 0
AnyNumberSound ds = Unit {0}

-- "exactly one byte changed or lost" left out
abbrev pub AnyDeliveries : List ℕ → List Delivery → Type 0
AnyDeliveries f ds = Unit {0}

-- ---- computed runs, from a frame start with nothing outstanding and both bits odd
unfoldable pub resting_link : Link
resting_link = link_of (line_at true true [])

unfoldable pub roomy : ℕ → Lent
roomy n = record { value = []; output = replicate 262 0 }

-- "each is followed by an idle mark": example 1's request with a byte lost, and then sound. With no mark between the
-- two the sound one is dropped with the rest.
unfoldable pub unmarked : List Event
unmarked = map HostByte (arrives ask1 (lost 3)) ++ then_idle ask1

unfoldable pub marked : List Event
marked = then_idle (arrives ask1 (lost 3)) ++ then_idle ask1

-- "exactly one byte": example 3's request with two changed, value and checksum, and then sound. The first sets the
-- value 0 that nobody sent, and the second is taken for its repeat.
unfoldable pub two_changed : List Event
two_changed = then_idle (arrives (arrives (data_frame 0x73 (set5 1)) (changed 15 0x00)) (changed 16 0x78))
    ++ then_idle (data_frame 0x73 (set5 1))

-- "first byte F0": "A damaged frame may begin with E5: its first byte 68 [..] was lost before a length of E5. It can
-- then act as the acknowledgement of an outstanding frame and, if its message begins F0, does no more." This one does
-- not, and spells a frame behind E5 E5: 68 and the control byte 73 stand before it, and it goes on 73 68, 73 (hex)
-- bytes of control and data, their checksum, 16. It has 228 bytes, so that the length is E5. What it spells is a set:
-- 27 times, the status of datapoint 5.
unfoldable pub status_entries : ℕ → List ℕ
status_entries zero = []
status_entries (suc n) = 0x00 ∷ 0x05 ∷ 0x02 ∷ 0x00 ∷ status_entries n

unfoldable pub spelt : List ℕ
spelt = 0xF0 ∷ 0x06 ∷ 0x00 ∷ 0x05 ∷ 0x00 ∷ 27 ∷ status_entries 27

unfoldable pub spelling : List ℕ
spelling = 0x73 ∷ 0x68 ∷ 0x73 ∷ spelt ++ checksum (0x73 ∷ spelt) ∷ 0x16 ∷ replicate 109 0

pub record Needed : Type 0 where
  -- with its premises in their places it is demand 3
  pub as_stated : Demand3 → Demand3For Start Request EachPossible AtLeastOneSound
  -- and false without one of them
  pub tables_well_formed : Demand3For StartAnyTables Request EachPossible AtLeastOneSound → ⊥
  pub link_in_range : Demand3For StartAnyLink Request EachPossible AtLeastOneSound → ⊥
  pub roomy_enough : Demand3For StartAnyRoom Request EachPossible AtLeastOneSound → ⊥
  pub frame_start : Demand3For StartAnywhere Request EachPossible AtLeastOneSound → ⊥
  pub nothing_outstanding : Demand3For StartHolding Request EachPossible AtLeastOneSound → ⊥
  pub first_byte : Demand3For Start AnyRequest EachPossible AtLeastOneSound → ⊥
  pub one_byte : Demand3For Start Request AnyDeliveries AtLeastOneSound → ⊥
  pub one_sound_needed : Demand3For Start Request EachPossible AnyNumberSound → ⊥
  -- the idle mark: with it the answer is sent, without it nothing is
  pub with_idle_mark : (calls roomy marked item1 resting_link).sent ≡ 0xE5 ∷ answer1
  pub without_mark : (calls roomy unmarked item1 resting_link).sent ≡ []
  -- two bytes changed
  pub two_sent : (calls roomy two_changed (datapoint5 0x00 0) resting_link).sent ≡ (0xE5 ∷ answer3) ++ 0xE5 ∷ []
  pub two_tables : (calls roomy two_changed (datapoint5 0x00 0) resting_link).tables ≡ datapoint5 0x13 0
  -- the first byte: one byte is lost, and a set is carried out that nobody sent
  pub spelt_sent : (delivery roomy (request_frame resting_link spelling) (lost 0) (datapoint5 0x00 0) resting_link).sent
      ≡ 0xE5 ∷ answer3
  pub spelt_tables : (delivery roomy (request_frame resting_link spelling) (lost 0) (datapoint5 0x00 0) resting_link).tables
      ≡ datapoint5 0x03 0

-- To read it: without any one of the premises named, and with all the others, demand 3 is false. With a table that is
-- not well formed, a link record that is not in range or output room below 262 bytes a call is refused; from
-- mid-frame, or with a frame outstanding, a sound delivery draws no acknowledgement; a message that does not begin F0
-- can spell another frame, which one lost byte sets free; a byte changed into itself, or two bytes changed, make a
-- delivery that is sound, of the same request or of another; with no sound delivery nothing is set; with no idle mark
-- behind a damaged delivery the sound one behind it is lost.
