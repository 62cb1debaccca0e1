-- Document 02, item 8. "The rack's serial driver hands us everything between two idle marks at once, up to 2048 bytes.
-- Write a second reader over it that returns how many sound frames (ignored ones too) and acknowledgements it found,
-- where each starts (first byte 0), in order, in a lent run of 2048 places, and whether the burst ended clean, in damage
-- or in an unfinished frame. Places not needed stay unaltered. Prove that it finds the same frames, acknowledgements and
-- damage as the byte-wise receiver given those bytes and then an idle mark, from a receiver at a frame start. Refusals:
-- call number 8 for a longer burst or a shorter run; it leaves the run unaltered."
use Rattle.std.specs.Prelude.{if◌then◌else◌, ℕ, suc, ◌+◌, ◌-◌, ◌≤◌, ◌<◌, ◌≡◌, ◌⊎◌, ◌↔◌, Bool, not, ◌&&◌, List, [], ◌∷◌, ◌++◌, length, get_or, take, drop, T, eqb}
use Rattle.words.specs.Words.{is_empty, put, are_bytes}
use Rattle.ft12.specs.Frame.{acknowledgement, Sound, Begins}
use Rattle.ft12.specs.Record.{Line}
use Rattle.ft12.specs.Rules.{on_host_byte, on_message, at_start}
use Rattle.ft12.specs.Delivery.{delivered}
use Rattle.ft12.specs.Burst.{Piece, Contents, before, just_ends, contents, is_acknowledgement, figures_of, starts_of}
use Rattle.ft12.specs.Burst.{BurstReply, Refused, Read, BurstCalled, read_burst, burst_numbers, BurstLeaves, BurstGives}
use Rattle.ft12.specs.declared.burst.Ending.{Ending}
use Rattle.ft12.specs.declared.burst.Ending.TheVariants.{Clean, Damaged, Unfinished}
use Rattle.ft12.specs.declared.burst.BurstNumbers.{BurstNumbers}

-- ---- the byte-wise receiver, watched
-- What the link rules find in a burst is seen on the line alone: each host byte goes through `on_host_byte`, and the
-- receiver is looked at behind it.
abbrev pub is_at_start : Line → Bool
is_at_start l = not l.dropping && is_empty l.gathered

-- what the idle mark meets
abbrev pub ending_at : Line → Ending
ending_at l = if l.dropping then Damaged else if is_empty l.gathered then Clean else Unfinished

-- the line after the host byte b; then the services may have given back the message m, or none, []
abbrev pub line_after : List ℕ → ℕ → Line → Line
line_after m b l = (on_message m (on_host_byte b l).line).line

-- "After every idle mark, whole frame or acknowledgement the receiver is at a frame start": a byte that leaves it there
-- is the last one of a frame or an acknowledgement, whose other bytes were gathered before. `given` is what is given
-- back behind the byte at each place.
unfoldable pub watched : (ℕ → List ℕ) → ℕ → Line → List ℕ → Contents
watched given at l [] = just_ends (ending_at l)
watched given at l (b ∷ bs) =
    let after = line_after (given at) b l in
    let rest = watched given (suc at) after bs in
    if is_at_start after then before (record { start = at - length l.gathered; bytes = l.gathered ++ b ∷ [] }) rest
    else rest

-- "the same frames, acknowledgements and damage as the byte-wise receiver given those bytes and then an idle mark, from a
-- receiver at a frame start": whatever bits the line expects and sends, whatever is outstanding, and whatever is answered
-- meanwhile
pub record ByteWise (given : ℕ → List ℕ) (l : Line) (burst : List ℕ) : Type 0 where
  pub same_contents : l ≡ at_start l → watched given 0 l burst ≡ contents burst
  -- so too behind any other burst and its idle mark, wherever the receiver was then
  pub behind_another : (other : List ℕ) → watched given 0 (delivered other l).line burst ≡ contents burst
  -- said of what is promised, the answer r and the run after it
  pub finds_the_same : (run run' : List ℕ) (r : BurstReply) → l ≡ at_start l → length burst ≤ 2048 → 2048 ≤ length run
      → BurstLeaves (read_burst burst run) r run'
      → (r ≡ Read (figures_of (watched given 0 l burst))) × (run' ≡ put run 0 (starts_of (watched given 0 l burst)))
  -- a burst in which nothing is found sends nothing, hands up nothing and leaves the line as it was
  pub nothing_happens : l ≡ at_start l → (contents burst).pieces ≡ []
      → delivered burst l ≡ record { sent = []; ups = []; line = l }

abbrev pub EachByteWise : Type 0
EachByteWise = (given : ℕ → List ℕ) (l : Line) (burst : List ℕ) → ByteWise given l burst

-- ---- what a burst holds, by the forms alone
-- a whole form, or the beginning of one
pub data Fits (s : List ℕ) : Type 0 where
  begins : Begins s → Fits s
  sound : Sound s → Fits s
  acknowledges : s ≡ acknowledgement → Fits s

-- the bytes s, from place `at` of a burst on and from a frame start, hold c
pub data Holds : ℕ → List ℕ → Contents → Type 0 where
  clean : {at : ℕ} → Holds at [] (just_ends Clean)
  unfinished : {at : ℕ} {s : List ℕ} → 0 < length s → Begins s → Holds at s (just_ends Unfinished)
  -- "Any byte that breaks these forms is damage, found at that byte: the rest is dropped up to the next idle mark."
  damaged : {at : ℕ} (g : List ℕ) (x : ℕ) (rest : List ℕ) → Begins g → (Fits (g ++ x ∷ []) → ⊥)
      → Holds at (g ++ x ∷ rest) (just_ends Damaged)
  acknowledged : {at : ℕ} {rest : List ℕ} {c : Contents} → Holds (at + 1) rest c
      → Holds at (acknowledgement ++ rest) (before (record { start = at; bytes = acknowledgement }) c)
  frame : {at : ℕ} (f : List ℕ) {rest : List ℕ} {c : Contents} → Sound f → Holds (at + length f) rest c
      → Holds at (f ++ rest) (before (record { start = at; bytes = f }) c)

-- it holds these contents, and no others
abbrev pub EachHolds : Type 0
EachHolds = (burst : List ℕ) (c : Contents) → T (are_bytes burst) → Holds 0 burst c ↔ (contents burst ≡ c)

-- ---- what is returned
abbrev pub piece_at : ℕ → List ℕ → Piece
piece_at k burst = get_or (contents burst).pieces k (record { start = 0; bytes = [] })

abbrev pub found : List ℕ → ℕ
found burst = length (contents burst).pieces

-- how many bytes a piece has that begins with these
abbrev pub size_at : List ℕ → ℕ
size_at s = if eqb (get_or s 0 0) 0xE5 then 1 else if eqb (get_or s 0 0) 0x10 then 4 else get_or s 1 0 + 6

-- the pieces of a burst: side by side from its first byte on, each where its bytes stand
pub record PieceThere (burst : List ℕ) (k : ℕ) : Type 0 where
  pub first : k ≡ 0 → (piece_at k burst).start ≡ 0
  pub next : suc k < found burst → (piece_at (suc k) burst).start ≡ (piece_at k burst).start + length (piece_at k burst).bytes
  pub within : (piece_at k burst).start + length (piece_at k burst).bytes ≤ length burst
  pub there : (piece_at k burst).bytes ≡ take (length (piece_at k burst).bytes) (drop (piece_at k burst).start burst)
  -- "sound frames (ignored ones too) and acknowledgements"
  pub which : T (are_bytes burst) → ((piece_at k burst).bytes ≡ acknowledgement) ⊎ Sound (piece_at k burst).bytes
  -- the byte at its start tells which, and how many bytes it has
  pub kind : is_acknowledgement (piece_at k burst) ≡ eqb (get_or burst (piece_at k burst).start 0) 0xE5
  pub size : length (piece_at k burst).bytes ≡ size_at (drop (piece_at k burst).start burst)

abbrev pub EachPieceThere : Type 0
EachPieceThere = (burst : List ℕ) (k : ℕ) → k < found burst → PieceThere burst k

-- a burst that is not refused
pub record BurstRead (burst run : List ℕ) : Type 0 where
  pub reply : (read_burst burst run).reply ≡ Read (figures_of (contents burst))
  -- a count for each kind; together, one for each place that is written
  pub counted : (figures_of (contents burst)).frames + (figures_of (contents burst)).acknowledgements ≡ found burst
  pub room : found burst ≤ length run
  -- "where each starts (first byte 0), in order"
  pub starts : (k : ℕ) → k < found burst → get_or (read_burst burst run).run k 0 ≡ (piece_at k burst).start
  -- "Places not needed stay unaltered."
  pub unaltered : (k : ℕ) → found burst ≤ k → get_or (read_burst burst run).run k 0 ≡ get_or run k 0
  pub as_long : length (read_burst burst run).run ≡ length run

abbrev pub EachBurstRead : Type 0
EachBurstRead = (burst run : List ℕ) → length burst ≤ 2048 → 2048 ≤ length run → BurstRead burst run

-- "call number 8 for a longer burst or a shorter run; it leaves the run unaltered"
abbrev pub EachBurstRefused : Type 0
EachBurstRefused = (burst run : List ℕ) → (2048 < length burst) ⊎ (length run < 2048)
    → read_burst burst run ≡ record { reply = Refused 8; run = run }

-- ---- one outcome
pub record OneOutcome : Type 0 where
  -- the numbers that the promise speaks of, and that firmware gets, determine the reply
  pub numbers_tell : (r q : BurstReply) → burst_numbers r ≡ burst_numbers q → r ≡ q
  -- so that the promise leaves no choice
  pub promised : {c : BurstCalled} {r q : BurstReply} {run run' : List ℕ} → BurstLeaves c r run → BurstLeaves c q run'
      → (r ≡ q) × (run ≡ run')
  pub given : {c : BurstCalled} {r q : BurstNumbers} {run run' : List ℕ} → BurstGives c r run → BurstGives c q run'
      → (r ≡ q) × (run ≡ run')

-- ---- the sentences together
pub record WholeBursts : Type 0 where
  pub byte_wise : EachByteWise
  pub holds : EachHolds
  pub there : EachPieceThere
  pub read : EachBurstRead
  pub refused : EachBurstRefused
  pub one_outcome : OneOutcome

-- To read it: a burst above 2048 bytes or a run below 2048 places is refused with 8, and the run stays. Any other burst is
-- cut from its first byte on into sound frames and acknowledgements, side by side, up to its end (clean), up to the
-- beginning of a frame (unfinished), or up to a byte that breaks the forms, and nothing is looked for behind that
-- (damage). Their starts stand in the run, in order, and the other places as they were. That is what the link rules
-- find byte by byte, on every line whose receiver is at a frame start, and with whatever is answered meanwhile.
