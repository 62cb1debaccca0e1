-- Document 02, item 8. "The rack's serial driver hands us everything between two idle marks at once, up to 2048 bytes."
-- What such a burst holds, by the byte-wise receiver from a frame start on, and what a reader of bursts returns.
use Rattle.std.specs.Prelude.{if◌then◌else◌, ℕ, suc, ◌-◌, ◌≡◌, Bool, not, ◌||◌, List, [], ◌∷◌, ◌++◌, map, length, ltb, ℤ, pos, neg_ℤ, Result, Ok, Err}
use Rattle.words.specs.Words.{is_empty, put, keep, same}
use Rattle.ft12.specs.Frame.{acknowledgement}
use Rattle.ft12.specs.Receiver.{judged}
use Rattle.ft12.specs.declared.receiver.Judgement.{Judgement}
use Rattle.ft12.specs.declared.receiver.Judgement.TheVariants.{More, Damage, Acknowledgement, Fixed, Data}
use Rattle.ft12.specs.declared.burst.Ending.{Ending}
use Rattle.ft12.specs.declared.burst.Ending.TheVariants.{Clean, Damaged, Unfinished}
use Rattle.ft12.specs.declared.burst.Figures.{Figures}
use Rattle.ft12.specs.declared.burst.BurstRefusal.{BurstRefusal}
use Rattle.ft12.specs.declared.burst.BurstRefusal.TheVariants.{TooLong, TooFewPlaces}
use Rattle.ft12.specs.declared.burst.BurstNumbers.{BurstNumbers}

-- ---- what a burst holds
-- a sound frame or an acknowledgement: where it starts in the burst, "first byte 0", and its bytes
pub record Piece : Type 0 where
  pub start : ℕ
  pub bytes : List ℕ

-- the pieces in order, and how the burst ended
pub record Contents : Type 0 where
  pub pieces : List Piece
  pub ending : Ending

abbrev pub before : Piece → Contents → Contents
before p c = record { pieces = p ∷ c.pieces; ending = c.ending }

-- no piece, and this ending
abbrev pub just_ends : Ending → Contents
just_ends e = record { pieces = []; ending = e }

-- the bytes that are gathered after the byte b: "After every [..] whole frame or acknowledgement the receiver is at a
-- frame start". After damage nobody looks at them.
unfoldable pub gathered_after : Judgement → List ℕ → ℕ → List ℕ
gathered_after More g b = g ++ b ∷ []
gathered_after Damage g b = []
gathered_after Acknowledgement g b = []
gathered_after (Fixed c) g b = []
gathered_after (Data c n) g b = []

-- a byte that asks for more; damage: "the rest is dropped up to the next idle mark", whatever it holds; the last byte of
-- the piece p
unfoldable pub with_byte : Judgement → Piece → Contents → Contents
with_byte More p rest = rest
with_byte Damage p rest = just_ends Damaged
with_byte Acknowledgement p rest = before p rest
with_byte (Fixed c) p rest = before p rest
with_byte (Data c n) p rest = before p rest

-- the bytes from place `at` on, behind the gathered bytes g. Behind the last one comes the idle mark: "An idle mark in
-- mid-frame drops what was gathered"
unfoldable pub contents_from : ℕ → List ℕ → List ℕ → Contents
contents_from at g [] = just_ends (if is_empty g then Clean else Unfinished)
contents_from at g (b ∷ bs) =
    let j = judged g b in
    with_byte j (record { start = at - length g; bytes = g ++ b ∷ [] }) (contents_from (suc at) (gathered_after j g b) bs)

-- "from a receiver at a frame start"
unfoldable pub contents : List ℕ → Contents
contents burst = contents_from 0 [] burst

-- ---- what is told of it
abbrev pub is_acknowledgement : Piece → Bool
is_acknowledgement p = same p.bytes acknowledgement

abbrev pub is_frame : Piece → Bool
is_frame p = not (is_acknowledgement p)

-- "how many sound frames (ignored ones too) and acknowledgements it found", "and whether the burst ended clean, in damage
-- or in an unfinished frame"
unfoldable pub figures_of : Contents → Figures
figures_of c =
    record {
      frames = length (keep is_frame c.pieces);
      acknowledgements = length (keep is_acknowledgement c.pieces);
      ending = c.ending;
    }

-- "where each starts (first byte 0), in order"
unfoldable pub starts_of : Contents → List ℕ
starts_of c = map (λ (p : Piece). p.start) c.pieces

-- ---- the call
-- "call number 8 for a longer burst or a shorter run"
unfoldable pub burst_refused : List ℕ → List ℕ → Bool
burst_refused burst run = ltb 2048 (length burst) || ltb (length run) 2048

-- the refusal's number, or what was found
pub data BurstReply : Type 0 where
  Refused : ℕ → BurstReply
  Read : Figures → BurstReply

-- what is answered, and the lent run after it
pub record BurstCalled : Type 0 where
  pub reply : BurstReply
  pub run : List ℕ

-- "Places not needed stay unaltered." Refused: "it leaves the run unaltered."
unfoldable pub read_burst : List ℕ → List ℕ → BurstCalled
read_burst burst run =
    if burst_refused burst run then record { reply = Refused 8; run = run }
    else record { reply = Read (figures_of (contents burst)); run = put run 0 (starts_of (contents burst)) }

-- ---- what a reader returns
-- "call number 8 for a longer burst or a shorter run"
abbrev pub number_of_refusal : BurstRefusal → ℕ
number_of_refusal TooLong = 8
number_of_refusal TooFewPlaces = 8

abbrev pub reply_of : Result Figures BurstRefusal → BurstReply
reply_of (Ok f) = Read f
reply_of (Err e) = Refused (number_of_refusal e)

-- the same with the refusal by its number, whatever the number
abbrev pub reply_by : Result Figures ℕ → BurstReply
reply_by (Ok f) = Read f
reply_by (Err n) = Refused n

-- ---- replies as numbers
-- the place in the paper's list, "clean, in damage or in an unfinished frame" (build)
unfoldable pub ending_number : Ending → ℕ
ending_number Clean = 1
ending_number Damaged = 2
ending_number Unfinished = 3

abbrev pub three_numbers : ℤ → ℕ → ℕ → BurstNumbers
three_numbers number frames acknowledgements =
    record { number = number; frames = frames; acknowledgements = acknowledgements }

unfoldable pub burst_numbers : BurstReply → BurstNumbers
burst_numbers (Refused n) = three_numbers (neg_ℤ (pos n)) 0 0
burst_numbers (Read f) = three_numbers (pos (ending_number f.ending)) f.frames f.acknowledgements

-- what a reader of bursts promises: its answer, by these numbers, and the run to its end
pub record BurstLeaves (c : BurstCalled) (r : BurstReply) (run' : List ℕ) : Type 0 where
  pub reply : burst_numbers r ≡ burst_numbers c.reply
  pub run : run' ≡ c.run

-- the same as C gets it
pub record BurstGives (c : BurstCalled) (r : BurstNumbers) (run' : List ℕ) : Type 0 where
  pub numbers : r ≡ burst_numbers c.reply
  pub run : run' ≡ c.run

-- ---- for the functions that a reader is made of: how many bytes the first piece has; 0 where there is none
unfoldable pub first_size : List ℕ → ℕ
first_size burst = size (contents burst).pieces
  where
    size : List Piece → ℕ
    size [] = 0
    size (p ∷ ps) = length p.bytes
