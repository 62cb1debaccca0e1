-- The frames of FT1.2, and what a beginning of one is.
use Rattle.std.specs.Prelude.{ℕ, suc, ◌+◌, ◌-◌, ◌%◌, ◌≤◌, ◌<◌, ◌≡◌, Bool, ◌&&◌, List, [], ◌∷◌, ◌++◌, length, take, drop, T, leb}
use Rattle.words.specs.Words.{are_bytes, same}

-- "E5: acknowledgement."
abbrev pub acknowledgement : List ℕ
acknowledgement = 0xE5 ∷ []

-- "Fixed frame: 10 C C 16."
unfoldable pub fixed_frame : ℕ → List ℕ
fixed_frame c = 0x10 ∷ c ∷ c ∷ 0x16 ∷ []

-- the whole sum
unfoldable pub total : List ℕ → ℕ
total [] = 0
total (x ∷ xs) = x + total xs

-- "The checksum is the sum of control and data bytes, the carry beyond eight bits dropped."
unfoldable pub checksum : List ℕ → ℕ
checksum s = total s % 256

-- "Data frame: 68 L L 68, control, data, checksum, 16. L from 1 to 255 counts control and data; so a message has at
-- most 254 bytes and a frame 261."
abbrev pub longest_message : ℕ
longest_message = 254

abbrev pub longest_frame : ℕ
longest_frame = 261

unfoldable pub data_frame : ℕ → List ℕ → List ℕ
data_frame c m = 0x68 ∷ suc (length m) ∷ suc (length m) ∷ 0x68 ∷ c ∷ m ++ checksum (c ∷ m) ∷ 0x16 ∷ []

-- a sound frame; those that the server ignores are sound too
pub data Sound (f : List ℕ) : Type 0 where
  fixed : (c : ℕ) → c < 256 → f ≡ fixed_frame c → Sound f
  carries : (c : ℕ) (m : List ℕ) → T (are_bytes (c ∷ m)) → length m ≤ longest_message → f ≡ data_frame c m → Sound f

-- "a beginning, not the whole, of some sound frame"
pub record Begins (g : List ℕ) : Type 0 where
  pub rest : List ℕ
  pub more : 0 < length rest
  pub sound : Sound (g ++ rest)

-- "a whole [..] data frame" with this control byte. That its numbers are bytes is the record's type to say.
pub record Whole (c : ℕ) (f : List ℕ) : Type 0 where
  pub carried : List ℕ
  pub short : length carried ≤ longest_message
  pub frame : f ≡ data_frame c carried

-- what a data frame carries: all but the five bytes in front and the two behind
unfoldable pub message_of : List ℕ → List ℕ
message_of f = take (length f - 7) (drop 5 f)

-- the test for a whole data frame with this control byte: framing what it carries gives it back
unfoldable pub is_whole : ℕ → List ℕ → Bool
is_whole c f = leb (length f) longest_frame && same f (data_frame c (message_of f))
