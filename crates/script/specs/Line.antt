-- A script's text: its lines, and what stands in one.
use Rattle.std.specs.Prelude.{if◌then◌else◌, ℕ, zero, suc, ◌+◌, ◌-◌, ◌*◌, ◌/◌, ◌%◌, List, [], ◌∷◌, length, take, replicate, ◌==◌, nat_lt, slice_index, slice_set}

-- ---- lines

-- how many bytes the first line has, with its end
unfoldable pub line_end : List ℕ → ℕ
line_end [] = 0
line_end (x ∷ xs) = if x == 10 then 1 else suc (line_end xs)

-- a byte in front of the first line
unfoldable pub onto : ℕ → List (List ℕ) → List (List ℕ)
onto x [] = (x ∷ []) ∷ []
onto x (l ∷ ls) = (x ∷ l) ∷ ls

unfoldable pub lines : List ℕ → List (List ℕ)
lines [] = []
lines (x ∷ xs) = if x == 10 then (x ∷ []) ∷ lines xs else onto x (lines xs)

-- ---- a letter, and bytes of a blank and two digits each

-- the bytes stand in the first places of 264, as many as the size says
pub record Line : Type 0 where
  pub letter : ℕ
  pub bytes : List ℕ
  pub size : ℕ

-- 0 to 9 are 30 to 39 hex, A to F are 41 to 46
abbrev pub digit_of : ℕ → ℕ
digit_of d = (d % 16 + d / 64 * 9) % 16

abbrev pub byte_of : ℕ → ℕ → ℕ
byte_of high low = digit_of high * 16 + digit_of low

unfoldable pub byte_count : List ℕ → ℕ
byte_count s = if nat_lt ((length s - 1) / 3) 264 then (length s - 1) / 3 else 264

-- 264 places with the first n bytes in them
unfoldable pub written : List ℕ → ℕ → List ℕ
written s zero = replicate 264 0
written s (suc n) = slice_set (written s n) n (byte_of (slice_index s (3 * n + 2)) (slice_index s (3 * n + 2 + 1)))

-- the bytes of a line
abbrev pub listed : Line → List ℕ
listed l = take l.size l.bytes

unfoldable pub read_line : List ℕ → Line
read_line s = record { letter = slice_index s 0; bytes = written s (byte_count s); size = byte_count s }
