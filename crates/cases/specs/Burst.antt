-- What a line of the letter u says of a burst (document 02, item 8): how it ended, how many sound frames it holds, how
-- many acknowledgements, and where each starts. Then come the burst's bytes.
use Rattle.std.specs.Prelude.{◌≡◌, ℕ, ◌+◌, ◌≤◌, List, length, take, drop, slice_index}
use Rattle.ft12.specs.Burst.{contents, figures_of, starts_of, ending_number}

-- how many starts the line has
abbrev pub start_count : List ℕ → ℕ
start_count a = slice_index a 1 + slice_index a 2

-- behind which the burst stands
abbrev pub burst_start : List ℕ → ℕ
burst_start a = 3 + start_count a

abbrev pub burst_of : List ℕ → List ℕ
burst_of a = drop (burst_start a) a

-- the burst holds what the line says
pub record FindsAs (a : List ℕ) : Type 0 where
  pub whole : burst_start a ≤ length a
  pub short : length (burst_of a) ≤ 2048
  pub ending : ending_number (contents (burst_of a)).ending ≡ slice_index a 0
  pub frames : (figures_of (contents (burst_of a))).frames ≡ slice_index a 1
  pub acknowledgements : (figures_of (contents (burst_of a))).acknowledgements ≡ slice_index a 2
  pub starts : starts_of (contents (burst_of a)) ≡ take (start_count a) (drop 3 a)
