-- Tests, and what they decide.
use Rattle.std.specs.Prelude.{◌≡◌, ℕ, ◌≤◌, Bool, true, List, length, take, drop, slice_index}
use Rattle.ft12.specs.declared.record.Link.{Link}
use Rattle.cases.specs.Bench.{Bench}

-- r is true exactly where P holds
abbrev pub Decides : Bool → Type 0 → Type 0
Decides r P = (r ≡ true → P) × (P → r ≡ true)

-- counts and records, those beyond the counts too
pub record SameTables (a b : Bench) : Type 0 where
  pub datapoints : a.datapoints ≡ b.datapoints
  pub datapointcount : a.datapointcount ≡ b.datapointcount
  pub items : a.items ≡ b.items
  pub itemcount : a.itemcount ≡ b.itemcount
  pub parameters : a.parameters ≡ b.parameters
  pub parametercount : a.parametercount ≡ b.parametercount

-- the link record has these bits, drops or not, and has the bytes behind them outstanding
pub record LinkIs (k : Link) (asked : List ℕ) : Type 0 where
  pub told : 3 ≤ length asked
  pub expects : k.expected ≡ slice_index asked 0
  pub sends : k.send ≡ slice_index asked 1
  pub drops : k.dropping ≡ slice_index asked 2
  pub within : k.held ≤ 261
  pub holds : take k.held k.outstanding ≡ drop 3 asked
