-- The filters of a request for values, by their numbers.
use Rattle.std.specs.Prelude.{◌≡◌, ℕ, ◌<◌, Result, MatchResult}
use Rattle.records.specs.declared.filter.Filter.{Filter}
use Rattle.records.specs.declared.filter.Filter.TheVariants.{All, Valid, Updated}
use Rattle.records.specs.declared.filter.NoFilter.{NoFilter}

-- "Filter 0 all, 1 valid bit set, 2 updated bit set."
abbrev pub filter_number : Filter → ℕ
filter_number All = 0
filter_number Valid = 1
filter_number Updated = 2

-- the filter of this number, or none where the number is above all of them
abbrev pub IsFilter : ℕ → Result Filter NoFilter → Type 0
IsFilter number r = MatchResult r (λ filter. filter_number filter ≡ number) (λ _. 2 < number)
