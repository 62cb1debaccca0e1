-- The struct of this crate as the kit of walks has it.
use mathlib.Core.Path.{refl}
use Rattle.walks.proofs.Data.{Data, struct_d}
use Rattle.dpt.specs.contracts.reading.ReadingNumbers as N
use Rattle.dpt.proofs.reading.ReadingNumbers.TheLaws as N'

abbrev pub reading_numbers_d : Data
reading_numbers_d = struct_d N.the_type N'.the_laws N'.the_plain N'.the_copy (λ x f. refl)
