-- The enum of this crate that has fields, as the kit of walks has it.
use mathlib.Core.Path.{refl}
use Rattle.walks.proofs.Data.{Data, enum_d}
use Rattle.calls.specs.contracts.event.Event as E
use Rattle.calls.proofs.event.Event.TheLaws as E'

abbrev pub event_d : Data
event_d = enum_d E.the_type E'.the_laws tt E'.the_plain E'.the_copy (λ x f. refl)
