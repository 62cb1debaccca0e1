use Rattle.std.proofs.Common.{◌≡◌, ℕ, ◌⊎◌, inl, inr, [], refl, ap}
use Rattle.ft12.specs.declared.rules.Heard.{Heard}
use Rattle.ft12.specs.declared.rules.Heard.TheVariants.{Gathered, Dropped, Ignored, Acknowledged, Reset, Repeat, Request}
use Rattle.ft12.specs.Frame.{acknowledgement}
use Rattle.ft12.proofs.EventLaws.{put_none}
use Rattle.calls.specs.Promise.{acknowledgement_of}
use Rattle.server.proofs.host_byte.acknowledge.Goals as goal

none_due : (h : Heard) → (h ≡ Gathered) ⊎ ((h ≡ Dropped) ⊎ ((h ≡ Ignored) ⊎ (h ≡ Acknowledged))) → acknowledgement_of h ≡ []
unfolding acknowledgement_of
none_due h (inl e) = ap acknowledgement_of e
none_due h (inr (inl e)) = ap acknowledgement_of e
none_due h (inr (inr (inl e))) = ap acknowledgement_of e
none_due h (inr (inr (inr e))) = ap acknowledgement_of e

one_due : (h : Heard) → (h ≡ Reset) ⊎ ((h ≡ Repeat) ⊎ ((n : ℕ) × (h ≡ Request n))) → acknowledgement_of h ≡ acknowledgement
unfolding acknowledgement_of
one_due h (inl e) = ap acknowledgement_of e
one_due h (inr (inl e)) = ap acknowledgement_of e
one_due h (inr (inr w)) = ap acknowledgement_of w.1

pub returns-in-Gathered : goal.returns-in-Gathered
returns-in-Gathered c = rw (none_due _ c.in-Gathered.is) (put_none _ 0, refl)

pub returns-in-Reset : goal.returns-in-Reset
returns-in-Reset c = rw (one_due _ c.in-Reset.is) (c.put_acknowledgement.ensures, refl)
