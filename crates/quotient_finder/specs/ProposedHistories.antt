-- What was said to either proposer. This project's own.
use Rattle.quotient_finder.specs.Histories.{Events}
use Rattle.quotient_finder.specs.declared.either.AnyProposer.{AnyProposer}
use Rattle.quotient_finder.specs.declared.either.AnyProposer.TheVariants.{Refiner, Sampler}

-- all that was said to the refiner or the sampler that it is, the latest first
abbrev pub history_of : AnyProposer → Events
history_of (Refiner r) = r.history.events
history_of (Sampler s) = s.history.events
