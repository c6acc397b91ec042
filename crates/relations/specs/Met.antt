-- The bound that a search for relations met.
use Rattle.relations.specs.declared.fault.Bound.{Bound}
use Rattle.relations.specs.declared.fault.MetBound.{MetBound}

-- which one it was
abbrev pub bound_of : MetBound → Bound
bound_of met = met.bound
