use Rattle.std.proofs.Common.{◌≡◌, ◌≤◌, ◌*◌}
use Rattle.std.specs.Prelude.{slice_index}
use Rattle.misere_theory.specs.Certificates.{times_of}
use Rattle.isomorphisms.specs.declared.TheConstants.{COLOURS}
use Rattle.isomorphisms.specs.Profiles.{mixed, sum_below}
use Rattle.isomorphisms.proofs.colouring.recoloured.Given as goal

abbrev pub invariant-loop-z : goal.invariant-loop-z
invariant-loop-z g l = record {
  value : l.sum
      ≡ sum_below (λ z. mixed (slice_index l.colours z)
      (slice_index l.colours (times_of l.quotient l.x z))) l.z;
  small : l.sum ≤ COLOURS * l.z;
}
