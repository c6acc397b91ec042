use Rattle.std.proofs.Common.{refl}
use Rattle.misere_theory.proofs.Counting.{shown_in, bound_counts, bound_whole, bound_part}
use Rattle.misere_theory.proofs.pairs.heaps_are_bounded.Goals as goal

pub returns : goal.returns
returns g = record {
  shown = shown_in;
  counts = bound_counts;
  whole = λ code k start period. bound_whole 0 code k start period refl;
  part = bound_part;
}
