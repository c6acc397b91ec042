use Rattle.std.proofs.Common.{◌≡◌, ◌<◌}
use Rattle.presentations.specs.Boxes.{place_of, size_of}
use Rattle.presentations.specs.Merging.{letters_in}
use Rattle.presentations.specs.Words.{vector_on}
use Rattle.presentations.proofs.VectorLaws.{partial}
use Rattle.presentations.proofs.axes.place.Given as goal

abbrev pub invariant-loop-i : goal.invariant-loop-i
invariant-loop-i l = record {
  value : l.at ≡ place_of l.axes (partial (vector_on (letters_in l.axes) l.word) l.i 0);
  within : l.at < size_of l.axes;
}

abbrev pub invariant-loop-k : goal.invariant-loop-k
invariant-loop-k l = record {
  value : l.at ≡ place_of l.axes (partial (vector_on (letters_in l.axes) l.word) l.i l._k);
  within : l.at < size_of l.axes;
}
