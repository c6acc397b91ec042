use Rattle.std.proofs.lemmas.List.Sorted.{All-permutation}
use Rattle.misere_theory.specs.Certificates.{IsHeapOf}
use Rattle.misere_library.proofs.Positions.{speaks_here}
use Rattle.misere_library.proofs.asking.answer_to.Goals as goal

pub answer-requires : goal.answer-requires
answer-requires c =
    let heap = IsHeapOf c.args.certified.now in
    let X = c.args.position.now in
    record { fits = speaks_here heap X (All-permutation heap c.args.heaps.now X c.requires.same c.requires.speaks) }

pub returns : goal.returns
returns c = (
  speaks_here (IsHeapOf c.args.certified.now) c.args.heaps.now c.requires.speaks,
  (c.args.position.now, c.requires.same, c.heaps.ensures.rising, (c.answer.result, c.told.ensures, c.answer.ensures)),
)
