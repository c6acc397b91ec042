use Rattle.std.proofs.Common.{◌≡◌, ◌-◌, codes}
use Rattle.certificate_text.specs.Reading.{with_front}
use Rattle.presented_text.specs.Reading.{while_at, positive_at}
use Rattle.presented_text.proofs.lists.heaps.Given as goal

abbrev pub invariant-loop : goal.invariant-loop
invariant-loop g l =
    with_front l.found.items (while_at (codes " ") (positive_at l.limit) (l.room - l.counter) l.reader)
    ≡ while_at (codes " ") (positive_at l.limit) l.room l.initial.reader
