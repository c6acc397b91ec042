use Rattle.std.proofs.Common.{◌≡◌, ◌-◌}
use Rattle.certificate_text.specs.Reading.{with_front, words_at, number_at}
use Rattle.certificate_lines.proofs.lines.numbers.Given as goal

abbrev pub invariant-loop : goal.invariant-loop
invariant-loop g l =
    with_front l.found.items (words_at (number_at l.limit) (l.count - l.counter) l.reader)
    ≡ with_front l.initial.found.items (words_at (number_at l.limit) l.count l.initial.reader)
