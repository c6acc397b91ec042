use Rattle.std.proofs.Common.{◌≡◌, ◌-◌}
use Rattle.certificate_text.specs.Reading.{with_front, words_at, key_at}
use Rattle.certificate_lines.proofs.keys.keys.Given as goal

abbrev pub invariant-loop : goal.invariant-loop
invariant-loop g l =
    with_front l.found.items (words_at (key_at l.order l.heaps) (l.count - l.counter) l.reader)
    ≡ words_at (key_at l.order l.heaps) l.count l.initial.reader
