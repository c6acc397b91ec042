use Rattle.std.proofs.Common.{rules, ◌≡◌, ℕ, List, [], Some, subst}
use Rattle.presented_text.specs.Reading.{said_at}
use Rattle.presented_text.proofs.reading.read_from.Goals as goal

pub returns-then-is_at_end-clause-ok : goal.returns-then-is_at_end-clause-ok
returns-then-is_at_end-clause-ok g c =
    let ended : c.lines.new.reader ≡ [] = search rules in
    c.reading_is_spelling.ensures.takes c.args.reader.now c.in_ok-said.said
    (subst (λ (rest : List ℕ). said_at c.args.reader.now ≡ Some (c.in_ok-said.said, rest)) ended
    c.in_ok-said.ensures)
