use Rattle.std.proofs.Common.{rules, ◌≡◌, ℕ, List, [], Some, subst}
use Rattle.own_quotients.specs.Reading.{own_at}
use Rattle.own_quotients.proofs.reading.read_table_from.Goals as goal

pub returns-then-is_at_end-clause-ok : goal.returns-then-is_at_end-clause-ok
returns-then-is_at_end-clause-ok g c =
    let ended : c.table.new.reader ≡ [] = search rules in
    c.reading_tables_is_spelling.ensures.takes c.args.reader.now c.in_ok-table.table
    (subst (λ (rest : List ℕ). own_at c.args.reader.now ≡ Some (c.in_ok-table.table, rest)) ended
    c.in_ok-table.ensures)
