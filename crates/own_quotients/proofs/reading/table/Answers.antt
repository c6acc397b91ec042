use Rattle.std.proofs.Common.{◌≡◌, ℕ, List, Some, refl, codes}
use Rattle.certificate_text.specs.Reading.{fixed_at, rows_at}
use Rattle.own_quotients.specs.Reading.{own_at, own_lists_at, own_of}
use Rattle.own_quotients.proofs.reading.table.Goals as goal

read : (bytes : List ℕ) (lists : (List ℕ × ℕ × ℕ × ℕ) × List ℕ × List ℕ)
    (after rows last ended : List ℕ) → own_lists_at bytes ≡ Some (lists, after)
    → rows_at lists.0.1 lists.0.1 after ≡ Some (rows, last)
    → fixed_at (codes "end\n") last ≡ Some ended
    → own_at bytes ≡ Some (own_of lists rows, ended)
unfolding own_at
read bytes lists after rows last ended l r f = rw (l, r, f) refl

pub from_lists-requires : goal.from_lists-requires
from_lists-requires g c =
    c.reading_tables_is_spelling.ensures.own c.args.reader.now _ c.fixed.new.self
    (read c.args.reader.now _ c.list_lines.new.reader c.in_ok-rows.rows.items c.rows.new.reader
    c.fixed.new.self c.in_ok-lists.ensures.read c.in_ok-rows.ensures c.in_ok-fixed.ensures)
