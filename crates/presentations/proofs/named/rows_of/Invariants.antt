use Rattle.std.proofs.Common.{length}
use Rattle.presentations.specs.Numberings.{AreRowsUpTo}
use Rattle.presentations.proofs.named.rows_of.Given as goal

abbrev pub invariant-loop-x : goal.invariant-loop-x
invariant-loop-x g l =
    AreRowsUpTo l.letters (length l.numbering.numbers.firsts) l.numbering.numbers.keys
    l.numbering.products.items l.rows.items l.x 0

abbrev pub invariant-loop-e : goal.invariant-loop-e
invariant-loop-e g l =
    AreRowsUpTo l.letters (length l.numbering.numbers.firsts) l.numbering.numbers.keys
    l.numbering.products.items l.rows.items l.x l.e
