use Rattle.std.proofs.Common.{arith}
use Rattle.std.proofs.lemmas.Bool.{iff_false}
use Rattle.verdict_commands.specs.Sizes.IsPositionFault.{HasNoByte, InWord, HasMany}
use Rattle.verdict_commands.proofs.FaultyWords.{is_nothing, is_position, no_heap}
use Rattle.verdict_commands.proofs.sizes.position_fault.Goals as goal

pub returns-then-is_empty : goal.returns-then-is_empty
returns-then-is_empty c =
    HasNoByte (is_nothing c.is_empty.result c.args.text.now c.if-is_empty.true c.is_empty.ensures)

pub returns-then-is_zero : goal.returns-then-is_zero
returns-then-is_zero c = no_heap c.args.text.now (c.is_zero.ensures.0 c.if-is_zero.true)

pub returns-in-Err : goal.returns-in-Err
returns-in-Err c = InWord (iff_false c.is_zero.ensures c.if-is_zero.false) c.in-Err.ensures

pub returns-then-sizes-gt-MOST_SIZES : goal.returns-then-sizes-gt-MOST_SIZES
returns-then-sizes-gt-MOST_SIZES c = HasMany c.in-Ok.ensures.1 (omega arith)

pub returns : goal.returns
returns c = is_position c.args.text.now c.in-Ok.sizes c.in-Ok.ensures (omega arith)
