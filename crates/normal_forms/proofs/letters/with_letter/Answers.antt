use Rattle.std.proofs.Common.{arith}
use Rattle.presentations.specs.declared.TheConstants.{LETTERS}
use Rattle.normal_forms.proofs.Known.{set-plus}
use Rattle.normal_forms.proofs.letters.with_letter.Goals as goal

pub returns : goal.returns
returns c =
    set-plus c.args.word.now LETTERS c.args.i c.in_ok-more.field-0 c.told-word (grind arith)
    c.in_ok-more.ensures.1
