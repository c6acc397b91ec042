use Rattle.std.proofs.Common.{rules}
use Rattle.checker.proofs.elements.common.Goals as goal

pub loop-y-init : goal.loop-y-init
loop-y-init g c = search rules
