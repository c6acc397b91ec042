use Rattle.std.proofs.Common.{◌≡◌, IfOk, subst}
use Rattle.std.proofs.lemmas.Result.{IfOk-weaker}
use Rattle.clap.specs.Words.{app_of}
use Rattle.clap.specs.declared.builder.command.Command.{Command}
use Rattle.command_line.proofs.Building.{with_command}
use Rattle.command_line.proofs.commands.with.Goals as goal

pub returns : goal.returns
returns c above added first second plain =
    let old = subst (λ r. IfOk r (λ (p : Command). app_of p ≡ above)) c.in-Ok.is first in
    let sub = subst (λ r. IfOk r (λ (s : Command). app_of s ≡ added)) c.in-Ok-command.is second in
    IfOk-weaker _ _ _ (λ new h. with_command _ _ new _ _ old sub plain h) c.subcommand.ensures
