use Rattle.clap.specs.Words.{found_of, rows_of}
use Rattle.command_line.proofs.AskedFor.{not_explain}
use Rattle.command_line.proofs.asking.command_word.Goals as goal

pub returns-in_default : goal.returns-in_default
returns-in_default c =
    not_explain c.args.name.now (rows_of (found_of c.args.given.now)) c.in_default.not-explain
