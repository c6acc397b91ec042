use Rattle.std.proofs.Common.{sym}
use Rattle.clap.specs.Words.{found_of, rows_of}
use Rattle.command_line.specs.Requests.{word_request_of}
use Rattle.command_line.proofs.AskedFor.{word_alone}
use Rattle.command_line.proofs.asking.command_asked.Goals as goal

pub returns-in-Some-clause-asked : goal.returns-in-Some-clause-asked
returns-in-Some-clause-asked c =
    let is = sym c.in-Some.ensures in (
      is,
      word_alone c.args.name.now (rows_of (found_of c.args.given.now)) (word_request_of c.in-Some.word)
          is,
    )

pub returns-in-Err-clause-nothing : goal.returns-in-Err-clause-nothing
returns-in-Err-clause-nothing c = λ other. (c.in-Err.ensures.nothing other, sym c.in_default.ensures)
