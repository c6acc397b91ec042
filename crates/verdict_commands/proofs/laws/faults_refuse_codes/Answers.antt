use Rattle.verdict_commands.proofs.Spelling.{refused}
use Rattle.verdict_commands.proofs.laws.faults_refuse_codes.Goals as goal

pub returns : goal.returns
returns c = refused
