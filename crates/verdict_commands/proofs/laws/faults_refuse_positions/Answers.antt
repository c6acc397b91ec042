use Rattle.verdict_commands.proofs.FaultyWords.{refused}
use Rattle.verdict_commands.proofs.laws.faults_refuse_positions.Goals as goal

pub returns : goal.returns
returns c = refused
