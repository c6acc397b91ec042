use Rattle.desk_command.proofs.Runs.{have_clients}
use Rattle.desk_command.proofs.running.run_script.Goals as goal

pub run_steps-requires-clause-clients : goal.run_steps-requires-clause-clients
run_steps-requires-clause-clients g c = have_clients c.in_ok-steps.ensures.steps
