use Rattle.dominance_text.proofs.LabelLaws.{listed, repeats}
use Rattle.dominance_text.proofs.labels_repeat.Goals as goal

pub returns : goal.returns
returns c = record { listed = listed; raised = repeats }
