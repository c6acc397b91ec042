-- The steps that the code's stand for.
use Rattle.std.specs.Prelude.{List, map}
use Rattle.desk.specs.declared.step.Step.{Step as StepGiven}
use Rattle.desk.specs.declared.step.Step.TheVariants as given
use Rattle.desk.specs.Steps.{Step}
use Rattle.desk.specs.Steps.Step.{Open, Work, Drop, Ask, Play}

abbrev pub step_of : {A : Type 0} → StepGiven A → Step
step_of (given.Open client file limit) = Open client file.now limit
step_of (given.Work client job units) = Work client job units
step_of (given.Drop client job) = Drop client job
step_of (given.Ask client job position) = Ask client job position
step_of (given.Play client job position) = Play client job position

abbrev pub steps_of : {A : Type 0} → List (StepGiven A) → List Step
steps_of steps = map step_of steps
