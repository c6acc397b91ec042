-- Where stages stand, in the phases of the machine, and where their work comes to.
use Rattle.std.specs.Prelude.{◌≡◌, ◌⊎◌, ℕ, ◌<◌, ◌≤◌, Bool, List, Option, Some, None, Result, Ok, Err}
use Rattle.misere_theory.specs.Certificates.{Certificate}
use Rattle.answers.specs.declared.refusal.Refusal.{Refusal}
use Rattle.answers.specs.ByteVerdicts.{ByteVerdict, answer_of}
use Rattle.answers.specs.ByteVerdicts.ByteVerdict.{Memory}
use Rattle.check_machine.specs.Turns.{Phase, is_ended, stage_of, Runs, Reaches}
use Rattle.check_machine.specs.Turns.Phase.{Reading as AtReading, Laws as AtLaws, Keys as AtKeys, Products as AtProducts, Periods as AtPeriods, Separating as AtSeparating, Heaps as AtHeaps, Closing as AtClosing, Elements as AtElements, Ended as AtEnded}
use Rattle.checker.specs.declared.any_paired.AnyPaired.{AnyPaired}
use Rattle.checker.specs.declared.any_paired.AnyPaired.TheVariants.{One, Four, Eight, Sixteen, SixtyFour}
use Rattle.checker.specs.declared.paired.Paired.{Paired}
use Rattle.checker.specs.declared.paired.Paired.TheVariants.{Heaps, Elements, Closing}
use Rattle.checker.specs.declared.stage.Stage.{Stage}
use Rattle.checker.specs.declared.stage.Stage.TheVariants.{Reading, Laws, Keys, Products, Periods, Separating, Pairs, Ended}

-- the stage in plain data, which tells nothing of the width of its sets
abbrev pub phase_of_paired : {L : ℕ} {A : Type 0} → Paired L A → Phase
phase_of_paired (Heaps h) = AtHeaps h
phase_of_paired (Elements e) = AtElements e
phase_of_paired (Closing s) = AtClosing s

abbrev pub phase_of_any : {A : Type 0} → AnyPaired A → Phase
phase_of_any (One p) = phase_of_paired p
phase_of_any (Four p) = phase_of_paired p
phase_of_any (Eight p) = phase_of_paired p
phase_of_any (Sixteen p) = phase_of_paired p
phase_of_any (SixtyFour p) = phase_of_paired p

abbrev pub phase_of : {A : Type 0} → Stage A → Phase
phase_of Reading = AtReading
phase_of (Laws l) = AtLaws l
phase_of (Keys k) = AtKeys k
phase_of (Products p) = AtProducts p
phase_of (Periods p) = AtPeriods p
phase_of (Separating s) = AtSeparating s
phase_of (Pairs p) = phase_of_any p
phase_of (Ended r) = AtEnded (answer_of r)

abbrev pub has_ended : {A : Type 0} → Stage A → Bool
has_ended s = is_ended (phase_of s)

-- the answer, once it stands
abbrev pub answered : Phase → Option ByteVerdict
answered (AtEnded a) = Some a
answered p = None

abbrev pub ending : {A : Type 0} → Stage A → Option ByteVerdict
ending s = answered (phase_of s)

-- where the work of a stage over pairs has come
abbrev pub arrived : {L : ℕ} {A : Type 0} → Result (Paired L A) (Result Certificate (Refusal A)) → Phase
arrived (Ok p) = phase_of_paired p
arrived (Err r) = AtEnded (answer_of r)

abbrev pub arrived_any : {A : Type 0} → Result (AnyPaired A) (Result Certificate (Refusal A)) → Phase
arrived_any (Ok p) = phase_of_any p
arrived_any (Err r) = AtEnded (answer_of r)

-- The check stands where its turns brought it, or ended there for want of memory.
abbrev pub StandsAt : Phase → Phase → Type 0
StandsAt to p = (to ≡ p) ⊎ (p ≡ AtEnded Memory)

-- So many turns have brought the check here, or to where memory was refused to it.
pub record HasCome (bytes : List ℕ) (limit spent : ℕ) (p : Phase) : Type 0 where
  pub to : Phase
  pub reaches : Reaches bytes limit spent to
  pub shown : StandsAt to p

-- Of `before` units `after` are left, each of the others was a turn at a stage, and the stage goes
-- on.
pub record Stays (from : Phase) (before after : ℕ) (p : Phase) : Type 0 where
  pub runs : (bytes : List ℕ) (limit : ℕ) → Runs bytes limit from before after p
  pub same : stage_of p ≡ stage_of from

-- Of `before` units `after` are left, and each of the others was a turn at the stage at which the
-- check stood. It stands where they brought it. If units are left, then some were turns, or the
-- check came to a later stage.
pub record Comes (bytes : List ℕ) (limit : ℕ) (from : Phase) (before after : ℕ) (p : Phase)
    : Type 0 where
  pub to : Phase
  pub runs : Runs bytes limit from before after to
  pub shown : StandsAt to p
  pub on : 0 < after → before ≤ after → stage_of from < stage_of p
