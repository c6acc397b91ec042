-- Jobs as their callers see them.
use Rattle.std.specs.Prelude.{◌≡◌, Option, Some, None}
use Rattle.answers.specs.ByteVerdicts.{ByteVerdict, refused}
use Rattle.answers.specs.ByteVerdicts.ByteVerdict.{Yes as Accepts}
use Rattle.checker.specs.declared.job.Progress.{Progress}
use Rattle.checker.specs.declared.job.Progress.TheVariants.{Going, Yes, No}
use Rattle.checker.specs.JobViews.{JobView, IsEnding}

-- the answer that is shown, if the job doesn't go on
abbrev pub shown : {A : Type 0} → Progress A → Option ByteVerdict
shown Going = None
shown (Yes c) = Some (Accepts c.now)
shown (No r) = Some (refused r.now)

-- it is the job's
abbrev pub Shows : {A : Type 0} → JobView → Progress A → Type 0
Shows j p = j.ended ≡ shown p

-- an answer that is shown is true of the job's bytes
abbrev pub IsTrueShow : {A : Type 0} → JobView → Progress A → Type 0
IsTrueShow j p = IsEnding j.bytes j.limit (shown p)
