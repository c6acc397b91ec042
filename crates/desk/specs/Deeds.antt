-- What was done in a step, and the reply that it means.
use Rattle.std.specs.Prelude.{◌≡◌, Option, Some, None, Result, Ok, Err}
use Rattle.std.specs.Borrow.{Bor}
use Rattle.misere_theory.specs.Certificates.{Certificate}
use Rattle.answers.specs.ByteVerdicts.{ByteVerdict}
use Rattle.answers.specs.ByteVerdicts.ByteVerdict.{Yes}
use Rattle.checker.specs.JobViews.{JobView}
use Rattle.desk.specs.declared.deed.Deed.{Deed}
use Rattle.desk.specs.declared.deed.Deed.TheVariants as done
use Rattle.desk.specs.declared.reply.StepFault.{StepFault}
use Rattle.desk.specs.declared.reply.StepFault.TheVariants as fault
use Rattle.desk.specs.Machine.{Jobs, Reply, work_reply}
use Rattle.desk.specs.Machine.Reply.{Opened, Dropped, OutcomeIs, AnswerIs, NoJob}
use Rattle.desk.specs.Replies.{refusal}

-- what is said of a job, if there is one
abbrev pub shown_reply : Option JobView → Reply
shown_reply (Some job) = work_reply job.ended
shown_reply None = NoJob

abbrev pub meant : Jobs → Deed → Reply
meant jobs (done.Opened number) = Opened number
meant jobs (done.Shown number) = shown_reply (jobs number)
meant jobs done.Dropped = Dropped
meant jobs (done.Outcome outcome) = OutcomeIs outcome
meant jobs (done.Answer answer) = AnswerIs answer
meant jobs (done.Refused fault) = refusal fault

-- the certificate of a job with this ending
abbrev pub CertifiesBy : Option ByteVerdict → Result (Bor Certificate) StepFault → Type 0
CertifiesBy (Some (Yes c)) found = (lent : Bor Certificate) × (found ≡ Ok lent) × (lent.now ≡ c)
CertifiesBy other found = found ≡ Err fault.NotCertified

-- that of a job, if there is one
abbrev pub Certifies : Option JobView → Result (Bor Certificate) StepFault → Type 0
Certifies (Some job) found = CertifiesBy job.ended found
Certifies None found = found ≡ Err fault.NoJob
