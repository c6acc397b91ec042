-- The desk as a machine: which jobs each client has open, and how a step of a client may be
-- answered. This project's own. A check is known by two functions of its bytes and limit alone:
-- what it costs, in units, and its verdict.
use Rattle.std.specs.Prelude.{◌≡◌, ◌≢◌, ◌⊎◌, ℕ, ◌+◌, ◌≤◌, ◌==◌, nat_lt, Bool, true, false, if◌then◌else◌, List, Option, Some, None, min}
use Rattle.misere_theory.specs.Certificates.{Certificate}
use Rattle.positions.specs.Outcomes.{HasOutcome}
use Rattle.positions.specs.declared.outcome.Outcome.{Outcome}
use Rattle.answers.specs.ByteVerdicts.{ByteVerdict}
use Rattle.answers.specs.ByteVerdicts.ByteVerdict.{Yes, Memory}
use Rattle.checker.specs.JobViews.{JobView}
use Rattle.player.specs.Answers.{IsRightAnswer, SpeaksOf}
use Rattle.player.specs.declared.answering.Answer.{Answer as PlayAnswer}

-- a client's open jobs, by their numbers
abbrev pub Jobs : Type 0
Jobs = ℕ → Option JobView

-- each client's open jobs
abbrev pub State : Type 0
State = ℕ → Jobs

-- Open a job of these bytes and this limit; work a job by so many units; give it up; ask it for the
-- outcome of a position, or what to play.
pub data Event : Type 0 where
  Open : List ℕ → ℕ → Event
  Work : ℕ → ℕ → Event
  Drop : ℕ → Event
  Ask : ℕ → List ℕ → Event
  Play : ℕ → List ℕ → Event

pub data Reply : Type 0 where
  Opened : ℕ → Reply
  Going : Reply
  VerdictIs : ByteVerdict → Reply
  Dropped : Reply
  OutcomeIs : Outcome → Reply
  AnswerIs : PlayAnswer → Reply
  Full : Reply
  NoJob : Reply
  NotCertified : Reply
  Beyond : Reply
  NoMemory : Reply

-- a client, and what it asks of the desk
pub record Call : Type 0 where
  pub client : ℕ
  pub event : Event

abbrev pub with_job : Jobs → ℕ → Option JobView → Jobs
with_job jobs number job = λ other. if number == other then job else jobs other

abbrev pub with_jobs : State → ℕ → Jobs → State
with_jobs state client jobs = λ other. if client == other then jobs else state other

abbrev pub is_free : {X : Type 0} → Option X → Bool
is_free None = true
is_free (Some x) = false

abbrev pub least_free : {X : Type 0} → (ℕ → Option X) → Option ℕ
least_free held =
    if is_free (held 1) then Some 1 else (if is_free (held 2) then Some 2
    else (if is_free (held 3) then Some 3 else (if is_free (held 4) then Some 4 else None)))

abbrev pub fresh : List ℕ → ℕ → JobView
fresh bytes limit = record { bytes = bytes; limit = limit; spent = 0; ended = None }

-- the job ended for want of memory
abbrev pub out_of_memory : JobView → JobView
out_of_memory job = record job { ended = Some Memory }

-- what is said of a job with this ending
abbrev pub work_reply : Option ByteVerdict → Reply
work_reply None = Going
work_reply (Some a) = VerdictIs a

abbrev pub Opens : Jobs → List ℕ → ℕ → Option ℕ → Reply → Jobs → Type 0
Opens old bytes limit (Some number) reply new = (reply ≡ Opened number)
    × (new ≡ with_job old number (Some (fresh bytes limit)))
Opens old bytes limit None reply new = (reply ≡ Full) × (new ≡ old)

abbrev pub Drops : Jobs → ℕ → Option JobView → Reply → Jobs → Type 0
Drops old number (Some job) reply new = (reply ≡ Dropped) × (new ≡ with_job old number None)
Drops old number None reply new = (reply ≡ NoJob) × (new ≡ old)

-- The certificate is partial, and some heap of the position is one of which it doesn't speak; the
-- reply says so.
abbrev pub IsBeyond : Certificate → List ℕ → Reply → Type 0
IsBeyond c X reply = (c.period ≡ 0) × (SpeaksOf c X → ⊥) × (reply ≡ Beyond)

-- the outcome of a position of which it speaks
abbrev pub IsOutcomeReply : Certificate → List ℕ → Reply → Type 0
IsOutcomeReply c X reply = SpeaksOf c X × ((o : Outcome) × (reply ≡ OutcomeIs o) × HasOutcome c.code X o)

-- what to play in it
abbrev pub IsAnswerReply : Certificate → List ℕ → Reply → Type 0
IsAnswerReply c X reply = SpeaksOf c X × ((a : PlayAnswer) × (reply ≡ AnswerIs a) × IsRightAnswer c.code X a)

-- the outcome of a position by a job that has ended with yes, of which the certificate speaks
abbrev pub OutcomeReplies : Option ByteVerdict → List ℕ → Reply → Type 0
OutcomeReplies (Some (Yes c)) X reply = IsOutcomeReply c X reply ⊎ IsBeyond c X reply
OutcomeReplies other X reply = reply ≡ NotCertified

-- what to play there, by such a job
abbrev pub AnswerReplies : Option ByteVerdict → List ℕ → Reply → Type 0
AnswerReplies (Some (Yes c)) X reply = IsAnswerReply c X reply ⊎ IsBeyond c X reply
AnswerReplies other X reply = reply ≡ NotCertified

abbrev pub Asks : Jobs → List ℕ → Option JobView → Reply → Jobs → Type 0
Asks old X (Some job) reply new = OutcomeReplies job.ended X reply × (new ≡ old)
Asks old X None reply new = (reply ≡ NoJob) × (new ≡ old)

abbrev pub Plays : Jobs → List ℕ → Option JobView → Reply → Jobs → Type 0
Plays old X (Some job) reply new = AnswerReplies job.ended X reply × (new ≡ old)
Plays old X None reply new = (reply ≡ NoJob) × (new ≡ old)

-- No open job that hasn't ended for want of memory has these bytes and this limit and has spent so
-- much.
abbrev pub NoneAsFar : State → List ℕ → ℕ → ℕ → Type 0
NoneAsFar state bytes limit spent =
    (client number : ℕ) (job : JobView) → state client number ≡ Some job → job.ended ≢ Some Memory
    → job.bytes ≡ bytes → job.limit ≡ limit → spent ≤ job.spent → ⊥

module _ (cost : List ℕ → ℕ → ℕ) (verdict : List ℕ → ℕ → ByteVerdict) where
  -- A job after so many units more, where memory isn't refused. An ended job stays as it is.
  abbrev pub worked_on : Option ByteVerdict → JobView → ℕ → JobView
  worked_on None job units =
      if nat_lt (job.spent + units) (cost job.bytes job.limit)
      then record job { spent = job.spent + units; ended = None }
      else record job {
        spent = cost job.bytes job.limit;
        ended = Some (verdict job.bytes job.limit);
      }
  worked_on (Some a) job units = job

  abbrev pub worked : JobView → ℕ → JobView
  worked job units = worked_on job.ended job units

  abbrev pub Works : Jobs → ℕ → ℕ → Option JobView → Reply → Jobs → Type 0
  Works old number units (Some job) reply new = (reply ≡ work_reply (worked job units).ended)
      × (new ≡ with_job old number (Some (worked job units)))
  Works old number units None reply new = (reply ≡ NoJob) × (new ≡ old)

  -- From a client's jobs the event may be answered so, and leaves those, where memory isn't
  -- refused.
  abbrev pub Serves : Jobs → Event → Reply → Jobs → Type 0
  Serves old (Open bytes limit) reply new = Opens old bytes limit (least_free old) reply new
  Serves old (Work number units) reply new = Works old number units (old number) reply new
  Serves old (Drop number) reply new = Drops old number (old number) reply new
  Serves old (Ask number X) reply new = Asks old X (old number) reply new
  Serves old (Play number X) reply new = Plays old X (old number) reply new

  -- The job that was to work ends for want of memory. It goes on until then, and no equal job is as
  -- far as it was to come.
  abbrev pub RunsOut : State → Jobs → ℕ → ℕ → Option JobView → Reply → Jobs → Type 0
  RunsOut state old number units (Some job) reply new =
      (job.ended ≡ None) × (job.spent ≤ cost job.bytes job.limit)
      × NoneAsFar state job.bytes job.limit (min (job.spent + units) (cost job.bytes job.limit))
      × (reply ≡ VerdictIs Memory) × (new ≡ with_job old number (Some (out_of_memory job)))
  RunsOut state old number units None reply new = ⊥

  -- The same where memory is refused, to a client with those jobs in the state. Only Open and Work
  -- take any.
  abbrev pub Refuses : State → Jobs → Event → Reply → Jobs → Type 0
  Refuses state old (Open bytes limit) reply new = (least_free old ≢ None)
      × NoneAsFar state bytes limit 0 × (reply ≡ NoMemory) × (new ≡ old)
  Refuses state old (Work number units) reply new =
      RunsOut state old number units (old number) reply new
  Refuses state old other reply new = ⊥

  -- A step where memory is refused to nobody: the client's jobs and its event decide it, and no
  -- other client's jobs change.
  abbrev pub AmpleStep : State → Call → Reply → State → Type 0
  AmpleStep old call reply new = (jobs : Jobs) × Serves (old call.client) call.event reply jobs
      × (new ≡ with_jobs old call.client jobs)

  -- A step, whether memory is refused in it or not.
  abbrev pub Step : State → Call → Reply → State → Type 0
  Step old call reply new =
      (jobs : Jobs)
      × (Serves (old call.client) call.event reply jobs
      ⊎ Refuses old (old call.client) call.event reply jobs)
      × (new ≡ with_jobs old call.client jobs)
