-- The machine's events and replies that the desk's stand for, and the numbers of faults.
use Rattle.std.specs.Prelude.{ℕ, List, codes}
use Rattle.answers.specs.ByteVerdicts.{refused}
use Rattle.answers.specs.ByteVerdicts.ByteVerdict.{Yes as Accepts}
use Rattle.desk.specs.declared.event.Event.{Event as EventGiven}
use Rattle.desk.specs.declared.event.Event.TheVariants as given
use Rattle.desk.specs.declared.reply.Reply.{Reply as ReplyGiven}
use Rattle.desk.specs.declared.reply.Reply.TheVariants as answered
use Rattle.desk.specs.declared.reply.StepFault.{StepFault}
use Rattle.desk.specs.declared.reply.StepFault.TheVariants as fault
use Rattle.desk.specs.Machine.{Event, Reply}
use Rattle.desk.specs.Machine.Event.{Open, Work, Drop, Ask, Play}
use Rattle.desk.specs.Machine.Reply.{Opened, Going, VerdictIs, Dropped, OutcomeIs, AnswerIs, Full, NoJob, NotCertified, Beyond, NoMemory}

abbrev pub event_of : {A : Type 0} → EventGiven A → Event
event_of (given.Open bytes limit) = Open bytes.items limit
event_of (given.Work number units) = Work number units
event_of (given.Drop number) = Drop number
event_of (given.Ask number position) = Ask number position
event_of (given.Play number position) = Play number position

abbrev pub refusal : StepFault → Reply
refusal fault.Full = Full
refusal fault.NoJob = NoJob
refusal fault.NotCertified = NotCertified
refusal fault.Beyond = Beyond
refusal fault.Memory = NoMemory

abbrev pub reply_of : {A : Type 0} → ReplyGiven A → Reply
reply_of (answered.Opened number) = Opened number
reply_of answered.Going = Going
reply_of (answered.Yes c) = VerdictIs (Accepts c.now)
reply_of (answered.No r) = VerdictIs (refused r.now)
reply_of answered.Dropped = Dropped
reply_of (answered.Outcome outcome) = OutcomeIs outcome
reply_of (answered.Answer answer) = AnswerIs answer
reply_of (answered.Refused f) = refusal f

-- the numbers and names under which faults are printed
abbrev pub step_fault_number : StepFault → ℕ
step_fault_number fault.Full = 20
step_fault_number fault.NoJob = 21
step_fault_number fault.NotCertified = 22
step_fault_number fault.Beyond = 23
step_fault_number fault.Memory = 9

abbrev pub step_fault_name : StepFault → List ℕ
step_fault_name fault.Full = codes "Full"
step_fault_name fault.NoJob = codes "NoJob"
step_fault_name fault.NotCertified = codes "NotCertified"
step_fault_name fault.Beyond = codes "Beyond"
step_fault_name fault.Memory = codes "Memory"
