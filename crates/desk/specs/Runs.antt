-- Runs of the desk's machine, and what one client sees of them. This project's own.
use Rattle.std.specs.Prelude.{◌≡◌, ℕ, ◌==◌, Bool, true, false, if◌then◌else◌, List, [], ◌∷◌, All, None}
use Rattle.answers.specs.ByteVerdicts.{ByteVerdict}
use Rattle.answers.specs.ByteVerdicts.ByteVerdict.{Memory}
use Rattle.desk.specs.Machine.{State, Call, Reply, AmpleStep}
use Rattle.desk.specs.Machine.Reply.{VerdictIs, Full, NoJob, NotCertified, Beyond, NoMemory}

-- a new desk
abbrev pub nothing_open : State
nothing_open = λ client number. None

-- by such steps the calls may be answered so, one after another, and leave that state
abbrev pub Run : (State → Call → Reply → State → Type 0) → State → List Call → List Reply → State
    → Type 0
Run Steps old [] [] new = new ≡ old
Run Steps old (call ∷ calls) (reply ∷ replies) new = (mid : State) × Steps old call reply mid
    × Run Steps mid calls replies new
Run Steps old [] (reply ∷ replies) new = ⊥
Run Steps old (call ∷ calls) [] new = ⊥

-- the calls of the client, in their order
abbrev pub calls_of : ℕ → List Call → List Call
calls_of client [] = []
calls_of client (call ∷ calls) =
    if call.client == client then call ∷ calls_of client calls else calls_of client calls

-- the replies to them
abbrev pub replies_to : ℕ → List Call → List Reply → List Reply
replies_to client [] replies = []
replies_to client (call ∷ calls) [] = []
replies_to client (call ∷ calls) (reply ∷ replies) =
    if call.client == client then reply ∷ replies_to client calls replies else replies_to client
    calls replies

-- whether it says that memory was wanting
abbrev pub is_nine : Reply → Bool
is_nine (VerdictIs Memory) = true
is_nine NoMemory = true
is_nine other = false

abbrev pub HasNoNine : List Reply → Type 0
HasNoNine replies = All (λ reply. is_nine reply ≡ false) replies

-- where memory is refused to nobody, the calls may be answered so, from this state on
abbrev pub AmpleRun : (List ℕ → ℕ → ℕ) → (List ℕ → ℕ → ByteVerdict) → State → List Call → List Reply
    → Type 0
AmpleRun cost verdict old calls replies =
    (new : State) × Run (AmpleStep cost verdict) old calls replies new

-- whether it says that nothing was done
abbrev pub is_refused : Reply → Bool
is_refused Full = true
is_refused NoJob = true
is_refused NotCertified = true
is_refused Beyond = true
is_refused NoMemory = true
is_refused other = false
