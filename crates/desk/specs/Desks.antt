-- What a desk holds, and the machine's state that it stands for.
use Rattle.std.specs.Prelude.{◌≡◌, ◌≢◌, ◌⊎◌, ℕ, ◌+◌, ◌<◌, ◌≤◌, ◌==◌, if◌then◌else◌, List, length, Option, Some, None, slice_index_or, map, min}
use Rattle.answers.specs.ByteVerdicts.ByteVerdict.{Memory}
use Rattle.checker.specs.JobViews.{JobView}
use Rattle.check_machine.specs.Turns.{cost, verdict}
use Rattle.desk.specs.declared.slot.Slot.{Slot}
use Rattle.desk.specs.Machine.{Jobs, State, Event, Reply, Serves, Step, fresh, out_of_memory, worked}
use Rattle.desk.specs.Places.{place_of}
use Rattle.desk.specs.Slots.{job_of, StandsBeside}

abbrev pub core_at : List (Option JobView) → ℕ → Option JobView
core_at cores k = slice_index_or cores k None

abbrev pub slot_at : List (Option Slot) → ℕ → Option Slot
slot_at places i = slice_index_or places i None

abbrev pub seen : Option JobView → Slot → Option JobView
seen None s = None
seen (Some core) s = Some (job_of core s)

abbrev pub job_in : List (Option JobView) → Option Slot → Option JobView
job_in cores None = None
job_in cores (Some s) = seen (core_at cores s.core) s

-- the jobs, by their places
abbrev pub jobs_in : List (Option Slot) → List (Option JobView) → List (Option JobView)
jobs_in places cores = map (job_in cores) places

abbrev pub job_at : List (Option JobView) → Option ℕ → Option JobView
job_at jobs None = None
job_at jobs (Some i) = slice_index_or jobs i None

-- the machine's state
abbrev pub state_of : List (Option JobView) → State
state_of jobs = λ client number. job_at jobs (place_of client number)

-- a step of the machine
abbrev pub IsStep : List (Option JobView) → ℕ → Event → Reply → List (Option JobView) → Type 0
IsStep old client event reply new =
    Step cost verdict (state_of old) (record { client = client; event = event }) reply
    (state_of new)

-- that leaves the client's jobs as they are
abbrev pub IsServed : Jobs → Event → Reply → Type 0
IsServed jobs event reply = Serves cost verdict jobs event reply jobs

-- a job has core k
abbrev pub HasSlot : List (Option Slot) → ℕ → Type 0
HasSlot places k = (i : ℕ) × (s : Slot) × (slot_at places i ≡ Some s) × (s.core ≡ k)

-- Each job has a core, beside which it stands, and each core a job; no core has ended for want of
-- memory, no two have the same bytes and limit, and there are no more places for cores than for
-- jobs.
pub record IsDesk (places : List (Option Slot)) (cores : List (Option JobView)) : Type 0 where
  pub held : (i : ℕ) (s : Slot) → slot_at places i ≡ Some s
      → (core : JobView) × (core_at cores s.core ≡ Some core) × StandsBeside s.standing s.spent core
  pub used : (k : ℕ) (core : JobView) → core_at cores k ≡ Some core → HasSlot places k
  pub sound : (k : ℕ) (core : JobView) → core_at cores k ≡ Some core → core.ended ≢ Some Memory
  pub apart : (k l : ℕ) (a b : JobView) → core_at cores k ≡ Some a → core_at cores l ≡ Some b
      → a.bytes ≡ b.bytes → a.limit ≡ b.limit → k ≡ l
  pub few : length cores ≤ length places

-- the list with x at this place, and the others as they were
abbrev pub IsWith : {X : Type 0} → List (Option X) → ℕ → Option X → List (Option X) → Type 0
IsWith old place x new = (i : ℕ)
    → slice_index_or new i None ≡ (if place == i then x else slice_index_or old i None)

-- No job that hasn't ended for want of memory has these bytes and this limit and is as far.
abbrev pub NoneAsFarIn : List (Option JobView) → List ℕ → ℕ → ℕ → Type 0
NoneAsFarIn jobs bytes limit spent =
    (i : ℕ) (job : JobView) → slice_index_or jobs i None ≡ Some job → job.ended ≢ Some Memory
    → job.bytes ≡ bytes → job.limit ≡ limit → spent ≤ job.spent → ⊥

-- the job that was to work ended for want of memory
pub record IsStarvedAt (old : List (Option JobView)) (place : ℕ) (job : JobView) (units : ℕ)
    (new : List (Option JobView)) : Type 0 where
  pub going : job.ended ≡ None
  pub within : job.spent ≤ cost job.bytes job.limit
  pub first : NoneAsFarIn old job.bytes job.limit
      (min (job.spent + units) (cost job.bytes job.limit))
  pub jobs_are : IsWith old place (Some (out_of_memory job)) new

-- the jobs after that of this place worked
abbrev pub HaveWorked : List (Option JobView) → ℕ → Option JobView → ℕ → List (Option JobView)
    → Type 0
HaveWorked old place None units new = new ≡ old
HaveWorked old place (Some job) units new =
    IsWith old place (Some (worked cost verdict job units)) new
    ⊎ IsStarvedAt old place job units new

-- the slots of a client, by the numbers of its jobs
abbrev pub slot_of : List (Option Slot) → Option ℕ → Option Slot
slot_of places None = None
slot_of places (Some i) = slot_at places i

abbrev pub slots_of : List (Option Slot) → ℕ → ℕ → Option Slot
slots_of places client number = slot_of places (place_of client number)

-- core k has these bytes and this limit
abbrev pub IsCoreOf : List (Option JobView) → List ℕ → ℕ → ℕ → Type 0
IsCoreOf cores bytes limit k = (core : JobView) × (core_at cores k ≡ Some core)
    × (core.bytes ≡ bytes) × (core.limit ≡ limit)

abbrev pub HasNoCore : List (Option JobView) → List ℕ → ℕ → Type 0
HasNoCore cores bytes limit = (k : ℕ) (core : JobView) → core_at cores k ≡ Some core
    → core.bytes ≡ bytes → core.limit ≡ limit → ⊥

-- There are as many places for cores as before, or one more where none of them was vacant.
abbrev pub GrowsAtNeed : List (Option JobView) → List (Option JobView) → Type 0
GrowsAtNeed old new =
    (length new ≡ length old)
    ⊎ ((length new ≡ length old + 1) × ((k : ℕ) → k < length old → core_at old k ≢ None))

-- Core k is that of these bytes and this limit: the one that was there, or a new one where there
-- was none.
abbrev pub IsCoreFor : List (Option JobView) → List ℕ → ℕ → ℕ → List (Option JobView) → Type 0
IsCoreFor old bytes limit k new =
    (IsCoreOf old bytes limit k × (new ≡ old))
    ⊎ (HasNoCore old bytes limit × (core_at old k ≡ None)
    × IsWith old k (Some (fresh bytes limit)) new)
