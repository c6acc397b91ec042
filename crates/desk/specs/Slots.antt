-- What a slot says of a job, beside its core.
use Rattle.std.specs.Prelude.{◌≡◌, ◌≢◌, ◌⊎◌, ℕ, ◌+◌, ◌<◌, ◌≤◌, List, Option, Some, None, slice_index_or, min}
use Rattle.answers.specs.ByteVerdicts.{ByteVerdict}
use Rattle.answers.specs.ByteVerdicts.ByteVerdict.{Memory}
use Rattle.checker.specs.JobViews.{JobView}
use Rattle.check_machine.specs.Turns.{cost, verdict}
use Rattle.desk.specs.declared.slot.Slot.{Slot}
use Rattle.desk.specs.declared.slot.Standing.{Standing}
use Rattle.desk.specs.declared.slot.Standing.TheVariants.{Going, Ended, OutOfMemory}
use Rattle.desk.specs.Machine.{worked}

abbrev pub ending : Standing → ByteVerdict → Option ByteVerdict
ending Going answer = None
ending Ended answer = Some answer
ending OutOfMemory answer = Some Memory

-- where a job stands that has come as far as its core, which has this ending
abbrev pub standing_of : Option ByteVerdict → Standing
standing_of None = Going
standing_of (Some Memory) = OutOfMemory
standing_of (Some other) = Ended

-- the job of a slot whose core was opened with these bytes and this limit
abbrev pub job_of : JobView → Slot → JobView
job_of core s =
    record {
      bytes = core.bytes;
      limit = core.limit;
      spent = s.spent;
      ended = ending s.standing (verdict core.bytes core.limit);
    }

-- The slot stands beside its core: a job that goes on has spent less than it costs, one that has
-- ended all, and then so has the core.
abbrev pub StandsBeside : Standing → ℕ → JobView → Type 0
StandsBeside Going spent core = spent < cost core.bytes core.limit
StandsBeside Ended spent core = (spent ≡ cost core.bytes core.limit)
    × (core.ended ≡ Some (verdict core.bytes core.limit))
StandsBeside OutOfMemory spent core = spent ≤ cost core.bytes core.limit

-- no job of the core that memory wasn't wanting to has spent more, and one has spent so many, if
-- any
pub record IsFurthest (places : List (Option Slot)) (core most : ℕ) : Type 0 where
  pub above : (i : ℕ) (s : Slot) → slice_index_or places i None ≡ Some s → s.core ≡ core
      → s.standing ≢ OutOfMemory → s.spent ≤ most
  pub reached : (most ≡ 0)
      ⊎ ((i : ℕ) × (s : Slot) × (slice_index_or places i None ≡ Some s) × (s.core ≡ core)
      × (s.standing ≢ OutOfMemory) × (s.spent ≡ most))

-- The core after a slot of it has gone on, and the slot: the core goes no further than the slot's
-- units reach.
pub record HasGoneOn (old : JobView) (furthest : ℕ) (slot : Slot) (units : ℕ) (new : JobView)
    (after : Slot) : Type 0 where
  pub bytes : new.bytes ≡ old.bytes
  pub limit : new.limit ≡ old.limit
  pub sound : new.ended ≢ Some Memory
  pub ended : old.ended ≢ None → new ≡ old
  pub turns : (new ≡ old) ⊎ (new.spent ≤ slot.spent + units)
  pub core : after.core ≡ slot.core
  pub stands : StandsBeside after.standing after.spent new
  pub gone : (job_of new after ≡ worked cost verdict (job_of old slot) units)
      ⊎ ((after.standing ≡ OutOfMemory) × (after.spent ≡ slot.spent)
      × (furthest < min (slot.spent + units) (cost old.bytes old.limit)))
