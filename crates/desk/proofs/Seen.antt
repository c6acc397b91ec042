-- Jobs that are seen: each is a slot beside its core.
use Rattle.std.proofs.Common.{◌≡◌, ℕ, List, Option, Some, None, refl, sym, ◌∙◌, get_or}
use Rattle.std.proofs.Math.ListN.{get_or-map as get-map}
use Rattle.checker.specs.JobViews.{JobView}
use Rattle.desk.specs.declared.slot.Slot.{Slot}
use Rattle.desk.specs.Slots.{job_of}
use Rattle.desk.specs.Desks.{core_at, slot_at, seen, job_in, jobs_in}

pub job_at_place : (places : List (Option Slot)) (cores : List (Option JobView)) (i : ℕ)
    → get_or (jobs_in places cores) i None ≡ job_in cores (slot_at places i)
job_at_place places cores i = get-map (job_in cores) places i None

-- a job that is seen is that of a slot and its core
pub record IsSeen (places : List (Option Slot)) (cores : List (Option JobView)) (i : ℕ)
    (job : JobView) : Type 0 where
  pub slot : Slot
  pub core : JobView
  pub slot_is : slot_at places i ≡ Some slot
  pub core_is : core_at cores slot.core ≡ Some core
  pub job_is : job ≡ job_of core slot

module _ (places : List (Option Slot)) (cores : List (Option JobView)) (i : ℕ) (job : JobView) where
  core_case : (t : Slot) → slot_at places i ≡ Some t → (o : Option JobView)
      → core_at cores t.core ≡ o → seen o t ≡ Some job → IsSeen places cores i job
  core_case t is None at e = absurd (cc)
  core_case t is (Some core) at e =
      record { slot = t; core = core; slot_is = is; core_is = at; job_is = cc }

  slot_case : (s : Option Slot) → slot_at places i ≡ s → job_in cores s ≡ Some job
      → IsSeen places cores i job
  slot_case None is e = absurd (cc)
  slot_case (Some t) is e = core_case t is (core_at cores t.core) refl e

  pub is_seen : get_or (jobs_in places cores) i None ≡ Some job → IsSeen places cores i job
  is_seen e = slot_case (slot_at places i) refl (sym (job_at_place places cores i) ∙ e)
