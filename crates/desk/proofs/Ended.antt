-- A job whose core has ended.
-- What is replied is the core's answer, and a refusal gives no certificate.
use Rattle.std.proofs.Common.{◌≡◌, ℕ, List, Option, Some, None, refl, sym, ◌∙◌, ap, subst, get_or, Err}
use Rattle.answers.specs.ByteVerdicts.{refused}
use Rattle.answers.specs.declared.refusal.Refusal.{Refusal}
use Rattle.answers.specs.declared.refusal.Refusal.TheVariants as refusing
use Rattle.check_machine.specs.Turns.{cost, verdict}
use Rattle.checker.specs.JobViews.{JobView}
use Rattle.desk.specs.declared.slot.Slot.{Slot}
use Rattle.desk.specs.declared.slot.Standing.{Standing}
use Rattle.desk.specs.declared.slot.Standing.TheVariants.{Ended}
use Rattle.desk.specs.Slots.{ending, job_of, StandsBeside}
use Rattle.desk.specs.Deeds.{CertifiesBy}
use Rattle.desk.specs.declared.reply.StepFault.TheVariants as fault
use Rattle.desk.specs.Desks.{core_at, slot_at, seen, job_in, IsDesk}
use Rattle.desk.proofs.Gone.{core_found}

pub ended_job : (places : List (Option Slot)) (cores : List (Option JobView)) (i : ℕ) (s : Slot)
    (core : JobView) (d : Option JobView)
    → IsDesk places cores → get_or places i None ≡ Some s → s.standing ≡ Ended
    → get_or cores s.core d ≡ Some core
    → (job : JobView) × (job_in cores (slot_at places i) ≡ Some job) × (job.ended ≡ core.ended)
ended_job places cores i s core d desk at ends found =
    let held = desk.held i s at in
    let here : core_at cores s.core ≡ Some core = core_found places cores i s core d desk at found
    in
    let is : held.0 ≡ core = cc in
    let stands : (s.spent ≡ cost held.0.bytes held.0.limit)
    × (held.0.ended ≡ Some (verdict held.0.bytes held.0.limit)) =
    subst (λ (x : Standing). StandsBeside x s.spent held.0) ends held.2 in
    let e : core.ended ≡ Some (verdict core.bytes core.limit) =
    subst (λ (c : JobView). c.ended ≡ Some (verdict c.bytes c.limit)) is stands.1 in (
      job_of core s,
      ap (job_in cores) at ∙ ap (λ c. seen c s) here,
      ap (λ x. ending x (verdict core.bytes core.limit)) ends ∙ sym e,
    )

pub no_certificate : {A : Type 0} (r : Refusal A)
    → CertifiesBy (Some (refused r)) (Err fault.NotCertified)
no_certificate refusing.Text = refl
no_certificate other = refl
