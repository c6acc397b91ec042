use Rattle.std.proofs.Common.{◌≡◌, sym, ◌∙◌, refl, subst, arith, Bor, Option, Result, Ok, Err}
use Rattle.misere_theory.specs.Certificates.{Certificate}
use Rattle.answers.specs.ByteVerdicts.{ByteVerdict}
use Rattle.checker.specs.JobViews.{JobView}
use Rattle.desk.specs.Deeds.{Certifies, CertifiesBy}
use Rattle.desk.specs.Desks.{job_in, slot_at}
use Rattle.desk.specs.declared.reply.StepFault.{StepFault}
use Rattle.desk.specs.declared.reply.StepFault.TheVariants.{NotCertified}
use Rattle.desk.proofs.Ended.{ended_job, no_certificate}
use Rattle.desk.proofs.Gone.{core_within}
use Rattle.desk.proofs.jobs.certified_at.Given.{Over}
use Rattle.desk.proofs.jobs.certified_at.Goals as goal
use Rattle.desk.proofs.jobs.certified_at.Goals.{After-progress}

pub index-requires : goal.index-requires
index-requires g c =
    let len = c.args.cores.now.ok in
    omega (
      arith,
      core_within c.args.places.now c.args.cores.now.items c.args.place c.in-Some.slot
          c.requires.desk c.in-Some.is,
    )

-- what is certified of a job that has ended goes by what its core shows
certifies : (g : Over) (c : goal.After-progress g) (a : Option ByteVerdict)
    (r : Result (Bor Certificate) StepFault) → c.in-Some-index.core.ended ≡ a → CertifiesBy a r
    → Certifies (job_in c.args.cores.now.items (slot_at c.args.places.now c.args.place)) r
certifies g c a r shown by =
    let job =
    ended_job _ _ _ _ c.in-Some-index.core _ c.requires.desk c.in-Some.is c.in-Ended.is
    (sym c.index.ensures ∙ c.in-Some-index.is) in
    subst (λ (o : Option JobView). Certifies o r) (sym job.1)
    (subst (λ (b : Option ByteVerdict). CertifiesBy b r) (sym (job.2 ∙ shown)) by)

pub returns-in-Yes : goal.returns-in-Yes
returns-in-Yes g c =
    certifies g (goal.at.returns-in-Yes g c).After-progress _ (Ok c.in-Yes.certified)
    c.in-Yes.ensures.shown (c.in-Yes.certified, refl, refl)

pub returns-in-No : goal.returns-in-No
returns-in-No g c =
    certifies g (goal.at.returns-in-No g c).After-progress _ (Err NotCertified)
    c.in-No.ensures.shown (no_certificate c.in-No.field-0.now)

pub returns-in-Going : goal.returns-in-Going
returns-in-Going g c =
    certifies g (goal.at.returns-in-Going g c).After-progress _ (Err NotCertified)
    c.in-Going.ensures.shown refl
