use Rattle.std.proofs.Common.{sym, subst}
use Rattle.transition_algebra.specs.Trials.{IsTrial}
use Rattle.transition_algebra.proofs.heap_job.HeapJob.new.Goals as goal

pub invariant_of-result : goal.invariant_of-result
invariant_of-result g c = (
  c.requires.fits,
  c.requires.into,
  subst (IsTrial c.args.code c.args.table c.args.phi c.new-trial.result)
      (sym c.new.ensures.items) (c.new-trial.ensures.trial c.args.table),
  c.new-2.ensures c.args.table c.args.phi,
)
