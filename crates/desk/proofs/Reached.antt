-- A job goes on as far as its core has come, or less far.
use Rattle.std.proofs.Common.{◌≡◌, ◌≢◌, ℕ, Option, Some, None, refl, ap, inl, inr}
use Rattle.answers.specs.ByteVerdicts.{ByteVerdict}
use Rattle.answers.specs.ByteVerdicts.ByteVerdict.{Memory}
use Rattle.checker.specs.JobViews.{JobView, IsDueAt}
use Rattle.check_machine.specs.Turns.{cost, verdict}
use Rattle.desk.specs.declared.slot.Slot.{Slot}

module _ (old : JobView) (slot after : Slot) (units target : ℕ) where
  job : ℕ → Option ByteVerdict → JobView
  job spent ended = record {
    bytes = old.bytes;
    limit = old.limit;
    spent = spent;
    ended = ended;
  }

  -- a core that has ended has its verdict, and all that it costs was spent
  pub is_over : (o : Option ByteVerdict) → o ≢ Some Memory → o ≢ None
      → IsDueAt old.bytes old.limit old.spent o
      → (o ≡ Some (verdict old.bytes old.limit)) × (old.spent ≡ cost old.bytes old.limit)
  is_over None sound done due = absurd (done refl)
  is_over (Some a) sound done (inl e) = (ap Some e.1, e.0)
  is_over (Some a) sound done (inr e) = absurd (sound (ap Some e.0))
