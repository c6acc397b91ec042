-- What a job has spent is within the bound of all that a check takes.
-- By cases of its answer.
use Rattle.std.proofs.Common.{◌≡◌, ◌+◌, ◌≤◌, Option, Some, None, inl, inr, arith}
use Rattle.answers.specs.ByteVerdicts.{ByteVerdict}
use Rattle.check_machine.specs.Bounds.{AreWithinBound}
use Rattle.check_machine.specs.Turns.{cost}
use Rattle.checker.specs.JobViews.{JobView, IsDue, IsDueAt, IsBounded}
use Rattle.check_machine.proofs.BoundLaws.{fewer_within}

-- what is due is within the bound of all
pub due_bounded : (j : JobView) → AreWithinBound j.bytes j.limit (cost j.bytes j.limit)
    → IsDue j → IsBounded j
due_bounded j w due = record {
  spent = fewer_within j.bytes j.limit _ _ (no_more j.ended due) w;
  going = λ e. fewer_within j.bytes j.limit _ _ (fewer j.ended due e) w;
}
  where
    no_more : (a : Option ByteVerdict) → IsDueAt j.bytes j.limit j.spent a
        → j.spent ≤ cost j.bytes j.limit
    no_more None d = omega arith
    no_more (Some a) d = elim d [
      | inl x ↦ (let e = x.0 in omega arith)
      | inr x ↦ x.1
    ]

    fewer : (a : Option ByteVerdict) → IsDueAt j.bytes j.limit j.spent a → a ≡ None
        → j.spent + 1 ≤ cost j.bytes j.limit
    fewer None d e = omega arith
    fewer (Some a) d e = absurd (cc)
