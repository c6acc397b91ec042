-- Jobs as their callers see them.
use Rattle.std.specs.Prelude.{◌≡◌, ◌≢◌, ◌⊎◌, ℕ, ◌+◌, ◌^◌, ◌<◌, ◌≤◌, List, Option, Some, None}
use Rattle.answers.specs.ByteVerdicts.{ByteVerdict, IsTrueOf}
use Rattle.answers.specs.ByteVerdicts.ByteVerdict.{Memory}
use Rattle.check_machine.specs.Bounds.{AreWithinBound}
use Rattle.check_machine.specs.Turns.{cost, verdict}

-- The bytes and the limit that a job was opened with, the units spent so far, and the answer, once
-- it has ended.
pub record JobView : Type 0 where
  pub bytes : List ℕ
  pub limit : ℕ
  pub spent : ℕ
  pub ended : Option ByteVerdict

-- the answer is true of the bytes
abbrev pub IsEnding : List ℕ → ℕ → Option ByteVerdict → Type 0
IsEnding bytes limit None = Unit {0}
IsEnding bytes limit (Some a) = IsTrueOf bytes limit a

abbrev pub IsTruthful : JobView → Type 0
IsTruthful j = IsEnding j.bytes j.limit j.ended

-- While a check goes on, less is spent than it costs. Once it has ended, all that it costs was
-- spent, and the answer is its verdict, unless memory was refused: then no more was spent.
abbrev pub IsDueAt : List ℕ → ℕ → ℕ → Option ByteVerdict → Type 0
IsDueAt bytes limit spent None = spent < cost bytes limit
IsDueAt bytes limit spent (Some a) = ((spent ≡ cost bytes limit) × (a ≡ verdict bytes limit))
    ⊎ ((a ≡ Memory) × (spent ≤ cost bytes limit))

-- What a job has spent, and how it ended, are functions of its bytes and limit and of the units
-- that it was given.
abbrev pub IsDue : JobView → Type 0
IsDue j = IsDueAt j.bytes j.limit j.spent j.ended

-- A job has spent no more units than the bound, and while it goes on fewer.
pub record IsBounded (j : JobView) : Type 0 where
  pub spent : AreWithinBound j.bytes j.limit j.spent
  pub going : j.ended ≡ None → AreWithinBound j.bytes j.limit (j.spent + 1)

-- A job after some units more. It has the same bytes and limit. Where it had ended, or there was no
-- unit, it is unchanged; and while it goes on it has spent each of them, and fewer than 2 ^ 52 in
-- all.
pub record HasAdvanced (units : ℕ) (old new : JobView) : Type 0 where
  pub bytes : new.bytes ≡ old.bytes
  pub limit : new.limit ≡ old.limit
  pub ended : old.ended ≢ None → new ≡ old
  pub idle : units ≡ 0 → new ≡ old
  pub spent : (old.spent ≤ new.spent) × (new.spent ≤ old.spent + units)
  pub going : new.ended ≡ None → (new.spent ≡ old.spent + units) × (new.spent < 2 ^ 52)
