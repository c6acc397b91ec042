-- A letter of its own for each letter that runs on.
use Rattle.std.proofs.Common.{◌≡◌, ◌≢◌, ℕ, ◌<◌, ◌≤◌, ◌⊎◌, inl, inr, List, length, arith}
use Rattle.std.specs.Prelude.{slice_index}
use Rattle.std.proofs.lemmas.Bool.{cases_lt}
use Rattle.presented_claims.specs.Folds.{at_letter}
use Rattle.presented_claims.specs.Led.{RunsOn}
use Rattle.class_tables.specs.Leads.{Led, turn_of}
use Rattle.class_tables.specs.Separated.{HaveOwn}

module _ (folds : List (ℕ × ℕ)) (a : List ℕ) (one : Led) (have : HaveOwn folds a one) where
  abbrev Known : ℕ → Type 0
  Known j = (j < length folds) ⊎ (length folds ≤ j)

  abbrev Large : ℕ → Type 0
  Large j = (slice_index a j < (at_letter folds j).0) ⊎ ((at_letter folds j).0 ≤ slice_index a j)

  abbrev own-by : (j : ℕ) → Known j → Large j → ℕ
  own-by j (inl lt) (inr le) = (have j (lt, le)).own
  own-by j (inl lt) (inl less) = 0
  own-by j (inr past) d = 0

  abbrev pub own : ℕ → ℕ
  own j = own-by j (cases_lt j (length folds)) (cases_lt (slice_index a j) (at_letter folds j).0)

  some-by : (j : ℕ) → RunsOn folds a j → (k : Known j) (d : Large j) → 0 < slice_index (turn_of one j) (own-by j k d)
  some-by j run (inl lt) (inr le) = (have j (lt, le)).some
  some-by j run (inl lt) (inl less) = absurd (let h = run.1 in omega (arith, h, less))
  some-by j run (inr past) d = absurd (let h = run.0 in omega (arith, h, past))

  pub own-some : (j : ℕ) → RunsOn folds a j → 0 < slice_index (turn_of one j) (own j)
  own-some j run = some-by j run (cases_lt j (length folds)) (cases_lt (slice_index a j) (at_letter folds j).0)

  alone-by : (i j : ℕ) → RunsOn folds a i → RunsOn folds a j → i ≢ j → (k : Known i) (d : Large i)
      → slice_index (turn_of one j) (own-by i k d) ≡ 0
  alone-by i j run other differ (inl lt) (inr le) = (have i (lt, le)).alone j other differ
  alone-by i j run other differ (inl lt) (inl less) = absurd (let h = run.1 in omega (arith, h, less))
  alone-by i j run other differ (inr past) d = absurd (let h = run.0 in omega (arith, h, past))

  pub own-alone : (i j : ℕ) → RunsOn folds a i → RunsOn folds a j → i ≢ j → slice_index (turn_of one j) (own i) ≡ 0
  own-alone i j run other differ =
      alone-by i j run other differ (cases_lt i (length folds)) (cases_lt (slice_index a i) (at_letter folds i).0)
