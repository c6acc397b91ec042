-- What the turns of a closure come to. This project's own.
use Rattle.std.specs.Prelude.{◌≡◌, ℕ, ◌-◌, ◌<◌, List, false, length, slice_index_or, Result, Ok, Err}
use Rattle.std.specs.FinSet as set
use Rattle.std.specs.Ordering.{nat_cmp}
use Rattle.misere_theory.specs.Certificates.{Certificate}
use Rattle.allocation.specs.declared.Memory.{Memory}
use Rattle.pair_closure.specs.ClosureViews.{ClosureView, State, blank_held, has_ended}
use Rattle.pair_closure.specs.Positions.{IsClosedOver, rising, word}
use Rattle.answers.specs.Portions.{IsPortion}
use Rattle.answers.specs.ByteVerdicts.ByteVerdict.{Yes, Outcome, Limit}
use Rattle.check_machine.specs.Rules.{Breaks, HeldObey}
use Rattle.check_machine.specs.Turns.{Phase, Runs}
use Rattle.check_machine.specs.Turns.Phase.{Closing, Ended}
use Rattle.checker.specs.declared.closing.Looked.{Looked}
use Rattle.checker.specs.declared.closing.Looked.TheVariants.{More, Done, Over, Broken}

-- Of `before` units `after` are left, and the others were turns, from this closure on, to this
-- phase, whatever certificate of this portion is under test.
abbrev pub Closes : set.FinSet nat_cmp → ClosureView → ℕ → ℕ → (Certificate → Phase) → Type 0
Closes inside p before after to =
    (c : Certificate) → IsPortion c inside → (bytes : List ℕ) (limit : ℕ)
    → Runs bytes limit (Closing (record { certificate = c; closure = p })) before after (to c)

-- What it means that the closing of the closure p has come so far with the closure q:
--   more: no unit is left, no member held breaks the rule, and a turn is left to take;
--   done: the members held cover every position, each obeys the rule, and the answer is yes;
--   over: the answer is the limit;
--   broken: a member is held at this place, and its position is the answer;
--   want of memory: the turns have come somewhere.
abbrev pub HasClosed : set.FinSet nat_cmp → ClosureView → ℕ → ℕ → ClosureView → Result Looked Memory
    → Type 0
HasClosed inside p before after q (Ok More) =
    (after ≡ 0) × HeldObey inside q.state.held × (has_ended q.state ≡ false) × (q.failed ≡ false)
    × Closes inside p before after (λ c. Closing (record { certificate = c; closure = q }))
HasClosed inside p before after q (Ok Done) =
    IsClosedOver q.state × HeldObey inside q.state.held
    × Closes inside p before after (λ c. Ended (Yes c))
HasClosed inside p before after q (Ok Over) = Closes inside p before after (λ c. Ended Limit)
HasClosed inside p before after q (Ok (Broken i)) =
    (i < length q.state.held) × Closes inside p before after
    (λ c. Ended
    (Outcome c.code (rising (word q.state (slice_index_or q.state.held i blank_held).place))))
HasClosed inside p before after q (Err m) =
    (to : Certificate → Phase) × Closes inside p before after to

-- More members were kept than so many, and this one, which is held last, breaks the rule.
pub record IsBroken (inside : set.FinSet nat_cmp) (s : State) (ever i : ℕ) : Type 0 where
  pub more : ever < length s.members
  pub held : i < length s.held
  pub last : length s.held - 1 ≡ i
  pub breaks : Breaks inside (slice_index_or s.held i blank_held).pair
