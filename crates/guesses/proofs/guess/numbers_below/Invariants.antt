use Rattle.std.proofs.Common.{◌≡◌, ◌<◌, length, All}
use Rattle.guesses.proofs.guess.numbers_below.Given as goal

abbrev pub invariant-loop-place : goal.invariant-loop-place
invariant-loop-place g l = (length l.numbers.items ≡ l.place)
    × All (λ x. x < l.order) l.numbers.items
