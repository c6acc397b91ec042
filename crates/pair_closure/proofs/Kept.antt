-- Where nothing was written, what held holds.
use Rattle.std.proofs.Common.{◌≡◌, ◌∙◌, ℕ, Bool, true, false, cond, List, length, sym, ap}
use Rattle.std.proofs.lemmas.Bool.{or_left, or_right}
use Rattle.monoid_table.specs.Grids.{Grid}
use Rattle.transition_algebra.specs.OverSets.{Pair}
use Rattle.pair_closure.specs.OverSets.{Member, Held, Generator}
use Rattle.pair_closure.specs.ClosureViews.{ClosureView, State, closure_view, IsRun, NoneBefore, has_ended, is_done, is_over, moved, step}

pub kept : (t : Grid) (p : List Pair) (l : ℕ) (m n : List Member) (h i : List Held)
    (g k : List Generator) (next spent from : ℕ) (f : Bool) → n ≡ m → i ≡ h → k ≡ g
    → IsRun (closure_view t p l m h g next spent f) × NoneBefore h (length g) from
    → IsRun (closure_view t p l n i k next spent f) × NoneBefore i (length k) from
kept t p l m n h i g k next spent from f a b c is = rw (a, b, c) is

-- a turn that is left is a step
pub stepped : (p q : ClosureView) → has_ended p.state ≡ false → q ≡ moved p → q ≡ step p
stepped p q e m = m ∙ sym (ap (λ b. cond b p (moved p)) e)

-- and past the end there is none
pub stays : (p : ClosureView) → has_ended p.state ≡ true → p ≡ step p
stays p e = sym (ap (λ b. cond b p (moved p)) e)

pub ended_done : (s : State) → is_done s ≡ true → has_ended s ≡ true
ended_done s e = or_right (is_over s) (is_done s) e

pub ended_over : (s : State) → is_over s ≡ true → has_ended s ≡ true
ended_over s e = or_left (is_over s) (is_done s) e
