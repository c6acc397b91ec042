-- The rule at each member as it is kept.
-- A turn keeps one member at most, so that who looks at the last each time has looked at all.
use Rattle.std.proofs.Common.{◌≡◌, ℕ, ◌-◌, ◌<◌, Bool, true, List, length, get_or, subst, sym, inl, inr, IsTrue}
use Rattle.std.specs.FinSet as set
use Rattle.std.specs.Ordering.{nat_cmp}
use Rattle.transition_algebra.specs.OverSets.{Pair}
use Rattle.pair_closure.specs.OverSets.{Held}
use Rattle.pair_closure.specs.ClosureViews.{blank_held}
use Rattle.pair_closure.specs.Turns.{State}
use Rattle.pair_closure.specs.Keeping.{KeepsOne}
use Rattle.check_machine.specs.Rules.{Obeys, HeldObey}

-- where the last member held obeys, if one was kept, all do
pub held_obey : (inside : set.FinSet nat_cmp) (s t : State) → KeepsOne s t → HeldObey inside s.held
    → (length s.members < length t.members
    → Obeys inside (get_or t.held (length t.held - 1) blank_held).pair) → HeldObey inside t.held
held_obey inside s t k all last i l = elim (k.held i l) [
  | inl (j, b, e) ↦ subst (Obeys inside) e (all j b)
  | inr (more, e) ↦ subst (Obeys inside) (sym e) (last more)
]

-- the one looked at is the last
pub last_obeys : (inside : set.FinSet nat_cmp) (held : List Held) (n : ℕ) (p : Pair) (b : Bool)
    → n ≡ length held → p ≡ (get_or held (n - 1) blank_held).pair → b ≡ true
    → (IsTrue b → Obeys inside p)
    → Obeys inside (get_or held (length held - 1) blank_held).pair
last_obeys inside held n p b e f t obeyed =
    subst (λ k. Obeys inside (get_or held (k - 1) blank_held).pair) e
    (subst (Obeys inside) f (obeyed t))
