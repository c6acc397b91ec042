-- Turns one after another.
-- By induction on their number.
use Rattle.std.proofs.Common.{◌≡◌, ℕ, zero, suc, ◌+◌, ◌-◌, ◌≤◌, Bool, true, false, cond, List, [], ◌∷◌, ◌++◌, length, length-append, get_or, refl, sym, ap, ◌∙◌, arith}
use Rattle.transition_algebra.specs.Pairs.{one}
use Rattle.pair_closure.specs.OverSets.{Member}
use Rattle.pair_closure.specs.OverSets.{Held}
use Rattle.pair_closure.specs.OverSets.{Generator}
use Rattle.pair_closure.specs.Turns.{State, SameData, covered, has_ended, turn, turns}
use Rattle.pair_closure.specs.ClosureViews.{ClosureView, moved, step, steps, stopped}
use Rattle.std.proofs.lemmas.Bool.{cond_both, cond-true, cond-false}
use Rattle.pair_closure.proofs.WhichTurn.{product_at, by_turn, stays_put}

pub same_after : (s : State) → SameData s (turn s)
same_after s = by_turn (SameData s) s (λ _. same) (λ _. same) (λ at k. same) (λ _. same)
  where
    same : {members : List Member} {held : List Held} {gens : List Generator} {next : ℕ}
        → SameData s
        (record s { members = members; held = held; generators = gens; next = next })
    same = record { table = refl; heaps = refl; limit = refl }

pub same_turns : (n : ℕ) (s : State) → SameData s (turns n s)
same_turns zero s = record { table = refl; heaps = refl; limit = refl }
same_turns (suc n) s =
    let a = same_turns n s in
    let b = same_after (turns n s) in
    record { table = b.table ∙ a.table; heaps = b.heaps ∙ a.heaps; limit = b.limit ∙ a.limit }

pub steps_add : (m n : ℕ) (p : ClosureView) → steps (m + n) p ≡ steps n (steps m p)
steps_add m zero p = let q : m + 0 ≡ m = omega arith in ap (λ k. steps k p) q
steps_add m (suc n) p = let q : m + suc n ≡ suc (m + n) = omega arith in
    ap (λ k. steps k p) q ∙ ap step (steps_add m n p)

pub step_stays : (p : ClosureView) → has_ended p.state ≡ true → step p ≡ p
step_stays p e = cond-true (has_ended p.state) p (moved p) e

pub step_moves : (p : ClosureView) → has_ended p.state ≡ false → moved p ≡ step p
step_moves p e = sym (cond-false (has_ended p.state) p (moved p) e)

steps_stay : (n : ℕ) (p : ClosureView) → has_ended p.state ≡ true → steps n p ≡ p
steps_stay zero p e = refl
steps_stay (suc n) p e = ap step (steps_stay n p e) ∙ step_stays p e

-- turns past the end change nothing
pub ended_steps : (m n : ℕ) (p q : ClosureView) → q ≡ steps m p → m ≤ n → has_ended q.state ≡ true
    → q ≡ steps n p
ended_steps m n p q e l d =
    let k : m + (n - m) ≡ n = omega arith in
    sym (steps_stay (n - m) q d) ∙ ap (steps (n - m)) e ∙ sym (steps_add m (n - m) p)
    ∙ ap (λ j. steps j p) k

pub same_steps : (n : ℕ) (p : ClosureView) → SameData p.state (steps n p).state
same_steps zero p = record { table = refl; heaps = refl; limit = refl }
same_steps (suc n) p =
    let a = same_steps n p in
    let q = steps n p in
    cond_both (has_ended q.state) q (moved q) (λ z. SameData p.state z.state) (λ _. a)
    (λ _. let b = same_after q.state in
    record { table = b.table ∙ a.table; heaps = b.heaps ∙ a.heaps; limit = b.limit ∙ a.limit })

-- the same turns, of the state alone
pub state_steps : (n : ℕ) (p : ClosureView) → (steps n p).state ≡ turns n p.state
state_steps zero p = refl
state_steps (suc n) p =
    let q = steps n p in
    cond_both (has_ended q.state) q (moved q) (λ z. z.state ≡ turns (suc n) p.state)
    (λ e. sym (stays_put q.state e) ∙ ap turn (state_steps n p))
    (λ _. ap turn (state_steps n p))

-- one turn keeps one member more at most
abbrev OneMore : State → State → Type 0
OneMore s t = length t.members ≤ length s.members + 1

few_after : (s : State) → OneMore s (turn s)
few_after s =
    by_turn (OneMore s) s (λ _. omega arith) (λ _. at_most false _)
    (λ at k. at_most (covered s.held (product_at s at)) _)
    (λ _. at_most (covered s.held (get_or s.heaps s.next one)) _)
  where
    at_most : (b : Bool) (m : Member) → length (cond b s.members (s.members ++ m ∷ []))
        ≤ length s.members + 1
    at_most true m = omega arith
    at_most false m = omega (arith, length-append s.members (m ∷ []))

pub few_steps : (n : ℕ) (p : ClosureView)
    → length (steps n p).state.members ≤ length p.state.members + n
few_steps zero p = omega arith
few_steps (suc n) p =
    let a = few_steps n p in
    let q = steps n p in
    cond_both (has_ended q.state) q (moved q)
    (λ z. length z.state.members ≤ length p.state.members + suc n) (λ _. omega arith)
    (λ _. let b = few_after q.state in omega arith)
