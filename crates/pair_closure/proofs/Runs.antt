-- What the turns of a closure have reached.
-- A closure is as many turns from its start as it has spent, and one turn more is one more spent.
use Rattle.std.proofs.Common.{◌≡◌, ℕ, ◌+◌, ◌-◌, ◌*◌, ◌^◌, ◌<◌, ◌≤◌, false, List, length, get_or, sym, ap, ◌∙◌, subst, inl, inr, arith, ltb-true, ltb-false}
use Rattle.std.proofs.Math.Nat.{mul-le-mul}
use native.Mathlib.Decide.{dec_lt}
use Rattle.monoid_table.specs.Grids.{Grid}
use Rattle.monoid_table.specs.Tables.{IsTableGrid}
use Rattle.transition_algebra.specs.OverSets.{Pair}
use Rattle.transition_algebra.specs.Pairs.{IsPair, one}
use Rattle.pair_closure.specs.Turns.{State, SameData, start, has_ended, turn, turns}
use Rattle.pair_closure.specs.ClosureViews.{ClosureView, IsRun, moved}
use Rattle.pair_closure.specs.Calls.{IsLimited}
use Rattle.pair_closure.proofs.Machine.{Reached, of_run, kept_by_turns}
use Rattle.pair_closure.proofs.Running.{same_after, same_turns}
use Rattle.pair_closure.proofs.Calls.{cost_bound, cost_after, retaken_on}

same_start : (t : State) (table : Grid) (heaps : List Pair) (limit : ℕ)
    → SameData (start table heaps limit) t → start table heaps limit ≡ start t.table t.heaps t.limit
same_start t table heaps limit d = ap (λ z. start z heaps limit) (sym d.table)
    ∙ ap (λ z. start t.table z limit) (sym d.heaps) ∙ ap (λ z. start t.table t.heaps z)
    (sym d.limit)

pairs_in : (t q : Grid) (hs heaps : List Pair) → t ≡ q → hs ≡ heaps
    → ((k : ℕ) → k < length heaps → IsPair q.order (get_or heaps k one)) → (k : ℕ) → k < length hs
    → IsPair t.order (get_or hs k one)
pairs_in t q hs heaps a b h =
    subst (λ z. (k : ℕ) → k < length hs → IsPair z.order (get_or hs k one)) (sym a)
    (subst (λ z. (k : ℕ) → k < length z → IsPair q.order (get_or z k one)) (sym b) h)

pub reached_turns : (table : Grid) (heaps : List Pair) (limit n : ℕ) → IsTableGrid table
    → ((k : ℕ) → k < length heaps → IsPair table.order (get_or heaps k one))
    → Reached (turns n (start table heaps limit))
reached_turns table heaps limit n lawful inside =
    let t = turns n (start table heaps limit) in
    let d = same_turns n (start table heaps limit) in
    record {
      lawful = subst IsTableGrid (sym d.table) lawful;
      heaps_in = pairs_in _ _ _ _ d.table d.heaps inside;
      units = n;
      reached = ap (turns n) (same_start t table heaps limit d);
    }

kept_within : (s : State) → length s.members ≤ s.limit + 1 → IsLimited s
kept_within s h = record {
  within = λ b. ltb-false s.limit (length s.members) b;
  over = λ b. let more : s.limit < length s.members = ltb-true s.limit (length s.members) b in
      omega arith;
}

pub limited : (p : ClosureView) → IsRun p → IsLimited p.state
limited p r = elim (kept_by_turns p.state (of_run p r)) [
  | inl e ↦ (let none = ap (λ z. length z.members) e in kept_within p.state (omega arith))
  | inr v ↦ kept_within p.state v.within
]

pub spent_le : (p : ClosureView) → IsRun p → p.spent ≤ p.state.limit * length p.state.heaps + 2
spent_le p r =
    let s = p.state in
    let e = ap (λ z. z.spent) r.run in
    let most = cost_bound s.table s.heaps s.limit in
    elim (dec_lt (s.limit * length s.heaps + 2) p.spent) [
      | yes more ↦ (let all = (cost_after s.table s.heaps s.limit p.spent (omega arith)).0 in
          absurd (omega arith))
      | no less ↦ omega arith
    ]

product_le : (a b c d : ℕ) → a ≤ c → b ≤ d → a * b ≤ c * d
product_le a b c d h k = mul-le-mul h k

pub spent_fits : (p : ClosureView) → IsRun p → p.spent + 1 < 2 ^ 128
spent_fits p r =
    let h = spent_le p r in
    let short = r.short in
    let small = r.small in
    let k = product_le p.state.limit (length p.state.heaps) (2 ^ 32 - 1) (2 ^ 58 - 1) (omega arith)
    (omega arith) in
    omega arith

moved_run : (p : ClosureView) → IsRun p → has_ended p.state ≡ false → IsRun (moved p)
moved_run p r going =
    let d = same_after p.state in
    record {
      lawful = subst IsTableGrid (sym d.table) r.lawful;
      heaps_in = pairs_in _ _ _ _ d.table d.heaps r.heaps_in;
      short = subst (λ z. length z < 2 ^ 58) (sym d.heaps) r.short;
      small = subst (λ z. z < 2 ^ 32) (sym d.limit) r.small;
      run = retaken_on p r.run going;
    }

-- one turn more
pub next_run : (p : ClosureView) (t : State) → IsRun p → has_ended p.state ≡ false → t ≡ turn p.state
    → IsRun (record { state = t; spent = p.spent + 1; failed = p.failed })
next_run p t r going e =
    subst (λ z. IsRun (record { state = z; spent = p.spent + 1; failed = p.failed })) (sym e)
    (moved_run p r going)
