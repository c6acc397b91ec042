-- When all turns were made, how many they are, and however they are cut.
-- A trial is what the turns that it has spent make: no turn is left exactly where no heap is.
use Rattle.std.proofs.Common.{◌≡◌, ℕ, ◌+◌, ◌-◌, ◌*◌, ◌<◌, ◌≤◌, ◌↔◌, ◌⊎◌, inl, inr, min, List, [], length, sym, ◌∙◌, ap₂, subst, arith}
use Rattle.std.specs.Prelude.{Result, Ok, Err, OnErr}
use Rattle.std.specs.FinSet as set
use Rattle.std.specs.Ordering.{nat_cmp}
use native.Mathlib.Decide.{dec_le}
use Rattle.misere_theory.specs.Games.{IsCode}
use Rattle.misere_theory.specs.Quotients.{Monoid}
use Rattle.monoid_table.specs.Grids.{Grid, times_in}
use Rattle.heap_options.specs.Walks.{begun, stages, stages_left}
use Rattle.heap_options.specs.declared.walk.Untried.{Untried}
use Rattle.heap_options.specs.declared.walk.Untried.TheVariants.{Everything, Splits, Triples}
use Rattle.heap_options.specs.declared.walk.Walk.{Walk}
use Rattle.monoid_table.specs.Pretending.{Pretending, IsPretending}
use Rattle.monoid_table.specs.PretendingTables.{IsInto}
use Rattle.transition_algebra.specs.Heaps.{bound_of, largest_part}
use Rattle.transition_algebra.specs.Work.{opening, heap_cost, most_turns, HeapWork, IsDone, worked}
use Rattle.transition_algebra.specs.Trials.{with_left, IsTrial}
use Rattle.transition_algebra.specs.OverSets.{Pair, Trial}
use Rattle.transition_algebra.proofs.Cost.{two_digits, cost_short, cost_small}
use Rattle.transition_algebra.proofs.Steps.{AreFirstHeapPairs}
use Rattle.transition_algebra.proofs.Turning.{no_turn}
use Rattle.transition_algebra.proofs.Ready.{stands_now}
use Rattle.transition_algebra.proofs.Running.{room, all_spent}
use Rattle.transition_algebra.proofs.HeapRuns.{all_to_come}

-- all turns were made exactly where no heap is left
pub done_over : (code : List ℕ) (table : Grid) (phi : Pretending) (t : Trial) (pairs : List Pair)
    → IsTrial code table phi t pairs → (t.bound < t.walk.heap) ↔ (t.spent ≡ heap_cost code phi)
done_over code table phi t pairs is =
    let b = is.bound_is in (
      λ l. all_spent code table phi t pairs is (omega arith),
      λ e. elim (dec_le t.walk.heap (bound_of code phi)) [
        | no h ↦ omega arith
        | yes h ↦ absurd (let r = room code table phi t pairs is h in omega arith)
      ],
    )

-- then the pairs are those of all heaps up to the bound
pub finished : (code : List ℕ) (table : Grid) → Monoid table.order (times_in table)
    → (phi : Pretending) → IsPretending phi → IsInto table phi → (t : Trial) (pairs : List Pair)
    → IsTrial code table phi t pairs → t.spent ≡ heap_cost code phi
    → AreFirstHeapPairs code table phi (bound_of code phi) pairs
finished code table monoid phi pretending into t pairs is done =
    let s = stands_now code table monoid phi pretending into t pairs is in
    let over = (done_over code table phi t pairs is).1 done in
    let e : t.walk.heap - 1 ≡ bound_of code phi = let a = s.at_most in let b = is.bound_is in
    omega arith
    in
    subst (λ B. AreFirstHeapPairs code table phi B pairs) e s.made

-- enough units for all turns
pub all_units : (code : List ℕ) (phi : Pretending) (a s : ℕ) → IsCode code → IsPretending phi
    → s ≡ min (a + 18446744073709551615) (heap_cost code phi) → s ≡ heap_cost code phi
all_units code phi a s octal pretending e =
    let few = cost_small code phi octal pretending in
    omega arith

-- nothing tried yet
pub new_trial : (code : List ℕ) (table : Grid) (phi : Pretending) (b m : ℕ) (w : Walk)
    (seen : set.FinSet nat_cmp) → b ≡ bound_of code phi → 1 ≤ b → m ≡ largest_part phi → w ≡ begun 1 m
    → seen ≡ set.empty
    → IsTrial code table phi (record { bound = b; walk = w; seen = seen; spent = 0 }) []
unfolding with_left
new_trial code table phi b m w seen bound some most at_first none =
    subst (λ v. IsTrial code table phi (record { bound = b; walk = v; seen = seen; spent = 0 }) [])
    (sym at_first) (record {
      bound_is = bound;
      some = some;
      most_is = most;
      away_in = omega arith;
      untried_in = tt;
      within = omega arith;
      reached =
          ap₂ (λ xs s. record { heap = 1; coming = xs; seen = s; pairs = [] })
          (all_to_come code table phi 1) none
          ∙ no_turn code table phi (opening code phi);
    })

-- a turn costs at least what the measure of stages gains
pub measure_falls : (n r a s t : ℕ) → r ≤ n → s ≤ 262144 → t ≤ 262144
    → (1 ≤ r) ⊎ (t < s) → a ≡ n - r → 1000000 * a + t < 1000000 * n + s
measure_falls n r a s t l few few_too falls e = elim falls [
  | inl some ↦ omega arith
  | inr less ↦ omega arith
]

pub stages_few : (code : List ℕ) (w : Walk) → length code ≤ 17 → w.heap ≤ 12308
    → stages_left code w ≤ 262144
stages_few code w short small =
    let m : (w.heap + 3) * (length code - w.away) ≤ 12311 * 17 = grind arith in
    let s = few w.heap w.untried in
    omega arith
  where
    few : (n : ℕ) (stage : Untried) → stages n stage ≤ n + 2
    few n Everything = omega arith
    few n (Splits a) = omega arith
    few n (Triples a b) = omega arith

-- what holds anyway holds on an error
pub on_err : {T E P : Type 0} (r : Result T E) → P → OnErr r P
on_err (Ok v) p = tt
on_err (Err e) p = p

pub ends : (job : HeapWork) (units : ℕ) → IsCode job.code → IsPretending job.phi
    → most_turns job.code job.phi ≤ units
    → IsDone (worked job units)
ends job units octal pretending l = let r =
    cost_short job.code job.phi (two_digits job.code octal).0 in omega arith

pub cost_at_most : (code : List ℕ) (phi : Pretending) → IsCode code → IsPretending phi
    → heap_cost code phi ≤ most_turns code phi
cost_at_most code phi octal pretending = cost_short code phi (two_digits code octal).0
