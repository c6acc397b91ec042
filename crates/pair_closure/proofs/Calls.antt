-- What calls come to, as the code goes.
-- A call takes turns until it ends or its units are spent, and so it comes to one state.
use Rattle.std.proofs.Common.{◌≡◌, ℕ, zero, suc, ◌+◌, ◌*◌, ◌<◌, ◌≤◌, ◌↔◌, Bool, true, false, ◌||◌, List, length, refl, sym, ap, ◌∙◌, subst, inl, inr, arith, nat_lt, lt-ltb, le-ltb}
use native.Mathlib.Decide.{dec_lt}
use Rattle.std.proofs.lemmas.Bool.{cases_Bool, cond_both, or_from, or_left, or_parts, or_right}
use Rattle.monoid_table.specs.Grids.{Grid}
use Rattle.transition_algebra.specs.OverSets.{Pair}
use Rattle.pair_closure.specs.Turns.{KeepsNext, has_ended, turn}
use Rattle.pair_closure.specs.ClosureViews.{ClosureView, begun, steps, step, stopped, moved, retaken}
use Rattle.pair_closure.specs.Calls.{Takes, IsRefused, ended, ended_or_kept, cost}
use Rattle.pair_closure.proofs.Lists.{not_both}
use Rattle.pair_closure.proofs.Bound.{ends_within}
use Rattle.pair_closure.proofs.Running.{state_steps, step_moves, step_stays, same_after}

-- ---- ends

-- a turn is left wherever a call goes on
abbrev pub Ends : (ClosureView → Bool) → Type 0
Ends ends = (q : ClosureView) → ends q ≡ false → has_ended q.state ≡ false

pub ended_ends : Ends ended
ended_ends q e = e

pub kept_ends : (since : ClosureView) → Ends (ended_or_kept since)
kept_ends since q e = (or_parts _ _ e).0

-- where a turn is left and nothing was kept
pub goes_on : (since q : ClosureView) → has_ended q.state ≡ false
    → length q.state.members ≤ length since.state.members → ended_or_kept since q ≡ false
goes_on since q e l = or_from _ _ e (le-ltb _ _ l)

pub kept_since : (since q : ClosureView) → length since.state.members < length q.state.members
    → ended_or_kept since q ≡ true
kept_since since q l = or_right _ _ (lt-ltb _ _ l)

pub ended_since : (since q : ClosureView) → has_ended q.state ≡ true → ended_or_kept since q ≡ true
ended_since since q e = or_left _ _ e

-- ---- turns that were all taken

pub same_failed : (n : ℕ) (p : ClosureView) → (steps n p).failed ≡ p.failed
same_failed zero p = refl
same_failed (suc n) p =
    let q = steps n p in
    cond_both (has_ended q.state) q (moved q) (λ z. z.failed ≡ p.failed) (λ _. same_failed n p)
    (λ _. same_failed n p)

-- so many turns, and none came to such an end before the last of them
pub record SoFar (ends : ClosureView → Bool) (p : ClosureView) (n : ℕ) (q : ClosureView) : Type 0 where
  pub reached : q ≡ steps n p
  pub going : (m : ℕ) → m < n → ends (steps m p) ≡ false

pub one_more : {ends : ClosureView → Bool} {p q : ClosureView} {n : ℕ} → SoFar ends p n q
    → ends q ≡ false → (t : ClosureView) → t ≡ step q → SoFar ends p (n + 1) t
one_more {ends = ends} {p = p} {n = n} w f t e = record {
  reached = let k : suc n ≡ n + 1 = omega arith in
      e ∙ ap step w.reached ∙ ap (λ j. steps j p) k;
  going = λ m l. elim (dec_lt m n) [
    | yes b ↦ w.going m b
    | no b ↦ let d : n ≡ m = omega arith in
        subst (λ j. ends (steps j p) ≡ false) d (subst (λ z. ends z ≡ false) w.reached f)
  ];
}

all_spent : {ends : ClosureView → Bool} {p q : ClosureView} {n : ℕ} → Ends ends → SoFar ends p n q
    → q.spent ≡ p.spent + n
all_spent {ends = ends} {p = p} {n = n} implies w = ap (λ z. z.spent) w.reached ∙ spent n w.going
  where
    spent : (n : ℕ) → ((m : ℕ) → m < n → ends (steps m p) ≡ false)
        → (steps n p).spent ≡ p.spent + n
    spent zero h = omega arith
    spent (suc n) h =
        let a = spent n (λ m l. h m (omega arith)) in
        let b = ap (λ z. z.spent) (step_moves (steps n p) (implies _ (h n (omega arith)))) in
        omega arith

pub takes : {ends : ClosureView → Bool} {p q : ClosureView} {n : ℕ} → Ends ends → (units : ℕ)
    → SoFar ends p n q → n ≤ units → (n < units → ends q ≡ true) → Takes ends units p q
takes {n = n} implies units w l h = record {
  turns = n;
  within = l;
  reached = w.reached;
  spent = all_spent implies w;
  going = w.going;
  last = h;
}

-- no turn was left
pub takes_here : {ends : ClosureView → Bool} {p q : ClosureView} {n : ℕ} → Ends ends → (units : ℕ)
    → SoFar ends p n q → (t : ClosureView) → n < units → t ≡ step q → has_ended q.state ≡ true
    → ends q ≡ true → Takes ends units p t
takes_here {ends = ends} {p = p} {q = q} implies units w t l e h f =
    subst (Takes ends units p) (sym (e ∙ step_stays q h))
    (takes implies units w (omega arith) (λ _. f))

pub refused : {ends : ClosureView → Bool} {p q : ClosureView} {n : ℕ} → Ends ends → (units : ℕ)
    → SoFar ends p n q → (t : ClosureView) → n < units → t ≡ stopped q → ends q ≡ false
    → KeepsNext q.state → IsRefused ends units p t
refused {q = q} {n = n} implies units w t l e f k = record {
  turns = n;
  within = l;
  reached = e ∙ ap stopped w.reached;
  spent = ap (λ z. z.spent) e ∙ all_spent implies w;
  going = λ m k. (one_more w f (step q) refl).going m (omega arith);
  keeps = subst (λ z. KeepsNext z.state) (sym e) k;
}

-- ---- how many turns there are

-- a call without a member to stop at takes all units, or ends
pub units_taken : (units : ℕ) (p : ClosureView) → Takes ended units p (steps units p)
units_taken zero p =
    let none : SoFar ended p 0 p = record { reached = refl; going = λ m l. absurd (omega arith) } in
    takes ended_ends zero none (omega arith) (λ l. absurd (omega arith))
units_taken (suc n) p =
    let q = steps n p in
    let t = units_taken n p in
    let w = t.within in
    let so_far : SoFar ended p t.turns q = record { reached = t.reached; going = t.going } in
    elim (cases_Bool (has_ended q.state)) [
      | inl e ↦ takes_here ended_ends (suc n) so_far (step q) (omega arith) refl e e
      | inr e ↦ takes ended_ends (suc n) (one_more so_far e (step q) refl) (omega arith)
          (λ l. absurd (not_both (t.last (omega arith)) e))
    ]

module _ (table : Grid) (heaps : List Pair) (limit : ℕ) where
  abbrev after : ℕ → ClosureView
  after n = steps n (begun table heaps limit)

  at_last : has_ended (after (limit * length heaps + 2)).state ≡ true
  at_last = ap has_ended (state_steps (limit * length heaps + 2) (begun table heaps limit))
      ∙ ends_within table heaps limit

  whole : Takes ended (limit * length heaps + 2) (begun table heaps limit)
      (after (limit * length heaps + 2))
  whole = units_taken (limit * length heaps + 2) (begun table heaps limit)

  cost_is : whole.turns ≡ cost table heaps limit
  cost_is = let e : cost table heaps limit ≡ 0 + whole.turns = whole.spent in omega arith

  pub cost_bound : cost table heaps limit ≤ limit * length heaps + 2
  cost_bound = let w = whole.within in let c = cost_is in omega arith

  ends_there : has_ended (after (cost table heaps limit)).state ≡ true
  ends_there = ap (λ n. has_ended (after n).state) (sym cost_is)
      ∙ ap (λ z. has_ended z.state) (sym whole.reached) ∙ at_last

  going_before : (n : ℕ) → n < cost table heaps limit → has_ended (after n).state ≡ false
  going_before n l = whole.going n (let c = cost_is in omega arith)

  -- a call of so many units takes them all, as far as there are turns
  taken : (units : ℕ) → let t = (units_taken units (begun table heaps limit)).turns in
      (t ≤ units) × (t ≤ cost table heaps limit) × ((t < units) → cost table heaps limit ≤ t)
      × ((after units).spent ≡ t)
  taken units =
      let t = units_taken units (begun table heaps limit) in
      let last : t.turns < units → has_ended (after t.turns).state ≡ true =
      λ l. ap (λ z. has_ended z.state) (sym t.reached) ∙ t.last l in
      let few : cost table heaps limit < t.turns → ⊥ = λ l. not_both ends_there (t.going _ l) in
      let e : (after units).spent ≡ 0 + t.turns = t.spent in (
        t.within,
        omega arith,
        λ l. let all : t.turns < cost table heaps limit → ⊥ =
            λ k. not_both (last l) (going_before t.turns k) in omega arith,
        omega arith,
      )

  pub cost_before : (units : ℕ) → units ≤ cost table heaps limit → (after units).spent ≡ units
  cost_before units l = let (a, b, c, d) = taken units in grind arith

  pub cost_after : (units : ℕ) → cost table heaps limit ≤ units
      → ((after units).spent ≡ cost table heaps limit) × (has_ended (after units).state ≡ true)
  cost_after units l =
      let (a, b, c, d) = taken units in
      let t = units_taken units (begun table heaps limit) in
      let here : t.turns ≡ cost table heaps limit = grind arith in (
        omega arith,
        ap (λ z. has_ended z.state) t.reached ∙ ap (λ n. has_ended (after n).state) here
            ∙ ends_there,
      )

  pub cost_ends : (units : ℕ) → (has_ended (after units).state ≡ true)
      ↔ (cost table heaps limit ≤ units)
  cost_ends units = (
    λ e. let all : units < cost table heaps limit → ⊥ = λ l. not_both e (going_before units l) in
        omega arith,
    λ l. (cost_after units l).1,
  )

-- ---- a turn further

pub retaken_on : (p : ClosureView) → p ≡ retaken p → has_ended p.state ≡ false
    → moved p ≡ retaken (moved p)
retaken_on p e h =
    let first = begun p.state.table p.state.heaps p.state.limit in
    let q = steps p.spent first in
    let t = turn p.state in
    let s : p.state ≡ q.state = ap (λ z. z.state) e in
    let c : p.spent ≡ q.spent = ap (λ z. z.spent) e in
    let on : moved q ≡ step q = step_moves q (ap has_ended (sym s) ∙ h) in
    let d = same_after p.state in
    let same : begun t.table t.heaps t.limit ≡ first =
    ap (λ z. begun z t.heaps t.limit) d.table ∙ ap (λ z. begun p.state.table z t.limit) d.heaps
    ∙ ap (λ z. begun p.state.table p.state.heaps z) d.limit in
    let k : p.spent + 1 ≡ suc p.spent = omega arith in
    let r : steps (p.spent + 1) (begun t.table t.heaps t.limit) ≡ moved q =
    ap (λ j. steps j (begun t.table t.heaps t.limit)) k ∙ ap (λ z. steps (suc p.spent) z) same
    ∙ sym on in
    ap (λ z. record { state = turn z; spent = p.spent + 1; failed = p.failed }) s
    ∙ ap (λ j. record { state = turn q.state; spent = j + 1; failed = p.failed }) c
    ∙ sym (ap (λ z. record { state = z.state; spent = z.spent; failed = p.failed }) r)

pub left_of : (p : ClosureView) → p ≡ retaken p → has_ended p.state ≡ false
    → p.spent < cost p.state.table p.state.heaps p.state.limit
left_of p e h =
    let s = ap (λ z. z.state) e in
    let all : cost p.state.table p.state.heaps p.state.limit ≤ p.spent → ⊥ =
    λ l. not_both ((cost_ends p.state.table p.state.heaps p.state.limit p.spent).1 l)
    (ap has_ended (sym s) ∙ h) in
    omega arith
