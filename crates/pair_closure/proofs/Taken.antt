-- What follows from the turns that a call took.
-- By cases: all units were spent, the call ended, or a growth was refused.
use Rattle.std.proofs.Common.{◌≡◌, ℕ, zero, suc, ◌+◌, ◌<◌, ◌≤◌, ◌↔◌, Bool, true, false, length, refl, sym, ap, ◌∙◌, subst, inl, inr, arith, nat_lt, ltb-false, Result, Ok, Err, OnOk, OnErr, IsErr}
use native.Mathlib.Decide.{dec_lt}
use Rattle.std.proofs.lemmas.Bool.{cond_both, or_parts}
use Rattle.pair_closure.specs.Turns.{SameData, has_ended}
use Rattle.pair_closure.specs.ClosureViews.{ClosureView, moved, step, steps, stopped}
use Rattle.pair_closure.specs.Calls.{Takes, Goes, Grows, ended, ended_or_kept}
use Rattle.pair_closure.specs.Keeping.{KeepsOne, GrowsToMember}
use Rattle.pair_closure.proofs.Lists.{not_both}
use Rattle.pair_closure.proofs.Running.{same_steps, few_steps, ended_steps}
use Rattle.pair_closure.proofs.Calls.{goes_on, same_failed}
use Rattle.pair_closure.proofs.Keeping.{keeps_after, keeps_one}

-- the turns of a call, whether the next was refused or not
record Went (ends : ClosureView → Bool) (units : ℕ) (p q : ClosureView) : Type 0 where
  pub turns : ℕ
  pub within : turns ≤ units
  pub state : q.state ≡ (steps turns p).state
  pub spent : q.spent ≡ p.spent + turns
  pub going : (n : ℕ) → n < turns → ends (steps n p) ≡ false

went : (ends : ClosureView → Bool) (units : ℕ) (p q : ClosureView) → Goes ends units p q
    → Went ends units p q
went ends units p q (inl t) = record {
  turns = t.turns;
  within = t.within;
  state = ap (λ z. z.state) t.reached;
  spent = t.spent;
  going = t.going;
}
went ends units p q (inr t) = record {
  turns = t.turns;
  within = (let w = t.within in omega arith);
  state = ap (λ z. z.state) t.reached;
  spent = t.spent;
  going = λ n l. t.going n (omega arith);
}

-- what a call answers, and what it comes to
pub record Answered {X E : Type 0} (ends : ClosureView → Bool) (units : ℕ) (r : Result X E)
    (p q : ClosureView) : Type 0 where
  pub grows : Grows ends units r p q
  pub refused : OnErr r ((n : ℕ) × (n ≤ units) × (q ≡ stopped (steps n p)))
  pub same_data : SameData p.state q.state
  pub few : length q.state.members ≤ length p.state.members + units
  pub spent_range : (p.spent ≤ q.spent) × (q.spent ≤ p.spent + units)
  pub costs : length p.state.members < length q.state.members → p.spent < q.spent

pub answers : {X E : Type 0} (ends : ClosureView → Bool) (units : ℕ) (p q : ClosureView)
    (r : Result X E) → p.failed ≡ false → Goes ends units p q → (IsErr r ↔ (q.failed ≡ true))
    → Answered ends units r p q
answers {X = X} {E = E} ends units p q r f goes h =
    let w = went ends units p q goes in
    let within = w.within in
    let spent = w.spent in
    let kept = ap (λ z. length z.members) w.state in
    let all = both r goes h in
    record {
      grows = all.0;
      refused = all.1;
      same_data = subst (SameData p.state) (sym w.state) (same_steps w.turns p);
      few = (let few = few_steps w.turns p in omega arith);
      spent_range = (omega arith, omega arith);
      costs = λ l. let some : w.turns ≡ 0 → ⊥ = λ none.
          let same = ap (λ n. length (steps n p).state.members) none in omega arith in omega arith;
    }
  where
    both : (r : Result X E) → Goes ends units p q → (IsErr r ↔ (q.failed ≡ true))
        → Grows ends units r p q × OnErr r ((n : ℕ) × (n ≤ units) × (q ≡ stopped (steps n p)))
    both (Ok x) (inl t) h = ((t, tt), tt)
    both (Err x) (inl t) h =
        absurd (not_both (h.0 refl) (ap (λ z. z.failed) t.reached ∙ same_failed t.turns p ∙ f))
    both (Ok x) (inr t) h = let e = h.1 (ap (λ z. z.failed) t.reached) in absurd (cc)
    both (Err x) (inr t) h = let l = t.within in ((tt, inr t), (t.turns, omega arith, t.reached))

-- all units were taken where a turn is left
pub spent_by : {X E : Type 0} (ends : ClosureView → Bool) (units : ℕ) (p q : ClosureView) (r : Result X E)
    (x : X) → Grows ends units r p q → r ≡ Ok x → ends q ≡ false → q.spent ≡ p.spent + units
spent_by ends units p q r x g e h =
    let t = (rw e at g.0) in
    let l = t.within in
    let s = t.spent in
    let all : t.turns < units → ⊥ = λ b. not_both (t.last b) h in
    omega arith

all_steps : (units : ℕ) (p q : ClosureView) → Takes ended units p q → q ≡ steps units p
all_steps units p q t =
    let l = t.within in
    elim (dec_lt t.turns units) [
      | yes b ↦ ended_steps t.turns units p q t.reached l (t.last b)
      | no b ↦ let e : t.turns ≡ units = omega arith in t.reached ∙ ap (λ n. steps n p) e
    ]

pub steps_of : {X E : Type 0} (units : ℕ) (p q : ClosureView) (r : Result X E)
    → Grows ended units r p q → OnOk r (q ≡ steps units p)
steps_of units p q (Ok x) g = all_steps units p q g.0
steps_of units p q (Err e) g = tt

-- ---- up to a member

more_after : (p : ClosureView) → length p.state.members ≤ length (step p).state.members
more_after p =
    cond_both (has_ended p.state) p (moved p)
    (λ z. length p.state.members ≤ length z.state.members) (λ _. omega arith) (λ _. (keeps_after p.state).few.0)

pub more_after_step : (p q : ClosureView) → q ≡ step p
    → length p.state.members ≤ length q.state.members
more_after_step p q e =
    subst (λ z. length p.state.members ≤ length z.state.members) (sym e) (more_after p)

more_steps : (n : ℕ) (p : ClosureView) → length p.state.members ≤ length (steps n p).state.members
more_steps zero p = omega arith
more_steps (suc n) p = let a = more_steps n p in let b = more_after (steps n p) in omega arith

none_kept : (p : ClosureView) (n : ℕ) → ended_or_kept p (steps n p) ≡ false
    → length (steps n p).state.members ≡ length p.state.members
none_kept p n e =
    let a = more_steps n p in
    let b : length (steps n p).state.members ≤ length p.state.members =
    ltb-false _ _ (or_parts _ _ e).1 in
    omega arith

pub goes_keeps : (units : ℕ) (p q : ClosureView) → Goes (ended_or_kept p) units p q
    → KeepsOne p.state q.state
goes_keeps units p q goes = let w = went (ended_or_kept p) units p q goes in
    subst (KeepsOne p.state) (sym w.state)
    (keeps_one p w.turns (λ n l. none_kept p n (w.going n l)))

pub to_member_of : {X E : Type 0} (units : ℕ) (p q : ClosureView) (r : Result X E)
    → Grows (ended_or_kept p) units r p q → OnOk r (GrowsToMember units p q)
to_member_of units p q (Ok x) g =
    let t = g.0 in
    record {
      turns = t.turns;
      within = t.within;
      reached = t.reached;
      first = λ n l. none_kept p n (t.going n l);
    }
to_member_of units p q (Err e) g = tt

pub spent_to_member : {X E : Type 0} (units : ℕ) (p q : ClosureView) (r : Result X E) (x : X)
    → Grows (ended_or_kept p) units r p q → r ≡ Ok x → has_ended q.state ≡ false
    → length q.state.members ≡ length p.state.members → q.spent ≡ p.spent + units
spent_to_member units p q r x g e h same =
    spent_by (ended_or_kept p) units p q r x g e (goes_on p q h (omega arith))
