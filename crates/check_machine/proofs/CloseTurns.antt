-- Turns of the stage that closes the pairs.
-- They are the closure's own, and the one that keeps a member asks for the rule at it.
use Rattle.std.proofs.Common.{◌≡◌, ℕ, zero, suc, ◌-◌, ◌<◌, ◌≤◌, Bool, true, false, not, cond, ◌&&◌, nat_lt, List, [], ◌∷◌, ◌++◌, length, length-append, slice_index_or, Result, Ok, Err, inl, inr, refl, sym, ◌∙◌, ap, subst, arith, tests}
use Rattle.std.specs.List.{list_any}
use Rattle.std.specs.FinSet as set
use Rattle.std.specs.Ordering.{nat_cmp}
use native.Mathlib.Decide.{dec_lt}
use Rattle.misere_theory.specs.Certificates.{Certificate}
use Rattle.monoid_table.specs.Grids.{Grid}
use Rattle.transition_algebra.specs.OverSets.{Pair}
use Rattle.pair_closure.specs.OverSets.{Member}
use Rattle.pair_closure.proofs.OptionLaws.{some_or_empty}
use Rattle.pair_closure.specs.Turns.{State, heap_turn, pending}
use Rattle.pair_closure.specs.ClosureViews.{ClosureView, begun, turn, moved, step, steps, has_ended, is_over, is_done, blank_held}
use Rattle.pair_closure.specs.Positions.{rising, word}
use Rattle.pair_closure.specs.Calls.{ended_or_kept, Grows, Takes, IsRefused}
use Rattle.answers.specs.Portions.{IsPortion}
use Rattle.check_machine.specs.Rules.{Obeys, Breaks}
use Rattle.check_machine.specs.Views.{ClosingView}
use Rattle.answers.specs.ByteVerdicts.ByteVerdict.{Yes, Outcome, Limit}
use Rattle.check_machine.specs.Turns.{Phase, stage_of, Runs, holds, obeys, newest, keeps_more, closing_at, closing_turn}
use Rattle.check_machine.specs.Turns as check
use Rattle.check_machine.specs.Turns.Phase.{Closing, Ended}
use Rattle.check_machine.proofs.AnyLemmas.{any_of, any_in}
use Rattle.check_machine.proofs.TrueTests.{opposite, is_not}
use Rattle.check_machine.proofs.LawTurns.{no-or}
use Rattle.check_machine.proofs.TurnLaws.{runs-more, runs-to}

-- a turn gives no member up that was ever kept
abbrev MoreMembers : State → State → Type 0
MoreMembers s t = length s.members ≤ length t.members

grows_cond : (s t u : State) (b : Bool) → MoreMembers s t → MoreMembers s u
    → MoreMembers s (cond b t u)
grows_cond s t u true g h = g
grows_cond s t u false g h = h

grows_after : (s : State) (b : Bool) (m : Member)
    → length s.members ≤ length (cond b s.members (s.members ++ m ∷ []))
grows_after s true m = omega arith
grows_after s false m = let e = length-append s.members (m ∷ []) in omega arith

members_grow : (s : State) → MoreMembers s (turn s)
members_grow s =
    grows_cond s s _ (is_over s) (omega arith)
    (grows_cond s _ _ (nat_lt 0 (length s.members))
    (grows_cond s _ _ (nat_lt (pending s) (length s.held))
    (grows_after s _ _)
    (grows_cond s (heap_turn s) s (nat_lt s.next (length s.heaps)) (grows_after s _ _)
    (omega arith)))
    (grows_after s false _))

step_moves : (p : ClosureView) → has_ended p.state ≡ false → step p ≡ moved p
step_moves p e = rw e

step_stays : (p : ClosureView) → has_ended p.state ≡ true → step p ≡ p
step_stays p e = rw e

step_grows : (p : ClosureView) (b : Bool) → has_ended p.state ≡ b
    → length p.state.members ≤ length (step p).state.members
step_grows p true e = let d = ap (λ q. length q.state.members) (step_stays p e) in omega arith
step_grows p false e = let d = ap (λ q. length q.state.members) (step_moves p e) in let g =
    members_grow p.state in omega arith

steps_grow : (n : ℕ) (p : ClosureView) → length p.state.members ≤ length (steps n p).state.members
steps_grow zero p = omega arith
steps_grow (suc n) p = let h = steps_grow n p in let g =
    step_grows (steps n p) (has_ended (steps n p).state) refl in omega arith

less_not : (a b : ℕ) → nat_lt a b ≡ false → b ≤ a
less_not a b e =
    elim (dec_lt a b) [
      | yes l ↦ absurd (let t : nat_lt a b ≡ true = grind (arith, tests) in
          cc)
      | no f ↦ omega (arith, f)
    ]

not_less : (a b : ℕ) → b ≤ a → nat_lt a b ≡ false
not_less a b l = grind (arith, tests)

module _ (bytes : List ℕ) (limit : ℕ) (c : Certificate) (p : ClosureView) where
  abbrev at : ClosureView → Phase
  at q = Closing (record { certificate = c; closure = q })

  quiet : (kept : Bool) (q : ClosureView) → kept ≡ false → has_ended q.state ≡ false
      → closing_at c kept q ≡ at q
  unfolding closing_at
  quiet kept q k e = let (a, b) = no-or (is_over q.state) (is_done q.state) e in rw (k, b, a)

  quiet_still : (n : ℕ) → ended_or_kept p (steps n p) ≡ false
      → (has_ended (steps n p).state ≡ false)
      × (length (steps n p).state.members ≤ length p.state.members)
  quiet_still n e = let (a, b) =
      no-or (has_ended (steps n p).state)
      (nat_lt (length p.state.members) (length (steps n p).state.members)) e in (a, less_not _ _ b)

  -- while no member is kept, the turns of the check are the closure's
  along : (n : ℕ) → ((m : ℕ) → m ≤ n → ended_or_kept p (steps m p) ≡ false)
      → check.turns bytes limit n (at p) ≡ at (steps n p)
  unfolding check.turns closing_turn
  along zero going = refl
  along (suc n) going =
      let h = quiet_still n (going n (omega arith)) in
      let g = quiet_still (suc n) (going (suc n) (omega arith)) in
      let m = step_moves (steps n p) h.0 in
      let most = g.1 in
      let low = steps_grow n p in
      let kept =
      not_less (length (steps n p).state.members) (length (steps (suc n) p).state.members)
      (omega arith) in
      ap (check.turn bytes limit) (along n (λ k l. going k (omega arith)))
      ∙ (ap (λ q. closing_at c (keeps_more (steps n p).state q.state) q) (sym m)
      ∙ quiet _ (steps (suc n) p) kept g.0)

  -- the turn behind them
  pub closing_runs : (n : ℕ) → ((m : ℕ) → m ≤ n → ended_or_kept p (steps m p) ≡ false)
      → check.turns bytes limit (suc n) (at p)
      ≡ closing_at c (keeps_more p.state (steps (suc n) p).state) (steps (suc n) p)
  unfolding check.turns closing_turn
  closing_runs n going =
      let h = quiet_still n (going n (omega arith)) in
      let m = step_moves (steps n p) h.0 in
      let most = h.1 in
      let low = steps_grow n p in
      let same : length (steps n p).state.members ≡ length p.state.members = omega arith in
      ap (check.turn bytes limit) (along n going)
      ∙ (ap (λ q. closing_at c (keeps_more (steps n p).state q.state) q) (sym m)
      ∙ ap (λ k. closing_at c (nat_lt k (length (steps (suc n) p).state.members)) (steps (suc n) p))
      same)

-- the rule as the turns ask for it
module _ (c : Certificate) (inside : set.FinSet nat_cmp) (portion : IsPortion c inside) (p : Pair)
  where
    obeys_at : (v : Bool) → holds c p.value ≡ v → Obeys inside p → obeys c p ≡ true
    obeys_at true e o = elim (some_or_empty p.options) [
      | inl s ↦ (let n = s.0 in rw (e, n) refl)
      | inr n ↦ (let (x, h) = o.some (portion p.value ∙ e) in absurd (n.1 x h))
    ]
    obeys_at false e o = elim (some_or_empty p.options) [
      | inr n ↦ (let m = n.0 in rw (e, m) refl)
      | inl s ↦
          let (x, h) = s.1 in
          let (y, u, w) = o.leads (portion p.value ∙ e) x h in
          let a = any_of (λ z. set.contains p.options z) c.portion y (sym (portion y) ∙ w) u in
          let n = s.0 in
          rw (e, n) a
    ]

    pub rule_true : Obeys inside p → obeys c p ≡ true
    rule_true o = obeys_at (holds c p.value) refl o

    pub rule_false : Breaks inside p → obeys c p ≡ false
    rule_false (inl (t, none)) = elim (some_or_empty p.options) [
      | inl s ↦ (let (x, h) = s.1 in absurd (none x h))
      | inr n ↦ (let e : holds c p.value ≡ true = sym (portion p.value) ∙ t in let m = n.0 in
          rw (e, m) refl)
    ]
    rule_false (inr (f, (x, h), all)) = elim (some_or_empty p.options) [
      | inr n ↦ absurd (n.1 x h)
      | inl s ↦
          let e : holds c p.value ≡ false = sym (portion p.value) ∙ f in
          let a =
          is_not (list_any (λ z. set.contains p.options z) c.portion)
          (λ t. (let (y, m, u) = any_in (λ z. set.contains p.options z) c.portion t in
          opposite (portion y ∙ m) (all y u))) in
          let n = s.0 in
          rw (e, n) a
    ]

-- what a turn comes to
module _ (c : Certificate) (inside : set.FinSet nat_cmp) (portion : IsPortion c inside)
    (p q : ClosureView) where
  unheard_at : (v : Bool) → keeps_more p.state q.state ≡ v
      → (length p.state.members < length q.state.members → Obeys inside (newest q.state).pair)
      → (keeps_more p.state q.state && not (obeys c (newest q.state).pair)) ≡ false
  unheard_at true e last =
      let l : length p.state.members < length q.state.members = grind (arith, tests) in
      let o = rule_true c inside portion (newest q.state).pair (last l) in
      rw (e, o) refl
  unheard_at false e last = rw e refl

  unheard : (length p.state.members < length q.state.members → Obeys inside (newest q.state).pair)
      → (keeps_more p.state q.state && not (obeys c (newest q.state).pair)) ≡ false
  unheard last = unheard_at (keeps_more p.state q.state) refl last

  over_not_done : (s : State) → is_done s ≡ true → is_over s ≡ false
  over_not_done s e =
      is_not (is_over s)
      (λ t. (let w : is_done s ≡ false = (rw t refl) in opposite e w))

  module _ (last : length p.state.members < length q.state.members
      → Obeys inside (newest q.state).pair) where
    pub to_over : is_over q.state ≡ true → closing_at c (keeps_more p.state q.state) q ≡ Ended Limit
    unfolding closing_at
    to_over e = let u = unheard last in rw (u, e)

    pub to_done : is_done q.state ≡ true → closing_at c (keeps_more p.state q.state) q
        ≡ Ended (Yes c)
    unfolding closing_at
    to_done e = let u = unheard last in let o = over_not_done q.state e in rw (u, e, o)

    pub to_more : has_ended q.state ≡ false → closing_at c (keeps_more p.state q.state) q
        ≡ Closing (record { certificate = c; closure = q })
    unfolding closing_at
    to_more e = let u = unheard last in let (a, b) = no-or (is_over q.state) (is_done q.state) e in
        rw (u, b, a)

  pub to_broken : length p.state.members < length q.state.members
      → Breaks inside (newest q.state).pair → closing_at c (keeps_more p.state q.state) q
      ≡ Ended (Outcome c.code (rising (word q.state (newest q.state).place)))
  unfolding closing_at
  to_broken l b =
      let k : keeps_more p.state q.state ≡ true = grind (arith, tests) in
      let o = rule_false c inside portion (newest q.state).pair b in
      rw (k, o)

module _ (bytes : List ℕ) (limit : ℕ) where
  runs-on : (n B a : ℕ) (from mid : Phase) → Runs bytes limit from B a mid → n ≤ a
      → ((m : ℕ) → m < n → stage_of (check.turns bytes limit m mid) ≡ stage_of from)
      → Runs bytes limit from B (a - n) (check.turns bytes limit n mid)
  unfolding check.turns
  runs-on zero B a from mid r l going = let d : a ≡ a - 0 = omega arith in
      subst (λ k. Runs bytes limit from B k mid) d r
  runs-on (suc n) B a from mid r l going =
      let h = runs-on n B a from mid r (omega arith) (λ m b. going m (omega arith)) in
      let d : a - n - 1 ≡ a - suc n = omega arith in
      subst (λ k.
      Runs bytes limit from B k (check.turn bytes limit (check.turns bytes limit n mid))) d
      (runs-more bytes limit B (a - n) from _ h (omega arith) (going n (omega arith)))

  module _ (c : Certificate) (v : ClosingView) (p q : ClosureView) (B a : ℕ)
      (r : Runs bytes limit (Closing v) B a (Closing (record { certificate = c; closure = p })))
    where
      -- turns up to the one that keeps a member, or ends
      pub takes_runs : (t : Takes (ended_or_kept p) a p q) → 0 < t.turns
          → Runs bytes limit (Closing v) B (a - t.turns)
          (closing_at c (keeps_more p.state q.state) q)
      takes_runs t some =
          let d : suc (t.turns - 1) ≡ t.turns = omega arith in
          let e : steps (suc (t.turns - 1)) p ≡ q = ap (λ k. steps k p) d ∙ sym t.reached in
          let ends = closing_runs bytes limit c p (t.turns - 1) (λ m l. t.going m (omega arith)) in
          let w = t.within in
          runs-to bytes limit B (a - t.turns) (Closing v) _ _
          (runs-on t.turns B a (Closing v) _ r w
          (λ m l. ap stage_of (along bytes limit c p m (λ k h. t.going k (omega arith)))))
          (ap (λ k. check.turns bytes limit k (Closing (record { certificate = c; closure = p })))
          (sym d) ∙ (ends ∙ ap (λ x. closing_at c (keeps_more p.state x.state) x) e))

      -- turns up to one that memory was refused to
      pub refused_runs : (t : IsRefused (ended_or_kept p) a p q)
          → Runs bytes limit (Closing v) B (a - t.turns)
          (Closing (record { certificate = c; closure = steps t.turns p }))
      refused_runs t =
          let w = t.within in
          runs-to bytes limit B (a - t.turns) (Closing v) _ _
          (runs-on t.turns B a (Closing v) _ r (omega arith)
          (λ m l. ap stage_of (along bytes limit c p m (λ k h. t.going k (omega arith)))))
          (along bytes limit c p t.turns (λ k h. t.going k (omega arith)))

-- what a call tells
steps_fresh : (n : ℕ) (p : ClosureView) → (steps n p).failed ≡ p.failed
steps_fresh zero p = refl
steps_fresh (suc n) p = step_fresh (steps n p) (has_ended (steps n p).state) refl ∙ steps_fresh n p
  where
    step_fresh : (q : ClosureView) (b : Bool) → has_ended q.state ≡ b → (step q).failed ≡ q.failed
    step_fresh q true e = ap (λ x. x.failed) (step_stays q e)
    step_fresh q false e = ap (λ x. x.failed) (step_moves q e)

pub takes_fresh : (p q : ClosureView) (a : ℕ) → Takes (ended_or_kept p) a p q → p.failed ≡ false
    → q.failed ≡ false
takes_fresh p q a t f = ap (λ x. x.failed) t.reached ∙ (steps_fresh t.turns p ∙ f)

pub ok_takes : {X E : Type 0} (r : Result X E) (x : X) (p q : ClosureView) (a : ℕ)
    → Grows (ended_or_kept p) a r p q → r ≡ Ok x → Takes (ended_or_kept p) a p q
ok_takes (Ok y) x p q a g e = g.0
ok_takes (Err y) x p q a g e = absurd (cc)

pub err_refused : {X E : Type 0} (r : Result X E) (x : E) (p q : ClosureView) (a : ℕ)
    → Grows (ended_or_kept p) a r p q → p.failed ≡ false → r ≡ Err x
    → IsRefused (ended_or_kept p) a p q
err_refused (Ok y) x p q a g f e = absurd (cc)
err_refused (Err y) x p q a g f e =
    elim g.1 [ inl s ↦ absurd (opposite s.0 f) | inr t ↦ t ]

-- a member is kept by a turn that is taken
pub kept_takes : {X E : Type 0} (r : Result X E) (p q : ClosureView) (a : ℕ)
    → Grows (ended_or_kept p) a r p q → p.failed ≡ false
    → length p.state.members < length q.state.members → Takes (ended_or_kept p) a p q
kept_takes (Ok y) p q a g f l = g.0
kept_takes (Err y) p q a g f l = elim g.1 [
  | inl s ↦ absurd (opposite s.0 f)
  | inr t ↦
      let (a, b) =
      no-or (has_ended (steps t.turns p).state)
      (nat_lt (length p.state.members) (length (steps t.turns p).state.members))
      (t.going t.turns (omega arith)) in
      let e : length q.state.members ≡ length (steps t.turns p).state.members =
      ap (λ x. length x.state.members) t.reached in
      let most = less_not _ _ b in
      absurd (omega arith)
]

-- where nothing was taken, nothing changed
pub some_taken : (p q : ClosureView) (a : ℕ) (t : Takes (ended_or_kept p) a p q) → (q ≡ p → ⊥)
    → 0 < t.turns
some_taken p q a t n = elim (dec_lt 0 t.turns) [
  | yes l ↦ l
  | no f ↦ (let d : t.turns ≡ 0 = omega (arith, f) in
      absurd (n (t.reached ∙ ap (λ k. steps k p) d)))
]

pub done_other : (p q : ClosureView) → is_done q.state ≡ true → has_ended p.state ≡ false → q ≡ p → ⊥
done_other p q t g e =
    opposite (sym (ap (λ x. is_done x.state) e) ∙ t)
    (no-or (is_over p.state) (is_done p.state) g).1

pub over_other : (p q : ClosureView) → is_over q.state ≡ true → has_ended p.state ≡ false → q ≡ p → ⊥
over_other p q t g e =
    opposite (sym (ap (λ x. is_over x.state) e) ∙ t)
    (no-or (is_over p.state) (is_done p.state) g).0

pub more_other : (p q : ClosureView) → length p.state.members < length q.state.members → q ≡ p → ⊥
more_other p q l e = let d : length q.state.members ≡ length p.state.members =
    ap (λ x. length x.state.members) e in omega arith

pub runs-left : (bytes : List ℕ) (limit B a b : ℕ) (from to : Phase) → Runs bytes limit from B a to
    → a ≡ b → Runs bytes limit from B b to
runs-left bytes limit B a b from to r e = subst (λ k. Runs bytes limit from B k to) e r

module _ (c : Certificate) (inside : set.FinSet nat_cmp) (portion : IsPortion c inside)
    (bytes : List ℕ) (limit : ℕ) (v : ClosingView) (p q : ClosureView) (B a b : ℕ)
    (r : Runs bytes limit (Closing v) B a (Closing (record { certificate = c; closure = p })))
    (t : Takes (ended_or_kept p) a p q) (e : a - t.turns ≡ b) where
  pub broken_runs : (i : ℕ) → length p.state.members < length q.state.members
      → Breaks inside (slice_index_or q.state.held i blank_held).pair → length q.state.held - 1 ≡ i
      → Runs bytes limit (Closing v) B b
      (Ended
      (Outcome c.code (rising (word q.state (slice_index_or q.state.held i blank_held).place))))
  broken_runs i l breaks d =
      let newest_breaks : Breaks inside (newest q.state).pair =
      subst (λ k. Breaks inside (slice_index_or q.state.held k blank_held).pair) (sym d) breaks
      in
      runs-left bytes limit B (a - t.turns) b (Closing v) _
      (runs-to bytes limit B (a - t.turns) (Closing v) _ _
      (takes_runs bytes limit c v p q B a r t (some_taken p q a t (more_other p q l)))
      (to_broken c inside portion p q l newest_breaks
      ∙ ap (λ k.
      Ended (Outcome c.code
      (rising (word q.state (slice_index_or q.state.held k blank_held).place)))) d)) e

  module _ (last : length p.state.members < length q.state.members
      → Obeys inside (newest q.state).pair) (going : has_ended p.state ≡ false) where
    pub over_runs : is_over q.state ≡ true → Runs bytes limit (Closing v) B b (Ended Limit)
    over_runs o =
        runs-left bytes limit B (a - t.turns) b (Closing v) _
        (runs-to bytes limit B (a - t.turns) (Closing v) _ _
        (takes_runs bytes limit c v p q B a r t (some_taken p q a t (over_other p q o going)))
        (to_over c inside portion p q last o)) e

    pub done_runs : is_done q.state ≡ true → Runs bytes limit (Closing v) B b (Ended (Yes c))
    done_runs o =
        runs-left bytes limit B (a - t.turns) b (Closing v) _
        (runs-to bytes limit B (a - t.turns) (Closing v) _ _
        (takes_runs bytes limit c v p q B a r t (some_taken p q a t (done_other p q o going)))
        (to_done c inside portion p q last o)) e

    pub more_runs : has_ended q.state ≡ false
        → Runs bytes limit (Closing v) B b (Closing (record { certificate = c; closure = q }))
    more_runs o = elim (dec_lt 0 t.turns) [
      | yes l ↦ runs-left bytes limit B (a - t.turns) b (Closing v) _
          (runs-to bytes limit B (a - t.turns) (Closing v) _ _
          (takes_runs bytes limit c v p q B a r t l) (to_more c inside portion p q last o)) e
      | no f ↦
          let z : t.turns ≡ 0 = omega (arith, f) in
          let d : p ≡ q = sym (t.reached ∙ ap (λ k. steps k p) z) in
          let k : a ≡ b = omega arith in
          runs-left bytes limit B a b (Closing v) _
          (runs-to bytes limit B a (Closing v) _ _ r
          (ap (λ x. Closing (record { certificate = c; closure = x })) d)) k
    ]

-- a fresh closure has turns to take
pub begun_going : (table : Grid) (heaps : List Pair) (most : ℕ)
    → has_ended (begun table heaps most).state ≡ false
begun_going table heaps most = let e : nat_lt most 0 ≡ false = grind (arith, tests) in rw e refl
