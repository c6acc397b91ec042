-- A closure ends: each turn lowers what is left to do.
-- Left are the products of members still to come, those of members held, and the heaps not tried.
use Rattle.std.proofs.Common.{◌≡◌, ℕ, zero, suc, ◌+◌, ◌-◌, ◌*◌, ◌<◌, ◌≤◌, Bool, true, false, cond, not, List, [], ◌∷◌, ◌++◌, length, get_or, set, refl, sym, ap, ◌∙◌, subst, inl, inr, ◌⊎◌, arith, nat_lt, le-ltb, ltb-false, filter, length-append, suc-mul}
use Rattle.std.proofs.lemmas.Bool.{cond_both, cond-false}
use Rattle.monoid_table.specs.Grids.{Grid}
use Rattle.transition_algebra.specs.OverSets.{Pair}
use Rattle.transition_algebra.specs.Pairs.{one, covers}
use Rattle.pair_closure.specs.OverSets.{Member}
use Rattle.pair_closure.specs.OverSets.{Held}
use Rattle.pair_closure.specs.OverSets.{Generator}
use Rattle.pair_closure.specs.Turns.{State, start, blank_held, blank_generator, covered, multiplied, is_over, has_ended, empty_turn, product_turn, heap_turn, turn, turns}
use Rattle.pair_closure.proofs.WhichTurn.{kept_with, product_at, bumped, product_if, passed, widened, heap_if, by_turn, has_turns, stays_put}
use Rattle.pair_closure.proofs.Lists.{by_case}

-- the heaps past those that each member was multiplied by
left : ℕ → List Held → ℕ
left B [] = 0
left B (m ∷ ms) = (B - m.by) + left B ms

left-push : (B : ℕ) (ms : List Held) (n : Held) → left B (ms ++ n ∷ []) ≡ left B ms + (B - n.by)
unfolding left
left-push B [] n = omega arith
left-push B (m ∷ ms) n = omega (arith, left-push B ms n)

left-filter : (B : ℕ) (p : Held → Bool) (ms : List Held) → left B (filter p ms) ≤ left B ms
unfolding left
left-filter B p [] = omega arith
left-filter B p (m ∷ ms) =
    let h = left-filter B p ms in
    cond_both (p m) (m ∷ filter p ms) (filter p ms) (λ z. left B z ≤ (B - m.by) + left B ms)
    (λ _. omega arith) (λ _. omega arith)

left-set : (B : ℕ) (ms : List Held) (i : ℕ) (n d : Held) → i < length ms → (get_or ms i d).by < B
    → n.by ≡ (get_or ms i d).by + 1 → left B (set ms i n) + 1 ≡ left B ms
unfolding left
left-set B [] i n d l h e = absurd (omega arith)
left-set B (m ∷ ms) zero n d l h e = omega arith
left-set B (m ∷ ms) (suc i) n d l h e = omega (arith, left-set B ms i n d (omega arith) h e)

room_step : (l n B : ℕ) → n < l → (l - (n + 1)) * B + B ≡ (l - n) * B
room_step l n B h =
    let e : l - n ≡ suc (l - (n + 1)) = omega arith in
    let f : (l - n) * B ≡ suc (l - (n + 1)) * B = ap (λ k. k * B) e in
    omega (arith, f, suc-mul (l - (n + 1)) B)

pot : State → ℕ
pot s = (s.limit - length s.members) * length s.heaps + left (length s.heaps) s.held
    + (length s.heaps - s.next)

measure : State → ℕ
measure s = cond (is_over s) 0 (pot s)

abbrev Few : State → Type 0
Few s = (length s.generators ≤ s.next) × (s.next ≤ length s.heaps) × (0 < length s.members)

-- what a turn comes to that isn't the end
abbrev Falls : ℕ → State → Type 0
Falls n t = (measure t < n) × Few t

measure-le : (s : State) (n : ℕ) → pot s ≤ n → measure s ≤ n
unfolding measure
measure-le s n h = cond_both (is_over s) 0 (pot s) (λ z. z ≤ n) (λ _. omega arith) (λ _. h)

measure_of-keep : (t : State) (x : Pair) (parent heap : ℕ)
    → measure (kept_with t x parent heap) ≤ pot t
unfolding measure pot
measure_of-keep t x parent heap =
    let n : Held = record { pair = x; place = length t.members; by = 0 } in
    let e : Member = record { pair = x; parent = parent; heap = heap } in
    let len = length-append t.members (e ∷ []) in
    let B = length t.heaps in
    cond_both (is_over (kept_with t x parent heap)) 0 _
    (λ z. z ≤ (t.limit - length t.members) * B + left B t.held + (B - t.next)) (λ _. omega arith)
    (λ room.
    let less : length (t.members ++ e ∷ []) ≤ t.limit = ltb-false _ _ room in
    let a = room_step t.limit (length t.members) B (omega arith) in
    let b = left-push B (filter (λ m. not (covers x m.pair)) t.held) n in
    let c = left-filter B (λ m. not (covers x m.pair)) t.held in
    let f : (t.limit - length (t.members ++ e ∷ [])) * B ≡ (t.limit - (length t.members + 1)) * B =
    ap (λ z. (t.limit - z) * B) len in
    omega arith)

pot-bump : (s : State) (i : ℕ) → i < length s.held
    → (get_or s.held i blank_held).by < length s.heaps → pot (bumped s i) + 1 ≡ pot s
unfolding pot
pot-bump s i l h =
    let a = left-set (length s.heaps) s.held i (multiplied (get_or s.held i blank_held)) blank_held
    l h refl in
    omega arith

pot-next : (s : State) → s.next < length s.heaps → (pot (passed s) + 1 ≡ pot s)
    × (pot (widened s) + 1 ≡ pot s)
unfolding pot
pot-next s l = (omega arith, omega arith)

product_falls : (s : State) → Few s → (i : ℕ) → i < length s.held
    → (get_or s.held i blank_held).by < length s.generators → Falls (pot s) (product_turn s i)
product_falls s few i l h =
    let (a, b, c) = few in
    let e = pot-bump s i l (omega arith) in
    let m = get_or s.held i blank_held in
    let g = get_or s.generators m.by blank_generator in
    let n : Member = record { pair = product_at s i; parent = m.place; heap = g.heap } in
    by_case (λ z. Falls (pot s) (product_if s i z)) (covered s.held (product_at s i))
    (λ _. let u = measure-le (bumped s i) (pot (bumped s i)) (omega arith) in
    (omega arith, (a, b, c)))
    (λ _. let u = measure_of-keep (bumped s i) (product_at s i) m.place g.heap in
    (omega arith, (a, b, omega (arith, length-append s.members (n ∷ [])))))

heap_falls : (s : State) → Few s → s.next < length s.heaps → Falls (pot s) (heap_turn s)
heap_falls s few l =
    let (a, b, c) = few in
    let x = get_or s.heaps s.next one in
    let g : Generator = record { pair = x; heap = s.next + 1 } in
    let n : Member = record { pair = x; parent = 0; heap = s.next + 1 } in
    let (e, f) = pot-next s l in
    by_case (λ z. Falls (pot s) (heap_if s z)) (covered s.held x)
    (λ _. let u = measure-le (passed s) (pot (passed s)) (omega arith) in
    (omega arith, (omega arith, omega arith, c)))
    (λ _. let u = measure_of-keep (widened s) x 0 (s.next + 1) in (
      omega arith,
      (
        omega (arith, length-append s.generators (g ∷ [])),
        omega arith,
        omega (arith, length-append s.members (n ∷ [])),
      ),
    ))

-- a turn that isn't the end lowers the measure
falls : (s : State) → Few s → (has_ended s ≡ true) ⊎ Falls (measure s) (turn s)
unfolding measure
falls s few =
    let is : length s.members ≤ s.limit → pot s ≡ measure s =
    λ room. sym (cond-false (is_over s) 0 (pot s) (le-ltb _ _ room)) in
    by_turn (λ t. (has_ended s ≡ true) ⊎ Falls (measure s) t) s inl
    (λ k. let (_, _, some) = few in let none = k.none in absurd (omega arith))
    (λ at k. inr (rw (is k.room) at (product_falls s few at k.within
    (has_turns s.held (length s.generators) at blank_held k.first k.within))))
    (λ k. inr (rw (is k.room) at (heap_falls s few k.more)))

module _ (table : Grid) (heaps : List Pair) (limit : ℕ) where
  abbrev first : State
  first = empty_turn (start table heaps limit)

  abbrev after : ℕ → State
  after n = turns n (start table heaps limit)

  first_is : turn (start table heaps limit) ≡ first
  first_is = cond-false (nat_lt limit 0) _ first (le-ltb _ _ (omega arith))

  first_measure : measure first ≤ limit * length heaps
  unfolding measure pot left
  first_measure = cond_both (is_over first) 0 _ (λ z. z ≤ limit * length heaps) (λ _. omega arith)
      (λ room.
      let more : 1 ≤ limit = ltb-false _ _ room in
      let a = room_step limit 0 (length heaps) (omega arith) in
      let b : (limit - (0 + 1)) * length heaps ≡ (limit - 1) * length heaps = refl in
      let c : (limit - 0) * length heaps ≡ limit * length heaps =
      ap (λ z. z * length heaps) (let q : limit - 0 ≡ limit = omega arith in q) in
      omega arith)

  still : (n : ℕ) → has_ended (after n) ≡ true → has_ended (after (suc n)) ≡ true
  still n e = subst (λ s. has_ended s ≡ true) (sym (stays_put (after n) e)) e

  counted : (n : ℕ) → (has_ended (after (suc n)) ≡ true)
      ⊎ ((measure (after (suc n)) + n ≤ limit * length heaps) × Few (after (suc n)))
  counted zero =
      inr (subst (λ z. (measure z + 0 ≤ limit * length heaps) × Few z) (sym first_is)
      (let h = first_measure in omega arith, (omega arith, omega arith, omega arith)))
  counted (suc n) = elim (counted n) [
    | inl e ↦ inl (still (suc n) e)
    | inr (h, few) ↦ elim (falls (after (suc n)) few) [
      | inl e ↦ inl (still (suc n) e)
      | inr (k, f) ↦ inr (omega arith, f)
    ]
  ]

  -- so it ends within this many turns
  pub ends_within : has_ended (after (limit * length heaps + 2)) ≡ true
  ends_within =
      let q : suc (limit * length heaps + 1) ≡ limit * length heaps + 2 = omega arith in
      subst (λ k. has_ended (after k) ≡ true) q
      (elim (counted (limit * length heaps + 1))
      [ inl e ↦ e | inr (h, f) ↦ absurd (omega arith) ])
