-- How many turns there are to the end.
-- A job ends with the first triple where a law fails, or with the last one.
use Rattle.std.proofs.Common.{◌≡◌, ℕ, zero, suc, ◌+◌, ◌-◌, ◌*◌, ◌<◌, ◌≤◌, ◌↔◌, Bool, true, false, not, min, refl, sym, ap, ◌∙◌, inl, inr, arith}
use Rattle.std.proofs.lemmas.Bool.Decides.{nat_tests}
use native.Mathlib.Decide.{dec_lt}
use Rattle.misere_theory.specs.Quotients.{LawFails}
use Rattle.monoid_table.specs.Grids.{Grid, IsShaped, IsTable, entry}
use Rattle.monoid_table.specs.Jobs.{HasLookedAt}
use Rattle.monoid_table.specs.Turns.{JobState, triples, triple_holds, is_over, turn, turns, fresh, first_failing, passing, table_cost}
use Rattle.monoid_table.proofs.Checked.{is-table, is-breach, monoid-holds}
use Rattle.monoid_table.proofs.TurnLaws.{state, turns-add, turns-over, turns-run, turns-spend, turn-over, turn-going, over-or-not, going, clash, turns-split}
use Rattle.std.proofs.lemmas.Bool.{cases_Bool}

-- the last of so many turns
pub turns-next : (n : ℕ) (s : JobState) → turns (n + 1) s ≡ turn (turns n s)
unfolding turns
turns-next n s = turns-add n 1 s

more-spent : (n : ℕ) (s : JobState) → s.spent ≤ (turns n s).spent
unfolding turns
more-spent zero s = omega arith
more-spent (suc n) s =
    let h = more-spent n (turn s) in
    elim (over-or-not s) [
      | inl over ↦ let e = ap (λ t. t.spent) (turn-over s over) in omega arith
      | inr on ↦ let e = ap (λ t. t.spent) (turn-going s on) in omega arith
    ]

-- the turns that are taken
pub turns-taken : (n : ℕ) (s : JobState) → turns ((turns n s).spent - s.spent) s ≡ turns n s
unfolding turns
turns-taken zero s = let e : s.spent - s.spent ≡ 0 = omega arith in ap (λ k. turns k s) e
turns-taken (suc n) s = elim (over-or-not s) [
  | inl over ↦
      let e = turns-over (suc n) s over in
      let d : (turns (suc n) s).spent - s.spent ≡ 0 = let f = ap (λ t. t.spent) e in omega arith in
      ap (λ k. turns k s) d ∙ sym e
  | inr on ↦
      let e = ap (λ t. t.spent) (turn-going s on) in
      let m = more-spent n (turn s) in
      let d : (turns n (turn s)).spent - s.spent ≡ suc ((turns n (turn s)).spent - (turn s).spent) =
      omega arith in
      ap (λ k. turns k s) d ∙ turns-taken n (turn s)
]

-- and none of them is taken after the end
pub turns-not-over : (n k : ℕ) (s : JobState) → s.spent + k < (turns n s).spent
    → is_over (turns k s) ≡ false
turns-not-over n k s l = elim (over-or-not (turns k s)) [
  | inr on ↦ on
  | inl over ↦ elim (dec_lt k n) [
    | yes b ↦
        let e = turns-split k (n - k) n s (omega arith) in
        let f = ap (λ t. t.spent) (sym e ∙ turns-over (n - k) (turns k s) over) in
        let m = (turns-spend k s).0 in
        absurd (omega arith)
    | no b ↦ let m = (turns-spend n s).0 in absurd (omega arith)
  ]
]

pub turns-left : (n : ℕ) (s : JobState) → (turns n s).spent < s.spent + n
    → is_over (turns n s) ≡ true
turns-left n s l = elim (over-or-not (turns n s)) [
  | inl over ↦ over
  | inr on ↦ let e = (turns-spend n s).1 on in absurd (omega arith)
]

-- a run of triples from the start
run-first : (n : ℕ) (g : Grid) (broken : Bool) → 0 < n → n ≤ triples g.order
    → ((i : ℕ) → i + 1 < n → triple_holds g.order g.entries i ≡ true)
    → triple_holds g.order g.entries (n - 1) ≡ not broken
    → turns n (fresh g) ≡ state g n broken
run-first n g broken some within passed last =
    let e : 0 + n ≡ n = omega arith in
    rw e at (turns-run n g 0 broken some (omega arith) (λ i a b. passed i (omega arith)) (rw e last))

module _ (g : Grid) where
  abbrev holds : ℕ → Bool
  holds i = triple_holds g.order g.entries i

  -- each triple before it passes, and it fails, if it is one
  record IsFirst (i n first : ℕ) : Type 0 where
    from : i ≤ first
    within : first ≤ i + n
    passed : (k : ℕ) → i ≤ k → k < first → holds k ≡ true
    failed : first < i + n → holds first ≡ false

  is-first : (i n : ℕ) → IsFirst i n (first_failing g i n)
  unfolding first_failing
  is-first i zero = record {
    from = omega arith;
    within = omega arith;
    passed = λ k a b. absurd (omega arith);
    failed = λ l. absurd (omega arith);
  }
  is-first i (suc n) = elim (cases_Bool (holds i)) [
    | inr fails ↦ rw fails (record {
      from = omega arith;
      within = omega arith;
      passed = λ k a b. absurd (omega arith);
      failed = λ l. fails;
    })
    | inl passes ↦
        let h = is-first (i + 1) n in
        let a = h.from in
        let b = h.within in
        rw passes (record {
          from = omega arith;
          within = omega arith;
          passed = λ k p l. elim (dec_lt i k) [
            | yes m ↦ h.passed k (omega arith) l
            | no m ↦ (let d : i ≡ k = omega arith in rw d at passes)
          ];
          failed = λ l. h.failed (omega arith);
        })
  ]

  passing-first : IsFirst 0 (triples g.order) (passing g)
  passing-first = is-first 0 (triples g.order)

  -- so many turns from the start, no more than pass
  passed-all : (n : ℕ) → n ≤ passing g → turns n (fresh g) ≡ state g n false
  unfolding turns
  passed-all zero l = refl
  passed-all (suc n) l =
      let h = passing-first in
      let w = h.within in
      run-first (suc n) g false (omega arith) (omega arith)
      (λ i b. h.passed i (omega arith) (omega arith))
      (h.passed (suc n - 1) (omega arith) (omega arith))

  over-at-all : (n : ℕ) → n ≡ triples g.order → is_over (state g n false) ≡ true
  over-at-all n e = grind (arith, nat_tests)

  -- the state at the end, and what brought it there
  record Ending : Type 0 where
    count : ℕ
    broken : Bool
    count_is : count ≡ table_cost g
    reached : turns count (fresh g) ≡ state g count broken
    over : is_over (state g count broken) ≡ true
    all : broken ≡ false → passing g ≡ triples g.order
    some : broken ≡ true → (passing g < triples g.order) × (count ≡ passing g + 1)

  ending : Ending
  ending = elim (dec_lt (passing g) (triples g.order)) [
    | yes l ↦
        let h = passing-first in
        record {
          count = passing g + 1;
          broken = true;
          count_is = omega arith;
          reached =
              turns-next (passing g) (fresh g) ∙ ap turn (passed-all (passing g) (omega arith))
              ∙ turn-going (state g (passing g) false) (going g (passing g) l)
              ∙ ap (λ b. state g (passing g + 1) (not b)) (h.failed (omega arith));
          over = refl;
          all = λ e. absurd (cc);
          some = λ e. (l, refl);
        }
    | no l ↦
        let h = passing-first in
        let w = h.within in
        record {
          count = passing g;
          broken = false;
          count_is = omega arith;
          reached = passed-all (passing g) (omega arith);
          over = over-at-all (passing g) (omega arith);
          all = λ e. omega arith;
          some = λ e. absurd (cc);
        }
  ]

  before-the-end : (n : ℕ) → n < ending.count → (turns n (fresh g) ≡ state g n false)
      × (n ≤ passing g) × (n < triples g.order)
  before-the-end n l =
      let e = ending.count_is in
      (passed-all n (omega arith), omega arith, omega arith)

  behind-the-end : (n : ℕ) → ending.count ≤ n
      → turns n (fresh g) ≡ state g ending.count ending.broken
  behind-the-end n l =
      sym (turns-split ending.count (n - ending.count) n (fresh g) (omega arith))
      ∙ ap (turns (n - ending.count)) ending.reached
      ∙ turns-over (n - ending.count) (state g ending.count ending.broken) ending.over

  pub cost-spent : (n : ℕ) → (turns n (fresh g)).spent ≡ min n (table_cost g)
  cost-spent n =
      let e = ending.count_is in
      elim (dec_lt n ending.count) [
        | yes l ↦ (let a = ap (λ t. t.spent) (before-the-end n l).0 in omega arith)
        | no l ↦ (let a = ap (λ t. t.spent) (behind-the-end n (omega arith)) in omega arith)
      ]

  pub cost-over : (n : ℕ) → (is_over (turns n (fresh g)) ≡ true) ↔ (table_cost g ≤ n)
  cost-over n = elim (dec_lt n ending.count) [
    | yes l ↦
        let (a, p, t) = before-the-end n l in
        let e = ending.count_is in
        (λ over. absurd (clash _ over (ap is_over a ∙ going g n t)), λ m. absurd (omega arith))
    | no l ↦
        let e = ending.count_is in
        let a = behind-the-end n (omega arith) in
        (λ over. omega arith, λ m. ap is_over a ∙ ending.over)
  ]

  pub cost-refused : (n : ℕ) → ((turns n (fresh g)).refused ≡ true)
      ↔ (passing g < min n (triples g.order))
  cost-refused n = elim (dec_lt n ending.count) [
    | yes l ↦
        let (a, p, t) = before-the-end n l in
        (λ r. absurd (clash _ r (ap (λ s. s.refused) a)), λ m. absurd (omega arith))
    | no l ↦
        let a = ap (λ s. s.refused) (behind-the-end n (omega arith)) in
        by_broken ending.broken refl a (omega arith)
  ]
    where
      by_broken : (b : Bool) → ending.broken ≡ b → (turns n (fresh g)).refused ≡ ending.broken
          → ending.count ≤ n → ((turns n (fresh g)).refused ≡ true)
          ↔ (passing g < min n (triples g.order))
      by_broken true e a l = let (below, count) = ending.some e in (λ r. omega arith, λ m. a ∙ e)
      by_broken false e a l = let whole = ending.all e in
          (λ r. absurd (clash _ r (a ∙ e)), λ m. absurd (omega arith))

  pub first-passes : (i : ℕ) → i < passing g → holds i ≡ true
  first-passes i l = passing-first.passed i (omega arith) l

  pub first-fails : passing g < triples g.order → holds (passing g) ≡ false
  first-fails l = passing-first.failed (omega arith)

  module _ (shaped : IsShaped g.order g.entries) where
    all-looked : passing g ≡ triples g.order → HasLookedAt g.order g.entries (triples g.order) false
    all-looked e = record {
      shaped = shaped;
      within = omega arith;
      passed = λ i l. first-passes i (omega arith);
      last = λ _ l. first-passes (triples g.order - 1) (omega arith);
      broken = λ b. absurd (cc);
    }

    failure-looked : passing g < triples g.order
        → HasLookedAt g.order g.entries (passing g + 1) true
    failure-looked l = record {
      shaped = shaped;
      within = omega arith;
      passed = λ i m. first-passes i (omega arith);
      last = λ b. absurd (cc);
      broken = λ b. (
        omega arith,
        let e : passing g + 1 - 1 ≡ passing g = omega arith in
            ap holds e ∙ first-fails l,
      );
    }

    pub cost-some : 0 < table_cost g
    cost-some =
        let one = shaped.positive in
        let square : 1 ≤ g.order * g.order = grind arith in
        let cube : 1 ≤ g.order * g.order * g.order = grind arith in
        omega arith

    pub cost-table : (passing g ≡ triples g.order) ↔ IsTable g.order g.entries
    cost-table = (
      λ e. is-table g.order g.entries (all-looked e),
      λ t. elim (dec_lt (passing g) (triples g.order)) [
        | yes l ↦ absurd
            (clash _ (monoid-holds g.order g.entries t.monoid (passing g) l) (first-fails l))
        | no l ↦ (let w = passing-first.within in omega arith)
      ],
    )

    pub cost-no-table : passing g < triples g.order → LawFails g.order (entry g.order g.entries)
    cost-no-table l = is-breach g.order g.entries (passing g + 1) (failure-looked l)
