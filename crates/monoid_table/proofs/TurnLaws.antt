-- Turns one after another.
-- By induction on their number. A run of triples is as many turns, and the first that fails is the
-- last.
use Rattle.std.proofs.Common.{◌≡◌, ◌⊎◌, ℕ, zero, suc, ◌+◌, ◌-◌, ◌<◌, ◌≤◌, Bool, true, false, not, refl, sym, ap, ◌∙◌, inl, inr, arith}
use Rattle.std.specs.Prelude.{◌||◌, ◌==◌, if◌then◌else◌}
use Rattle.std.proofs.lemmas.Bool.{cases_lt, cases_Bool, eq-eqb, ne_eqb, eqb-false, or_parts, or_right}
use Rattle.std.specs.Prelude.{Result, Ok, Err}
use Rattle.monoid_table.specs.declared.fault.LawFault.{LawFault}
use Rattle.monoid_table.specs.declared.fault.LawFault.TheVariants.{Law}
use Rattle.monoid_table.specs.Faults.{answer_of}
use Rattle.monoid_table.specs.Grids.{Grid}
use Rattle.monoid_table.specs.Turns.{JobState, triples, triple_holds, is_over, turn, turns}

abbrev pub state : Grid → ℕ → Bool → JobState
state g spent refused = record { grid = g; spent = spent; refused = refused }

pub turns-add : (m n : ℕ) (s : JobState) → turns (m + n) s ≡ turns n (turns m s)
unfolding turns
turns-add zero n s = let e : zero + n ≡ n = omega arith in ap (λ k. turns k s) e
turns-add (suc m) n s =
    let e : suc m + n ≡ suc (m + n) = omega arith in
    ap (λ k. turns k s) e ∙ turns-add m n (turn s)

pub turn-over : (s : JobState) → is_over s ≡ true → turn s ≡ s
turn-over s over = rw over refl

pub turn-going : (s : JobState) → is_over s ≡ false
    → turn s ≡ state s.grid (s.spent + 1) (not (triple_holds s.grid.order s.grid.entries s.spent))
turn-going s over = rw over refl

-- nothing happens after the end
pub turns-over : (n : ℕ) (s : JobState) → is_over s ≡ true → turns n s ≡ s
unfolding turns
turns-over zero s over = refl
turns-over (suc n) s over = ap (turns n) (turn-over s over) ∙ turns-over n s over

pub going : (g : Grid) (spent : ℕ) → spent < triples g.order → is_over (state g spent false) ≡ false
going g spent lt = ne_eqb spent (triples g.order) (λ e. omega arith)

not-not : (b : Bool) → not (not b) ≡ b
not-not true = refl
not-not false = refl

-- a run of triples of which all but the last hold
pub turns-run : (n : ℕ) (g : Grid) (spent : ℕ) (broken : Bool) → 0 < n → spent + n ≤ triples g.order
    → ((i : ℕ) → spent ≤ i → i + 1 < spent + n → triple_holds g.order g.entries i ≡ true)
    → triple_holds g.order g.entries (spent + n - 1) ≡ not broken
    → turns n (state g spent false) ≡ state g (spent + n) broken
unfolding turns
turns-run zero g spent broken some within passed last = absurd (omega arith)
turns-run (suc zero) g spent broken some within passed last =
    let at : spent + 1 - 1 ≡ spent = omega arith in
    turn-going (state g spent false) (going g spent (omega arith))
    ∙ ap (λ b. state g (spent + 1) b) (ap not (sym (ap (triple_holds g.order g.entries) at) ∙ last)
    ∙ not-not broken)
turns-run (suc (suc n)) g spent broken some within passed last =
    let at : spent + 1 + suc n ≡ spent + suc (suc n) = omega arith in
    ap (turns (suc n)) (turn-going (state g spent false) (going g spent (omega arith))
    ∙ ap (λ b. state g (spent + 1) (not b)) (passed spent (omega arith) (omega arith)))
    ∙ turns-run (suc n) g (spent + 1) broken (omega arith) (omega arith)
    (λ i low high. passed i (omega arith) (omega arith))
    (ap (λ k. triple_holds g.order g.entries (k - 1)) at ∙ last)
    ∙ ap (λ k. state g k broken) at

-- enough turns come to an end
pub turns-end : (n : ℕ) (g : Grid) (spent : ℕ) → spent ≤ triples g.order
    → triples g.order ≤ spent + n → is_over (turns n (state g spent false)) ≡ true
unfolding turns
turns-end zero g spent within enough = eq-eqb spent (triples g.order) (omega arith)
turns-end (suc n) g spent within enough = elim (cases_lt spent (triples g.order)) [
  | inl less ↦
      ap (λ s. is_over (turns n s)) (turn-going (state g spent false) (going g spent less))
      ∙ elim (triple_holds g.order g.entries spent) as
      (λ held. is_over (turns n (state g (spent + 1) (not held))) ≡ true) [
        | true ↦ turns-end n g (spent + 1) (omega arith) (omega arith)
        | false ↦ ap is_over (turns-over n (state g (spent + 1) true) refl)
      ]
  | inr past ↦
      let over = eq-eqb spent (triples g.order) (omega arith) in
      ap is_over (turns-over (suc n) (state g spent false) over) ∙ over
]

-- the rows stay
pub turns-grid : (n : ℕ) (s : JobState) → (turns n s).grid ≡ s.grid
unfolding turns
turns-grid zero s = refl
turns-grid (suc n) s = turns-grid n (turn s) ∙ one (is_over s)
  where
    one : (b : Bool)
        → (if b then s else record {
          grid = s.grid;
          spent = s.spent + 1;
          refused = not (triple_holds s.grid.order s.grid.entries s.spent);
        }).grid ≡ s.grid
    one true = refl
    one false = refl

still : (s : JobState) → is_over s ≡ false → s.refused ≡ false
still s e = (or_parts _ _ e).0

-- a run of triples, from any state that isn't over
pub ran : (n : ℕ) (s : JobState) (broken : Bool) → is_over s ≡ false → 0 < n
    → s.spent + n ≤ triples s.grid.order
    → ((i : ℕ) → s.spent ≤ i → i + 1 < s.spent + n → triple_holds s.grid.order s.grid.entries i
    ≡ true)
    → triple_holds s.grid.order s.grid.entries (s.spent + n - 1) ≡ not broken
    → state s.grid (s.spent + n) broken ≡ turns n s
ran n s broken over some within passed last =
    sym (ap (λ b. turns n (state s.grid s.spent b)) (still s over)
    ∙ turns-run n s.grid s.spent broken some within passed last)

-- triples that hold, none of which is the last
pub passing-on : (n : ℕ) (s : JobState) → is_over s ≡ false → s.spent + n < triples s.grid.order
    → ((i : ℕ) → s.spent ≤ i → i < s.spent + n → triple_holds s.grid.order s.grid.entries i ≡ true)
    → (state s.grid (s.spent + n) s.refused ≡ turns n s)
    × (is_over (state s.grid (s.spent + n) s.refused) ≡ false)
unfolding turns
passing-on zero s over room held =
    let e : s.spent + 0 ≡ s.spent = omega arith in
    let d = ap (λ k. state s.grid k s.refused) e in
    (d, ap is_over d ∙ over)
passing-on (suc n) s over room held =
    let a : s.spent ≤ s.spent + suc n - 1 = omega arith in
    let b : s.spent + suc n - 1 < s.spent + suc n = omega arith in
    let r = ap (state s.grid (s.spent + suc n)) (still s over) in (
      r ∙ ran (suc n) s false over (omega arith) (omega arith)
          (λ i low high. held i low (omega arith)) (held (s.spent + suc n - 1) a b),
      ap is_over r ∙ going s.grid (s.spent + suc n) room,
    )

-- some turns, and then the others
pub turns-split : (m k n : ℕ) (s : JobState) → m + k ≡ n → turns k (turns m s) ≡ turns n s
turns-split m k n s e = sym (turns-add m k s) ∙ ap (λ n. turns n s) e

pub turns-none : (n : ℕ) (s : JobState) → n ≡ 0 → turns n s ≡ s
unfolding turns
turns-none n s e = ap (λ n. turns n s) e

-- after the end there is no third answer
pub over-answers : (s : JobState) (b : Bool) → is_over s ≡ true → answer_of s ≡ Ok b
    → answer_of s ≡ Ok true
over-answers s b over ok =
    elim s.refused as (λ r. (r || (s.spent == triples s.grid.order)) ≡ true
    → ◌≡◌ {A = Result Bool LawFault}
    (if r then Err Law else Ok (s.spent == triples s.grid.order)) (Ok b)
    → ◌≡◌ {A = Result Bool LawFault} (if r then Err Law else Ok (s.spent == triples s.grid.order))
    (Ok true)) [
      | true ↦ λ e f. absurd (cc)
      | false ↦ λ e f. ap Ok e
    ] over ok

pub over-or-not : (s : JobState) → (is_over s ≡ true) ⊎ (is_over s ≡ false)
over-or-not s = cases_Bool (is_over s)

pub clash : (b : Bool) → b ≡ true → b ≡ false → ⊥
clash b e f = cc

turn-spends : (s : JobState) → ((turn s).spent ≤ s.spent + 1)
    × (is_over (turn s) ≡ false → (turn s).spent ≡ s.spent + 1)
turn-spends s = elim (over-or-not s) [
  | inl over ↦
      let same : (turn s).spent ≡ s.spent = ap (λ t. t.spent) (turn-over s over) in (
        omega arith,
        λ going.
            absurd (clash (is_over s) over (sym (ap is_over (turn-over s over)) ∙ going)),
      )
  | inr going ↦
      let more : (turn s).spent ≡ s.spent + 1 = ap (λ t. t.spent) (turn-going s going) in
      (omega arith, λ _. more)
]

pub turns-spend : (n : ℕ) (s : JobState) → ((turns n s).spent ≤ s.spent + n)
    × (is_over (turns n s) ≡ false → (turns n s).spent ≡ s.spent + n)
unfolding turns
turns-spend zero s = (omega arith, λ _. omega arith)
turns-spend (suc n) s =
    let later = turns-spend n (turn s) in
    let now = turn-spends s in (
      omega (arith, later.0, now.0),
      λ going. elim (over-or-not (turn s)) [
        | inl over ↦ absurd
            (clash (is_over (turn s)) over (sym (ap is_over (turns-over n (turn s) over)) ∙ going))
        | inr still ↦ omega (arith, later.1 going, now.1 still)
      ],
    )

-- the turn at a triple where a law fails, and that at the last one, end the job
pub turn-ends : (s : JobState) → is_over s ≡ false
    → (triple_holds s.grid.order s.grid.entries s.spent ≡ false)
    ⊎ (s.spent + 1 ≡ triples s.grid.order)
    → is_over (turns 1 s) ≡ true
unfolding turns
turn-ends s on (inl fails) = ap is_over (turn-going s on) ∙ rw fails refl
turn-ends s on (inr last) =
    ap is_over (turn-going s on) ∙ or_right _ _ (eq-eqb (s.spent + 1) (triples s.grid.order) last)

-- before the end some triple is left
pub some-left : (s : JobState) → is_over s ≡ false → s.spent ≤ triples s.grid.order
    → s.spent < triples s.grid.order
some-left s on within =
    let still_on = or_parts s.refused (s.spent == triples s.grid.order) on in
    let apart = eqb-false s.spent (triples s.grid.order) still_on.1 in omega arith
