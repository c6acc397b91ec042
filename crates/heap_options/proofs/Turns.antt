-- The stages of a walk over a heap's options.
use Rattle.std.proofs.Common.{◌≡◌, ℕ, ◌+◌, ◌-◌, ◌*◌, ◌<◌, ◌≤◌, Bool, true, false, if◌then◌else◌, List, [], ◌∷◌, ◌++◌, length, Some, None, refl, sym, subst, ◌∙◌, ap, arith}
use Rattle.std.specs.Prelude.{Option}
use Rattle.std.specs.Option.{MatchOption}
use native.Mathlib.Decide.{dec_lt}
use Rattle.octal_code.specs.Bits.{allows}
use Rattle.octal_code.specs.declared.leaving.Leaving.TheVariants.{TwoHeaps, ThreeHeaps}
use Rattle.heap_options.specs.Options.{three_left, where_holds, splits, last_first}
use Rattle.heap_options.specs.Walks.{single_left, splits_to_try, triples_to_try, last_part, options_from, left_at, rest, after_single, at_triples, after_row, after_all, stages, stages_left, IsTurn}
use Rattle.heap_options.proofs.WalkLaws.{single_then_splits, none_at, three_off, triples_from_one, next_row, no_row_left}
use Rattle.heap_options.specs.declared.left.Left.{Left}
use Rattle.heap_options.specs.declared.walk.Untried.TheVariants.{Everything, Splits, Triples}
use Rattle.heap_options.specs.declared.walk.Walk.{Walk}

pub after_all_falls : (code : List ℕ) (s : Walk) → s.away < length code
    → stages_left code (after_all s) < stages_left code s
after_all_falls code s inside =
    let e : length code - s.away ≡ length code - (s.away + 1) + 1 = omega arith in rw e (omega arith)

-- a later stage of what takes the same number away
pub stage_falls : (p a b : ℕ) → a < b → p + a < p + b
stage_falls p a b l = omega arith

single_first : (code : List ℕ) (s : Walk) → s.away < length code → s.untried ≡ Everything
    → rest code s ≡ single_left code s.heap s.away ++ rest code (after_single s)
single_first code s inside is =
    ap (left_at code s.heap s.most s.away) is
    ∙ single_then_splits code s.heap s.most s.away inside

-- the option that leaves at most one heap
pub single_turn : (code : List ℕ) (s t : Walk) (r : Option Left) → s.away < length code
    → s.untried ≡ Everything
    → MatchOption r (single_left code s.heap s.away ≡ [])
    (λ left. single_left code s.heap s.away ≡ left ∷ [])
    → t ≡ after_single s → IsTurn code s r t
single_turn code s t None inside is none after =
    subst (IsTurn code s None) (sym after) (
      single_first code s inside is ∙ ap (λ xs. xs ++ rest code (after_single s)) none,
      stage_falls ((s.heap + 3) * (length code - s.away)) (stages s.heap (Splits 1))
          (stages s.heap s.untried) (let e = ap (stages s.heap) is in omega arith),
    )
single_turn code s t (Some left) inside is one after =
    subst (IsTurn code s (Some left)) (sym after)
    (single_first code s inside is ∙ ap (λ xs. xs ++ rest code (after_single s)) one)

none_to_try : (b : Bool) (m a k : ℕ) → (if b then k else 0) ≡ 0
    → where_holds b (splits m a k) ≡ []
none_to_try true m a k e = none_at m a k e
none_to_try false m a k e = refl

-- the splits are over
pub splits_end : (code : List ℕ) (s t : Walk) (a : ℕ) → s.away < length code
    → s.untried ≡ Splits a
    → splits_to_try code s.heap s.most s.away a ≡ 0
    → (allows code s.away ThreeHeaps ≡ true → t ≡ at_triples s)
    → (allows code s.away ThreeHeaps ≡ false → s.away < length code → t ≡ after_all s)
    → IsTurn code s None t
splits_end code s t a inside is none triples more =
    by_bit (allows code s.away ThreeHeaps) refl
  where
    over : rest code s ≡ three_left code s.heap s.most s.away
        ++ options_from code s.heap s.most (s.away + 1)
    over =
        ap (left_at code s.heap s.most s.away) is
        ∙ ap
        (λ xs. xs ++ (three_left code s.heap s.most s.away
        ++ options_from code s.heap s.most (s.away + 1)))
        (none_to_try (allows code s.away TwoHeaps) (s.heap - s.away) a
        (last_part s.heap s.most s.away + 1 - a) none)

    by_bit : (b : Bool) → allows code s.away ThreeHeaps ≡ b → IsTurn code s None t
    by_bit true e = subst (IsTurn code s None) (sym (triples e)) (
      over
          ∙ ap (λ xs. xs ++ options_from code s.heap s.most (s.away + 1))
          (triples_from_one code s.heap s.most s.away),
      stage_falls ((s.heap + 3) * (length code - s.away)) (stages s.heap (Triples 1 1))
          (stages s.heap s.untried) (let f = ap (stages s.heap) is in omega arith),
    )
    by_bit false e = subst (IsTurn code s None) (sym (more e inside)) (
      over
          ∙ ap (λ xs. xs ++ options_from code s.heap s.most (s.away + 1))
          (three_off code s.heap s.most s.away e),
      after_all_falls code s inside,
    )

-- the triples with this first part are over
pub row_end : (code : List ℕ) (s t : Walk) (a b : ℕ) → s.away < length code
    → s.untried ≡ Triples a b
    → triples_to_try code s.heap s.most s.away a b ≡ 0
    → (a < last_first (s.heap - s.away) s.most → t ≡ after_row s a)
    → (last_first (s.heap - s.away) s.most ≤ a → s.away < length code → t ≡ after_all s)
    → IsTurn code s None t
row_end code s t a b inside is none row more =
    elim (dec_lt a (last_first (s.heap - s.away) s.most)) [
      | yes l ↦ subst (IsTurn code s None) (sym (row l)) (
        ap (left_at code s.heap s.most s.away) is
            ∙ ap (λ xs. xs ++ options_from code s.heap s.most (s.away + 1))
            (next_row code s.heap s.most s.away a b none l),
        stage_falls ((s.heap + 3) * (length code - s.away))
            (stages s.heap (Triples (a + 1) (a + 1))) (stages s.heap s.untried)
            (let f = ap (stages s.heap) is in omega arith),
      )
      | no f ↦ subst (IsTurn code s None) (sym (more (omega arith) inside)) (
        ap (left_at code s.heap s.most s.away) is
            ∙ ap (λ xs. xs ++ options_from code s.heap s.most (s.away + 1))
            (no_row_left code s.heap s.most s.away a b none (omega arith)),
        after_all_falls code s inside,
      )
    ]
