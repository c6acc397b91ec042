-- What is found by the bytes of a text of a whole game, or of a presentation of an infinite quotient.
use Rattle.std.proofs.Common.{◌≡◌, ◌∙◌, ◌<◌, codes, refl, subst, sym, ℕ, true, List, Option, Some, None, Result, Ok, Err, Vec, length}
use Rattle.std.specs.Prelude.{is_some}
use Rattle.std.proofs.lemmas.Bool.{true≢false}
use Rattle.given_quotients.specs.Checks.{IsFrontOf}
use Rattle.given_quotients.specs.Given.{JudgesPresented}
use Rattle.given_quotients.specs.declared.giving.Quotient.{Quotient}
use Rattle.given_quotients.specs.declared.giving.Quotient.TheVariants.{Finite, Whole, Presented}
use Rattle.given_quotients.proofs.Fronts.{no_long_presented, no_long_whole}
use Rattle.given_quotients.proofs.Given.{of_all}
use Rattle.presented_checker.specs.Refused.{Kept}
use Rattle.verdict_commands.specs.Checks.{FindsInfinite, JudgesInfinite, RefusesEndless}
use Rattle.verdict_commands.specs.Checks.RefusesEndless.{FiniteOrder, Refused}
use Rattle.verdict_texts.specs.Lines.{no_line}

judges_longer : {A : Type 0} (front bytes : List ℕ) (q : Result Quotient (Vec ℕ A)) → 4194304 < length front
    → 4194304 < length bytes → JudgesInfinite front q → JudgesInfinite bytes q
judges_longer front bytes (Ok (Finite c)) long more none = absurd none
judges_longer front bytes (Ok (Whole c)) long more shown = absurd (no_long_whole front long shown.0)
judges_longer front bytes (Ok (Presented k)) long more shown = absurd (no_long_presented front long shown.0)
judges_longer front bytes (Err text) long more hidden = record {
  whole = λ begins. absurd (no_long_whole bytes more begins);
  presented = λ begins. absurd (no_long_presented bytes more begins);
  neither = λ _ _. hidden.neither (no_long_whole front long) (no_long_presented front long);
}

found : {A : Type 0} (Are : List ℕ → Type 0) (bytes : List ℕ) → Are bytes
    → (q : Result Quotient (Vec ℕ A)) → JudgesInfinite bytes q → FindsInfinite Are q
found Are bytes are (Ok q) judged = (bytes, are, judged)
found Are bytes are (Err text) judged = (bytes, are, judged)

-- what is found by the front is found by all
pub finds_all : {A : Type 0} (Are : List ℕ → Type 0) (front : List ℕ) (q : Result Quotient (Vec ℕ A))
    → IsFrontOf Are front → JudgesInfinite front q → FindsInfinite Are q
finds_all Are front q (bytes, are, is) judged =
    found Are bytes are q
    (of_all (λ (b : List ℕ). JudgesInfinite b q) bytes front is (judges_longer front bytes q) judged)

some_order : (o : Option ℕ) → is_some o ≡ true → (q : ℕ) × (o ≡ Some q)
some_order (Some q) some = (q, refl)
some_order None some = absurd (true≢false (sym some))

-- what is told of a presentation, by what was judged of it
pub finite_told : {A : Type 0} (bytes text : List ℕ) (r : Result Kept (Vec ℕ A)) (k : Kept)
    (o : Option ℕ) → JudgesPresented bytes r → r ≡ Ok k → o ≡ k.order → is_some o ≡ true
    → text ≡ no_line 34 (codes "Finite") → RefusesEndless bytes text
finite_told {A = A} bytes text r k o judged is order some told =
    let right = subst (λ (s : Result Kept (Vec ℕ A)). JudgesPresented bytes s) is judged in
    let q = some_order o some in
    FiniteOrder k q.0 right.0 right.1 (sym order ∙ q.1) told

pub refused_told : {A : Type 0} (bytes : List ℕ) (r : Result Kept (Vec ℕ A)) (text : Vec ℕ A)
    → JudgesPresented bytes r → r ≡ Err text → RefusesEndless bytes text.items
refused_told {A = A} bytes r text judged is =
    Refused (subst (λ (s : Result Kept (Vec ℕ A)). JudgesPresented bytes s) is judged)
