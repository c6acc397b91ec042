-- What is seen of as many heaps as are enough is true of a whole game.
use Rattle.std.proofs.Common.{◌≡◌, ℕ, ◌<◌, ◌≤◌, List, Option, Some, None, Result, Ok, Err, refl, subst, sym, arith}
use Rattle.std.specs.Prelude.{IfOk, IfErr}
use Rattle.misere_theory.specs.Labels.{BreaksRule, says_by}
use Rattle.presented_text.specs.declared.TheConstants.{MOST_HEAPS}
use Rattle.presented_text.specs.Said.{PresentedSaid, IsInRanges}
use Rattle.presented_claims.specs.Claims.{claim_of}
use Rattle.presented_claims.specs.Presents.{Presents}
use Rattle.presented_forms.specs.Form.{IsInForm}
use Rattle.answers.specs.InfiniteAnswers.{Why, Text, Law, Outcome, Limit, Memory, Part, Undecided, Finite}
use Rattle.presented_checker.specs.Unrolled.{unrolled, enough_heaps}
use Rattle.presented_checker.proofs.Lists.{all-before}
use Rattle.presented_checker.proofs.Whole.{presents, infinite, leaves, breaks}
use Rattle.presented_checker.proofs.Forms.{enough, in-ranges, in-form}
use Rattle.presented_checker.specs.Refused.{IsOrder, IsBrokenAt, Fits}

module _ (c : PresentedSaid) (B : ℕ) where
  pub order_of_all : (q : Option ℕ) → IsOrder (unrolled c B) q → IsOrder c q
  order_of_all (Some q) is = let (b, are, same) = is in (
    b,
    record {
      empty = are.empty;
      some = are.some;
      elements = are.elements;
      numbers = are.numbers;
      words = are.words;
      counted = are.counted;
    },
    same,
  )
  order_of_all None is = (is.0, infinite c B is.1)

  broken_too : (code X : List ℕ) → IsBrokenAt (unrolled c B) code X → IsBrokenAt c code X
  broken_too code X is = record {
    same = is.same;
    converges = is.converges;
    position = all-before c B X is.position;
    breaks = λ forms.
        subst (λ k. BreaksRule k (says_by (claim_of c forms)) X) (sym is.same)
        (breaks c B forms X is.position
        (subst (λ k. BreaksRule k (says_by (claim_of (unrolled c B) forms)) X) is.same (is.breaks forms)));
  }

  pub fits_too : (why : Why) → Fits (unrolled c B) why → Fits c why
  fits_too Text is = is
  fits_too Law is = is
  fits_too (Outcome code X) is = broken_too code X is
  fits_too Limit is = is
  fits_too Memory is = is
  fits_too (Part n) is = leaves c B n is
  fits_too Undecided is = is
  fits_too Finite is = is

-- ---- the presentation that is made, and the one that is told again

module _ (c u : PresentedSaid) (made : u ≡ unrolled c (enough_heaps c)) (ranges : IsInRanges c) where
  pub ranges-made : enough_heaps c ≤ MOST_HEAPS → IsInRanges u
  ranges-made few =
      let more = enough c ranges in
      let some = ranges.heaps.0 in
      subst IsInRanges (sym made) (in-ranges c (enough_heaps c) ranges (omega arith) few)

  pub form-made : IsInForm c → IsInForm u
  form-made form = subst IsInForm (sym made) (in-form c (enough_heaps c) ranges (enough c ranges) form)

  pub accepted-made : {E : Type 0} → 0 < c.period → (r : Result (Option ℕ) E)
      → IfOk r (λ q. Presents u × IsOrder u q) → IfOk r (λ q. Presents c × IsOrder c q)
  accepted-made some (Ok q) is =
      let (right, order) = subst (λ v. Presents v × IsOrder v q) made is in
      (presents c ranges some (enough_heaps c) (omega arith) right, order_of_all c (enough_heaps c) q order)
  accepted-made some (Err e) is = tt

  module _ {E : Type 0} (why : E → Why) where
    pub refused-made : (r : Result (Option ℕ) E) → IfErr r (λ e. Fits u (why e)) → IfErr r (λ e. Fits c (why e))
    refused-made (Ok q) is = tt
    refused-made (Err e) is = fits_too c (enough_heaps c) (why e) (subst (λ v. Fits v (why e)) made is)

pub told-again : (c u : PresentedSaid) (heaps period : ℕ) (words : List (Option (List ℕ)))
    → u ≡ unrolled c (enough_heaps c) → heaps ≡ c.heaps → period ≡ c.period → words ≡ c.words
    → record u { heaps = heaps; period = period; words = words } ≡ c
told-again c u heaps period words made same_heaps same_period same_words = rw (made, same_heaps, same_period, same_words) refl
