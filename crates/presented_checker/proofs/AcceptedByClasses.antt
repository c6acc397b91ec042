-- What is tested of a presentation by classes makes it the misère quotient of its heaps.
use Rattle.std.proofs.Common.{◌≡◌, ℕ, ◌+◌, List, length, arith}
use Rattle.std.specs.Prelude.{slice_index}
use Rattle.misere_theory.specs.Games.{IsPosition}
use Rattle.misere_theory.specs.Labels.{label_of, AreLabels, RepresentsBy}
use Rattle.presentations.specs.declared.TheConstants.{LETTERS}
use Rattle.presentations.specs.Vectors.{zeros, only}
use Rattle.normal_forms.specs.Reductions.{AreConvergent}
use Rattle.normal_forms.specs.Forms.{NormalForms, product_by}
use Rattle.normal_forms.proofs.Products.{element-labels}
use Rattle.normal_forms.proofs.Reached.{reached}
use Rattle.kept_positions.specs.Presented.{AreTestedLabels}
use Rattle.kept_positions.proofs.Told.{represented}
use Rattle.kept_positions.specs.Numbers.{KeptPositions, AreFamiliesTested}
use Rattle.kept_positions.proofs.Lifting.{none_bad_of_families}
use Rattle.presented_text.specs.Said.{PresentedSaid, IsInRanges}
use Rattle.presented_claims.specs.Claims.{heap_word, in_portion, IsElement, claim_of}
use Rattle.presented_claims.specs.Presents.{Presents}
use Rattle.presented_forms.proofs.Words.{heap-is}
use Rattle.presented_forms.specs.Form.{IsInForm}
use Rattle.presented_tables.specs.Tested.{HasWord}
use Rattle.presented_claims.specs.Led.{weight_of}
use Rattle.class_tables.specs.Tested.{ClassTables, AreTestedClasses}
use Rattle.presented_checker.specs.Endless.{HaveKept, HaveSettled}

-- each element is the label of a position
pub each_reached : (c : PresentedSaid) → IsInRanges c → IsInForm c → AreConvergent LETTERS c.relations
    → (forms : NormalForms LETTERS c.relations) (x : List ℕ) → IsElement c x
    → (X : List ℕ) × IsPosition (HasWord c) X × (label_of (claim_of c forms) X ≡ x)
each_reached c ranges in_form converges forms =
    reached LETTERS (heap_word c) (HasWord c) c.letters (omega (arith, ranges.letters.0))
    (λ i lt. heap-is c ranges (slice_index c.letters i) (only LETTERS i 1) (in_form.letters.named i lt))
    c.relations converges forms (in_portion c)

pub tested_labels : (c : PresentedSaid) (v : ClassTables) → AreTestedClasses c v
    → (k : KeptPositions) → AreFamiliesTested v.tables v.turns k
    → (forms : NormalForms LETTERS c.relations)
    → AreTestedLabels (IsElement c) (HasWord c) c.code (claim_of c forms)
tested_labels c v tested k kept forms =
    let monoid : AreLabels (IsElement c) (zeros LETTERS) (product_by forms.form) =
    element-labels LETTERS (length c.letters) c.relations tested.relations forms tested.converges in
    let (b, d, turns) = tested.numbered forms in
    tested.tested forms
    (none_bad_of_families (IsElement c) (claim_of c forms) monoid (HasWord c) (tested.labels forms) c.code tested.part b
    v.tables k d v.turns (λ _ h x _ l lt. turns x h l lt) kept)

module _ (c : PresentedSaid) (ranges : IsInRanges c) (in_form : IsInForm c) (keeping : HaveKept c)
    (settling : HaveSettled c) where
  quotient : (forms : NormalForms LETTERS c.relations)
      → RepresentsBy (IsElement c) (HasWord c) c.code (claim_of c forms)
  quotient forms =
      let (k, kept) = keeping.kept in
      let (weights, settled) = settling.settled in
      represented (IsElement c) (HasWord c) c.code (claim_of c forms)
      (λ x y. weight_of weights x + weight_of weights y)
      (tested_labels c keeping.tables keeping.tested k kept forms)
      (settling.tested.told forms weights settled)
      (each_reached c ranges in_form keeping.tested.converges forms)

  pub presents : Presents c
  presents = record {
    part = keeping.tested.part;
    converges = keeping.tested.converges;
    quotient = quotient;
  }
