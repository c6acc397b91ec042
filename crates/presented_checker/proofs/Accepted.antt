-- What is tested of a presentation makes it the misère quotient of its heaps.
use Rattle.std.proofs.Common.{inl, inr, ◌≡◌, ℕ, ◌<◌, List, length, refl, sym, ap, ap₂, ◌∙◌, arith}
use Rattle.std.specs.Prelude.{slice_index}
use Rattle.std.proofs.lemmas.Bool.{cases_order}
use Rattle.misere_theory.specs.Labels.{AreLabels, RepresentsBy}
use Rattle.presentations.specs.declared.TheConstants.{LETTERS}
use Rattle.presentations.specs.Vectors.{plus, zeros, only}
use Rattle.presentations.specs.Congruences.Related.{Same, Turned}
use Rattle.normal_forms.specs.Forms.{NormalForms, product_by}
use Rattle.normal_forms.proofs.Products.{element-labels}
use Rattle.normal_forms.proofs.Steps.{forms as forms_of}
use Rattle.normal_forms.proofs.Confluence.{same-forms}
use Rattle.normal_forms.proofs.Words.{length-sum}
use Rattle.normal_forms.proofs.Reached.{reached}
use Rattle.kept_positions.proofs.Told.{represented}
use Rattle.kept_positions.specs.Numbers.{KeptPositions, entry, AreFoundTested}
use Rattle.kept_positions.specs.Numbering.{Numbering, AreTablesOf}
use Rattle.kept_positions.proofs.Lifting.{none_bad}
use Rattle.kept_positions.specs.Told.{AreTold, mark_of}
use Rattle.kept_positions.specs.Marks.{AreMarksOf, AreAlone}
use Rattle.kept_positions.proofs.Marked.{told_labels}
use Rattle.presented_text.specs.Said.{PresentedSaid, IsInRanges}
use Rattle.presented_claims.specs.Claims.{heap_word, in_portion, IsElement, claim_of}
use Rattle.presented_claims.specs.Presents.{Presents}
use Rattle.presented_claims.specs.Numbered.{AreNumbered}
use Rattle.presented_forms.proofs.Words.{heap-is}
use Rattle.presented_forms.specs.Form.{IsInForm}
use Rattle.presented_tables.specs.Elements.{element}
use Rattle.presented_tables.specs.Tested.{PresentedTables, HasWord, AreTestedTables}
use Rattle.presented_checker.specs.Refused.{HasOrder}

-- ---- products

module _ (c : PresentedSaid) (t : PresentedTables) (tested : AreTestedTables c t)
    (forms : NormalForms LETTERS c.relations) where
  monoid : AreLabels (IsElement c) (zeros LETTERS) (product_by forms.form)
  monoid =
      element-labels LETTERS (length c.letters) c.relations tested.relations forms
      tested.elements.converges

  abbrev image : ℕ → ℕ → ℕ
  image w x = entry t.tables.images (length t.elements.words) w x

  product : (x w : ℕ) → x < length t.elements.words → w < length t.elements.words
      → element t.elements (image w x)
      ≡ product_by forms.form (element t.elements x) (element t.elements w)
  product x w x_in w_in =
      let p = tested.products w x w_in x_in in
      let u = element t.elements x in
      let v = element t.elements w in
      let y = tested.elements.elements (image w x) p.inside in
      let long =
      length-sum LETTERS u v (tested.elements.elements x x_in).standard.long
      (tested.elements.elements w w_in).standard.long
      in
      same-forms LETTERS c.relations tested.elements.converges (element t.elements (image w x)) (plus u v)
      (element t.elements (image w x)) (forms.form (plus u v)) (Turned _ _ p.related)
      (record { standard = y.standard; related = Same (element t.elements (image w x)) y.standard.long })
      (forms.is (plus u v) long)

  -- the mark of a product says whether it is in the portion
  mark : (x w : ℕ) → x < length t.elements.words → w < length t.elements.words
      → mark_of t.tables t.elements.bits w x
      ≡ in_portion c (product_by forms.form (element t.elements x) (element t.elements w))
  mark x w x_in w_in =
      rw tested.counts.0
      (tested.elements.bits (image w x) (tested.products w x w_in x_in).inside
      ∙ ap (in_portion c) (product x w x_in w_in))

  -- elements of two numbers are told apart, so they aren't the same word
  differ : AreTold t.tables t.elements.bits → (x y : ℕ) → y < x → x < length t.elements.words
      → element t.elements x ≡ element t.elements y → ⊥
  differ told x y less x_in same =
      let (w, w_in, differs) = told x y less (omega (arith, x_in, tested.counts.0)) in
      let w_in_ : w < length t.elements.words = omega (arith, w_in, tested.counts.1) in
      differs
      (mark x w x_in w_in_
      ∙ ap (λ u. in_portion c (product_by forms.form u (element t.elements w))) same
      ∙ sym (mark y w (omega (arith, less, x_in)) w_in_))

  once : AreTold t.tables t.elements.bits → (x y : ℕ) → x < length t.elements.words
      → y < length t.elements.words → element t.elements x ≡ element t.elements y → x ≡ y
  once told x y x_in y_in same = elim (cases_order x y) [
    | inl e ↦ e
    | inr (inl before) ↦ absurd (differ told y x before y_in (sym same))
    | inr (inr after) ↦ absurd (differ told x y after x_in same)
  ]

  module _ (b : Numbering (List ℕ)) (d : AreTablesOf (IsElement c) (HasWord c) c.code (claim_of c forms) b t.tables)
      (class : (x : List ℕ) → IsElement c x → element t.elements (b.class x) ≡ x)
      (label : (w : ℕ) → w < t.tables.labels → b.label w ≡ element t.elements w) where
    class_in : (x : List ℕ) → IsElement c x → b.class x < length t.elements.words
    class_in x p = omega (arith, d.classes x p, tested.counts.0)

    marks : AreMarksOf (IsElement c) (claim_of c forms) b t.tables t.elements.bits
    marks = record {
      classes = d.classes;
      labels = d.labels;
      marked = λ x w p w_in.
          mark (b.class x) w (class_in x p) (omega (arith, w_in, tested.counts.1))
          ∙ ap (in_portion c) (ap₂ (product_by forms.form) (class x p) (sym (label w w_in)));
    }

    numbers : AreTold t.tables t.elements.bits → AreNumbered c (record {
      order = length t.elements.words;
      word = element t.elements;
      number = b.class;
    })
    numbers told = record {
      empty = tested.elements.first;
      some = tested.elements.some;
      elements = tested.elements.elements;
      numbers = class_in;
      words = class;
      counted = λ k k_in.
          let p = tested.elements.elements k k_in in
          once told (b.class (element t.elements k)) k (class_in (element t.elements k) p) k_in
          (class (element t.elements k) p);
    }

    alone : AreAlone (IsElement c) b
    alone x y p q e = sym (class x p) ∙ ap (element t.elements) e ∙ class y q

  module _ (ranges : IsInRanges c) (in_form : IsInForm c) (k : KeptPositions)
      (kept : AreFoundTested t.tables k) (told : AreTold t.tables t.elements.bits) where
    quotient : RepresentsBy (IsElement c) (HasWord c) c.code (claim_of c forms)
    quotient =
        let (b, d, class, label) = tested.numbered forms in
        represented (IsElement c) (HasWord c) c.code (claim_of c forms) (λ _ _. 0)
        (tested.tested forms
        (none_bad (IsElement c) (claim_of c forms) monoid (HasWord c) (tested.labels forms) c.code tested.part b
        t.tables k d kept))
        (told_labels (IsElement c) (claim_of c forms) b t.tables t.elements.bits (marks b d class label)
        (alone b d class label) told)
        (reached LETTERS (heap_word c) (HasWord c) c.letters (omega (arith, ranges.letters.0))
        (λ i lt. heap-is c ranges (slice_index c.letters i) (only LETTERS i 1)
        (in_form.letters.named i lt))
        c.relations tested.elements.converges forms (in_portion c))

pub presents : (c : PresentedSaid) (t : PresentedTables) → IsInRanges c → IsInForm c → AreTestedTables c t
    → (k : KeptPositions) × AreFoundTested t.tables k → AreTold t.tables t.elements.bits → Presents c
presents c t ranges in_form tested (k, kept) told = record {
  part = tested.part;
  converges = tested.elements.converges;
  quotient = λ forms. quotient c t tested forms ranges in_form k kept told;
}

pub order : (c : PresentedSaid) (t : PresentedTables) → AreTestedTables c t
    → AreTold t.tables t.elements.bits → HasOrder c (length t.elements.words)
order c t tested told =
    let F = forms_of LETTERS c.relations tested.elements.converges.oriented in
    let (b, d, class, label) = tested.numbered F in
    (_, numbers c t tested F b d class label told, refl)
