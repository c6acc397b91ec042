-- Classes that are seen to be separated are.
use Rattle.std.proofs.Common.{◌≡◌, ◌≢◌, ℕ, ◌+◌, ◌*◌, ◌<◌, ◌≤◌, ◌⊎◌, inl, inr, Bool, false, List, length, refl, sym, ap, ◌∙◌, subst, arith}
use Rattle.std.specs.Prelude.{slice_index, slice_index_or, nat_eq}
use Rattle.std.specs.List.{list_any}
use Rattle.std.specs.Cmp.Lexicographic.{pointwise}
use Rattle.std.proofs.lemmas.Bool.{cases_eq, cases_lt}
use Rattle.presentations.specs.declared.TheConstants.{LETTERS}
use Rattle.presentations.specs.Vectors.{plus}
use Rattle.normal_forms.specs.Reductions.{AreConvergent}
use Rattle.normal_forms.specs.Forms.{NormalForms, AreIn, product_by}
use Rattle.normal_forms.proofs.Words.{length-sum}
use Rattle.kept_positions.specs.Numbers.{LabelTables, entry}
use Rattle.kept_positions.specs.Telling.{AreToldOrLowered}
use Rattle.kept_positions.specs.Told.{IsTold, mark_of}
use Rattle.presented_text.specs.Said.{PresentedSaid}
use Rattle.presented_claims.specs.Claims.{heap_word, in_portion, IsElement, claim_of, cycled}
use Rattle.presented_tables.specs.Numbers.{HeapNumbers}
use Rattle.presented_claims.proofs.Folds.{folded-finer}
use Rattle.presented_claims.specs.Led.{weight_of, RunsOn, IsLed, NeverMeet, AreSeparated}
use Rattle.presented_claims.specs.Led.NeverMeet.{Remainder, Below, Above, Apart}
use Rattle.presented_claims.specs.Led.AreSeparated.{Told, Lowered, Alone}
use Rattle.presented_claims.proofs.Told.{told}
use Rattle.class_tables.specs.Leads.{Led, Leads, turn_of}
use Rattle.class_tables.specs.Classes.{word_at, IsOfClass}
use Rattle.class_tables.specs.Tables.{ClassLists, AreLists, AreClassTables}
use Rattle.class_tables.specs.Separated.{AreBits, DoDiffer, HaveOwn, AreLowered, IsLowered, AreSettledClasses}
use Rattle.class_tables.specs.Separated.DoDiffer.{ByRemainder, StaysBelow, StaysAbove}
use Rattle.class_tables.proofs.LedClasses.{is-led}
use Rattle.class_tables.proofs.Owned.{own, own-some, own-alone}

module _ (c : PresentedSaid) (conv : AreConvergent LETTERS c.relations) (F : NormalForms LETTERS c.relations)
    (l : ClassLists) (are : AreLists c l) (s : HeapNumbers) (t : LabelTables) (r : AreClassTables c l s t)
    (bits : List Bool) (bits_are : AreBits c l bits) (weights : List ℕ) where
  -- two classes, by their words
  abbrev Separated : List ℕ → List ℕ → Type 0
  Separated a b = AreSeparated LETTERS (length c.letters) c.relations F (in_portion c) l.base l.folds weights a b

  abbrev led-by : (x w : ℕ) → x < length l.classes → w < length l.labels → (one : Led)
      → Leads c l.base l.folds weights (word_at l.classes x) (word_at l.labels w) one
      → IsLed LETTERS F.form l.base l.folds weights (word_at l.classes x) (word_at l.labels w)
  led-by x w x_in w_in one leads =
      is-led c conv F l.base l.folds weights (word_at l.classes x) (word_at l.labels w) one
      (are.classes.elements x x_in).standard.long (are.labels w w_in).standard.long leads

  -- the image's mark is what the portion says of the product
  said-by : (w i : ℕ) → w < length l.labels → i < length l.classes → (x : List ℕ) → IsElement c x
      → cycled l.folds x ≡ word_at l.classes i
      → in_portion c (product_by F.form x (word_at l.labels w)) ≡ mark_of t bits w i
  said-by w i w_in i_in x el is =
      let z : List ℕ = word_at l.labels w in
      let u : List ℕ = F.form (plus x z) in
      let image = r.images.entries w i w_in i_in in
      let k : ℕ = slice_index t.images (w * length l.classes + i) in
      let fold = image.fold x u (record { element = el; fold = is })
      (F.is (plus x z) (length-sum LETTERS x z el.standard.long (are.labels w w_in).standard.long)) in
      let same : cycled c.cycles u ≡ cycled c.cycles (word_at l.images k) =
      sym (folded-finer l.tops c.cycles u are.finer_tops) ∙ ap (cycled c.cycles) fold in
      let width : t.classes ≡ length l.classes = r.classes in
      ap (λ v. list_any (pointwise nat_eq v) c.portion) same ∙ sym (bits_are k image.inside)
      ∙ ap (λ n. slice_index_or bits (slice_index t.images (w * n + i)) false) (sym width)

  told-pair : (i j : ℕ) → i < length l.classes → j < length l.classes → IsTold t bits i j
      → Separated (word_at l.classes i) (word_at l.classes j)
  told-pair i j i_in j_in (w, w_lt, differ) =
      let w_in : w < length l.labels = subst (λ n. w < n) r.labels w_lt in
      Told (word_at l.labels w) (are.labels w w_in)
      (λ x y x_in y_in x_is y_is same.
      differ (sym (said-by w i w_in i_in x x_in x_is) ∙ same ∙ said-by w j w_in j_in y y_in y_is))

  never-meets : (i j w : ℕ) (i_in : i < length l.classes) (j_in : j < length l.classes) (w_in : w < length l.labels)
      → (one other : Led)
      → (leads : Leads c l.base l.folds weights (word_at l.classes i) (word_at l.labels w) one)
      → (leads_other : Leads c l.base l.folds weights (word_at l.classes j) (word_at l.labels w) other)
      → (k : ℕ) → DoDiffer l.base l.folds (word_at l.classes i) (word_at l.classes j) one other k
      → NeverMeet LETTERS F.form l.base l.folds weights (word_at l.classes i) (word_at l.classes j) (word_at l.labels w)
      (led-by i w i_in w_in one leads) (led-by j w j_in w_in other leads_other)
  never-meets i j w i_in j_in w_in one other leads leads_other k (ByRemainder known differ) = Remainder k known differ
  never-meets i j w i_in j_in w_in one other leads leads_other k (StaysBelow less none) = Below k less none
  never-meets i j w i_in j_in w_in one other leads leads_other k (StaysAbove less none) = Above k less none

  lowered-pair : (i j w : ℕ) → i < length l.classes → j < length l.classes → AreLowered c l weights i j w
      → Separated (word_at l.classes i) (word_at l.classes j)
  lowered-pair i j w i_in j_in d =
      Lowered (word_at l.labels w) (are.labels w d.inside) (led-by i w i_in d.inside d.one d.leads)
      (led-by j w j_in d.inside d.other d.leads_other)
      (never-meets i j w i_in j_in d.inside d.one d.other d.leads d.leads_other d.differ.0 d.differ.1) d.lighter

  -- the same the other way round
  turned-differ : (a b : List ℕ) (one other : Led) (k : ℕ) → DoDiffer l.base l.folds a b one other k
      → DoDiffer l.base l.folds b a other one k
  turned-differ a b one other k (ByRemainder known differ) = ByRemainder known (λ e. differ (sym e))
  turned-differ a b one other k (StaysBelow less none) = StaysAbove less none
  turned-differ a b one other k (StaysAbove less none) = StaysBelow less none

  turned-lowered : (i j w : ℕ) → AreLowered c l weights i j w → AreLowered c l weights j i w
  turned-lowered i j w d = record {
    inside = d.inside;
    one = d.other;
    other = d.one;
    leads = d.leads_other;
    leads_other = d.leads;
    lighter = let h = d.lighter in omega (arith, h);
    differ = (d.differ.0, turned-differ (word_at l.classes i) (word_at l.classes j) d.one d.other d.differ.0 d.differ.1);
  }

  turned-told : (i j : ℕ) → IsTold t bits i j → IsTold t bits j i
  turned-told i j (w, w_in, differ) = (w, w_in, λ e. differ (sym e))

  lowered-class : (i w : ℕ) → i < length l.classes → IsLowered c l weights i w
      → Separated (word_at l.classes i) (word_at l.classes i)
  lowered-class i w i_in d =
      let led = led-by i w i_in d.inside d.one d.leads in
      Lowered (word_at l.labels w) (are.labels w d.inside) led led
      (Apart refl (own l.folds (word_at l.classes i) d.one d.own) (own-some l.folds (word_at l.classes i) d.one d.own)
      (own-alone l.folds (word_at l.classes i) d.one d.own) (λ j run. refl))
      (let h = d.lighter in omega (arith, h))

  module _ (settled : AreSettledClasses c l t bits weights) where
    pair-by : (i j : ℕ) → i < length l.classes → j < length l.classes
        → Separated (word_at l.classes i) (word_at l.classes j)
    pair-by i j i_in j_in = elim (cases_lt j i) [
      | inl less ↦ elim (settled.pairs i j less i_in) [
        | inl tells ↦ told-pair i j i_in j_in tells
        | inr (w, d) ↦ lowered-pair i j w i_in j_in d
      ]
      | inr le ↦ elim (cases_lt i j) [
        | inl less ↦ elim (settled.pairs j i less j_in) [
          | inl tells ↦ told-pair i j i_in j_in (turned-told j i tells)
          | inr (w, d) ↦ lowered-pair i j w i_in j_in (turned-lowered j i w d)
        ]
        | inr other ↦
            let same : i ≡ j = omega (arith, le, other) in
            subst (λ k. Separated (word_at l.classes i) (word_at l.classes k)) same
            (elim (settled.classes i i_in) [
              | inl none ↦ Alone refl none
              | inr (w, d) ↦ lowered-class i w i_in d
            ])
      ]
    ]

    separated : (a b : List ℕ) → IsElement c a → IsElement c b → cycled l.folds a ≡ a → cycled l.folds b ≡ b
        → Separated a b
    separated a b a_in b_in a_is b_is =
        let (i, i_in, i_at) = are.classes.listed a a_in in
        let (j, j_in, j_at) = are.classes.listed b b_in in
        subst (λ v. Separated v b) (i_at ∙ a_is)
        (subst (λ v. Separated (word_at l.classes i) v) (j_at ∙ b_is) (pair-by i j i_in j_in))

    pub all-told : AreToldOrLowered (IsElement c) (claim_of c F) (λ x y. weight_of weights x + weight_of weights y)
    all-told =
        told LETTERS (length c.letters) c.relations conv F (heap_word c) (in_portion c) l.base l.folds are.folds.few
        are.base.above are.folds.periods weights separated
