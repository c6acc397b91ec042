-- Tables of classes that are right are those of the claim.
use Rattle.std.proofs.Common.{◌≡◌, ℕ, zero, suc, ◌+◌, ◌*◌, ◌<◌, ◌≤◌, ◌↔◌, Bool, true, false, List, [], ◌∷◌, length, refl, sym, ap, ◌∙◌, subst, inl, inr, arith}
use Rattle.std.specs.Prelude.{slice_index, slice_index_or}
use Rattle.std.proofs.lemmas.Bool.{true≢false, false≢true}
use Rattle.misere_theory.specs.Games.{HeapOption}
use Rattle.misere_theory.specs.Parts.{IsPart}
use Rattle.misere_theory.specs.Labels.{LabelClaim, label_of, AreLabels}
use Rattle.presentations.specs.declared.TheConstants.{LETTERS}
use Rattle.presentations.specs.Vectors.{plus, zeros}
use Rattle.presentations.specs.Congruences.{Related}
use Rattle.presentations.specs.Congruences.Related.{Same}
use Rattle.presentations.proofs.VectorLaws.{cons-same}
use Rattle.normal_forms.specs.Reductions.{AreConvergent}
use Rattle.normal_forms.specs.Forms.{NormalForms, AreIn}
use Rattle.normal_forms.proofs.Words.{length-sum}
use Rattle.normal_forms.proofs.Confluence.{one-form}
use Rattle.kept_positions.specs.Kept.{IsBadBeside, AreNeverBad}
use Rattle.kept_positions.specs.Presented.{AreTestedLabels}
use Rattle.kept_positions.specs.Numbers.{LabelTables}
use Rattle.kept_positions.specs.Numbering.{Numbering, AreTablesOf}
use Rattle.presented_text.specs.Said.{PresentedSaid}
use Rattle.presented_claims.specs.Claims.{heap_word, in_portion, IsElement, claim_of, cycled_exponent, cycled}
use Rattle.presented_tables.specs.Elements.{place}
use Rattle.presented_tables.specs.Numbers.{HeapNumbers}
use Rattle.presented_tables.specs.Tested.{HasWord, IsOneIfIdle, AreWordsIn, AreHeapsTested}
use Rattle.presented_tables.specs.Beside.{IsBeside}
use Rattle.presented_tables.specs.declared.beside.Beside.TheVariants.{Bad, Good}
use Rattle.presented_tables.proofs.Claimed.{cl, monoid, label-in, own-form, times-form, said, bad-is, good-is}
use Rattle.presented_tables.proofs.Places.{place-in, place-is, place-first}
use Rattle.presented_claims.proofs.Exponents.{most}
use Rattle.class_tables.specs.Classes.{word_at, IsOfClass, AreBeside}
use Rattle.class_tables.specs.Tables.{ClassLists, AreLists, IsMark, AreClassTables}

-- nothing is its own fold
pub folded-zeros : (folds : List (ℕ × ℕ)) (n : ℕ) → cycled folds (zeros n) ≡ zeros n
folded-zeros [] n = refl
folded-zeros (f ∷ folds) zero = refl
folded-zeros (f ∷ folds) (suc n) =
    cons-same (let h = most f 0 in omega (arith, h)) (folded-zeros folds n)

module _ (c : PresentedSaid) (conv : AreConvergent LETTERS c.relations)
    (within : AreIn (length c.letters) c.relations) (words : AreWordsIn c)
    (F : NormalForms LETTERS c.relations) where
  abbrev claim : LabelClaim (List ℕ)
  claim = claim_of c F

  labels : AreLabels (IsElement c) claim.one claim.times
  labels = monoid c conv within words F

  -- a heap's mark beside an element of the class
  mark-is : (l : ClassLists) (s : HeapNumbers) (k g : ℕ) (b : Bool) (y : List ℕ) → IsMark c l s k g b
      → IsOfClass c l.tops (word_at l.images k) y
      → (b ≡ true) ↔ IsBadBeside c.code claim y (slice_index s.sizes g ∷ [])
  mark-is l s k g true y m of =
      (λ _. bad-is c conv within words F y (slice_index s.sizes g) of.element (m y of), λ _. refl)
  mark-is l s k g false y m of = (
    λ f. absurd (false≢true f),
    λ bad. absurd (good-is c conv within words F y (slice_index s.sizes g) of.element (m y of) bad),
  )

  module _ (l : ClassLists) (are : AreLists c l) (s : HeapNumbers) (t : LabelTables) (r : AreClassTables c l s t)
      (h : AreHeapsTested c) where
    abbrev pub numbering : Numbering (List ℕ)
    numbering = record {
      size = λ g. slice_index s.sizes g;
      number = λ n. slice_index s.numbers n;
      label = word_at l.labels;
      class = λ x. place l.classes (cycled l.folds x);
    }

    pub class-is : (x : List ℕ) → IsElement c x → word_at l.classes (numbering.class x) ≡ cycled l.folds x
    class-is x el = place-is l.classes (cycled l.folds x) (are.classes.listed x el)

    next-is : (w g : ℕ) → w < length l.labels → g < length s.sizes
        → slice_index t.next (w * length s.sizes + g) < length l.labels
        → word_at l.labels (slice_index t.next (w * length s.sizes + g))
        ≡ claim.times (claim.label (slice_index s.sizes g)) (word_at l.labels w)
    next-is w g w_in g_in v_in =
        let n : ℕ = slice_index s.sizes g in
        let v : ℕ = slice_index t.next (w * length s.sizes + g) in
        let x : List ℕ = word_at l.labels w in
        let word : List ℕ = heap_word c n in
        let x_in = are.labels w w_in in
        let long = length-sum LETTERS x word x_in.standard.long (words n).0 in
        one-form LETTERS c.relations conv (plus x word) (word_at l.labels v) (F.form (plus x word)) long
        (record { standard = (are.labels v v_in).standard; related = r.next.entries w g w_in g_in v_in })
        (F.is (plus x word) long)
        ∙ sym (times-form c conv within words F x word x_in (words n).0)
        ∙ labels.commutes x (claim.label n) x_in (label-in c conv within words F n)

    -- the product of an element with a label is of the image
    pub image-of : (x : List ℕ) (w : ℕ) → IsElement c x → w < length l.labels
        → (slice_index t.images (w * length l.classes + numbering.class x) < length l.images)
        × IsOfClass c l.tops (word_at l.images (slice_index t.images (w * length l.classes + numbering.class x)))
        (claim.times x (word_at l.labels w))
    image-of x w el w_in =
        let k_in = place-in l.classes (cycled l.folds x) (are.classes.listed x el) in
        let i = r.images.entries w (numbering.class x) w_in k_in in
        let z_in = are.labels w w_in in
        let z : List ℕ = word_at l.labels w in (
          i.inside,
          record {
            element = labels.closed x z el z_in;
            fold = i.fold x (F.form (plus x z)) (record { element = el; fold = sym (class-is x el) })
                (F.is (plus x z) (length-sum LETTERS x z el.standard.long z_in.standard.long));
          },
        )

    bad-at : (x : List ℕ) (w g : ℕ) → IsElement c x → w < length l.labels → g < length s.sizes
        → (slice_index_or t.bad
        (slice_index t.images (w * length l.classes + numbering.class x) * length s.sizes + g) true ≡ true)
        ↔ IsBadBeside c.code claim (claim.times x (word_at l.labels w)) (slice_index s.sizes g ∷ [])
    bad-at x w g el w_in g_in =
        let k : ℕ = slice_index t.images (w * length l.classes + numbering.class x) in
        let i = image-of x w el w_in in
        mark-is l s k g (slice_index_or t.bad (k * length s.sizes + g) true) (claim.times x (word_at l.labels w))
        (r.bad.entries k g i.0 g_in) i.1

    pub numbered : AreTablesOf (IsElement c) (HasWord c) c.code claim numbering t
    numbered = rw (r.heaps, r.labels, r.classes, r.start) (record {
      numbers = λ n m. (r.numbers.all n (h.least n m.0) m).number_in;
      same_label = λ n m. ap claim.label (sym (r.numbers.all n (h.least n m.0) m).size);
      worst = λ n x m el bad.
          subst (λ k. IsBadBeside c.code claim x (k ∷ [])) (sym (r.numbers.all n (h.least n m.0) m).size) bad;
      sizes = λ g g_in. ((r.numbers.sizes g g_in).movable, (r.numbers.sizes g g_in).number);
      classes = λ x el. place-in l.classes (cycled l.folds x) (are.classes.listed x el);
      start = place-first l.classes (cycled l.folds (zeros LETTERS)) are.classes.some
          (are.classes.first ∙ sym (folded-zeros l.folds LETTERS));
      nothing = are.first;
      labels = are.labels;
      next = λ w g w_in g_in v_in. next-is w g w_in g_in v_in;
      bad = bad-at;
    })

    -- ---- what is left of the labels

    alone : (n : ℕ) → label_of claim (n ∷ []) ≡ claim.label n
    alone n =
        labels.commutes (claim.label n) claim.one (label-in c conv within words F n) labels.some
        ∙ labels.identity (claim.label n) (label-in c conv within words F n)

    moves-at : (k g : ℕ) (x H : List ℕ) (b : Bool) → IsOfClass c l.tops (word_at l.images k) x
        → HeapOption c.code (slice_index s.sizes g) H → IsMark c l s k g b
        → claim.portion (claim.times x (claim.label (slice_index s.sizes g))) ≡ true
        → claim.portion (claim.times x (label_of claim H)) ≡ false
    moves-at k g x H true of o m said_p =
        absurd (true≢false (sym said_p ∙ ap (λ z. claim.portion (claim.times x z)) (sym (alone (slice_index s.sizes g)))
        ∙ said c conv within words F x (slice_index s.sizes g ∷ []) false of.element (m x of).0))
    moves-at k g x H false of o m said_p = by (m x of)
      where
        by : IsBeside c x (slice_index s.sizes g) Good → claim.portion (claim.times x (label_of claim H)) ≡ false
        by (inl good) = said c conv within words F x H false of.element (good.1 H o)
        by (inr good) =
            absurd (true≢false (sym said_p ∙ ap (λ z. claim.portion (claim.times x z)) (sym (alone (slice_index s.sizes g)))
            ∙ said c conv within words F x (slice_index s.sizes g ∷ []) false of.element good.0))

    pub tested : AreNeverBad (HasWord c) c.code claim → AreTestedLabels (IsElement c) (HasWord c) c.code claim
    tested never = record {
      part = h.part;
      monoid = labels;
      labels = λ n _. label-in c conv within words F n;
      idle = λ n has none.
          one-form LETTERS c.relations conv (heap_word c n) (F.form (heap_word c n)) (zeros LETTERS) (words n).0
          (F.is (heap_word c n) (words n).0)
          (record { standard = labels.some.standard; related = h.idle n has none });
      ended = h.ended;
      moves = λ n H x has o el.
          let m = r.numbers.all n (h.least n has) (has, (H, o)) in
          let g : ℕ = slice_index s.numbers n in
          let (k, k_in, is) = are.images.listed x el in
          subst (λ j. claim.portion (claim.times x (claim.label j)) ≡ true → claim.portion (claim.times x (label_of claim H)) ≡ false)
          m.size
          (moves-at k g x H (slice_index_or t.bad (k * length s.sizes + g) true)
          (record { element = el; fold = sym is }) (subst (λ j. HeapOption c.code j H) (sym m.size) o)
          (r.bad.entries k g k_in m.number_in));
      never_bad = never;
    }
