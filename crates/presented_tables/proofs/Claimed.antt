-- Tables that are right are those of the claim.
use Rattle.std.proofs.Common.{◌≡◌, ℕ, ◌+◌, ◌*◌, ◌<◌, ◌≤◌, ◌↔◌, Bool, true, false, List, [], ◌∷◌, length, refl, sym, ap, ◌∙◌, subst, inl, inr}
use Rattle.std.specs.Prelude.{slice_index, slice_index_or, All}
use Rattle.std.proofs.lemmas.Bool.{true≢false, false≢true}
use Rattle.std.proofs.lemmas.List.{append-nil}
use Rattle.misere_theory.specs.Games.{HeapOption, Move}
use Rattle.misere_theory.specs.Games.Move.{Here, There}
use Rattle.misere_theory.specs.Parts.{IsPart}
use Rattle.misere_theory.specs.Labels.{LabelClaim, label_of, AreLabels}
use Rattle.misere_theory.proofs.Sums.{no_move_of_none}
use Rattle.presentations.specs.declared.TheConstants.{LETTERS}
use Rattle.presentations.specs.Vectors.{plus, zeros}
use Rattle.presentations.specs.Congruences.Related.{Same}
use Rattle.normal_forms.specs.Reductions.{AreConvergent}
use Rattle.normal_forms.specs.Forms.{NormalForms, IsStandard, AreIn, word_of, product_by}
use Rattle.normal_forms.proofs.Words.{length-sum}
use Rattle.normal_forms.proofs.Confluence.{one-form}
use Rattle.normal_forms.proofs.Products.{form-product, label-form, form-element, element-labels}
use Rattle.kept_positions.specs.Kept.{IsBadBeside, AreNeverBad}
use Rattle.kept_positions.specs.Presented.{AreTestedLabels}
use Rattle.kept_positions.specs.Numbers.{LabelTables}
use Rattle.kept_positions.specs.Numbering.{Numbering, AreTablesOf}
use Rattle.presented_text.specs.Said.{PresentedSaid}
use Rattle.presented_claims.specs.Claims.{heap_word, in_portion, IsElement, claim_of}
use Rattle.presented_tables.specs.Elements.{place, ListedElements, element, Takes, AreElements}
use Rattle.presented_tables.specs.Beside.{IsBeside}
use Rattle.presented_tables.specs.Numbers.{HeapNumbers}
use Rattle.presented_tables.specs.Rows.{IsMark, AreLabelTables}
use Rattle.presented_tables.specs.Tested.{HasWord, Says, IsOneIfIdle, AreWordsIn, AreHeapsTested, AreTestedTables}
use Rattle.presented_tables.specs.declared.beside.Beside.TheVariants.{Bad, Good}
use Rattle.presented_tables.proofs.Taking.{long, form-is, listed}
use Rattle.presented_tables.proofs.Places.{place-in, place-is, place-first}

all-long : (f : ℕ → List ℕ) → ((n : ℕ) → length (f n) ≡ LETTERS) → (X : List ℕ)
    → All (λ h. length (f h) ≡ LETTERS) X
all-long f l X k d lt = l (slice_index_or X k d)

module _ (c : PresentedSaid) (conv : AreConvergent LETTERS c.relations)
    (within : AreIn (length c.letters) c.relations) (words : AreWordsIn c)
    (F : NormalForms LETTERS c.relations) where
  abbrev pub cl : LabelClaim (List ℕ)
  cl = claim_of c F

  pub monoid : AreLabels (IsElement c) cl.one cl.times
  monoid = element-labels LETTERS (length c.letters) c.relations within F conv

  pub label-in : (n : ℕ) → IsElement c (cl.label n)
  label-in n = form-element LETTERS (length c.letters) c.relations within F (heap_word c n) (words n).0 (words n).1

  pub word-long : (X : List ℕ) → length (word_of LETTERS (heap_word c) X) ≡ LETTERS
  word-long [] = (monoid.some).standard.long
  word-long (h ∷ X) =
      length-sum LETTERS (heap_word c h) (word_of LETTERS (heap_word c) X) (words h).0 (word-long X)

  pub own-form : (x : List ℕ) → IsStandard LETTERS c.relations x → F.form x ≡ x
  own-form x s =
      one-form LETTERS c.relations conv x (F.form x) x s.long (F.is x s.long)
      (record { standard = s; related = Same x s.long })

  pub times-form : (x w : List ℕ) → IsElement c x → length w ≡ LETTERS
      → cl.times x (F.form w) ≡ F.form (plus x w)
  times-form x w el l =
      ap (λ z. product_by F.form z (F.form w)) (sym (own-form x el.standard))
      ∙ sym (form-product LETTERS c.relations conv F x w el.standard.long l)

  pub label-is : (X : List ℕ) → label_of cl X ≡ F.form (word_of LETTERS (heap_word c) X)
  label-is X =
      label-form LETTERS c.relations conv F (heap_word c) (in_portion c) X
      (all-long (heap_word c) (λ n. (words n).0) X)

  -- what is said of a position beside an element is what the claim says
  pub said : (x X : List ℕ) (b : Bool) → IsElement c x → Says c x X b
      → cl.portion (cl.times x (label_of cl X)) ≡ b
  said x X b el s =
      let w : List ℕ = word_of LETTERS (heap_word c) X in
      ap (λ z. in_portion c (cl.times x z)) (label-is X)
      ∙ ap (in_portion c) (times-form x w el (word-long X))
      ∙ s (F.form (plus x w))
      (F.is (plus x w) (length-sum LETTERS x w el.standard.long (word-long X)))

  pub bad-is : (x : List ℕ) (n : ℕ) → IsElement c x → IsBeside c x n Bad
      → IsBadBeside c.code cl x (n ∷ [])
  bad-is x n el b = (said x (n ∷ []) false el b.0, λ Y m. of_move Y m)
    where
      of_move : (Y : List ℕ) → Move c.code (n ∷ []) Y → cl.portion (cl.times x (label_of cl Y)) ≡ false
      of_move Y (Here {H = H} o e) =
          subst (λ Z. cl.portion (cl.times x (label_of cl Z)) ≡ false) (sym (append-nil H) ∙ sym e)
          (said x H false el (b.1 H o))
      of_move Y (There m e) = absurd (no_move_of_none m)

  pub good-is : (x : List ℕ) (n : ℕ) → IsElement c x → IsBeside c x n Good
      → IsBadBeside c.code cl x (n ∷ []) → ⊥
  good-is x n el (inl g) b = true≢false (sym (said x (n ∷ []) true el g.0) ∙ b.0)
  good-is x n el (inr (_, (H, o, s))) b =
      true≢false (sym (said x H true el s) ∙ b.1 H (Here o (sym (append-nil H))))

  module _ (e : ListedElements) (are : AreElements c e) (s : HeapNumbers) (t : LabelTables) (r : AreLabelTables c e s t) (h : AreHeapsTested c) where
    abbrev numbering : Numbering (List ℕ)
    numbering = record {
      size = λ g. slice_index s.sizes g;
      number = λ n. slice_index s.numbers n;
      label = element e;
      class = place e.words;
    }

    taken : (w : List ℕ) (x y : ℕ) → x < length e.words → Takes c e w x y
        → element e y ≡ cl.times (element e x) (F.form w)
    taken w x y x_in k =
        form-is c e are w (F.form (plus (element e x) w)) x y x_in k
        (F.is (plus (element e x) w) (length-sum LETTERS (element e x) w (long c e are x x_in) k.long))
        ∙ sym (times-form (element e x) w (are.elements x x_in) k.long)

    next-is : (w g : ℕ) → w < length e.words → g < length s.sizes
        → element e (slice_index t.next (w * length s.sizes + g))
        ≡ cl.times (cl.label (slice_index s.sizes g)) (element e w)
    next-is w g w_in g_in =
        taken (heap_word c (slice_index s.sizes g)) w _ w_in (r.next.entries w g w_in g_in)
        ∙ monoid.commutes (element e w) (cl.label (slice_index s.sizes g)) (are.elements w w_in)
        (label-in (slice_index s.sizes g))

    mark-is : (q g : ℕ) (b : Bool) → q < length e.words → IsMark c e s q g b
        → (b ≡ true) ↔ IsBadBeside c.code cl (element e q) (slice_index s.sizes g ∷ [])
    mark-is q g true q_in m = (λ _. bad-is (element e q) (slice_index s.sizes g) (are.elements q q_in) m, λ _. refl)
    mark-is q g false q_in m = (
      λ f. absurd (false≢true f),
      λ bad. absurd (good-is (element e q) (slice_index s.sizes g) (are.elements q q_in) m bad),
    )

    bad-at : (x : List ℕ) (w g : ℕ) → IsElement c x → w < length e.words → g < length s.sizes
        → (slice_index_or t.bad (slice_index t.images (w * length e.words + place e.words x) * length s.sizes + g) true ≡ true)
        ↔ IsBadBeside c.code cl (cl.times x (element e w)) (slice_index s.sizes g ∷ [])
    bad-at x w g el w_in g_in =
        let k = place-in e.words x (listed c e are x el) in
        let is = place-is e.words x (listed c e are x el) in
        let q : ℕ = slice_index t.images (w * length e.words + place e.words x) in
        let i = r.images.entries w (place e.words x) w_in k in
        let same : element e q ≡ cl.times x (element e w) =
        taken (element e w) (place e.words x) q k i
        ∙ ap (λ z. cl.times z (F.form (element e w))) is
        ∙ ap (cl.times x) (own-form (element e w) (are.elements w w_in).standard)
        in
        subst (λ z. (slice_index_or t.bad (q * length s.sizes + g) true ≡ true)
        ↔ IsBadBeside c.code cl z (slice_index s.sizes g ∷ [])) same
        (mark-is q g (slice_index_or t.bad (q * length s.sizes + g) true) i.inside (r.bad.entries q g i.inside g_in))

    pub numbered : AreTablesOf (IsElement c) (HasWord c) c.code cl numbering t
    numbered = rw (r.heaps, r.labels, r.classes, r.start) (record {
      numbers = λ n m. (r.numbers.all n (h.least n m.0) m).number_in;
      same_label = λ n m. ap cl.label (sym (r.numbers.all n (h.least n m.0) m).size);
      worst = λ n x m el bad.
          subst (λ k. IsBadBeside c.code cl x (k ∷ [])) (sym (r.numbers.all n (h.least n m.0) m).size) bad;
      sizes = λ g g_in. ((r.numbers.sizes g g_in).movable, (r.numbers.sizes g g_in).number);
      classes = λ x el. place-in e.words x (listed c e are x el);
      start = place-first e.words (zeros LETTERS) are.some are.first;
      nothing = are.first;
      labels = are.elements;
      next = λ w g w_in g_in _. next-is w g w_in g_in;
      bad = bad-at;
    })

    -- ---- what is left of the labels

    alone : (n : ℕ) → label_of cl (n ∷ []) ≡ cl.label n
    alone n = monoid.commutes (cl.label n) cl.one (label-in n) monoid.some ∙ monoid.identity (cl.label n) (label-in n)

    moves-at : (k g : ℕ) (H : List ℕ) (b : Bool) → k < length e.words
        → HeapOption c.code (slice_index s.sizes g) H → IsMark c e s k g b
        → cl.portion (cl.times (element e k) (cl.label (slice_index s.sizes g))) ≡ true
        → cl.portion (cl.times (element e k) (label_of cl H)) ≡ false
    moves-at k g H true k_in o m said_p =
        absurd (true≢false (sym said_p ∙ ap (λ z. cl.portion (cl.times (element e k) z)) (sym (alone (slice_index s.sizes g)))
        ∙ said (element e k) (slice_index s.sizes g ∷ []) false (are.elements k k_in) m.0))
    moves-at k g H false k_in o (inl m) said_p = said (element e k) H false (are.elements k k_in) (m.1 H o)
    moves-at k g H false k_in o (inr m) said_p =
        absurd (true≢false (sym said_p ∙ ap (λ z. cl.portion (cl.times (element e k) z)) (sym (alone (slice_index s.sizes g)))
        ∙ said (element e k) (slice_index s.sizes g ∷ []) false (are.elements k k_in) m.0))

    pub tested : AreNeverBad (HasWord c) c.code cl → AreTestedLabels (IsElement c) (HasWord c) c.code cl
    tested never = record {
      part = h.part;
      monoid = monoid;
      labels = λ n _. label-in n;
      idle = λ n has none.
          one-form LETTERS c.relations conv (heap_word c n) (F.form (heap_word c n)) (zeros LETTERS) (words n).0
          (F.is (heap_word c n) (words n).0)
          (record { standard = monoid.some.standard; related = h.idle n has none });
      ended = h.ended;
      moves = λ n H x has o el.
          let m = r.numbers.all n (h.least n has) (has, (H, o)) in
          let g : ℕ = slice_index s.numbers n in
          let (k, k_in, is) = listed c e are x el in
          subst (λ z. cl.portion (cl.times z (cl.label n)) ≡ true → cl.portion (cl.times z (label_of cl H)) ≡ false) is
          (subst (λ j. cl.portion (cl.times (element e k) (cl.label j)) ≡ true
          → cl.portion (cl.times (element e k) (label_of cl H)) ≡ false) m.size
          (moves-at k g H (slice_index_or t.bad (k * length s.sizes + g) true) k_in
          (subst (λ j. HeapOption c.code j H) (sym m.size) o) (r.bad.entries k g k_in m.number_in)));
      never_bad = never;
    }

pub all-tested : (c : PresentedSaid) (e : ListedElements) (s : HeapNumbers) (t : LabelTables)
    → AreIn (length c.letters) c.relations → AreWordsIn c
    → ((n : ℕ) → HasWord c n → n ≤ c.heaps) → IsPart (HasWord c) c.code
    → ((n : ℕ) → n ≤ c.heaps → IsOneIfIdle c n) → in_portion c (zeros LETTERS) ≡ false
    → AreElements c e → AreLabelTables c e s t
    → AreTestedTables c (record { elements = e; tables = t })
all-tested c e s t within words least part idle ended are r =
    let h : AreHeapsTested c = record {
      least = least;
      part = part;
      idle = λ n has none. idle n (least n has) has none;
      ended = ended;
    } in
    record {
      relations = within;
      elements = are;
      listed = listed c e are;
      products = λ w x w_in x_in. r.images.entries w x w_in x_in;
      numbered = λ F. (
        numbering c are.converges within words F e are s t r h,
        numbered c are.converges within words F e are s t r h,
        λ x el. place-is e.words x (listed c e are x el),
        λ w _. refl,
      );
      counts = (r.classes, r.labels);
      part = part;
      labels = λ F n _. label-in c are.converges within words F n;
      tested = λ F. tested c are.converges within words F e are s t r h;
    }
