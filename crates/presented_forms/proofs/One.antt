-- Two presentations of one code and its heaps: positions say which words are related, so that letters, relations, words,
-- cycles and portion are the same.
use Rattle.std.proofs.Common.{◌≡◌, ◌⊎◌, ℕ, zero, suc, ◌-◌, ◌<◌, ◌≤◌, ◌↔◌, true, List, [], ◌∷◌, ◌++◌, length, get_or, None, Some, sym, ap, subst, ◌∙◌, inl, inr, arith}
use Rattle.std.specs.Prelude.{slice_index, Contains}
use Rattle.std.proofs.Math.ListN.{get_or-eq_default}
use Rattle.std.proofs.lemmas.Bool.{cases_lt, cases_eq, cases_order}
use Rattle.std.proofs.lemmas.List.{get_or_default}
use Rattle.misere_theory.specs.Games.{IsP, IsPosition, Indistinguishable}
use Rattle.misere_theory.specs.Labels.{label_of}
use Rattle.presentations.specs.declared.TheConstants.{LETTERS}
use Rattle.presentations.specs.Vectors.{plus, zeros, only}
use Rattle.presentations.specs.Congruences.{Related}
use Rattle.presentations.specs.Congruences.Related.{Same, Turned, Chained, Beside}
use Rattle.presentations.proofs.VectorLaws.{length-zeros, plus-comm, zeros-at, only-other}
use Rattle.normal_forms.specs.Forms.{IsStandard, NormalForms, IsIn, word_of}
use Rattle.normal_forms.proofs.Words.{plus-at, length-sum}
use Rattle.normal_forms.proofs.Steps.{forms}
use Rattle.presented_text.specs.Said.{PresentedSaid, IsInRanges}
use Rattle.presented_claims.specs.Claims.{listed_heap, listed_word, has_word, heap_word, in_portion, claim_of}
use Rattle.presented_claims.specs.Presents.{Presents}
use Rattle.presented_forms.specs.Form.{IsStandardIfSome, IsInForm}
use Rattle.presented_forms.specs.Only.{HasLetter, IsInSmaller, IsOfSmaller, IsMade, IsLeast, IsOnly}
use Rattle.presented_forms.proofs.Lists.{same}
use Rattle.presented_forms.proofs.Bases.{Carries, form-standard, form-related}
use Rattle.presented_forms.proofs.OnePortion.{in-element}
use Rattle.presented_forms.proofs.Words.{none-some, in-list, listed-le, heap-long, heap-is, heap-listed, position-long, one-heap, label-is, HasBoth, position}

abbrev Has : PresentedSaid → ℕ → Type 0
Has c n = has_word c n ≡ true

-- All that is asked of a presentation but its letters.
pub record IsGiven (c : PresentedSaid) : Type 0 where
  pub ranges : IsInRanges c
  pub form : IsInForm c
  pub least : IsLeast c
  pub presents : Presents c

-- the normal forms that there are
pub form_of : (c : PresentedSaid) → IsGiven c → NormalForms LETTERS c.relations
form_of c g = forms LETTERS c.relations g.presents.converges.oriented

abbrev word_at : PresentedSaid → List ℕ → List ℕ
word_at c X = word_of LETTERS (heap_word c) X

made : (c : PresentedSaid) → IsOnly c → (n : ℕ) (w : List ℕ) → listed_word c n ≡ Some w
    → HasLetter c.letters n ⊎ IsOfSmaller c n w
made c o n w e = subst (IsMade c n) e (o.made n)

related-sum : (relations : List (List ℕ × List ℕ)) (u x v y : List ℕ) → length v ≡ LETTERS → length x ≡ LETTERS
    → Related LETTERS relations u x → Related LETTERS relations v y
    → Related LETTERS relations (plus u v) (plus x y)
related-sum relations u x v y long_v long_x one two =
    Chained (plus u v) (plus x v) (plus x y) (Beside u x v long_v one)
    (subst (λ t. Related LETTERS relations t (plus x y)) (plus-comm v x)
    (subst (λ t. Related LETTERS relations (plus v x) t) (plus-comm y x) (Beside v y x long_x two)))

-- ---- letters of one presentation

module _ (c : PresentedSaid) (g : IsGiven c) where
  letter-is : (i : ℕ) → i < length c.letters
      → Has c (slice_index c.letters i) × (heap_word c (slice_index c.letters i) ≡ only LETTERS i 1)
  letter-is i i_in = heap-is c g.ranges (slice_index c.letters i) (only LETTERS i 1) (g.form.letters.named i i_in)

module _ (c : PresentedSaid) (g : IsGiven c) (o : IsOnly c) where
  strict : (j i : ℕ) → j < i → i < length c.letters → slice_index c.letters j < slice_index c.letters i
  strict j zero lt i_in = absurd (omega (arith, lt))
  strict j (suc k) lt i_in =
      let e : suc k - 1 ≡ k = omega arith in
      let step : slice_index c.letters k < slice_index c.letters (suc k) =
      rw e at (g.form.letters.rising (suc k) (omega arith) i_in) in
      elim (cases_eq j k) [
        | inl here ↦ rw here step
        | inr other ↦
            let h = strict j k (omega (arith, lt, other)) (omega (arith, i_in)) in omega (arith, h, step)
      ]

  smaller-letter : (j i : ℕ) → j < length c.letters → i < length c.letters
      → slice_index c.letters j < slice_index c.letters i → j < i
  smaller-letter j i j_in i_in less = elim (cases_order j i) [
    | inl e ↦ absurd (let h : slice_index c.letters i < slice_index c.letters i = rw e at less in omega (arith, h))
    | inr (inl lt) ↦ lt
    | inr (inr gt) ↦ absurd (let h = strict i j gt j_in in omega (arith, h, less))
  ]

  -- a word in earlier letters than i, to which the word is related
  record IsEarly (i : ℕ) (w : List ℕ) : Type 0 where
    word : List ℕ
    long : length word ≡ LETTERS
    within : IsIn i word
    related : Related LETTERS c.relations word w

  -- letters of smaller heaps than letter i's are earlier ones
  earlier-in : (i h : ℕ) (w : List ℕ) → i < length c.letters → h ≤ slice_index c.letters i → length w ≡ LETTERS
      → IsInSmaller c.letters h w → IsIn i w
  earlier-in i h w i_in le_h long small l le = elim (cases_lt l LETTERS) [
    | inl near_ ↦
        elim (cases_eq (slice_index w l) 0) [
          | inl none ↦ none
          | inr some ↦
              let (l_in, lt) = small l near_ (omega (arith, some)) in
              let before = smaller-letter l i l_in i_in (omega (arith, lt, le_h)) in
              absurd (omega (arith, before, le))
        ]
    | inr out ↦ get_or-eq_default w 0 (omega (arith, long, out))
  ]

  -- the word of a smaller heap than letter i's is related to one in earlier letters
  smaller-word : (i m : ℕ) → i < length c.letters → Has c m → m < slice_index c.letters i
      → IsEarly i (heap_word c m)
  smaller-word i m i_in has less =
      let r = g.ranges in
      let h = listed_heap c m in
      let le_h = listed-le c r m in
      let w = heap_word c m in
      elim (made c o h w (heap-listed c r m has)) [
        | inl (j, j_in, at) ↦
            let same_word : w ≡ only LETTERS j 1 =
            sym (heap-is c r h w (heap-listed c r m has)).1
            ∙ (heap-is c r h (only LETTERS j 1) (subst (λ t. listed_word c t ≡ Some (only LETTERS j 1)) at (g.form.letters.named j j_in))).1
            in
            let before : j < i = smaller-letter j i j_in i_in (omega (arith, at, le_h, less)) in
            record {
              word = w;
              long = heap-long c r m;
              within = λ l le.
                  ap (λ v. slice_index v l) same_word ∙ only-other LETTERS j l 1 (λ e. omega (arith, e, le, before));
              related = Same w (heap-long c r m);
            }
        | inr small ↦
            record {
              word = small.word;
              long = small.long;
              within = earlier-in i h small.word i_in (omega (arith, le_h, less)) small.long small.smaller;
              related = small.related;
            }
      ]

  smaller-position : (i : ℕ) → i < length c.letters → (X : List ℕ)
      → IsPosition (λ h. Has c h × (h < slice_index c.letters i)) X → IsEarly i (word_at c X)
  smaller-position i i_in [] p = record {
    word = zeros LETTERS;
    long = length-zeros LETTERS;
    within = λ l le. zeros-at LETTERS l;
    related = Same (zeros LETTERS) (length-zeros LETTERS);
  }
  smaller-position i i_in (h ∷ X) p =
      let a = smaller-word i h i_in p.0.0 p.0.1 in
      let b = smaller-position i i_in X p.1 in
      record {
        word = plus a.word b.word;
        long = length-sum LETTERS a.word b.word a.long b.long;
        within = λ l le.
            let e = a.within l le in let f = b.within l le in omega (arith, e, f, plus-at a.word b.word l);
        related =
            related-sum c.relations a.word (heap_word c h) b.word (word_at c X) b.long (heap-long c g.ranges h) a.related
            b.related;
      }

  -- a heap is that of a letter, or smaller heaps have its word together
  abbrev IsSum : ℕ → Type 0
  IsSum n = (X : List ℕ) × IsPosition (λ h. Has c h × (h < n)) X
      × ((form_of c g).form (word_at c X) ≡ (form_of c g).form (heap_word c n))

  letter-or-made : (n : ℕ) → Has c n → HasLetter c.letters n ⊎ IsSum n
  letter-or-made n has =
      let r = g.ranges in
      let h = listed_heap c n in
      let le_h = listed-le c r n in
      let w = heap_word c n in
      let listed_ = heap-listed c r n has in
      elim (made c o h w listed_) [
        | inl (k, k_in, at) ↦
            elim (cases_eq h n) [
              | inl e ↦ inl (k, k_in, at ∙ e)
              | inr other ↦
                  let is = heap-is c r h w listed_ in
                  inr (h ∷ [], ((is.0, omega (arith, le_h, other)), tt), ap (form_of c g).form (one-heap c r h ∙ is.1))
            ]
        | inr small ↦
            let p =
            position (heap_word c) (heap_word c) (λ m. Has c m × (m < n))
            (λ i. (i < length c.letters) × (slice_index c.letters i < h))
            (λ i i_in ok.
            let is = letter-is c g i ok.0 in let less = ok.1 in
            (slice_index c.letters i, (is.0, omega (arith, less, le_h)), is.1, is.1)) small.word small.long small.smaller in
            inr (
              p.at,
              p.in_at,
              ap (form_of c g).form p.one
                  ∙ form-related LETTERS c.relations g.presents.converges (form_of c g) small.word w small.long
                  (heap-long c r n) small.related,
            )
      ]

-- ---- two presentations

module _
    (c d : PresentedSaid) (gc : IsGiven c) (gd : IsGiven d) (code : c.code ≡ d.code)
    (heaps : (n : ℕ) → has_word c n ≡ has_word d n) where
  across : (X : List ℕ) → IsPosition (Has c) X → IsPosition (Has d) X
  across [] p = tt
  across (n ∷ X) p = (sym (heaps n) ∙ p.0, across X p.1)

  across-back : (X : List ℕ) → IsPosition (Has d) X → IsPosition (Has c) X
  across-back [] p = tt
  across-back (n ∷ X) p = (heaps n ∙ p.0, across-back X p.1)

  -- positions of related words in the one have related words in the other
  pub carries : (X Y : List ℕ) → IsPosition (Has c) X → IsPosition (Has c) Y
      → (form_of c gc).form (word_at c X) ≡ (form_of c gc).form (word_at c Y)
      → (form_of d gd).form (word_at d X) ≡ (form_of d gd).form (word_at d Y)
  carries X Y p q e =
      let F = form_of c gc in
      let G = form_of d gd in
      let one = gc.presents.quotient F in
      let two = gd.presents.quotient G in
      let le : label_of (claim_of c F) X ≡ label_of (claim_of c F) Y =
      label-is c gc.ranges gc.presents.converges F X ∙ e ∙ sym (label-is c gc.ranges gc.presents.converges F Y) in
      let alike : Indistinguishable (Has c) c.code X Y = (one.indistinguishable X Y p q).1 le in
      let also : Indistinguishable (Has d) d.code X Y =
      λ Z s. subst (λ k. IsP k (X ++ Z) ↔ IsP k (Y ++ Z)) code (alike Z (across-back Z s)) in
      sym (label-is d gd.ranges gd.presents.converges G X)
      ∙ (two.indistinguishable X Y (across X p) (across Y q)).0 also
      ∙ label-is d gd.ranges gd.presents.converges G Y

  related : (u v : List ℕ) → length u ≡ LETTERS → length v ≡ LETTERS
      → (form_of d gd).form u ≡ (form_of d gd).form v → Related LETTERS d.relations u v
  related u v long_u long_v e =
      let G = form_of d gd in
      Chained u (G.form u) v (G.is u long_u).related
      (subst (λ t. Related LETTERS d.relations t v) (sym e) (Turned v (G.form v) (G.is v long_v).related))

module _
    (c d : PresentedSaid) (gc : IsGiven c) (gd : IsGiven d) (oc : IsOnly c) (od : IsOnly d) (code : c.code ≡ d.code)
    (heaps : (n : ℕ) → has_word c n ≡ has_word d n) where
  -- a heap of a letter isn't made of smaller ones in the other presentation
  never-made : (i : ℕ) → i < length d.letters → (X : List ℕ)
      → IsPosition (λ h. Has c h × (h < slice_index d.letters i)) X
      → (form_of c gc).form (word_at c X) ≡ (form_of c gc).form (heap_word c (slice_index d.letters i)) → ⊥
  never-made i i_in X p e =
      let n = slice_index d.letters i in
      let is = letter-is d gd i i_in in
      let has : Has c n = heaps n ∙ is.0 in
      let one : (form_of c gc).form (word_at c X) ≡ (form_of c gc).form (word_at c (n ∷ [])) =
      e ∙ ap (form_of c gc).form (sym (one-heap c gc.ranges n)) in
      let two = carries c d gc gd code heaps X (n ∷ []) (all-of X p) (has, tt) one in
      let single : word_at d (n ∷ []) ≡ only LETTERS i 1 = one-heap d gd.ranges n ∙ is.1 in
      let early = smaller-position d gd od i i_in X (below X p) in
      od.new i early.word i_in early.long early.within
      (Chained early.word (word_at d X) (only LETTERS i 1) early.related
      (subst (Related LETTERS d.relations (word_at d X)) single
      (related c d gc gd code heaps (word_at d X) (word_at d (n ∷ [])) (position-long d gd.ranges X) (position-long d gd.ranges (n ∷ [])) two)))
    where
      all-of : (X : List ℕ) → IsPosition (λ h. Has c h × (h < slice_index d.letters i)) X → IsPosition (Has c) X
      all-of [] p = tt
      all-of (h ∷ X) p = (p.0.0, all-of X p.1)

      below : (X : List ℕ) → IsPosition (λ h. Has c h × (h < slice_index d.letters i)) X
          → IsPosition (λ h. Has d h × (h < slice_index d.letters i)) X
      below [] p = tt
      below (h ∷ X) p = ((sym (heaps h) ∙ p.0.0, p.0.1), below X p.1)

  -- each letter's heap is one in the other presentation
  letter-there : (n : ℕ) → Contains d.letters n → Contains c.letters n
  letter-there n (i, i_in, at) =
      let e : slice_index d.letters i ≡ n = get_or_default d.letters i 0 n i_in ∙ at in
      let has : Has c (slice_index d.letters i) = heaps (slice_index d.letters i) ∙ (letter-is d gd i i_in).0 in
      elim (letter-or-made c gc oc (slice_index d.letters i) has) [
        | inl (k, k_in, is) ↦ (k, k_in, get_or_default c.letters k n 0 k_in ∙ is ∙ e)
        | inr (X, p, made) ↦ absurd (never-made i i_in X p made)
      ]

rising : (c : PresentedSaid) → IsGiven c → (k : ℕ) (d : ℕ) → 0 < k → k < length c.letters
    → get_or c.letters (k - 1) d < get_or c.letters k d
rising c g k d pos lt =
    let a = g.form.letters.rising k pos lt in
    let e = get_or_default c.letters (k - 1) d 0 (omega (arith, lt)) in
    let f = get_or_default c.letters k d 0 lt in
    omega (arith, a, e, f)

pub one-letters : (c d : PresentedSaid) → IsGiven c → IsGiven d → IsOnly c → IsOnly d → c.code ≡ d.code
    → ((n : ℕ) → has_word c n ≡ has_word d n) → c.letters ≡ d.letters
one-letters c d gc gd oc od code heaps =
    same (λ n. Unit {0}) (λ m n. m < n) (λ x y z a b e less more. omega (arith, less, more)) (λ x a less. omega (arith, less))
    c.letters d.letters (λ k e lt. tt) (λ k e lt. tt) (rising c gc) (rising d gd)
    (letter-there d c gd gc od oc (sym code) (λ n. sym (heaps n)))
    (letter-there c d gc gd oc od code heaps)

-- ---- words are standard

listed-standard : (c : PresentedSaid) → IsGiven c → (n : ℕ) (w : List ℕ) → listed_word c n ≡ Some w
    → IsStandard LETTERS c.relations w
listed-standard c g zero w e = absurd (none-some w e)
listed-standard c g (suc i) w e =
    let le = (in-list c g.ranges (suc i) w e).1 in
    let count = g.ranges.words.0 in
    subst (IsStandardIfSome c.relations) e (g.form.words i None (omega (arith, le, count)))

standard-word : (c : PresentedSaid) → IsGiven c → (n : ℕ) → Has c n → IsStandard LETTERS c.relations (heap_word c n)
standard-word c g n has = listed-standard c g (listed_heap c n) (heap_word c n) (heap-listed c g.ranges n has)

-- ---- with the same letters

module _
    (c d : PresentedSaid) (gc : IsGiven c) (gd : IsGiven d) (code : c.code ≡ d.code)
    (heaps : (n : ℕ) → has_word c n ≡ has_word d n) (letters : c.letters ≡ d.letters) where
  letter-both : (i : ℕ) → i < LETTERS → i < length c.letters
      → (h : ℕ) × Has c h × (heap_word c h ≡ only LETTERS i 1) × (heap_word d h ≡ only LETTERS i 1)
  letter-both i i_in lt =
      let one = letter-is c gc i lt in
      let two = letter-is d gd i (subst (λ l. i < length l) letters lt) in
      let e : slice_index d.letters i ≡ slice_index c.letters i = ap (λ l. slice_index l i) (sym letters) in
      (slice_index c.letters i, one.0, one.1, subst (λ h. heap_word d h ≡ only LETTERS i 1) e two.1)

  -- a position that has the word in both
  both-have : (w : List ℕ) → length w ≡ LETTERS → IsIn (length c.letters) w
      → HasBoth (heap_word c) (heap_word d) (Has c) (λ i. i < length c.letters) letter-both w
  both-have w long within =
      position (heap_word c) (heap_word d) (Has c) (λ i. i < length c.letters) letter-both w long
      (λ i i_in some. elim (cases_lt i (length c.letters)) [
        | inl lt ↦ lt
        | inr le ↦ absurd (let e = within i le in omega (arith, e, some))
      ])

  pub relations-carried : Carries LETTERS (length c.letters) c.relations d.relations
  relations-carried u v long_u long_v in_u in_v r =
      let F = form_of c gc in
      let p = both-have u long_u in_u in
      let q = both-have v long_v in_v in
      let e : F.form (word_at c p.at) ≡ F.form (word_at c q.at) =
      ap F.form p.one ∙ form-related LETTERS c.relations gc.presents.converges F u v long_u long_v r ∙ ap F.form (sym q.one) in
      let f = carries c d gc gd code heaps p.at q.at p.in_at q.in_at e in
      related c d gc gd code heaps u v long_u long_v
      (ap (form_of d gd).form (sym p.two) ∙ f ∙ ap (form_of d gd).form q.two)

  -- ---- with the same relations, too

  module _ (relations : c.relations ≡ d.relations) where
    same-standard : (w : List ℕ) → IsStandard LETTERS c.relations w → IsStandard LETTERS d.relations w
    same-standard w = subst (λ r. IsStandard LETTERS r w) relations

    pub portion-carried : (w : List ℕ) → length w ≡ LETTERS → in_portion c w ≡ true → in_portion d w ≡ true
    portion-carried w long e =
        let F = form_of c gc in
        let G = form_of d gd in
        let el = in-element c gc.ranges gc.form gc.least w long e in
        let p = both-have w long el.within in
        let lc : label_of (claim_of c F) p.at ≡ w =
        label-is c gc.ranges gc.presents.converges F p.at ∙ ap F.form p.one
        ∙ form-standard LETTERS c.relations gc.presents.converges F w el.standard in
        let ld : label_of (claim_of d G) p.at ≡ w =
        label-is d gd.ranges gd.presents.converges G p.at ∙ ap G.form p.two
        ∙ form-standard LETTERS d.relations gd.presents.converges G w (same-standard w el.standard) in
        let is_p : IsP c.code p.at =
        ((gc.presents.quotient F).predicts p.at p.in_at).1 (ap (in_portion c) lc ∙ e) in
        let also : in_portion d (label_of (claim_of d G) p.at) ≡ true =
        ((gd.presents.quotient G).predicts p.at (across c d gc gd code heaps p.at p.in_at)).0
        (subst (λ k. IsP k p.at) code is_p) in
        ap (in_portion d) (sym ld) ∙ also

    -- heaps have the same words
    pub same-word-of : (n : ℕ) → Has c n → heap_word c n ≡ heap_word d n
    same-word-of n has =
        let F = form_of c gc in
        let G = form_of d gd in
        let w = heap_word c n in
        let v = heap_word d n in
        let has_d : Has d n = sym (heaps n) ∙ has in
        let sw = standard-word c gc n has in
        let sv = standard-word d gd n has_d in
        let label = (gc.presents.quotient F).labels n has in
        let fw : F.form w ≡ w = form-standard LETTERS c.relations gc.presents.converges F w sw in
        let within : IsIn (length c.letters) w = subst (IsIn (length c.letters)) fw label.within in
        let p = both-have w sw.long within in
        let e : F.form (word_at c p.at) ≡ F.form (word_at c (n ∷ [])) =
        ap F.form (p.one ∙ sym (one-heap c gc.ranges n)) in
        let f = carries c d gc gd code heaps p.at (n ∷ []) p.in_at (has, tt) e in
        sym (form-standard LETTERS d.relations gd.presents.converges G w (same-standard w sw))
        ∙ ap G.form (sym p.two) ∙ f ∙ ap G.form (one-heap d gd.ranges n)
        ∙ form-standard LETTERS d.relations gd.presents.converges G v sv
