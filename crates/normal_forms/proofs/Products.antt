-- Normal forms of products: the standard words are a commutative monoid, and the label of a position is the
-- normal form of its word.
use Rattle.std.proofs.Common.{◌≡◌, ℕ, zero, suc, ◌<◌, ◌≤◌, Bool, List, [], ◌∷◌, length, refl, sym, ap, ◌∙◌, inl, inr, arith}
use Rattle.std.specs.Prelude.{slice_index, slice_index_or, All}
use Rattle.std.proofs.lemmas.List.Elements.{All-contains, All-head, All-tail}
use Rattle.misere_theory.specs.Labels.{AreLabels, label_of}
use Rattle.presentations.specs.Vectors.{plus, zeros}
use Rattle.presentations.specs.Congruences.{Related}
use Rattle.presentations.specs.Congruences.Related.{Given, Same, Turned, Chained, Beside}
use Rattle.presentations.proofs.VectorLaws.{plus-assoc, plus-comm, zeros-plus, zeros-at, length-zeros}
use Rattle.relations.specs.Bases.{Precedes, letter_count}
use Rattle.normal_forms.specs.Reductions.{AreConvergent}
use Rattle.normal_forms.specs.Forms.{IsStandard, NormalForms, product_by, IsIn, AreIn, IsElementWord, word_of, claim_by}
use Rattle.normal_forms.proofs.Words.{plus-at, length-sum}
use Rattle.normal_forms.proofs.Ranks.{at-most-count}
use Rattle.normal_forms.proofs.Confluence.{one-form, same-forms}

count-none : (n : ℕ) (w : List ℕ) → ((i : ℕ) → i < n → slice_index w i ≡ 0)
    → letter_count n w ≡ 0
count-none zero w none = refl
count-none (suc n) w none =
    omega (arith, count-none n w (λ i lt. none i (omega (arith, lt))), none n (omega arith))

-- no word comes before the empty one
none-before : (n : ℕ) (v w : List ℕ) → letter_count n w ≡ 0 → Precedes n v w → ⊥
none-before n v w none (inl less) = omega (arith, none, less)
none-before n v w none (inr (e, (i, i_in, less, same))) =
    let most = at-most-count n v i i_in in
    omega (arith, none, e, most, less)

module _ (n : ℕ) (relations : List (List ℕ × List ℕ)) (are : AreConvergent n relations) where
  pub empty-standard : IsStandard n relations (zeros n)
  empty-standard = record {
    long = length-zeros n;
    free =
        λ k d lt divides.
        none-before n (slice_index_or relations k d).1 (slice_index_or relations k d).0
        (count-none n (slice_index_or relations k d).0
        (λ i i_in. let h = divides i i_in in omega (arith, h, zeros-at n i)))
        (are.oriented.falls k d lt);
  }

  module _ (F : NormalForms n relations) where
    related-form : (w : List ℕ) → length w ≡ n → Related n relations w (F.form w)
    related-form w long = (F.is w long).related

    form-standard : (w : List ℕ) → IsStandard n relations w → F.form w ≡ w
    form-standard w standard =
        one-form n relations are w (F.form w) w standard.long (F.is w standard.long)
        (record { standard = standard; related = Same w standard.long })

    form-long : (w : List ℕ) → length w ≡ n → length (F.form w) ≡ n
    form-long w long = (F.is w long).standard.long

    -- the form of a product is that of the product of the forms
    form-left : (u v : List ℕ) → length u ≡ n → length v ≡ n
        → F.form (plus (F.form u) v) ≡ F.form (plus u v)
    form-left u v long_u long_v =
        same-forms n relations are (plus (F.form u) v) (plus u v) (F.form (plus (F.form u) v))
        (F.form (plus u v))
        (Beside (F.form u) u v long_v (Turned u (F.form u) (related-form u long_u)))
        (F.is (plus (F.form u) v) (length-sum n (F.form u) v (form-long u long_u) long_v))
        (F.is (plus u v) (length-sum n u v long_u long_v))

    form-right : (u v : List ℕ) → length u ≡ n → length v ≡ n
        → F.form (plus u (F.form v)) ≡ F.form (plus u v)
    form-right u v long_u long_v =
        ap F.form (plus-comm u (F.form v)) ∙ form-left v u long_v long_u
        ∙ ap F.form (plus-comm v u)

    pub form-product : (u v : List ℕ) → length u ≡ n → length v ≡ n
        → F.form (plus u v) ≡ product_by F.form (F.form u) (F.form v)
    form-product u v long_u long_v =
        sym (form-left u v long_u long_v)
        ∙ sym (form-right (F.form u) v (form-long u long_u) long_v)

    associates : (x y z : List ℕ) → length x ≡ n → length y ≡ n → length z ≡ n
        → product_by F.form (product_by F.form x y) z ≡ product_by F.form x (product_by F.form y z)
    associates x y z long_x long_y long_z =
        form-left (plus x y) z (length-sum n x y long_x long_y) long_z
        ∙ ap F.form (plus-assoc x y z)
        ∙ sym (form-right x (plus y z) long_x (length-sum n y z long_y long_z))

    pub standard-labels : AreLabels (IsStandard n relations) (zeros n) (product_by F.form)
    standard-labels = record {
      some = empty-standard;
      closed = λ x y sx sy. (F.is (plus x y) (length-sum n x y sx.long sy.long)).standard;
      identity = λ x sx. ap F.form (zeros-plus x n sx.long) ∙ form-standard x sx;
      commutes = λ x y sx sy. ap F.form (plus-comm x y);
      associates = λ x y z sx sy sz. associates x y z sx.long sy.long sz.long;
    }

    -- the word of a position
    word-long : (word : ℕ → List ℕ) (X : List ℕ) → All (λ h. length (word h) ≡ n) X
        → length (word_of n word X) ≡ n
    word-long word [] long = length-zeros n
    word-long word (h ∷ X) long =
        length-sum n (word h) (word_of n word X) (All-head (λ h. length (word h) ≡ n) h X long)
        (word-long word X (All-tail (λ h. length (word h) ≡ n) h X long))

    pub label-form : (word : ℕ → List ℕ) (portion : List ℕ → Bool) (X : List ℕ)
        → All (λ h. length (word h) ≡ n) X
        → label_of (claim_by n F.form word portion) X ≡ F.form (word_of n word X)
    label-form word portion [] long = sym (form-standard (zeros n) empty-standard)
    label-form word portion (h ∷ X) long =
        let long_h = All-head (λ h. length (word h) ≡ n) h X long in
        let rest = All-tail (λ h. length (word h) ≡ n) h X long in
        ap (product_by F.form (F.form (word h))) (label-form word portion X rest)
        ∙ sym (form-product (word h) (word_of n word X) long_h (word-long word X rest))

-- ---- words in the first letters

module _ (n letters : ℕ) (relations : List (List ℕ × List ℕ)) (within : AreIn letters relations) where
  -- related words have the same exponents of all other letters
  same-beyond : (u v : List ℕ) → Related n relations u v → (i : ℕ) → letters ≤ i
      → slice_index u i ≡ slice_index v i
  same-beyond u v (Given r at) i le =
      let h : IsIn letters r.0 × IsIn letters r.1 =
      All-contains (λ s. IsIn letters s.0 × IsIn letters s.1) relations r within at
      in
      h.0 i le ∙ sym (h.1 i le)
  same-beyond u v (Same w long) i le = refl
  same-beyond u v (Turned a b r) i le = sym (same-beyond a b r i le)
  same-beyond u v (Chained a b c r s) i le = same-beyond a b r i le ∙ same-beyond b c s i le
  same-beyond u v (Beside a b z long r) i le =
      let h = same-beyond a b r i le in
      omega (arith, h, plus-at a z i, plus-at b z i)

  module _ (F : NormalForms n relations) where
    pub form-element : (w : List ℕ) → length w ≡ n → IsIn letters w
        → IsElementWord n letters relations (F.form w)
    form-element w long in_ = record {
      standard = (F.is w long).standard;
      within =
          λ i le. sym (same-beyond w (F.form w) (F.is w long).related i le) ∙ in_ i le;
    }

    sum-in : (u v : List ℕ) → IsIn letters u → IsIn letters v → IsIn letters (plus u v)
    sum-in u v in_u in_v i le = omega (arith, in_u i le, in_v i le, plus-at u v i)

    pub element-labels : AreConvergent n relations
        → AreLabels (IsElementWord n letters relations) (zeros n) (product_by F.form)
    element-labels are =
        let all = standard-labels n relations are F in
        record {
          some = record { standard = empty-standard n relations are; within = λ i le. zeros-at n i };
          closed =
              λ x y ex ey.
              form-element (plus x y) (length-sum n x y ex.standard.long ey.standard.long)
              (sum-in x y ex.within ey.within);
          identity = λ x ex. all.identity x ex.standard;
          commutes = λ x y ex ey. all.commutes x y ex.standard ey.standard;
          associates = λ x y z ex ey ez. all.associates x y z ex.standard ey.standard ez.standard;
        }
