-- How words take elements to others, one after another.
use Rattle.std.proofs.Common.{◌≡◌, ℕ, zero, suc, ◌+◌, ◌<◌, ◌≤◌, Bool, List, [], ◌∷◌, length, get_or, refl, sym, ap, ◌∙◌, subst, arith, inl, inr}
use Rattle.std.specs.Prelude.{slice_index}
use Rattle.std.proofs.lemmas.Bool.{cases_lt}
use Rattle.presentations.specs.declared.TheConstants.{LETTERS}
use Rattle.presentations.specs.Vectors.{plus, zeros, only}
use Rattle.presentations.specs.Congruences.{Related}
use Rattle.presentations.specs.Congruences.Related.{Same, Chained, Beside}
use Rattle.presentations.proofs.VectorLaws.{cons-same, plus-zeros, zeros-plus, length-zeros, length-only, plus-comm, plus-assoc, only-here, bump-plus, by_letters, partial, partial-none, partial-next, partial-all, zeros-at}
use Rattle.kept_positions.specs.Numbers.{entry}
use Rattle.normal_forms.specs.Forms.{IsNormalForm, IsStandard, IsIn, word_of}
use Rattle.normal_forms.proofs.Words.{plus-at, length-sum, same-word}
use Rattle.normal_forms.proofs.Confluence.{one-form}
use Rattle.presented_text.specs.Said.{PresentedSaid}
use Rattle.presented_claims.specs.Claims.{IsElement, heap_word, in_portion}
use Rattle.presented_tables.specs.Elements.{ListedElements, element, Takes, AreElements}
use Rattle.presented_tables.specs.Tested.{Says}
use Rattle.presented_tables.specs.Reached.{StandsAt}
use Rattle.presented_tables.specs.Rows.{AreImages}

pub only-none : (n i : ℕ) → only n i 0 ≡ zeros n
only-none zero i = refl
only-none (suc n) zero = refl
only-none (suc n) (suc i) = cons-same refl (only-none n i)

pub only-sum : (n i j k : ℕ) → plus (only n i j) (only n i k) ≡ only n i (j + k)
only-sum zero i j k = refl
only-sum (suc n) zero j k = cons-same refl (zeros-plus (zeros n) n (length-zeros n))
only-sum (suc n) (suc i) j k = cons-same refl (only-sum n i j k)

pub partial-sum : (v : List ℕ) (i k : ℕ) → plus (partial v i 0) (only (length v) i k) ≡ partial v i k
partial-sum [] i k = refl
partial-sum (x ∷ v) zero k =
    cons-same (omega arith) (plus-zeros (zeros (length v)) (length v) (length-zeros (length v)))
partial-sum (x ∷ v) (suc i) k = cons-same (omega arith) (partial-sum v i k)

pub all-zeros : (n : ℕ) (v : List ℕ) → length v ≡ n → IsIn 0 v → v ≡ zeros n
all-zeros n v l none =
    same-word n v (zeros n) l (length-zeros n)
    (λ i lt. none i (omega arith) ∙ sym (zeros-at n i))

-- what a letter's normal form shows
pub letter-takes : (c : PresentedSaid) (e : ListedElements) (x y i : ℕ) (word more form there : List ℕ)
    → word ≡ element e x → there ≡ element e y → y < length e.words
    → more ≡ plus word (only LETTERS i 1) → IsNormalForm LETTERS c.relations more form → form ≡ there
    → Takes c e (only LETTERS i 1) x y
letter-takes c e x y i word more form there is_x is_y y_in is_more nf is_form = record {
  long = length-only LETTERS i 1;
  inside = y_in;
  related =
      subst (λ z. Related LETTERS c.relations z (element e y))
      (is_more ∙ ap (λ z. plus z (only LETTERS i 1)) is_x)
      (subst (Related LETTERS c.relations more) (is_form ∙ is_y) nf.related);
}

module _ (c : PresentedSaid) (e : ListedElements) (are : AreElements c e) where
  pub long : (x : ℕ) → x < length e.words → length (element e x) ≡ LETTERS
  long x h = (are.elements x h).standard.long

  pub takes-none : (x : ℕ) → x < length e.words → Takes c e (zeros LETTERS) x x
  takes-none x h = record {
    long = length-zeros LETTERS;
    inside = h;
    related =
        subst (λ w. Related LETTERS c.relations w (element e x))
        (sym (plus-zeros (element e x) LETTERS (long x h))) (Same (element e x) (long x h));
  }

  pub takes-then : (u v : List ℕ) (x y z : ℕ) → Takes c e u x y → Takes c e v y z
      → Takes c e (plus u v) x z
  takes-then u v x y z a b = record {
    long = length-sum LETTERS u v a.long b.long;
    inside = b.inside;
    related =
        subst (λ w. Related LETTERS c.relations w (element e z)) (plus-assoc (element e x) u v)
        (Chained (plus (plus (element e x) u) v) (plus (element e y) v) (element e z)
        (Beside (plus (element e x) u) (element e y) v b.long a.related) b.related);
  }

  pub power-none : (i x : ℕ) → x < length e.words → Takes c e (only LETTERS i 0) x x
  power-none i x h = subst (λ w. Takes c e w x x) (sym (only-none LETTERS i)) (takes-none x h)

  pub power-more : (i j x y z : ℕ) → Takes c e (only LETTERS i j) x y
      → Takes c e (only LETTERS i 1) y z → Takes c e (only LETTERS i (j + 1)) x z
  power-more i j x y z a b =
      subst (λ w. Takes c e w x z) (only-sum LETTERS i j 1)
      (takes-then (only LETTERS i j) (only LETTERS i 1) x y z a b)

  pub letters-more : (v : List ℕ) (i x y z : ℕ) → length v ≡ LETTERS → i < LETTERS
      → Takes c e (partial v i 0) x y → Takes c e (only LETTERS i (get_or v i 0)) y z
      → Takes c e (partial v (i + 1) 0) x z
  letters-more v i x y z l lt a b =
      subst (λ w. Takes c e w x z)
      (partial-sum v i (get_or v i 0) ∙ partial-next v i (get_or v i 0) (omega (arith, l, lt)) refl)
      (takes-then (partial v i 0) (only (length v) i (get_or v i 0)) x y z a
      (subst (λ n. Takes c e (only n i (get_or v i 0)) y z) (sym l) b))

  pub letters-none : (v : List ℕ) (x : ℕ) → length v ≡ LETTERS → x < length e.words
      → Takes c e (partial v 0 0) x x
  letters-none v x l h =
      subst (λ w. Takes c e w x x) (sym (partial-none v ∙ ap zeros l)) (takes-none x h)

  pub letters-all : (v : List ℕ) (i x y : ℕ) → length v ≡ LETTERS → LETTERS ≤ i
      → Takes c e (partial v i 0) x y → Takes c e v x y
  letters-all v i x y l le t =
      subst (λ w. Takes c e w x y) (partial-all v i (omega (arith, l, le))) t

  -- heaps, one after another
  pub heap-then : (a : ℕ) (X : List ℕ) (x y z : ℕ) → Takes c e (heap_word c a) x y
      → Takes c e (word_of LETTERS (heap_word c) X) y z
      → Takes c e (word_of LETTERS (heap_word c) (a ∷ X)) x z
  heap-then a X x y z = takes-then (heap_word c a) (word_of LETTERS (heap_word c) X) x y z

  pub heap-alone : (a x y : ℕ) → Takes c e (heap_word c a) x y
      → Takes c e (word_of LETTERS (heap_word c) (a ∷ [])) x y
  heap-alone a x y t = heap-then a [] x y y t (takes-none y t.inside)

  -- the normal form of a product is the element to which it takes
  pub form-is : (w u : List ℕ) (x y : ℕ) → x < length e.words → Takes c e w x y
      → IsNormalForm LETTERS c.relations (plus (element e x) w) u → element e y ≡ u
  form-is w u x y h t nf =
      one-form LETTERS c.relations are.converges (plus (element e x) w) (element e y) u
      (length-sum LETTERS (element e x) w (long x h) t.long)
      (record { standard = (are.elements y t.inside).standard; related = t.related }) nf

  pub says-is : (X : List ℕ) (x y : ℕ) (b : Bool) → x < length e.words
      → Takes c e (word_of LETTERS (heap_word c) X) x y → b ≡ in_portion c (element e y)
      → Says c (element e x) X b
  says-is X x y b h t is u nf =
      ap (in_portion c) (sym (form-is (word_of LETTERS (heap_word c) X) u x y h t nf)) ∙ sym is

  -- ---- beside an element, what stands at another does what that one does

  pub through : (w : List ℕ) (x y z : ℕ) → x < length e.words → Takes c e w 0 y
      → Takes c e (element e y) x z → Takes c e w x z
  through w x y z h a b =
      let swapped : plus (plus (element e 0) w) (element e x) ≡ plus (element e x) w =
      ap (λ v. plus v (element e x)) (ap (λ v. plus v w) are.first ∙ zeros-plus w LETTERS a.long)
      ∙ plus-comm w (element e x)
      in
      record {
        long = a.long;
        inside = b.inside;
        related =
            Chained (plus (element e x) w) (plus (element e x) (element e y)) (element e z)
            (subst (λ v. Related LETTERS c.relations v (plus (element e x) (element e y))) swapped
            (subst (Related LETTERS c.relations (plus (plus (element e 0) w) (element e x)))
            (plus-comm (element e y) (element e x))
            (Beside (plus (element e 0) w) (element e y) (element e x) (long x h) a.related))) b.related;
      }

  pub says-beside : (H : List ℕ) (x y z width : ℕ) (images : List ℕ) (b : Bool)
      → AreImages c e images → width ≡ length e.words
      → z ≡ entry images width y x → x < length e.words
      → (z < length e.words → b ≡ in_portion c (element e z)) → StandsAt c e H y
      → Says c (element e x) H b
  says-beside H x y z width images b rows wide is h said t =
      let i : Takes c e (element e y) x z =
      subst (Takes c e (element e y) x) (sym (is ∙ ap (λ n. entry images n y x) wide))
      (rows.entries y x t.inside h)
      in
      says-is H x z b h (through (word_of LETTERS (heap_word c) H) x y z h t i) (said i.inside)

  -- ---- a heap without an option

  one-is : (n : ℕ) → length (heap_word c n) ≡ LETTERS → plus (element e 0) (heap_word c n) ≡ heap_word c n
  one-is n l = ap (λ z. plus z (heap_word c n)) are.first ∙ zeros-plus (heap_word c n) LETTERS l

  pub idle-one : (n y : ℕ) → Takes c e (heap_word c n) 0 y → IsIn 0 (element e y)
      → Related LETTERS c.relations (heap_word c n) (zeros LETTERS)
  idle-one n y t none =
      subst (λ z. Related LETTERS c.relations z (zeros LETTERS)) (one-is n t.long)
      (subst (λ z. Related LETTERS c.relations (plus (element e 0) (heap_word c n)) z)
      (all-zeros LETTERS (element e y) (long y t.inside) none) t.related)

  pub idle-other : (n y : ℕ) → Takes c e (heap_word c n) 0 y → (IsIn 0 (element e y) → ⊥)
      → Related LETTERS c.relations (heap_word c n) (zeros LETTERS) → ⊥
  idle-other n y t other r =
      let same =
      form-is (heap_word c n) (zeros LETTERS) 0 y are.some t
      (record {
        standard = subst (IsStandard LETTERS c.relations) are.first (are.elements 0 are.some).standard;
        related = subst (λ z. Related LETTERS c.relations z (zeros LETTERS)) (sym (one-is n t.long)) r;
      }) in
      other (λ k _. ap (λ z. slice_index z k) same ∙ zeros-at LETTERS k)

  -- ---- all elements are listed

  smaller : (v : List ℕ) (i : ℕ) → length v ≡ LETTERS → IsElement c (plus v (only LETTERS i 1))
      → IsElement c v
  smaller v i l el = record {
    standard = record {
      long = l;
      free =
          λ k d lt divides. el.standard.free k d lt
          (λ j jl. let h = divides j jl in omega (arith, h, plus-at v (only LETTERS i 1) j));
    };
    within = λ k le. let h = el.within k le in omega (arith, h, plus-at v (only LETTERS i 1) k);
  }

  letter-in : (v : List ℕ) (i : ℕ) → i < LETTERS → IsElement c (plus v (only LETTERS i 1))
      → i < length c.letters
  letter-in v i lt el = elim (cases_lt i (length c.letters)) [
    | inl less ↦ less
    | inr le ↦
        let h = el.within i le in
        absurd (omega (arith, h, plus-at v (only LETTERS i 1) i, only-here LETTERS i 1 lt))
  ]

  abbrev pub IsListed : List ℕ → Type 0
  IsListed w = (x : ℕ) × (x < length e.words) × (element e x ≡ w)

  one-more : (v : List ℕ) (i : ℕ) → length v ≡ LETTERS → i < LETTERS
      → (IsElement c v → IsListed v) → IsElement c (plus v (only LETTERS i 1))
      → IsListed (plus v (only LETTERS i 1))
  one-more v i l lt before el =
      let (x, x_in, is) = before (smaller v i l el) in
      let t = are.steps x i x_in (letter-in v i lt el) in
      let w : List ℕ = plus v (only LETTERS i 1) in (
        _,
        t.inside,
        form-is (only LETTERS i 1) w x _ x_in t
            (subst (λ z. IsNormalForm LETTERS c.relations z w)
            (ap (λ z. plus z (only LETTERS i 1)) (sym is))
            (record { standard = el.standard; related = Same w el.standard.long })),
      )

  pub listed : (w : List ℕ) → IsElement c w → IsListed w
  listed w el =
      by_letters LETTERS (λ v. IsElement c v → IsListed v) (λ _. (0, are.some, are.first))
      (λ v i l lt before.
      subst (λ z. IsElement c z → IsListed z) (bump-plus v LETTERS i l lt) (one-more v i l lt before))
      w el.standard.long el
