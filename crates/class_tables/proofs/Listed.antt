-- A list that is closed under letters has all classes.
use Rattle.std.proofs.Common.{◌≡◌, ℕ, ◌<◌, List, [], ◌∷◌, length, refl, sym, ◌∙◌, ap, subst, arith}
use Rattle.presentations.specs.declared.TheConstants.{LETTERS}
use Rattle.presentations.specs.Vectors.{plus, zeros, only, bump}
use Rattle.presentations.proofs.VectorLaws.{bump-plus}
use Rattle.presented_text.specs.Said.{PresentedSaid}
use Rattle.presented_claims.specs.Claims.{IsElement, cycled}
use Rattle.presented_claims.specs.Folds.{HavePeriods, AreFiner}
use Rattle.presented_claims.proofs.Folds.{folded-element, folded-finer}
use Rattle.presented_claims.proofs.Listed.{all-had}
use Rattle.class_tables.specs.Classes.{word_at, IsThere, AreClasses}

-- with letter i more, the word is in the list, if that is a class
abbrev pub IsListedWith : PresentedSaid → List (ℕ × ℕ) → List (List ℕ) → List ℕ → ℕ → Type 0
IsListedWith c folds ws v i = IsElement c (plus v (only LETTERS i 1))
    → (cycled folds (plus v (only LETTERS i 1)) ≡ plus v (only LETTERS i 1))
    → IsThere ws (plus v (only LETTERS i 1))

-- folding again makes no difference
finer-itself : (folds : List (ℕ × ℕ)) → AreFiner folds folds
finer-itself folds = (refl, λ i lt. (omega arith, (1, omega arith)))

module _ (c : PresentedSaid) (folds : List (ℕ × ℕ)) (periods : HavePeriods folds) (ws : List (List ℕ))
    (some : 0 < length ws) (first : word_at ws 0 ≡ zeros LETTERS)
    (elements : (k : ℕ) → k < length ws → IsElement c (word_at ws k))
    (more : (k : ℕ) → k < length ws → (i : ℕ) → i < length c.letters → IsListedWith c folds ws (word_at ws k) i) where
  bumped : (v : List ℕ) (i : ℕ) → IsThere ws v → i < length c.letters → i < LETTERS → IsElement c (bump v i)
      → (cycled folds (bump v i) ≡ bump v i) → IsThere ws (bump v i)
  bumped v i (k, k_in, is) letter lt e stays =
      let v_in : IsElement c v = subst (IsElement c) is (elements k k_in) in
      let sum : bump v i ≡ plus v (only LETTERS i 1) = sym (bump-plus v LETTERS i v_in.standard.long lt) in
      let h : IsListedWith c folds ws v i = subst (λ w. IsListedWith c folds ws w i) is (more k k_in i letter) in
      subst (IsThere ws) (sym sum)
      (h (subst (IsElement c) sum e) (subst (λ w. cycled folds w ≡ w) sum stays))

  pub are-classes : AreClasses c folds ws
  are-classes = record {
    some = some;
    first = first;
    elements = elements;
    listed = λ x e.
        let f = folded-element LETTERS (length c.letters) c.relations folds x e in
        all-had folds periods LETTERS (length c.letters) c.relations (IsThere ws) (0, some, first) bumped (cycled folds x)
        f.standard.long f (folded-finer folds folds x (finer-itself folds));
  }
