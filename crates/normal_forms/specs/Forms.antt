-- Normal forms of words, the monoid that they are, and the label of a position in it: Rosales and
-- García-Sánchez, Finitely Generated Commutative Monoids, and for misère quotients Plambeck and Siegel.
use Rattle.std.specs.Prelude.{◌≡◌, ℕ, ◌<◌, ◌≤◌, Bool, List, [], ◌∷◌, length, slice_index, All, Contains}
use Rattle.misere_theory.specs.Labels.{LabelClaim}
use Rattle.presentations.specs.Vectors.{plus, zeros, only}
use Rattle.presentations.specs.Congruences.{Related}
use Rattle.relations.specs.Bases.{Divides}

-- A word of n exponents in which no left word is.
pub record IsStandard (n : ℕ) (relations : List (List ℕ × List ℕ)) (w : List ℕ) : Type 0 where
  pub long : length w ≡ n
  pub free : All (λ r. Divides n r.0 w → ⊥) relations

-- A standard word that the relations relate to the word.
pub record IsNormalForm (n : ℕ) (relations : List (List ℕ × List ℕ)) (w u : List ℕ) : Type 0 where
  pub standard : IsStandard n relations u
  pub related : Related n relations w u

-- A normal form of each word.
pub record NormalForms (n : ℕ) (relations : List (List ℕ × List ℕ)) : Type 0 where
  pub form : List ℕ → List ℕ
  pub is : (w : List ℕ) → length w ≡ n → IsNormalForm n relations w (form w)

-- the normal form of the product
abbrev pub product_by : (List ℕ → List ℕ) → List ℕ → List ℕ → List ℕ
product_by form u v = form (plus u v)

-- no letter of the word but the first ones
abbrev pub IsIn : ℕ → List ℕ → Type 0
IsIn letters w = (i : ℕ) → letters ≤ i → slice_index w i ≡ 0

-- the same of the words of relations
abbrev pub AreIn : ℕ → List (List ℕ × List ℕ) → Type 0
AreIn letters relations = All (λ r. IsIn letters r.0 × IsIn letters r.1) relations

-- A standard word in the first letters: an element of the monoid that they present.
pub record IsElementWord (n letters : ℕ) (relations : List (List ℕ × List ℕ)) (w : List ℕ) : Type 0
  where
    pub standard : IsStandard n relations w
    pub within : IsIn letters w

-- the word of a position: that of all of its heaps
abbrev pub word_of : ℕ → (ℕ → List ℕ) → List ℕ → List ℕ
word_of n word [] = zeros n
word_of n word (h ∷ X) = plus (word h) (word_of n word X)

-- The claim that gives each heap the normal form of its word.
abbrev pub claim_by : ℕ → (List ℕ → List ℕ) → (ℕ → List ℕ) → (List ℕ → Bool)
    → LabelClaim (List ℕ)
claim_by n form word portion =
    record {
      one = zeros n;
      times = product_by form;
      label = λ h. form (word h);
      portion = portion;
    }

-- Each of the first letters has a power among the left words.
abbrev pub HavePowers : ℕ → ℕ → List (List ℕ × List ℕ) → Type 0
HavePowers n letters relations = (i : ℕ) → i < letters
    → (m : ℕ) × (r : List ℕ × List ℕ) × Contains relations r × (r.0 ≡ only n i m)
