-- What a certificate claims of a code's game, and when the claim is the misère quotient.
use Rattle.std.specs.Prelude.{◌≡◌, ◌≢◌, ℕ, ◌<◌, ◌↔◌, ◌⊎◌, Bool, true, false, List, [], ◌∷◌, length, AllPairs, All}
use Rattle.misere_theory.specs.Games.{HeapOption, Move, IsP, IsPosition, Indistinguishable}

-- A product on the elements 0 to order - 1, an element phi n for each heap n (the pretending
-- function), and a set of elements (the P-portion). Plambeck and Siegel.
pub record Claim : Type 0 where
  pub order : ℕ
  pub times : ℕ → ℕ → ℕ
  pub phi : ℕ → ℕ
  pub portion : ℕ → Bool

-- The elements below the order are a commutative monoid with identity 0. The usual definition.
pub record Monoid (order : ℕ) (times : ℕ → ℕ → ℕ) : Type 0 where
  pub some : 0 < order
  pub closed : (x y : ℕ) → x < order → y < order → times x y < order
  pub identity : (x : ℕ) → x < order → times 0 x ≡ x
  pub commutes : (x y : ℕ) → x < order → y < order → times x y ≡ times y x
  pub associates : (x y z : ℕ) → x < order → y < order → z < order
      → times (times x y) z ≡ times x (times y z)

-- A law of the monoid fails at elements below the order. This project's own.
pub data LawFails (order : ℕ) (times : ℕ → ℕ → ℕ) : Type 0 where
  Identity : (x : ℕ) → x < order → times 0 x ≢ x → LawFails order times
  Commutativity : (x y : ℕ) → x < order → y < order → times x y ≢ times y x → LawFails order times
  Associativity : (x y z : ℕ) → x < order → y < order → z < order
      → times (times x y) z ≢ times x (times y z) → LawFails order times

-- The value of a position: the product of its heaps' elements, and 0 for the empty one. Plambeck
-- and Siegel.
abbrev pub value : Claim → List ℕ → ℕ
value c [] = 0
value c (n ∷ X) = c.times (c.phi n) (value c X)

-- The pretending function gives each heap an element. Plambeck and Siegel.
abbrev pub GivesElements : (ℕ → Type 0) → Claim → Type 0
GivesElements heap c = (n : ℕ) → heap n → c.phi n < c.order

-- The claim is the misère quotient of the code's game: the product is a commutative monoid, each
-- heap has an element, a position is a P-position exactly where its value is in the portion, two
-- positions are indistinguishable exactly where their values are equal, and each element is the
-- value of some position. Plambeck and Siegel; Siegel, chapter V.
pub record Represents (heap : ℕ → Type 0) (code : List ℕ) (c : Claim) : Type 0 where
  pub monoid : Monoid c.order c.times
  pub elements : GivesElements heap c
  pub predicts : (X : List ℕ) → IsPosition heap X → IsP code X ↔ (c.portion (value c X) ≡ true)
  pub indistinguishable : (X Y : List ℕ) → IsPosition heap X → IsPosition heap Y
      → Indistinguishable heap code X Y ↔ (value c X ≡ value c Y)
  pub reached : (x : ℕ) → x < c.order → (X : List ℕ) × IsPosition heap X × (value c X ≡ x)

-- The same quotient up to the numbering: f sends the elements of c one for one to those of d (g
-- sends them back), and with them products, the heaps' elements and the portion. Isomorphic
-- bipartite monoids: Plambeck and Siegel.
pub record SameQuotient (heap : ℕ → Type 0) (c d : Claim) (f g : ℕ → ℕ) : Type 0 where
  pub onto : (x : ℕ) → x < c.order → f x < d.order
  pub back : (y : ℕ) → y < d.order → g y < c.order
  pub there_and_back : (x : ℕ) → x < c.order → g (f x) ≡ x
  pub back_and_there : (y : ℕ) → y < d.order → f (g y) ≡ y
  pub identity : f 0 ≡ 0
  pub products : (x y : ℕ) → x < c.order → y < c.order → f (c.times x y) ≡ d.times (f x) (f y)
  pub heaps : (n : ℕ) → heap n → f (c.phi n) ≡ d.phi n
  pub portion : (x : ℕ) → x < c.order → d.portion (f x) ≡ c.portion x

-- Each two elements are told apart by one that takes only the one of them into the portion. A
-- reduced monoid: Plambeck and Siegel.
abbrev pub AllApart : Claim → Type 0
AllApart c =
    (x y : ℕ) → x < y → y < c.order → (z : ℕ) × (z < c.order)
    × (c.portion (c.times x z) ≢ c.portion (c.times y z))

-- x is the value of an option of X. This project's own.
abbrev pub OptionValue : List ℕ → Claim → List ℕ → ℕ → Type 0
OptionValue code c X x = (Y : List ℕ) × Move code X Y × (value c Y ≡ x)

-- x is the value of an option of the heap n. This project's own.
abbrev pub HeapOptionValue : List ℕ → Claim → ℕ → ℕ → Type 0
HeapOptionValue code c n x = (H : List ℕ) × HeapOption code n H × (value c H ≡ x)

-- The local rule at X: its value is in the portion exactly where it has options and none of their
-- values is. The rule of misère outcomes, said of values. This project's own form.
abbrev pub RuleHolds : List ℕ → Claim → List ℕ → Type 0
RuleHolds code c X =
    (c.portion (value c X) ≡ true)
    ↔ (((x : ℕ) × OptionValue code c X x)
    × ((x : ℕ) → OptionValue code c X x → c.portion x ≡ false))

-- The rule fails at X: its value is in the portion, and it has no option or one whose value is
-- there too; or its value is outside, and it has options, all with values outside. This project's
-- own.
abbrev pub RuleFails : List ℕ → Claim → List ℕ → Type 0
RuleFails code c X =
    ((c.portion (value c X) ≡ true)
    × (((x : ℕ) → OptionValue code c X x → ⊥)
    ⊎ ((x : ℕ) × OptionValue code c X x × (c.portion x ≡ true))))
    ⊎ ((c.portion (value c X) ≡ false)
    × ((x : ℕ) × OptionValue code c X x)
    × ((x : ℕ) → OptionValue code c X x → c.portion x ≡ false))

-- X and Y have the same transition pair: the same value and the same values of options. This
-- project's own form.
abbrev pub SamePair : List ℕ → Claim → List ℕ → List ℕ → Type 0
SamePair code c X Y = (value c X ≡ value c Y)
    × ((x : ℕ) → OptionValue code c X x ↔ OptionValue code c Y x)

-- Positions have more than this many different transition pairs. This project's own.
abbrev pub ReachesMoreThan : (ℕ → Type 0) → List ℕ → Claim → ℕ → Type 0
ReachesMoreThan heap code c limit =
    (Xs : List (List ℕ)) × (limit < length Xs)
    × All (IsPosition heap) Xs × AllPairs (λ X Y. SamePair code c X Y → ⊥) Xs

-- z is the value of an option of one part of a sum, times the value of the other part. This
-- project's own.
abbrev pub SumOptionValue : List ℕ → Claim → List ℕ → List ℕ → ℕ → Type 0
SumOptionValue code c X Y z =
    ((x : ℕ) × OptionValue code c X x × (z ≡ c.times x (value c Y)))
    ⊎ ((y : ℕ) × OptionValue code c Y y × (z ≡ c.times (value c X) y))
