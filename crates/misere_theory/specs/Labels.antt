-- Claims over labels: each heap has a label, a position the product of its heaps' labels, and of some
-- labels it is claimed that their positions are P. Elements of a finite quotient are labels, and so are
-- elements beside counts. Pretending functions and P-portions of Plambeck and Siegel, over any monoid.
use Rattle.std.specs.Prelude.{◌≡◌, ℕ, ◌⊎◌, ◌↔◌, Bool, true, false, List, [], ◌∷◌}
use Rattle.misere_theory.specs.Games.{Move, IsP, IsPosition, Indistinguishable}
use Rattle.misere_theory.specs.Quotients.{Claim}

-- A product of labels, the label of the empty position, one for each heap, and a set of labels.
pub record LabelClaim (L : Type 0) : Type 0 where
  pub one : L
  pub times : L → L → L
  pub label : ℕ → L
  pub portion : L → Bool

-- The label of a position: the product of its heaps' labels.
abbrev pub label_of : {L : Type 0} → LabelClaim L → List ℕ → L
label_of c [] = c.one
label_of c (n ∷ X) = c.times (c.label n) (label_of c X)

-- Whether the claim says that a position is P.
abbrev pub says_by : {L : Type 0} → LabelClaim L → List ℕ → Bool
says_by c X = c.portion (label_of c X)

-- The labels are a commutative monoid. The usual definition.
pub record AreLabels {L : Type 0} (IsLabel : L → Type 0) (one : L) (times : L → L → L) : Type 0 where
  pub some : IsLabel one
  pub closed : (x y : L) → IsLabel x → IsLabel y → IsLabel (times x y)
  pub identity : (x : L) → IsLabel x → times one x ≡ x
  pub commutes : (x y : L) → IsLabel x → IsLabel y → times x y ≡ times y x
  pub associates : (x y z : L) → IsLabel x → IsLabel y → IsLabel z
      → times (times x y) z ≡ times x (times y z)

-- P is said of these heaps' positions that are P, and of no others of them.
abbrev pub PredictsOutcomes : (ℕ → Type 0) → List ℕ → (List ℕ → Bool) → Type 0
PredictsOutcomes heap code says =
    (X : List ℕ) → IsPosition heap X → IsP code X ↔ (says X ≡ true)

-- The rule of misère outcomes at X: P is said of it exactly where it has options, and of none of them.
abbrev pub ObeysRule : List ℕ → (List ℕ → Bool) → List ℕ → Type 0
ObeysRule code says X =
    (says X ≡ true)
    ↔ (((Y : List ℕ) × Move code X Y) × ((Y : List ℕ) → Move code X Y → says Y ≡ false))

-- The rule is broken at X: P is said of it, and it has no option or one of which P is said; or P isn't
-- said of it, and it has options, of none of which P is said.
abbrev pub BreaksRule : List ℕ → (List ℕ → Bool) → List ℕ → Type 0
BreaksRule code says X =
    ((says X ≡ true)
    × (((Y : List ℕ) → Move code X Y → ⊥) ⊎ ((Y : List ℕ) × Move code X Y × (says Y ≡ true))))
    ⊎ ((says X ≡ false)
    × ((Y : List ℕ) × Move code X Y)
    × ((Y : List ℕ) → Move code X Y → says Y ≡ false))

-- The labels are the misère quotient of these heaps' game: a commutative monoid, by which outcomes are
-- predicted, in which two positions are indistinguishable exactly where their labels are equal, and each
-- label of which is a position's.
pub record RepresentsBy {L : Type 0} (IsLabel : L → Type 0) (heap : ℕ → Type 0) (code : List ℕ)
    (c : LabelClaim L) : Type 0 where
  pub monoid : AreLabels IsLabel c.one c.times
  pub labels : (n : ℕ) → heap n → IsLabel (c.label n)
  pub predicts : PredictsOutcomes heap code (says_by c)
  pub indistinguishable : (X Y : List ℕ) → IsPosition heap X → IsPosition heap Y
      → Indistinguishable heap code X Y ↔ (label_of c X ≡ label_of c Y)
  pub reached : (x : L) → IsLabel x → (X : List ℕ) × IsPosition heap X × (label_of c X ≡ x)

-- The labels of a finite quotient are its elements.
abbrev pub over_elements : Claim → LabelClaim ℕ
over_elements c = record { one = 0; times = c.times; label = c.phi; portion = c.portion }
