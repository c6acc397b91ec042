-- The monoid U of the games in which one heap may rule all others: triples of a parity, a weight and
-- a lead. Each heap has one, and a position the product of its heaps' triples. This project's own:
-- the misère quotient of the octal game 0.26.
use Rattle.std.specs.Prelude.{◌≡◌, ℕ, ◌+◌, ◌-◌, ◌%◌, ◌<◌, ◌==◌, max, ◌⊎◌, Bool, true, false, not, ◌&&◌, if◌then◌else◌, List, ◌∷◌, ◌++◌}
use Rattle.misere_theory.specs.Labels.{LabelClaim, label_of}

-- A heap rules a position if the others together weigh less than its lead; a heap with the lead 0
-- never does. The lead of a position is what is left of it beside the others, and 0 if none rules.
pub record Triple : Type 0 where
  pub odd : Bool
  pub weight : ℕ
  pub lead : ℕ

-- Whether exactly one of the two is true.
abbrev pub xor : Bool → Bool → Bool
xor true b = not b
xor false b = b

-- The triple of the empty position.
abbrev pub nothing : Triple
nothing = record { odd = false; weight = 0; lead = 0 }

-- The product. Parities and weights are added; each lead is less by the weight beside it, and the
-- greater one stays.
abbrev pub times : Triple → Triple → Triple
times u v =
    record {
      odd = xor u.odd v.odd;
      weight = u.weight + v.weight;
      lead = max (u.lead - v.weight) (v.lead - u.weight);
    }

-- The weight is even, if no heap rules, and odd, if one does.
abbrev pub parity_fits : ℕ → ℕ → Bool
parity_fits weight lead = if lead == 0 then weight % 2 == 0 else weight % 2 == 1

-- The P-portion: without weight the odd triple; else those with an even parity whose weight is even, if no
-- heap rules, and odd, if one does.
abbrev pub is_p : Triple → Bool
is_p u = if u.weight == 0 then u.odd else not u.odd && parity_fits u.weight u.lead

-- The elements of U: a lead is below the weight, and it is odd where the weight is even, and even where
-- the weight is odd.
abbrev pub IsElement : Triple → Type 0
IsElement u = (u.lead ≡ 0) ⊎ ((u.lead < u.weight) × ((u.lead + u.weight) % 2 ≡ 1))

-- The claim that gives each heap a triple: a position is P if the product of its heaps' is in the portion.
abbrev pub claim_by : (ℕ → Triple) → LabelClaim Triple
claim_by label = record { one = nothing; times = times; label = label; portion = is_p }

-- The product of the heaps' triples.
abbrev pub triple_of : (ℕ → Triple) → List ℕ → Triple
triple_of label X = label_of (claim_by label) X

-- A heap rules the others: they weigh less than its lead.
abbrev pub IsRuled : (ℕ → Triple) → List ℕ → Type 0
IsRuled label X =
    (A : List ℕ) × (n : ℕ) × (B : List ℕ) × (X ≡ A ++ n ∷ B)
    × ((triple_of label (A ++ B)).weight < (label n).lead)
