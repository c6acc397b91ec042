-- The laws of the product of triples, and what the P-portion says.
use Rattle.std.proofs.Common.{◌≡◌, ℕ, ◌%◌, ◌<◌, ◌⊎◌, Bool, true, false, refl, inl, inr, arith}
use Rattle.std.proofs.lemmas.Bool.Decides.{nat_tests}
use native.Mathlib.Decide.{dec_lt}
use Rattle.dominance.specs.Triples.{xor, Triple, nothing, times, is_p, parity_fits, IsElement}

pub xor_comm : (a b : Bool) → xor a b ≡ xor b a
xor_comm true true = refl
xor_comm true false = refl
xor_comm false true = refl
xor_comm false false = refl

pub xor_assoc : (a b c : Bool) → xor (xor a b) c ≡ xor a (xor b c)
xor_assoc true true true = refl
xor_assoc true true false = refl
xor_assoc true false true = refl
xor_assoc true false false = refl
xor_assoc false true true = refl
xor_assoc false true false = refl
xor_assoc false false true = refl
xor_assoc false false false = refl

pub xor_none : (a : Bool) → xor false a ≡ a
xor_none true = refl
xor_none false = refl

-- two triples with the same parts
pub same_triple : (u v : Triple) → u.odd ≡ v.odd → u.weight ≡ v.weight → u.lead ≡ v.lead → u ≡ v
same_triple u v e f g = λ i. record { odd = e i; weight = f i; lead = g i }

pub identity : (u : Triple) → times nothing u ≡ u
identity u = same_triple (times nothing u) u (xor_none u.odd) (omega arith) (omega arith)

pub commutes : (u v : Triple) → times u v ≡ times v u
commutes u v = same_triple (times u v) (times v u) (xor_comm u.odd v.odd) (omega arith) (omega arith)

pub associates : (u v w : Triple) → times (times u v) w ≡ times u (times v w)
associates u v w =
    same_triple (times (times u v) w) (times u (times v w)) (xor_assoc u.odd v.odd w.odd)
    (omega arith) (omega arith)

-- a lead is odd where the weight is even, and even where it is odd
pub element_times : (u v : Triple) → IsElement u → IsElement v → IsElement (times u v)
element_times u v (inl p) (inl q) = inl (omega arith)
element_times u v (inl p) (inr q) = elim (dec_lt u.weight v.lead)
    [ yes l ↦ inr (omega arith, omega arith) | no l ↦ inl (omega arith) ]
element_times u v (inr p) (inl q) = elim (dec_lt v.weight u.lead)
    [ yes l ↦ inr (omega arith, omega arith) | no l ↦ inl (omega arith) ]
element_times u v (inr p) (inr q) = elim (dec_lt v.weight u.lead) [
  | yes l ↦ inr (omega arith, omega arith)
  | no l ↦ elim (dec_lt u.weight v.lead)
      [ yes m ↦ inr (omega arith, omega arith) | no m ↦ inl (omega arith) ]
]

-- what the P-portion says
abbrev pub Fits : ℕ → ℕ → Type 0
Fits weight lead = ((lead ≡ 0) × (weight % 2 ≡ 0)) ⊎ ((0 < lead) × (weight % 2 ≡ 1))

abbrev pub IsSaid : Triple → Type 0
IsSaid u = ((u.weight ≡ 0) × (u.odd ≡ true))
    ⊎ ((0 < u.weight) × (u.odd ≡ false) × Fits u.weight u.lead)

pub said : (u : Triple) → is_p u ≡ true → IsSaid u
said u e = grind (arith, nat_tests)

pub fits : (w l : ℕ) → Fits w l → parity_fits w l ≡ true
fits w l f = grind (arith, nat_tests)

pub says : (u : Triple) → IsSaid u → is_p u ≡ true
says u s = grind (arith, nat_tests)
