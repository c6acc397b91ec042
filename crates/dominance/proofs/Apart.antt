-- Of two triples that are apart no third one takes both into the P-portion.
use Rattle.std.proofs.Common.{◌≡◌, ℕ, ◌+◌, ◌-◌, ◌%◌, ◌<◌, ◌≤◌, ◌⊎◌, max, Bool, true, false, refl, sym, ◌∙◌, ap, inl, inr, arith}
use Rattle.std.proofs.lemmas.Bool.{true≢false}
use Rattle.dominance.specs.Triples.{Triple, xor, times, IsElement}
use Rattle.dominance.specs.Tested.{IsApartFromOdd, AreApart}
use Rattle.dominance.proofs.Triples.{IsSaid, Fits, fits}

xor_injective : (a b c : Bool) → xor a c ≡ xor b c → a ≡ b
xor_injective true true c e = refl
xor_injective true false true e = absurd (true≢false (sym e))
xor_injective true false false e = absurd (true≢false e)
xor_injective false true true e = absurd (true≢false e)
xor_injective false true false e = absurd (true≢false (sym e))
xor_injective false false c e = refl

-- where the first has no weight beside y, and the second has
odd_apart : (u v y : Triple) → IsApartFromOdd u v → IsElement y
    → (u.weight + y.weight ≡ 0) → 0 < v.weight + y.weight
    → Fits (v.weight + y.weight) (max (v.lead - y.weight) (y.lead - v.weight)) → ⊥
odd_apart u v y apart q e l f =
    let none : y.lead ≡ 0 = elim q [ inl z ↦ z | inr z ↦ omega arith ] in
    let g = apart (omega arith) (omega arith) in
    true≢false (sym (fits v.weight v.lead (elim f
    [ inl h ↦ inl (omega arith, omega arith) | inr h ↦ inr (omega arith, omega arith) ])) ∙ g)

-- where the weights differ by 1, and both are there
fitting_apart : (s r s' r' t l : ℕ) → ((s ≡ s' + 1) ⊎ (s' ≡ s + 1)) → r ≤ r' + 1 → r' ≤ r + 1
    → ((r ≡ 0) ⊎ ((r < s) × ((r + s) % 2 ≡ 1)))
    → ((r' ≡ 0) ⊎ ((r' < s') × ((r' + s') % 2 ≡ 1)))
    → ((l ≡ 0) ⊎ ((l < t) × ((l + t) % 2 ≡ 1)))
    → Fits (s + t) (max (r - t) (l - s)) → Fits (s' + t) (max (r' - t) (l - s')) → ⊥
fitting_apart s r s' r' t l d m n p q o f g = omega arith

pub never_both_said : (u v y : Triple) → AreApart u v → IsElement u → IsElement v → IsElement y
    → IsSaid (times u y) → IsSaid (times v y) → ⊥
never_both_said u v y (inl (odd, first, second)) p q o (inl a) (inl b) =
    odd (xor_injective u.odd v.odd y.odd (a.1 ∙ sym b.1))
never_both_said u v y (inl (odd, first, second)) p q o (inl a) (inr b) =
    odd_apart u v y first o a.0 b.0 b.2
never_both_said u v y (inl (odd, first, second)) p q o (inr a) (inl b) =
    odd_apart v u y second o b.0 a.0 a.2
never_both_said u v y (inl (odd, first, second)) p q o (inr a) (inr b) =
    odd (xor_injective u.odd v.odd y.odd (a.1 ∙ sym b.1))
never_both_said u v y (inr (odd, weight, low, high)) p q o (inl a) (inl b) =
    let d = a.0 in let e = b.0 in omega arith
never_both_said u v y (inr (odd, weight, low, high)) p q o (inl a) (inr b) =
    true≢false (sym a.1 ∙ ap (λ z. xor z y.odd) odd ∙ b.1)
never_both_said u v y (inr (odd, weight, low, high)) p q o (inr a) (inl b) =
    true≢false (sym b.1 ∙ ap (λ z. xor z y.odd) (sym odd) ∙ a.1)
never_both_said u v y (inr (odd, weight, low, high)) p q o (inr a) (inr b) =
    fitting_apart u.weight u.lead v.weight v.lead y.weight y.lead weight low high p q o a.2 b.2
