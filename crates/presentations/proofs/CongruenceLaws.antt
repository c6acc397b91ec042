-- Laws of the least congruence.
-- What one letter more decides from a value alone is the same for related vectors.
use Rattle.std.proofs.Common.{◌≡◌, ℕ, ◌<◌, List, length, refl, sym, ap, ◌∙◌, arith}
use Rattle.std.specs.Prelude.{Contains}
use Rattle.presentations.specs.Vectors.{plus, zeros, only, bump}
use Rattle.presentations.specs.Congruences.{Related}
use Rattle.presentations.specs.Congruences.Related.{Given, Same, Turned, Chained, Beside}
use Rattle.presentations.proofs.VectorLaws.{length-only, length-plus, bump-plus, plus-bump, plus-zeros, by_letters}

-- adding one letter
pub bumped-related : {n : ℕ} {pairs : List (List ℕ × List ℕ)} {u v : List ℕ} (i : ℕ)
    → length u ≡ n → length v ≡ n → i < n → Related n pairs u v
    → Related n pairs (bump u i) (bump v i)
bumped-related {n} {u = u} {v = v} i eu ev lt r =
    rw (bump-plus u n i eu lt, bump-plus v n i ev lt) at
    (Beside u v (only n i 1) (length-only n i 1) r)

-- vectors of n exponents with one value
pub record Alike (n : ℕ) (value : List ℕ → ℕ) (u v : List ℕ) : Type 0 where
  pub left : length u ≡ n
  pub right : length v ≡ n
  pub same : value u ≡ value v

module _ (n : ℕ) (value : List ℕ → ℕ) (next : ℕ → ℕ → ℕ)
    (bumped : (v : List ℕ) (i : ℕ) → length v ≡ n → i < n → value (bump v i) ≡ next (value v) i)
  where
    value-plus : (u v w : List ℕ) → Alike n value u v → length w ≡ n
        → value (plus u w) ≡ value (plus v w)
    value-plus u v w a ew =
        by_letters n (λ w. value (plus u w) ≡ value (plus v w))
        (rw (plus-zeros u n a.left, plus-zeros v n a.right) a.same)
        (λ w i e lt r. side u w i a.left e lt ∙ ap (λ x. next x i) r ∙ sym (side v w i a.right e lt))
        w ew
      where
        side : (u w : List ℕ) (i : ℕ) → length u ≡ n → length w ≡ n → i < n
            → value (plus u (bump w i)) ≡ next (value (plus u w)) i
        side u w i eu ew lt =
            ap value (plus-bump u w i (eu ∙ sym ew) (omega arith))
            ∙ bumped (plus u w) i (length-plus u w (eu ∙ sym ew) ∙ ew) lt

    -- adding a vector depends on the value alone
    pub alike-plus : (u v w : List ℕ) → Alike n value u v → length w ≡ n
        → Alike n value (plus u w) (plus v w)
    alike-plus u v w a len = record {
      left = length-plus u w (a.left ∙ sym len) ∙ len;
      right = length-plus v w (a.right ∙ sym len) ∙ len;
      same = value-plus u v w a len;
    }

    pub related-alike : (pairs : List (List ℕ × List ℕ))
        → ((r : List ℕ × List ℕ) → Contains pairs r → Alike n value r.0 r.1)
        → (u v : List ℕ) → Related n pairs u v → Alike n value u v
    related-alike pairs given u v (Given r at) = given r at
    related-alike pairs given u v (Same w len) = record { left = len; right = len; same = refl }
    related-alike pairs given u v (Turned w x r) = let a = related-alike pairs given w x r in
        record { left = a.right; right = a.left; same = sym a.same }
    related-alike pairs given u v (Chained w x y r s) =
        let a = related-alike pairs given w x r in
        let b = related-alike pairs given x y s in
        record { left = a.left; right = b.right; same = a.same ∙ b.same }
    related-alike pairs given u v (Beside x y w len r) =
        alike-plus x y w (related-alike pairs given x y r) len
