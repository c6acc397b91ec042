-- Laws of vectors: sums, one exponent at a time, and vectors entered letter by letter.
-- By induction on the exponents.
use Rattle.std.proofs.Common.{◌≡◌, ◌≢◌, ℕ, zero, suc, ◌+◌, ◌<◌, ◌≤◌, List, [], ◌∷◌, length, get_or, refl, sym, ap, ap₂, ◌∙◌, add-one, arith}
use Rattle.presentations.specs.Vectors.{plus, zeros, only, bump}

pub cons-same : {x y : ℕ} {u v : List ℕ} → x ≡ y → u ≡ v → ◌≡◌ {A = List ℕ} (x ∷ u) (y ∷ v)
cons-same e f = ap₂ (λ a b. a ∷ b) e f

pub length-zeros : (n : ℕ) → length (zeros n) ≡ n
length-zeros zero = refl
length-zeros (suc n) = ap suc (length-zeros n)

pub length-only : (n i k : ℕ) → length (only n i k) ≡ n
length-only zero i k = refl
length-only (suc n) zero k = ap suc (length-zeros n)
length-only (suc n) (suc i) k = ap suc (length-only n i k)

pub only-here : (n i k : ℕ) → i < n → get_or (only n i k) i 0 ≡ k
only-here zero i k lt = absurd (omega arith)
only-here (suc n) zero k lt = refl
only-here (suc n) (suc i) k lt = only-here n i k (omega arith)

pub zeros-at : (n k : ℕ) → get_or (zeros n) k 0 ≡ 0
zeros-at zero k = refl
zeros-at (suc n) zero = refl
zeros-at (suc n) (suc k) = zeros-at n k

pub only-other : (n i k x : ℕ) → k ≢ i → get_or (only n i x) k 0 ≡ 0
only-other zero i k x ne = refl
only-other (suc n) zero zero x ne = absurd (ne refl)
only-other (suc n) zero (suc k) x ne = zeros-at n k
only-other (suc n) (suc i) zero x ne = refl
only-other (suc n) (suc i) (suc k) x ne = only-other n i k x (λ e. ne (ap suc e))

pub length-bump : (v : List ℕ) (i : ℕ) → length (bump v i) ≡ length v
length-bump [] i = refl
length-bump (x ∷ v) zero = refl
length-bump (x ∷ v) (suc i) = ap suc (length-bump v i)

pub length-plus : (u w : List ℕ) → length u ≡ length w → length (plus u w) ≡ length w
length-plus [] w e = refl
length-plus (x ∷ u) [] e = absurd (omega arith)
length-plus (x ∷ u) (y ∷ w) e = ap suc (length-plus u w (omega arith))

pub plus-zeros : (u : List ℕ) (n : ℕ) → length u ≡ n → plus u (zeros n) ≡ u
plus-zeros [] zero e = refl
plus-zeros [] (suc n) e = absurd (omega arith)
plus-zeros (x ∷ u) zero e = absurd (omega arith)
plus-zeros (x ∷ u) (suc n) e = cons-same (omega arith) (plus-zeros u n (omega arith))

pub plus-comm : (u w : List ℕ) → plus u w ≡ plus w u
plus-comm [] [] = refl
plus-comm [] (y ∷ w) = refl
plus-comm (x ∷ u) [] = refl
plus-comm (x ∷ u) (y ∷ w) = cons-same (omega arith) (plus-comm u w)

pub zeros-plus : (u : List ℕ) (n : ℕ) → length u ≡ n → plus (zeros n) u ≡ u
zeros-plus u n e = plus-comm (zeros n) u ∙ plus-zeros u n e

pub plus-assoc : (u v w : List ℕ) → plus (plus u v) w ≡ plus u (plus v w)
plus-assoc [] v w = refl
plus-assoc (x ∷ u) [] w = refl
plus-assoc (x ∷ u) (y ∷ v) [] = refl
plus-assoc (x ∷ u) (y ∷ v) (z ∷ w) = cons-same (omega arith) (plus-assoc u v w)

-- one letter more is a sum
pub bump-plus : (v : List ℕ) (n i : ℕ) → length v ≡ n → i < n → plus v (only n i 1) ≡ bump v i
bump-plus v zero i e lt = absurd (omega arith)
bump-plus [] (suc n) i e lt = absurd (omega arith)
bump-plus (x ∷ v) (suc n) zero e lt = cons-same refl (plus-zeros v n (omega arith))
bump-plus (x ∷ v) (suc n) (suc i) e lt =
    cons-same (omega arith) (bump-plus v n i (omega arith) (omega arith))

pub plus-bump : (u v : List ℕ) (i : ℕ) → length u ≡ length v → i < length v
    → plus u (bump v i) ≡ bump (plus u v) i
plus-bump u [] i e lt = absurd (omega arith)
plus-bump [] (y ∷ v) i e lt = absurd (omega arith)
plus-bump (x ∷ u) (y ∷ v) zero e lt = cons-same (omega arith) refl
plus-bump (x ∷ u) (y ∷ v) (suc i) e lt =
    cons-same refl (plus-bump u v i (omega arith) (omega arith))

-- each vector comes from the empty word's by one letter more at a time
pub by_letters : (n : ℕ) (P : List ℕ → Type 0) → P (zeros n)
    → ((v : List ℕ) (i : ℕ) → length v ≡ n → i < n → P v → P (bump v i))
    → (v : List ℕ) → length v ≡ n → P v
by_letters zero P none more [] e = none
by_letters zero P none more (x ∷ v) e = absurd (omega arith)
by_letters (suc n) P none more [] e = absurd (omega arith)
by_letters (suc n) P none more (x ∷ v) e =
    by_letters n (λ w. P (x ∷ w)) (heads x)
    (λ w i len lt p. more (x ∷ w) (suc i) (ap suc len) (omega arith) p) v (omega arith)
  where
    heads : (x : ℕ) → P (x ∷ zeros n)
    heads zero = none
    heads (suc x) =
        rw add-one at (more (x ∷ zeros n) 0 (ap suc (length-zeros n)) (omega arith) (heads x))

-- the entries before i, then k, then zeros
abbrev pub partial : List ℕ → ℕ → ℕ → List ℕ
partial [] i k = []
partial (x ∷ v) zero k = k ∷ zeros (length v)
partial (x ∷ v) (suc i) k = x ∷ partial v i k

pub length-partial : (v : List ℕ) (i k : ℕ) → length (partial v i k) ≡ length v
length-partial [] i k = refl
length-partial (x ∷ v) zero k = ap suc (length-zeros (length v))
length-partial (x ∷ v) (suc i) k = ap suc (length-partial v i k)

pub partial-none : (v : List ℕ) → partial v 0 0 ≡ zeros (length v)
partial-none [] = refl
partial-none (x ∷ v) = refl

pub partial-more : (v : List ℕ) (i k : ℕ) → i < length v
    → bump (partial v i k) i ≡ partial v i (k + 1)
partial-more [] i k lt = absurd (omega arith)
partial-more (x ∷ v) zero k lt = refl
partial-more (x ∷ v) (suc i) k lt = cons-same refl (partial-more v i k (omega arith))

pub partial-next : (v : List ℕ) (i k : ℕ) → i < length v → k ≡ get_or v i 0
    → partial v i k ≡ partial v (i + 1) 0
partial-next [] i k lt e = absurd (omega arith)
partial-next (x ∷ v) zero k lt e = cons-same e (sym (partial-none v))
partial-next (x ∷ v) (suc i) k lt e =
    let one : suc i + 1 ≡ suc (i + 1) = omega arith in
    rw one (cons-same refl (partial-next v i k (omega arith) e))

pub partial-all : (v : List ℕ) (i : ℕ) → length v ≤ i → partial v i 0 ≡ v
partial-all [] i le = refl
partial-all (x ∷ v) zero le = absurd (omega arith)
partial-all (x ∷ v) (suc i) le = cons-same refl (partial-all v i (omega arith))
