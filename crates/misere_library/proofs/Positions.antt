-- Heaps of which a certificate speaks, and what the value of a position says of its outcome.
use Rattle.std.proofs.Common.{◌≡◌, ℕ, zero, suc, ◌<◌, ◌≤◌, inl, inr, Bool, true, false, List, [], ◌∷◌, refl, sym, ◌∙◌, ap, arith}
use Rattle.std.specs.List.{All}
use Rattle.misere_theory.specs.Certificates.{Certificate, Accepted, IsHeapOf, claim_of}
use Rattle.misere_theory.specs.Games.{IsP, IsN, IsPosition}
use Rattle.misere_theory.specs.Kinds.{IsHeapIn, kind_by}
use Rattle.misere_theory.specs.Quotients.{value}
use Rattle.misere_theory.proofs.Counting.{kind_full}
use Rattle.misere_theory.proofs.Outcomes.{determined}
use Rattle.positions.specs.Positions.{IsSize}

-- each heap, and heap by heap
pub speaks_here : (heap : ℕ → Type 0) (X : List ℕ) → All heap X → IsPosition heap X
speaks_here heap [] all = tt
speaks_here heap (n ∷ X) all =
    (all 0 0 (omega arith), speaks_here heap X (λ k d l. all (suc k) d (omega arith)))

pub speaks_there : (heap : ℕ → Type 0) (X : List ℕ) → IsPosition heap X → All heap X
speaks_there heap [] p k d l = absurd (omega arith)
speaks_there heap (n ∷ X) p zero d l = p.0
speaks_there heap (n ∷ X) p (suc k) d l = speaks_there heap X p.1 k d (omega arith)

-- a certificate that has a last heap is partial
pub is_partial : (start period : ℕ) → 0 < kind_by start period → period ≡ 0
is_partial start zero some = refl
is_partial start (suc period) some =
    absurd (let full = kind_full start (suc period) (omega arith) in omega (arith, full, some))

pub small_speaks : (M : ℕ) (X : List ℕ) → All IsSize X → All (λ n. n ≤ M) X → All (IsHeapIn M) X
small_speaks M X sizes small k d l = ((sizes k d l).0, λ some. small k d l)

pub speaks_small : (M : ℕ) (X : List ℕ) → 0 < M → All (IsHeapIn M) X → All (λ n. n ≤ M) X
speaks_small M X some all k d l = (all k d l).1 some

-- in the portion exactly at P-positions
pub p_here : (c : Certificate) → Accepted c → (X : List ℕ) → IsPosition (IsHeapOf c) X
    → (v : ℕ) (b : Bool) → v ≡ value (claim_of c) X → b ≡ (claim_of c).portion v → b ≡ true
    → IsP c.code X
p_here c yes_to X position v b e f here =
    (yes_to.represents.predicts X position).1 (ap (claim_of c).portion (sym e) ∙ sym f ∙ here)

not_p_here : (c : Certificate) → Accepted c → (X : List ℕ) → IsPosition (IsHeapOf c) X
    → (v : ℕ) (b : Bool) → v ≡ value (claim_of c) X → b ≡ (claim_of c).portion v → b ≡ false
    → IsP c.code X → ⊥
not_p_here c yes_to X position v b e f out p =
    clash b (f ∙ ap (claim_of c).portion e ∙ (yes_to.represents.predicts X position).0 p) out
  where
    clash : (b : Bool) → b ≡ true → b ≡ false → ⊥
    clash true p q = cc
    clash false p q = cc

pub n_here : (c : Certificate) → Accepted c → (X : List ℕ) → IsPosition (IsHeapOf c) X
    → (v : ℕ) (b : Bool) → v ≡ value (claim_of c) X → b ≡ (claim_of c).portion v → b ≡ false
    → IsN c.code X
n_here c yes_to X position v b e f out =
    elim (determined c.code X)
    [ inl p ↦ absurd (not_p_here c yes_to X position v b e f out p) | inr n ↦ n ]
