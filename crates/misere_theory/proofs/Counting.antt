-- Whole games and their parts have the same facts: which heaps count, and which show all pairs.
-- By the two cases: no last heap, or one.
use Rattle.std.proofs.Common.{◌≡◌, ℕ, ◌-◌, ◌<◌, ◌≤◌, List, [], ◌∷◌, get_or, refl, inl, inr, arith, eq-zero-or-pos, eq-eqb, ne_eqb}
use Rattle.misere_theory.specs.Games.{IsHeap, IsHeapUpTo, IsPosition}
use Rattle.misere_theory.specs.Quotients.{Claim, Represents, ReachesMoreThan}
use Rattle.misere_theory.specs.Pairs.{heap_bound, SameHeapPair}
use Rattle.misere_theory.specs.Kinds.{IsHeapIn, kind_by, IsPeriodicIn, bound_in}
use Rattle.misere_theory.specs.Parts.{IsPart}
use Rattle.misere_theory.proofs.Sums.{heaps_up_to_kept}
use Rattle.misere_theory.proofs.Bound.{heap_shown}

-- a position of heaps that count is one where more count
pub position_where : (heap other : ℕ → Type 0) → ((n : ℕ) → heap n → other n) → (X : List ℕ)
    → IsPosition heap X → IsPosition other X
position_where heap other f [] p = tt
position_where heap other f (n ∷ X) p = (f n p.0, position_where heap other f X p.1)

-- and so positions have no fewer pairs
pub reaches_where : (heap other : ℕ → Type 0) → ((n : ℕ) → heap n → other n) → (code : List ℕ)
    (c : Claim) (limit : ℕ) → ReachesMoreThan heap code c limit → ReachesMoreThan other code c limit
reaches_where heap other f code c limit (Xs, more, all, apart) =
    (Xs, more, λ k d l. position_where heap other f (get_or Xs k d) (all k d l), apart)

-- the quotient speaks of the heaps that count, however that is said
pub represents_where : (heap other : ℕ → Type 0) → ((n : ℕ) → heap n → other n)
    → ((n : ℕ) → other n → heap n) → (code : List ℕ) (c : Claim) → Represents heap code c
    → Represents other code c
represents_where heap other f g code c r = record {
  monoid = r.monoid;
  elements = λ n h. r.elements n (g n h);
  predicts = λ X p. r.predicts X (position_where other heap g X p);
  indistinguishable = λ X Y p q.
      let w = r.indistinguishable X Y (position_where other heap g X p)
      (position_where other heap g Y q) in (
        λ a. w.0 (λ Z z. a Z (position_where heap other f Z z)),
        λ e Z z. w.1 e Z (position_where other heap g Z z),
      );
  reached = λ x l. let (X, p, e) = r.reached x l in (X, position_where heap other f X p, e);
}

-- the whole game has all heaps
pub whole_to : (n : ℕ) → IsHeapIn 0 n → IsHeap n
whole_to n h = h.0

pub whole_from : (n : ℕ) → IsHeap n → IsHeapIn 0 n
whole_from n h = (h, λ l. absurd (omega arith))

pub part_to : (M : ℕ) → 0 < M → (n : ℕ) → IsHeapIn M n → IsHeapUpTo M n
part_to M some n h = (h.0, h.1 some)

pub part_from : (M n : ℕ) → IsHeapUpTo M n → IsHeapIn M n
part_from M n h = (h.0, λ _. h.1)

-- what is left of a heap is no larger
pub kept_in : (M : ℕ) (code : List ℕ) → IsPart (IsHeapIn M) code
kept_in M code n H h o =
    position_where (IsHeapUpTo n) (IsHeapIn M)
    (λ a p. (p.0, λ l. let i = h.1 l in let k = p.1 in omega arith)) H
    (heaps_up_to_kept n code n H (h.0, omega arith) o)

pub bound_whole : (M : ℕ) (code : List ℕ) (k start period : ℕ) → M ≡ 0
    → bound_in M code k start period ≡ heap_bound code k start period
bound_whole M code k start period e = rw (eq-eqb M 0 e) refl

pub bound_part : (M : ℕ) (code : List ℕ) (k start period : ℕ) → 0 < M
    → bound_in M code k start period ≡ M
bound_part M code k start period l = rw (ne_eqb M 0 (λ e. omega arith)) refl

-- the heaps up to the bound count
pub bound_counts : (M : ℕ) (code : List ℕ) (k start period n : ℕ)
    → IsHeapUpTo (bound_in M code k start period) n → IsHeapIn M n
bound_counts M code k start period n h =
    (h.0, λ l. let e = bound_part M code k start period l in let b = h.1 in omega arith)

-- each heap that counts has the pair of one up to the bound
pub shown_in : (M : ℕ) (code : List ℕ) (c : Claim) (k start period : ℕ)
    → IsPeriodicIn M code c k start period → (n : ℕ) → IsHeapIn M n
    → (m : ℕ) × IsHeapUpTo (bound_in M code k start period) m × SameHeapPair code c n m
shown_in M code c k start period ok n h = elim (eq-zero-or-pos M) [
  | inl z ↦
      let (m, u, same) = heap_shown code c k start period (ok z) n h.0 in
      let e = bound_whole M code k start period z in
      (m, (u.0, (let b = u.1 in omega arith)), same)
  | inr some ↦
      let e = bound_part M code k start period some in
      let b = h.1 some in
      (n, (h.0, omega arith), (refl, λ x. (λ o. o, λ o. o)))
]

pub kind_full : (start period : ℕ) → 1 ≤ period → kind_by start period ≡ 0
kind_full start period l = rw (ne_eqb period 0 (λ e. omega arith)) refl

pub kind_partial : (start period : ℕ) → period ≡ 0 → kind_by start period ≡ start - 1
kind_partial start period e = rw (eq-eqb period 0 e) refl
