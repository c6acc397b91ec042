-- Sets of relations that can't reduce a word: with one more, and those of either of two.
use Rattle.std.proofs.Common.{◌≡◌, ◌<◌, ◌+◌, ◌*◌, ◌/◌, ◌%◌, ◌⊎◌, inl, inr, ℕ, Bool, true, false, ◌||◌, List, refl, sym, subst, ◌∙◌, arith, eqb-true, eq-eqb}
use Rattle.std.specs.Prelude.{IsTrue, slice_index}
use Rattle.std.specs.Ordering.{nat_cmp}
use Rattle.std.specs.Cmp.{nat_cmp_total, unsigned_tied}
use Rattle.std.specs.FinSet as set
use Rattle.std.specs.FinSet.{contains-insert, contains-union, contains-empty}
use Rattle.presentations.specs.declared.TheConstants.{LETTERS}
use Rattle.normal_forms.specs.declared.table.TheConstants.{EACH, DEPTH}
use Rattle.normal_forms.specs.RuleTables.{IsRow, AreUseless}

or-true : (a b : Bool) → (a || b) ≡ true → (a ≡ true) ⊎ (b ≡ true)
or-true true b e = inl refl
or-true false b e = inr e

true-or : (a b : Bool) → (a ≡ true) ⊎ (b ≡ true) → (a || b) ≡ true
true-or true b e = refl
true-or false true e = refl
true-or false false e = absurd (elim e [ inl f ↦ (cc) | inr f ↦ (cc) ])

pub in-insert : (s : set.FinSet nat_cmp) (k q : ℕ) → IsTrue (set.contains (set.insert s k) q)
    → (q ≡ k) ⊎ IsTrue (set.contains s q)
in-insert s k q h = elim (or-true _ _ (sym (contains-insert nat_cmp_total s k q) ∙ h)) [
  | inl e ↦ inl (eqb-true q k (sym (unsigned_tied q k) ∙ e))
  | inr e ↦ inr e
]

pub insert-in : (s : set.FinSet nat_cmp) (k q : ℕ) → (q ≡ k) ⊎ IsTrue (set.contains s q)
    → IsTrue (set.contains (set.insert s k) q)
insert-in s k q h = contains-insert nat_cmp_total s k q ∙ true-or _ _ (elim h [
  | inl e ↦ inl (unsigned_tied q k ∙ eq-eqb q k e)
  | inr e ↦ inr e
])

pub in-union : (s t : set.FinSet nat_cmp) (q : ℕ) → IsTrue (set.contains (set.union s t) q)
    → IsTrue (set.contains s q) ⊎ IsTrue (set.contains t q)
in-union s t q h = or-true _ _ (sym (contains-union nat_cmp_total s t q) ∙ h)

pub in-none : (q : ℕ) → IsTrue (set.contains {R = nat_cmp} set.empty q) → ⊥
in-none q h = let e = contains-empty nat_cmp q in cc

-- A set of relations with too much of one letter is one of useless ones.
pub row-useless : (relations : List (List ℕ × List ℕ)) (start i : ℕ) (word : List ℕ) (row : set.FinSet nat_cmp)
    → i < LETTERS → IsRow relations start i (slice_index word i) row → AreUseless relations start word row
row-useless relations start i word row lt is x inside d less divides =
    let more = is x inside d less in
    let most = divides i lt in
    absurd (omega (arith, more, most))

-- A union of sets of useless ones is one.
pub union-useless : (relations : List (List ℕ × List ℕ)) (start : ℕ) (word : List ℕ) (s t : set.FinSet nat_cmp)
    → AreUseless relations start word s → AreUseless relations start word t
    → AreUseless relations start word (set.union s t)
union-useless relations start word s t one other x inside = elim (in-union s t x inside) [
  | inl e ↦ one x e
  | inr e ↦ other x e
]

-- Row (g letters + i) depth + e is that of group g, letter i and exponent e.
pub row-place : (relations : List (List ℕ × List ℕ)) (row : set.FinSet nat_cmp) (g i e r : ℕ) → i < LETTERS → e < DEPTH
    → r ≡ (g * LETTERS + i) * DEPTH + e
    → IsRow relations (r / DEPTH / LETTERS * EACH) (r / DEPTH % LETTERS) (r % DEPTH) row
    → IsRow relations (g * EACH) i e row
row-place relations row g i e r letter depth place is =
    let at : r / DEPTH ≡ g * LETTERS + i = omega (arith, place, depth) in
    let exponent : r % DEPTH ≡ e = omega (arith, place, depth) in
    let group : r / DEPTH / LETTERS ≡ g = omega (arith, at, letter) in
    let which : r / DEPTH % LETTERS ≡ i = omega (arith, at, letter) in
    subst (λ a. IsRow relations (a * EACH) i e row) group
    (subst (λ a. IsRow relations (r / DEPTH / LETTERS * EACH) a e row) which
    (subst (λ a. IsRow relations (r / DEPTH / LETTERS * EACH) (r / DEPTH % LETTERS) a row) exponent is))
