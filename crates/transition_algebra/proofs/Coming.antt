-- Sets of values, added one after another.
-- By induction on how many are added.
use Rattle.std.proofs.Common.{◌≡◌, List, [], ◌∷◌, ◌++◌, map, refl, ℕ, zero, suc, ◌+◌, ◌-◌, ◌<◌, inl, inr, sym, ◌∙◌, ap, arith}
use Rattle.std.specs.FinSet as set
use Rattle.std.specs.Ordering.{nat_cmp}
use Rattle.transition_algebra.specs.PairLaws.{has_insert, insert_has, has_union, union_has, empty_has, same_members}
use Rattle.monoid_table.specs.Grids.{Grid}
use Rattle.heap_options.specs.declared.left.Left.{Left}
use Rattle.std.specs.List.{flat_map, range_with_len}
use Rattle.transition_algebra.specs.Heaps.{left_value}
use Rattle.monoid_table.specs.Pretending.{Pretending}
use Rattle.transition_algebra.specs.Trials.{with_left}

-- some parts, and those behind
pub parts_add : (x : ℕ → Left) (a c d : ℕ) → map x (range_with_len a (c + d))
    ≡ map x (range_with_len a c) ++ map x (range_with_len (a + c) d)
parts_add x a zero d =
    let e : 0 + d ≡ d = omega arith in let g : a + 0 ≡ a = omega arith in rw (e, g) refl
parts_add x a (suc c) d =
    let e : suc c + d ≡ suc (c + d) = omega arith in
    let g : a + suc c ≡ a + 1 + c = omega arith in
    rw (e, g) (ap (λ xs. x a ∷ xs) (parts_add x (a + 1) c d))

union_insert : (s t : set.FinSet nat_cmp) (v : ℕ)
    → set.union s (set.insert t v) ≡ set.insert (set.union s t) v
union_insert s t v =
    same_members (set.union s (set.insert t v)) (set.insert (set.union s t) v)
    (λ q h. insert_has (set.union s t) v q (elim (has_union s (set.insert t v) q h) [
      | inl k ↦ inr (union_has s t q (inl k))
      | inr k ↦ elim (has_insert t v q k) [ inl e ↦ inl e | inr i ↦ inr (union_has s t q (inr i)) ]
    ]))
    (λ q h. union_has s (set.insert t v) q (elim (has_insert (set.union s t) v q h) [
      | inl e ↦ inr (insert_has t v q (inl e))
      | inr k ↦ elim (has_union s t q k) [ inl i ↦ inl i | inr i ↦ inr (insert_has t v q (inr i)) ]
    ]))

union_nothing : (s : set.FinSet nat_cmp) → set.union s set.empty ≡ s
union_nothing s =
    same_members (set.union s set.empty) s
    (λ q h. elim (has_union s set.empty q h) [ inl k ↦ k | inr k ↦ absurd (empty_has q k) ])
    (λ q h. union_has s set.empty q (inl h))

module _ (table : Grid) (phi : Pretending) where
  -- the values of what is left, and of what comes behind
  pub left_add : (s : set.FinSet nat_cmp) (xs ys : List Left)
      → with_left table phi s (xs ++ ys) ≡ with_left table phi (with_left table phi s xs) ys
  unfolding with_left
  left_add s [] ys = refl
  left_add s (x ∷ xs) ys = left_add (set.insert s (left_value table phi x)) xs ys

  union_left : (s t : set.FinSet nat_cmp) (xs : List Left)
      → set.union s (with_left table phi t xs) ≡ with_left table phi (set.union s t) xs
  unfolding with_left
  union_left s t [] = refl
  union_left s t (x ∷ xs) =
      union_left s (set.insert t (left_value table phi x)) xs
      ∙ ap (λ u. with_left table phi u xs) (union_insert s t (left_value table phi x))

  -- what has the values is the set with the values alone beside it
  pub left_beside : (s : set.FinSet nat_cmp) (xs : List Left)
      → set.union s (with_left table phi set.empty xs) ≡ with_left table phi s xs
  left_beside s xs =
      union_left s set.empty xs ∙ ap (λ u. with_left table phi u xs) (union_nothing s)

  -- a part more
  pub part_more : (x : ℕ → Left) (b e : ℕ) (s t : set.FinSet nat_cmp) (v : ℕ) → b < e
      → v ≡ left_value table phi (x b) → t ≡ set.insert s v
      → with_left table phi t (map x (range_with_len (b + 1) (e - (b + 1))))
      ≡ with_left table phi s (map x (range_with_len b (e - b)))
  unfolding with_left
  part_more x b e s t v l is more =
      let n : e - b ≡ suc (e - (b + 1)) = omega arith in
      ap (λ u. with_left table phi u (map x (range_with_len (b + 1) (e - (b + 1)))))
      (more ∙ ap (set.insert s) is)
      ∙ sym (ap (λ k. with_left table phi s (map x (range_with_len b k))) n)

  pub part_none : (x : ℕ → Left) (b n : ℕ) (s : set.FinSet nat_cmp) → n ≡ 0
      → with_left table phi s (map x (range_with_len b n)) ≡ s
  unfolding with_left
  part_none x b n s e = ap (λ k. with_left table phi s (map x (range_with_len b k))) e

  -- a row more
  pub rows_more : (T : ℕ → List Left) (a e : ℕ) (s t : set.FinSet nat_cmp) → a < e
      → t ≡ with_left table phi s (T a)
      → with_left table phi t (flat_map T (range_with_len (a + 1) (e - (a + 1))))
      ≡ with_left table phi s (flat_map T (range_with_len a (e - a)))
  rows_more T a e s t l more =
      let n : e - a ≡ suc (e - (a + 1)) = omega arith in
      ap (λ u. with_left table phi u (flat_map T (range_with_len (a + 1) (e - (a + 1))))) more
      ∙ sym (left_add s (T a) (flat_map T (range_with_len (a + 1) (e - (a + 1)))))
      ∙ sym (ap (λ k. with_left table phi s (flat_map T (range_with_len a k))) n)

  pub rows_none : (T : ℕ → List Left) (a n : ℕ) (s : set.FinSet nat_cmp) → n ≡ 0
      → with_left table phi s (flat_map T (range_with_len a n)) ≡ s
  unfolding with_left
  rows_none T a n s e = ap (λ k. with_left table phi s (flat_map T (range_with_len a k))) e
