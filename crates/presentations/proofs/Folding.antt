-- What the least congruence relates in the box.
-- A letter more is a step in the box, but for a power that its relation brings back.
use Rattle.std.proofs.Common.{◌≡◌, ℕ, zero, suc, ◌+◌, ◌*◌, ◌/◌, ◌%◌, ◌<◌, List, [], ◌∷◌, length, sym, ap, ap₂, ◌∙◌, inl, inr, add-zero, zero-add, arith}
use Rattle.std.specs.Prelude.{slice_index_or}
use Rattle.std.proofs.lemmas.Bool.{cases_lt}
use Rattle.std.proofs.lemmas.Nat.{div-mul-add, mod-mul-add, mod_below}
use Rattle.presentations.specs.declared.axes.Axis.{Axis}
use Rattle.presentations.specs.Vectors.{plus, zeros, only, bump}
use Rattle.presentations.specs.Congruences.{Related}
use Rattle.presentations.specs.Congruences.Related.{Same, Turned, Chained, Beside}
use Rattle.presentations.specs.Boxes.{after, place_of, vector_at, next_of, AreAxes}
use Rattle.presentations.proofs.CongruenceLaws.{bumped-related}
use Rattle.presentations.proofs.VectorLaws.{length-zeros, length-only, plus-zeros, zeros-plus, by_letters}
use Rattle.presentations.proofs.BoxLaws.{after-below, after-inside, after-edge, length-vector, place-bump, place-zeros, vector-zero}

-- a relation on vectors of n exponents that adding keeps
pub record Keeps (n : ℕ) (R : List ℕ → List ℕ → Type 0) : Type 0 where
  pub same : (u : List ℕ) → length u ≡ n → R u u
  pub beside : (u v w : List ℕ) → length w ≡ n → R u v → R (plus u w) (plus v w)

-- R of the vectors behind an exponent
abbrev behind : ℕ → (List ℕ → List ℕ → Type 0) → List ℕ → List ℕ → Type 0
behind x R u v = R (x ∷ u) (x ∷ v)

keeps-behind : (n x : ℕ) (R : List ℕ → List ℕ → Type 0) → Keeps (suc n) R → Keeps n (behind x R)
keeps-behind n x R k = record {
  same = λ u e. k.same (x ∷ u) (ap suc e);
  beside = λ u v w e r. rw add-zero at (k.beside (x ∷ u) (x ∷ v) (0 ∷ w) (ap suc e) r);
}

-- each axis' power is related to the one that it comes back to
abbrev pub Powers : List Axis → (List ℕ → List ℕ → Type 0) → Type 0
Powers axes R = (i : ℕ) (d : Axis) → i < length axes
    → R (only (length axes) i (slice_index_or axes i d).most)
    (only (length axes) i (slice_index_or axes i d).back)

powers-behind : (a : Axis) (axes : List Axis) (x : ℕ) (R : List ℕ → List ℕ → Type 0)
    → Keeps (suc (length axes)) R → Powers (a ∷ axes) R → Powers axes (behind x R)
powers-behind a axes x R k p i d lt =
    let n = length axes in
    let b = slice_index_or axes i d in
    let tidy = λ (m : ℕ). plus-zeros (only n i m) n (length-only n i m) in
    rw (zero-add x, tidy b.most, tidy b.back) at
    (k.beside _ _ (x ∷ zeros n) (ap suc (length-zeros n)) (p (suc i) d (omega arith)))

-- one letter more is related to the step in the box
next-kept : (s : ℕ) (axes : List Axis) (R : List ℕ → List ℕ → Type 0) → Keeps (length axes) R
    → Powers axes R → AreAxes s axes → (u i : ℕ) → i < length axes
    → R (bump (vector_at axes u) i) (vector_at axes (next_of axes i u))
next-kept s [] R k p h u i lt = absurd (omega arith)
next-kept s (a ∷ axes) R k p h u zero lt =
    let x = u % a.most in
    let v = vector_at axes (u / a.most) in
    let len = length-vector axes (u / a.most) in
    let low = after-below a x h.1 in
    rw (mod-mul-add (u / a.most) a.most (after a x) low, div-mul-add (u / a.most) a.most (after a x) low)
    (elim (cases_lt (x + 1) a.most) [
      | inl inside ↦ rw (after-inside a x inside) (k.same ((x + 1) ∷ v) (ap suc len))
      | inr high ↦
          let edge : x + 1 ≡ a.most = omega (arith, mod_below u a.most (omega (arith, h.1))) in
          rw (after-edge a x high, edge)
          (rw (zeros-plus v (length axes) len, add-zero a.most, add-zero a.back) at
          (k.beside _ _ (0 ∷ v) (ap suc len) (p 0 a (omega arith))))
    ])
next-kept s (a ∷ axes) R k p h u (suc i) lt =
    let x = u % a.most in
    let q = next_of axes i (u / a.most) in
    let low = mod_below u a.most (omega (arith, h.1)) in
    rw (mod-mul-add q a.most x low, div-mul-add q a.most x low)
    (next-kept (s * a.most) axes (behind x R) (keeps-behind (length axes) x R k)
    (powers-behind a axes x R k p) h.2 (u / a.most) i (omega arith))

module _ (axes : List Axis) (pairs : List (List ℕ × List ℕ)) (are : AreAxes 1 axes)
    (powers : Powers axes (Related (length axes) pairs)) where
  keeps : Keeps (length axes) (Related (length axes) pairs)
  keeps = record { same = Same; beside = Beside }

  -- the next place's vector is related to the vector with one letter more
  pub next-related : (u i : ℕ) → i < length axes
      → Related (length axes) pairs (bump (vector_at axes u) i) (vector_at axes (next_of axes i u))
  next-related = next-kept 1 axes (Related (length axes) pairs) keeps powers are

  -- related places have related next places
  pub step-related : (u v i : ℕ) → i < length axes
      → Related (length axes) pairs (vector_at axes u) (vector_at axes v)
      → Related (length axes) pairs (vector_at axes (next_of axes i u))
      (vector_at axes (next_of axes i v))
  step-related u v i lt r =
      Chained _ _ _ (Turned _ _ (next-related u i lt))
      (Chained _ _ _ (bumped-related i (length-vector axes u) (length-vector axes v) lt r)
      (next-related v i lt))

  -- each vector is related to that of its place
  pub place-related : (v : List ℕ) → length v ≡ length axes
      → Related (length axes) pairs v (vector_at axes (place_of axes v))
  place-related v len =
      by_letters (length axes)
      (λ w. Related (length axes) pairs w (vector_at axes (place_of axes w)))
      (rw (place-zeros axes, vector-zero 1 axes are) (Same _ (length-zeros (length axes))))
      (λ w i e lt r. rw (place-bump 1 axes w i are e lt)
      (Chained _ _ _ (bumped-related i e (length-vector axes _) lt r) (next-related _ i lt)))
      v len

  -- the places of a relation's words are related
  pub relation-related : (u v : List ℕ) → length u ≡ length axes → length v ≡ length axes
      → Related (length axes) pairs u v
      → Related (length axes) pairs (vector_at axes (place_of axes u))
      (vector_at axes (place_of axes v))
  relation-related u v eu ev r =
      Chained _ _ _ (Turned _ _ (place-related u eu)) (Chained _ _ _ r (place-related v ev))
