-- Places and vectors of the box.
-- A place has a vector's exponents as its digits, and each axis has its own base.
use Rattle.std.proofs.Common.{◌≡◌, ℕ, zero, suc, ◌+◌, ◌-◌, ◌*◌, ◌/◌, ◌%◌, ◌<◌, ◌≤◌, List, [], ◌∷◌, length, refl, sym, ap, ap₂, ◌∙◌, add-one, arith, subst}
use Rattle.std.specs.Prelude.{slice_index_or}
use Rattle.std.proofs.lemmas.Bool.Decides.{nat_tests}
use Rattle.std.proofs.lemmas.Nat.{div-mul-add, mod-mul-add, mul-add-lt, div_below, mod_below, div-add-mod'}
use Rattle.std.proofs.Math.Nat.{div-div-eq-div-mul, mul_comm}
use Rattle.presentations.specs.declared.axes.Axis.{Axis}
use Rattle.presentations.specs.Vectors.{zeros, bump}
use Rattle.presentations.specs.Boxes.{after, folded, size_of, place_of, vector_at, next_of, AreAxes}
use Rattle.presentations.proofs.VectorLaws.{cons-same}

pub after-below : (a : Axis) (x : ℕ) → a.back < a.most → after a x < a.most
after-below a x h = grind (arith, nat_tests)

pub after-inside : (a : Axis) (x : ℕ) → x + 1 < a.most → after a x ≡ x + 1
after-inside a x h = grind (arith, nat_tests)

pub after-edge : (a : Axis) (x : ℕ) → a.most ≤ x + 1 → after a x ≡ a.back
after-edge a x h = grind (arith, nat_tests)

folded-below : (a : Axis) (x : ℕ) → a.back < a.most → folded a x < a.most
folded-below a zero h = omega arith
folded-below a (suc x) h = after-below a (folded a x) h

folded-inside : (a : Axis) (x : ℕ) → x < a.most → folded a x ≡ x
folded-inside a zero h = refl
folded-inside a (suc x) h =
    ap (after a) (folded-inside a x (omega arith)) ∙ after-inside a x (omega arith) ∙ add-one x

folded-more : (a : Axis) (x : ℕ) → folded a (x + 1) ≡ after a (folded a x)
folded-more a x = ap (folded a) (add-one x)

positive : (m n : ℕ) → 0 < m → 0 < n → 0 < m * n
positive m n hm hn = grind arith

pub some-factor : (x k n : ℕ) → x < k * n → 0 < n
some-factor x k zero lt = absurd (omega arith)
some-factor x k (suc n) lt = omega arith

pub size-positive : (s : ℕ) (axes : List Axis) → AreAxes s axes → 0 < size_of axes
size-positive s [] h = omega arith
size-positive s (a ∷ axes) h =
    positive a.most (size_of axes) (omega (arith, h.1)) (size-positive (s * a.most) axes h.2)

pub place-zeros : (axes : List Axis) → place_of axes (zeros (length axes)) ≡ 0
place-zeros [] = refl
place-zeros (a ∷ axes) = rw (place-zeros axes) (omega arith)

pub place-below : (s : ℕ) (axes : List Axis) (v : List ℕ) → AreAxes s axes
    → place_of axes v < size_of axes
place-below s [] v h = omega arith
place-below s (a ∷ axes) [] h = size-positive s (a ∷ axes) h
place-below s (a ∷ axes) (x ∷ v) h =
    mul-add-lt (place_of axes v) a.most (folded a x) (size_of axes)
    (place-below (s * a.most) axes v h.2) (folded-below a x h.1)

row-below : (m n u : ℕ) → 0 < m → u < m * n → u / m < n
row-below m n u some lt = div_below u m n some (rw mul_comm lt)

pub next-below : (s : ℕ) (axes : List Axis) (i u : ℕ) → AreAxes s axes → u < size_of axes
    → next_of axes i u < size_of axes
next-below s [] i u h lt = lt
next-below s (a ∷ axes) zero u h lt =
    mul-add-lt (u / a.most) a.most (after a (u % a.most)) (size_of axes)
    (row-below a.most (size_of axes) u (omega (arith, h.1)) lt) (after-below a (u % a.most) h.1)
next-below s (a ∷ axes) (suc i) u h lt =
    let some : 0 < a.most = omega (arith, h.1) in
    mul-add-lt (next_of axes i (u / a.most)) a.most (u % a.most) (size_of axes)
    (next-below (s * a.most) axes i (u / a.most) h.2 (row-below a.most (size_of axes) u some lt))
    (mod_below u a.most some)

-- the place of a vector with one letter more
pub place-bump : (s : ℕ) (axes : List Axis) (v : List ℕ) (i : ℕ) → AreAxes s axes
    → length v ≡ length axes → i < length axes
    → place_of axes (bump v i) ≡ next_of axes i (place_of axes v)
place-bump s [] v i h len lt = absurd (omega arith)
place-bump s (a ∷ axes) [] i h len lt = absurd (omega arith)
place-bump s (a ∷ axes) (x ∷ v) zero h len lt =
    let low = folded-below a x h.1 in
    rw (folded-more, div-mul-add, mod-mul-add) refl
place-bump s (a ∷ axes) (x ∷ v) (suc i) h len lt =
    let low = folded-below a x h.1 in
    rw (place-bump (s * a.most) axes v i h.2 (omega arith) (omega arith), div-mul-add, mod-mul-add)
    refl

pub length-vector : (axes : List Axis) (u : ℕ) → length (vector_at axes u) ≡ length axes
length-vector [] u = refl
length-vector (a ∷ axes) u = ap suc (length-vector axes (u / a.most))

pub place-vector : (s : ℕ) (axes : List Axis) (u : ℕ) → AreAxes s axes → u < size_of axes
    → place_of axes (vector_at axes u) ≡ u
place-vector s [] u h lt = omega arith
place-vector s (a ∷ axes) u h lt =
    let some : 0 < a.most = omega (arith, h.1) in
    rw (
      place-vector (s * a.most) axes (u / a.most) h.2 (row-below a.most (size_of axes) u some lt),
      folded-inside a (u % a.most) (mod_below u a.most some),
    ) (div-add-mod' u a.most)

pub vector-zero : (s : ℕ) (axes : List Axis) → AreAxes s axes
    → vector_at axes 0 ≡ zeros (length axes)
vector-zero s [] h = refl
vector-zero s (a ∷ axes) h =
    let none : 0 / a.most ≡ 0 = omega (arith, h.1) in
    cons-same (omega (arith, h.1)) (rw none (vector-zero (s * a.most) axes h.2))

-- ---- the code's arithmetic

abbrev pub axis_or : List Axis → ℕ → Axis → Axis
axis_or axes i d = slice_index_or axes i d

abbrev pub strided : Axis → ℕ → ℕ
strided a u = u - u / a.stride % a.most * a.stride + after a (u / a.stride % a.most) * a.stride

-- a digit is replaced
digit-set : (u s m d : ℕ) → u - u / s % m * s + d * s ≡ (u / s / m * m + d) * s + u % s
digit-set u s m d =
    moved u (u / s) (u / s / m) (u / s % m) (u % s) (div-add-mod' u s) (div-add-mod' (u / s) m)
  where
    moved : (u p q r low : ℕ) → p * s + low ≡ u → q * m + r ≡ p
        → u - r * s + d * s ≡ (q * m + d) * s + low
    moved u p q r low e f = grind arith

-- the digits above the first two places
digits-above : (u s m l : ℕ) → l * (s * m) + u % (s * m) ≡ (l * m + u / s % m) * s + u % s
digits-above u s m l =
    moved (u / (s * m)) (u % (s * m)) (u / s) (u % s) (u / s % m) (div-add-mod' u (s * m))
    (div-add-mod' u s) (rw (← div-div-eq-div-mul u s m) (div-add-mod' (u / s) m))
  where
    moved : (q r p low d : ℕ) → q * (s * m) + r ≡ u → p * s + low ≡ u → q * m + d ≡ p
        → l * (s * m) + r ≡ (l * m + d) * s + low
    moved q r p low d e f g = grind arith

strided-next : (s : ℕ) (axes : List Axis) (i u : ℕ) (d : Axis) → 0 < s → AreAxes s axes
    → i < length axes
    → strided (axis_or axes i d) u ≡ next_of axes i (u / s) * s + u % s
strided-next s [] i u d some h lt = absurd (omega arith)
strided-next s (a ∷ axes) zero u d some h lt = rw h.0 (digit-set u s a.most _)
strided-next s (a ∷ axes) (suc i) u d some h lt =
    strided-next (s * a.most) axes i u d (positive s a.most some (omega (arith, h.1))) h.2
    (omega arith)
    ∙ rw (div-div-eq-div-mul u s a.most) (digits-above u s a.most _)

abbrev pub no_axis : Axis
no_axis = record { letter = 0; most = 0; back = 0; stride = 0 }

-- the code's numbers of an axis
axis-facts : (s : ℕ) (axes : List Axis) (i : ℕ) (d : Axis) → 0 < s → AreAxes s axes
    → i < length axes
    → (0 < (axis_or axes i d).stride) × ((axis_or axes i d).back < (axis_or axes i d).most)
axis-facts s [] i d some h lt = absurd (omega arith)
axis-facts s (a ∷ axes) zero d some h lt = (omega (arith, h.0), h.1)
axis-facts s (a ∷ axes) (suc i) d some h lt =
    axis-facts (s * a.most) axes i d (positive s a.most some (omega (arith, h.1))) h.2 (omega arith)

pub axis-in : (axes : List Axis) (i : ℕ) → AreAxes 1 axes → i < length axes
    → (0 < (axis_or axes i no_axis).stride)
    × ((axis_or axes i no_axis).back < (axis_or axes i no_axis).most)
axis-in axes i h lt = axis-facts 1 axes i no_axis (omega arith) h lt

pub next-by-code : (axes : List Axis) (i u : ℕ) → AreAxes 1 axes → i < length axes
    → strided (axis_or axes i no_axis) u ≡ next_of axes i u
next-by-code axes i u h lt =
    let whole : u / 1 ≡ u = omega arith in
    strided-next 1 axes i u no_axis (omega arith) h lt ∙ rw whole (omega arith)
