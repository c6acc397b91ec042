-- The box of vectors below the letters' powers that come back, and the numbers of its vectors.
use Rattle.std.specs.Prelude.{◌≡◌, ℕ, zero, suc, ◌+◌, ◌*◌, ◌/◌, ◌%◌, ◌<◌, List, [], ◌∷◌, nat_lt, if◌then◌else◌}
use Rattle.presentations.specs.declared.axes.Axis.{Axis}

-- the exponent after x
abbrev pub after : Axis → ℕ → ℕ
after a x = if nat_lt (x + 1) a.most then x + 1 else a.back

-- the exponent in the box that x comes back to
abbrev pub folded : Axis → ℕ → ℕ
folded a zero = 0
folded a (suc x) = after a (folded a x)

-- how many vectors the box has
abbrev pub size_of : List Axis → ℕ
size_of [] = 1
size_of (a ∷ axes) = a.most * size_of axes

-- the number of a vector's place in the box
abbrev pub place_of : List Axis → List ℕ → ℕ
place_of [] v = 0
place_of (a ∷ axes) [] = 0
place_of (a ∷ axes) (x ∷ v) = place_of axes v * a.most + folded a x

-- the vector at a place
abbrev pub vector_at : List Axis → ℕ → List ℕ
vector_at [] u = []
vector_at (a ∷ axes) u = u % a.most ∷ vector_at axes (u / a.most)

-- the place with letter i once more
abbrev pub next_of : List Axis → ℕ → ℕ → ℕ
next_of [] i u = u
next_of (a ∷ axes) zero u = u / a.most * a.most + after a (u % a.most)
next_of (a ∷ axes) (suc i) u = next_of axes i (u / a.most) * a.most + u % a.most

-- strides are the products of the mosts before, and each back is below its most
abbrev pub AreAxes : ℕ → List Axis → Type 0
AreAxes stride [] = Unit {0}
AreAxes stride (a ∷ axes) = (a.stride ≡ stride) × (a.back < a.most) × AreAxes (stride * a.most) axes
