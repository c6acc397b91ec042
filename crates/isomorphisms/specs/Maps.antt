-- What makes a list of images an isomorphism, one thing after another.
use Rattle.std.specs.Prelude.{◌≡◌, ◌≢◌, ℕ, ◌<◌, List, length, slice_index}
use Rattle.misere_theory.specs.Quotients.{Claim}

-- y is the image of some element
abbrev pub IsHit : List ℕ → ℕ → Type 0
IsHit map y = (x : ℕ) × (x < length map) × (slice_index map x ≡ y)

-- each number below n is an image
abbrev pub AreHit : List ℕ → ℕ → Type 0
AreHit map n = (y : ℕ) → y < n → IsHit map y

-- no smaller element has the image of x
abbrev pub IsNew : List ℕ → ℕ → Type 0
IsNew map x = (z : ℕ) → z < x → slice_index map z ≢ slice_index map x

-- no two elements have one image
abbrev pub AreNew : List ℕ → Type 0
AreNew map = (x : ℕ) → x < length map → IsNew map x

-- the portion goes to the portion, and what isn't in it to what isn't
abbrev pub KeepsPortion : Claim → Claim → List ℕ → Type 0
KeepsPortion c d map = (x : ℕ) → x < c.order → d.portion (slice_index map x) ≡ c.portion x

-- the products of x go to products
abbrev pub KeepsProducts : Claim → Claim → List ℕ → ℕ → Type 0
KeepsProducts c d map x = (y : ℕ) → y < c.order
    → slice_index map (c.times x y) ≡ d.times (slice_index map x) (slice_index map y)
