-- What an isomorphism keeps: how many elements are so, and profiles of elements. This project's own.
use Rattle.std.specs.Prelude.{◌≡◌, ℕ, ◌<◌, zero, suc, ◌+◌, ◌*◌, ◌%◌, ◌==◌, Bool, if◌then◌else◌, List, slice_index}
use Rattle.misere_theory.specs.Quotients.{Claim}
use Rattle.isomorphisms.specs.Isomorphism.{IsIsomorphism}
use Rattle.isomorphisms.specs.declared.TheConstants.{COLOURS, FIRST, SECOND, ROUNDS}

-- the sum of F over the numbers below n
abbrev pub sum_below : (ℕ → ℕ) → ℕ → ℕ
sum_below F zero = 0
sum_below F (suc n) = sum_below F n + F n

-- how many numbers below n are so
abbrev pub count_below : (ℕ → Bool) → ℕ → ℕ
count_below p n = sum_below (λ x. if p x then 1 else 0) n

-- how many elements are in the portion
abbrev pub portion_size : Claim → ℕ
portion_size c = count_below c.portion c.order

-- how many elements are their own squares
abbrev pub idempotents : Claim → ℕ
idempotents c = count_below (λ x. c.times x x == x) c.order

-- a number for two colours
unfoldable pub mixed : ℕ → ℕ → ℕ
mixed a b =
    let t = (a * FIRST + b) % COLOURS in
    ((t * t) % COLOURS * t) % COLOURS

-- x's colour with the colours of each element and of its product with x, in no order
unfoldable pub recoloured : Claim → (ℕ → ℕ) → ℕ → ℕ
recoloured c col x =
    (col x * SECOND + sum_below (λ z. mixed (col z) (col (c.times x z))) c.order) % COLOURS

-- The colour of an element: whether it is in the portion, and from then on, as often as told, what
-- colours it meets. The refinement of colours of Weisfeiler and Leman.
unfoldable pub colour : Claim → ℕ → ℕ → ℕ
colour c zero x = if c.portion x then 1 else 0
colour c (suc rounds) x = recoloured c (colour c rounds) x

-- the list has the colour of each element
abbrev pub HasColours : Claim → List ℕ → Type 0
HasColours c colours = (x : ℕ) → x < c.order → slice_index colours x ≡ colour c ROUNDS x

-- each isomorphism takes an element to one of its colour
abbrev pub AreKept : Claim → Claim → (ℕ → ℕ) → (ℕ → ℕ) → Type 0
AreKept c d col other = (f g : ℕ → ℕ) → IsIsomorphism c d f g
    → (x : ℕ) → x < c.order → other (f x) ≡ col x
