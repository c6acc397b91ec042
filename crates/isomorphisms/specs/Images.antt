-- The images of the first elements under an isomorphism, and what follows of them. This project's
-- own.
use Rattle.std.specs.Prelude.{◌≡◌, ◌≢◌, ℕ, zero, suc, ◌+◌, ◌*◌, ◌-◌, ◌<◌, ◌≤◌, ◌==◌, ◌⊎◌, List, length, slice_index, slice_index_or, Option, Some, None}
use Rattle.misere_theory.specs.Quotients.{Claim}
use Rattle.isomorphisms.specs.Isomorphism.{IsIsomorphism, IsMap}
use Rattle.isomorphisms.specs.Profiles.{count_below}
use Rattle.isomorphisms.specs.declared.searching.MapSearch.{MapSearch}
use Rattle.isomorphisms.specs.declared.searching.MapSearch.TheVariants.{Map, Nothing, Long}
use Rattle.isomorphisms.specs.declared.forcing.Sent.{Sent}
use Rattle.isomorphisms.specs.declared.searching.NextImage.{NextImage}
use Rattle.isomorphisms.specs.declared.searching.NextImage.TheVariants.{Nowhere, Only, Any}

-- f takes the elements 1, 2, .. to these
abbrev pub Takes : (ℕ → ℕ) → List ℕ → Type 0
Takes f images = (i : ℕ) → i < length images → f (i + 1) ≡ slice_index images i

-- no isomorphism takes the elements 1, 2, .. to these
abbrev pub NoneTakes : Claim → Claim → List ℕ → Type 0
NoneTakes c d images = (f g : ℕ → ℕ) → IsIsomorphism c d f g → Takes f images → ⊥

-- each isomorphism that takes the elements 1, 2, .. to these takes x to y
abbrev pub MustTake : Claim → Claim → List ℕ → ℕ → ℕ → Type 0
MustTake c d images x y = (f g : ℕ → ℕ) → IsIsomorphism c d f g → Takes f images → f x ≡ y

-- elements, of which each isomorphism takes the first to the second
pub record IsForced (c d : Claim) (images : List ℕ) (p : Sent) : Type 0 where
  pub from : p.from < c.order
  pub to : p.to < d.order
  pub must : MustTake c d images p.from p.to

-- the images that are known, of all elements
pub record AreForced (c d : Claim) (images : List ℕ) (map : List (Option ℕ)) : Type 0 where
  pub long : length map ≡ c.order
  pub must : (x y : ℕ) → x < c.order → slice_index_or map x None ≡ Some y
      → MustTake c d images x y

-- what is known of the image of the next first element is true of each isomorphism
abbrev pub IsNextImage : Claim → Claim → List ℕ → NextImage → Type 0
IsNextImage c d images Nowhere = NoneTakes c d images
IsNextImage c d images (Only z) = MustTake c d images (length images + 1) z
IsNextImage c d images Any = Unit {0}

-- an element of the one colour can't go to y, which is of the other
abbrev pub IsLeftOut : NextImage → ℕ → ℕ → ℕ → Type 0
IsLeftOut Nowhere one other y = Unit {0}
IsLeftOut (Only z) one other y = (one ≢ other) ⊎ (z ≢ y)
IsLeftOut Any one other y = one ≢ other

-- how many elements below n have the colour
abbrev pub alike_below : (ℕ → ℕ) → ℕ → ℕ → ℕ
alike_below other colour n = count_below (λ y. other y == colour) n

-- How many lists of images there are, of the element e, or of e and e + 1, and so on up to k elements,
-- where each image is below n and has the colour of its element.
abbrev pub lists_of : (ℕ → ℕ) → (ℕ → ℕ) → ℕ → ℕ → ℕ → ℕ
lists_of col other n e zero = 0
lists_of col other n e (suc k) =
    alike_below other (col e) n * (1 + lists_of col other n (e + 1) k)

-- What a search says that is to send so many first elements, and has images of some: a map, or that
-- no isomorphism has these images, or that there are more lists to try than units.
abbrev pub Searches : {A : Type 0} → Claim → Claim → (ℕ → ℕ) → (ℕ → ℕ) → List ℕ → ℕ → ℕ → ℕ
    → MapSearch A → Type 0
Searches c d col other images count units left (Map map) = IsMap c d map.items
Searches c d col other images count units left Nothing =
    NoneTakes c d images
    × (units
    ≤ left + lists_of col other d.order (length images + 1) (count - length images))
Searches c d col other images count units left Long =
    units < lists_of col other d.order (length images + 1) (count - length images)
