-- Numbers for the classes of a box, by least keys.
use Rattle.std.specs.Prelude.{◌≡◌, ◌≢◌, ℕ, ◌+◌, ◌-◌, ◌*◌, ◌/◌, ◌%◌, ◌^◌, ◌<◌, ◌≤◌, ◌⊎◌, List, [], ◌∷◌, ◌++◌, length, slice_index}
use Rattle.misere_theory.specs.declared.TheConstants.{LARGEST_FIRST_ORDER}
use Rattle.presentations.specs.declared.axes.Axis.{Axis}
use Rattle.presentations.specs.Boxes.{size_of, next_of, AreAxes}

pub record NumberState : Type 0 where
  pub places : ℕ
  pub firsts : List ℕ
  pub keys : List ℕ

-- each place has no number, or that of its class
pub record AreNumbers (numbers firsts : List ℕ) : Type 0 where
  pub some : 0 < length firsts
  pub most : length firsts ≤ LARGEST_FIRST_ORDER
  pub back : (c : ℕ) → c < length numbers
      → (slice_index numbers c ≡ LARGEST_FIRST_ORDER)
      ⊎ ((slice_index numbers c < length firsts)
      × (slice_index firsts (slice_index numbers c) ≡ c))
  pub there : (e : ℕ) → e < length firsts → (slice_index firsts e < length numbers)
      × (slice_index numbers (slice_index firsts e) ≡ e)
  pub small : length numbers < 4294967296

-- the class has the number n: its own, or the next one, with this key
pub record IsAssigned (old new : NumberState) (class key n : ℕ) : Type 0 where
  pub within : n < length new.firsts
  pub there : slice_index new.firsts n ≡ class
  pub either :
      ((new.firsts ≡ old.firsts) × (new.keys ≡ old.keys))
      ⊎ ((new.firsts ≡ old.firsts ++ class ∷ []) × (new.keys ≡ old.keys ++ key ∷ [])
      × (n ≡ length old.firsts))

-- What is known while products of elements with generators, row after row, get their numbers.
pub record IsProgress (axes : List Axis) (classes firsts keys products : List ℕ) : Type 0 where
  pub start : slice_index firsts 0 ≡ 0
  pub some : 0 < length firsts
  pub keys_are : length keys + 1 ≡ length firsts
  pub roots : (e : ℕ) → e < length firsts → (slice_index firsts e < size_of axes)
      × (slice_index classes (slice_index firsts e) ≡ slice_index firsts e)
  pub covers : length products ≤ length firsts * length axes
  pub steps : (k : ℕ) → k < length products
      → (slice_index products k < length firsts)
      × (slice_index firsts (slice_index products k)
      ≡ slice_index classes
      (next_of axes (k % length axes) (slice_index firsts (k / length axes))))
  pub keys_in : (j : ℕ) → j < length keys
      → (slice_index keys j < length products) × (slice_index products (slice_index keys j) ≡ j + 1)
      × (slice_index keys j / length axes < j + 1)
  pub rising : (i j : ℕ) → i < j → j < length keys → slice_index keys i < slice_index keys j
  pub least : (k : ℕ) → k < length products → 0 < slice_index products k
      → slice_index keys (slice_index products k - 1) ≤ k

-- All products have numbers, and different elements are different classes.
pub record IsNumbering (axes : List Axis) (classes firsts keys products : List ℕ) : Type 0 where
  pub progress : IsProgress axes classes firsts keys products
  pub most : length firsts ≤ LARGEST_FIRST_ORDER
  pub whole : length products ≡ length firsts * length axes
  pub apart : (d e : ℕ) → d < length firsts → e < length firsts
      → slice_index firsts d ≡ slice_index firsts e → d ≡ e

-- pointers that a numbering can follow
pub record AreRoots (axes : List Axis) (classes : List ℕ) : Type 0 where
  pub axes_are : AreAxes 1 axes
  pub small : size_of axes < 2 ^ 32
  pub length_is : length classes ≡ size_of axes
  pub down : (u : ℕ) → u < size_of axes → slice_index classes u ≤ u
  pub firsts : (u : ℕ) → u < size_of axes → slice_index classes (slice_index classes u)
      ≡ slice_index classes u

-- Each element above 0 is a product of a smaller one with a generator, and the products are all
-- there.
pub record AreKeys (letters order : ℕ) (keys products : List ℕ) : Type 0 where
  pub some : 0 < order
  pub most : order ≤ LARGEST_FIRST_ORDER
  pub keys_are : length keys + 1 ≡ order
  pub whole : length products ≡ order * letters
  pub below : (k : ℕ) → k < length products → slice_index products k < order
  pub parents : (j : ℕ) → j < length keys → (slice_index keys j < length products)
      × (slice_index keys j / letters < j + 1)

-- The rows: x times 0 is x, and x times an element is x times its parent times its generator.
pub record AreRows (letters order : ℕ) (keys products rows : List ℕ) : Type 0 where
  pub length_is : length rows ≡ order * order
  pub below : (i : ℕ) → i < order * order → slice_index rows i < order
  pub identity : (x : ℕ) → x < order → slice_index rows (x * order + 0) ≡ x
  pub step : (x e : ℕ) → x < order → 0 < e → e < order
      → slice_index rows (x * order + e)
      ≡ slice_index products (slice_index rows (x * order + slice_index keys (e - 1) / letters)
      * letters + slice_index keys (e - 1) % letters)

-- what stands at x and e
abbrev pub IsProduct : ℕ → ℕ → List ℕ → List ℕ → List ℕ → ℕ → ℕ → Type 0
IsProduct letters order keys products rows x e =
    (e ≡ 0 → slice_index rows (x * order + e) ≡ x)
    × (0 < e → slice_index rows (x * order + e)
    ≡ slice_index products (slice_index rows (x * order + slice_index keys (e - 1) / letters)
    * letters + slice_index keys (e - 1) % letters))

pub record AreRowsUpTo (letters order : ℕ) (keys products rows : List ℕ) (x e : ℕ) : Type 0 where
  pub length_is : length rows ≡ x * order + e
  pub below : (i : ℕ) → i < length rows → slice_index rows i < order
  pub are : (y f : ℕ) → y * order + f < length rows → f < order
      → IsProduct letters order keys products rows y f

-- there are more than LARGEST_FIRST_ORDER classes
pub record HasManyClasses (axes : List Axis) (classes : List ℕ) : Type 0 where
  pub first : ℕ → ℕ
  pub is : (i : ℕ) → i ≤ LARGEST_FIRST_ORDER → (first i < size_of axes)
      × (slice_index classes (first i) ≡ first i)
  pub apart : (i j : ℕ) → i < j → j ≤ LARGEST_FIRST_ORDER → first i ≢ first j
