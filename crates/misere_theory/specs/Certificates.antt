-- The numbers of a certificate, their ranges, the claim that they make, and when it is canonical
-- and right.
use Rattle.std.specs.Prelude.{◌≡◌, ◌≢◌, ℕ, zero, suc, ◌+◌, ◌-◌, ◌%◌, ◌≤◌, ◌<◌, ◌==◌, nat_lt, nat_le, ◌&&◌, ◌||◌, if◌then◌else◌, List, [], ◌∷◌, ◌++◌, length, slice_index, slice_index_or, All}
use Rattle.std.specs.List.{list_any, AllZip}
use Rattle.std.specs.List.Sorted.{IsStrictlyIncreasing}
use Rattle.misere_theory.specs.declared.TheConstants.{LARGEST_ORDER, LARGEST_FIRST_ORDER, LARGEST_SECOND_ORDER, MOST_ENTRIES, MOST_SECOND_ENTRIES, LARGEST_PART}
pub use Rattle.misere_theory.specs.Games.{IsCode, is_octal}
use Rattle.misere_theory.specs.Quotients.{Claim, Represents}
use Rattle.misere_theory.specs.Kinds.{IsHeapIn, kind_by, bound_in}
use Rattle.misere_theory.specs.Numbering.{IsLeastPeriod, IsNumbered}

-- The numbers of a certificate, line by line: the digits of the code; the order; the start and the
-- period of the pretending function, and its entries for the heaps 1 to start + period - 1; the
-- elements of the portion; the keys of the elements 1, 2, ..; the rows of the table; and for each
-- pair of elements one that tells it apart. A certificate with a period of 1 or more is full, one
-- with the period 0 partial: it speaks of the heaps 1 to start - 1 alone. This project's own.
pub record Certificate : Type 0 where
  pub code : List ℕ
  pub order : ℕ
  pub start : ℕ
  pub period : ℕ
  pub phi : List ℕ
  pub portion : List ℕ
  pub words : List (ℕ × ℕ)
  pub rows : List (List ℕ)
  pub apart : List ℕ

-- The element of the heap n: entry n below start + period, and from start on the entries repeat
-- with the period. A partial certificate has an element for each heap below start alone.
abbrev pub phi_at : Certificate → ℕ → ℕ
phi_at c n =
    slice_index (0 ∷ c.phi)
    (if nat_lt n (c.start + c.period) then n else c.start + (n - c.start) % c.period)

-- The product of x and y: entry y of row x, both counted from 0.
abbrev pub times_of : Certificate → ℕ → ℕ → ℕ
times_of c x y = slice_index (slice_index_or c.rows x []) y

-- What the certificate claims of its code's game.
abbrev pub claim_of : Certificate → Claim
claim_of c =
    record {
      order = c.order;
      times = times_of c;
      phi = phi_at c;
      portion = λ x. list_any (λ y. y == x) c.portion;
    }

-- 0 of a full certificate, and of a partial one the last heap of which it speaks.
abbrev pub kind_of : Certificate → ℕ
kind_of c = kind_by c.start c.period

-- The sizes of heaps of which the certificate speaks: all from 1 on, or those below start.
abbrev pub IsHeapOf : Certificate → ℕ → Type 0
IsHeapOf c = IsHeapIn (kind_of c)

-- B: each heap of which the certificate speaks has the pair of one of the heaps 1 to B.
abbrev pub certificate_bound : Certificate → ℕ
certificate_bound c = bound_in (kind_of c) c.code (length c.code - 1) c.start c.period

-- The key of the element e > 0.
abbrev pub key_of : Certificate → ℕ → ℕ × ℕ
key_of c e = slice_index_or c.words (e - 1) (0, 0)

-- The position that the keys of an element spell: for 0 the empty one; else the heap of its key,
-- and what the key's element spells.
pub data IsSpelled (c : Certificate) : ℕ → List ℕ → Type 0 where
  Zero : IsSpelled c 0 []
  Key : {X : List ℕ} → (e : ℕ) → 0 < e → IsSpelled c (key_of c e).0 X
      → IsSpelled c e ((key_of c e).1 ∷ X)

-- The pairs (x, y), (x, y + 1), .., n of them.
abbrev pub pairs_with : ℕ → ℕ → ℕ → List (ℕ × ℕ)
pairs_with x y zero = []
pairs_with x y (suc n) = (x, y) ∷ pairs_with x (y + 1) n

-- The pairs of n numbers from x on: (x, x + 1), (x, x + 2), .., (x + 1, x + 2), ..
abbrev pub pairs_from : ℕ → ℕ → List (ℕ × ℕ)
pairs_from x zero = []
pairs_from x (suc n) = pairs_with x (x + 1) n ++ pairs_from (x + 1) n

-- The number of the format for a code, an order, a start and a period: 3 where the order or the
-- entries are above the second format's; else 2 where the code isn't octal, the order is above the
-- first format's or the period is 0; and else 1.
abbrev pub format_by : List ℕ → ℕ → ℕ → ℕ → ℕ
format_by code order start period =
    if nat_lt LARGEST_SECOND_ORDER order || nat_lt (MOST_SECOND_ENTRIES + 1) (start + period) then 3
    else if is_octal code && (nat_le order LARGEST_FIRST_ORDER && nat_lt 0 period) then 1 else 2

-- The format in which the certificate is spelled.
abbrev pub format_of : Certificate → ℕ
format_of c = format_by c.code c.order c.start c.period

-- Each line has its count of numbers, and each number is in its range. Phi has 1 to MOST_ENTRIES
-- entries: so a full certificate's start and period are 1 to MOST_ENTRIES. A partial one's start is 2
-- to LARGEST_PART + 1.
pub record InRanges (c : Certificate) : Type 0 where
  pub code : IsCode c.code
  pub order : (2 ≤ c.order) × (c.order ≤ LARGEST_ORDER)
  pub start : 1 ≤ c.start
  pub period : (2 ≤ c.start + c.period) × (c.start + c.period ≤ MOST_ENTRIES + 1)
  pub part : c.period ≡ 0 → c.start ≤ LARGEST_PART + 1
  pub phi : (length c.phi + 1 ≡ c.start + c.period) × All (λ x. x < c.order) c.phi
  pub portion : (1 ≤ length c.portion) × All (λ x. x < c.order) c.portion
      × IsStrictlyIncreasing c.portion
  pub words : (length c.words + 1 ≡ c.order)
      × All (λ k. (k.0 < c.order) × (1 ≤ k.1) × (k.1 < c.start + c.period)) c.words
  pub rows : (length c.rows ≡ c.order)
      × All (λ row. (length row ≡ c.order) × All (λ x. x < c.order) row) c.rows
  pub apart : (length c.apart ≡ length (pairs_from 0 c.order)) × All (λ x. x < c.order) c.apart

-- z takes exactly one of the two elements into the portion. After Plambeck and Siegel's reduced
-- monoids.
abbrev pub TellsApart : Claim → ℕ × ℕ → ℕ → Type 0
TellsApart c p z = c.portion (c.times p.0 z) ≢ c.portion (c.times p.1 z)

-- z is the least element that tells the two apart.
abbrev pub LeastApart : Claim → ℕ × ℕ → ℕ → Type 0
LeastApart c p z = (z < c.order) × TellsApart c p z × ((w : ℕ) → w < z → TellsApart c p w → ⊥)

-- The elements are numbered by least keys, start and period are the least where the certificate is
-- full, and each pair of elements stands beside the least element that tells it apart: none of the
-- faults 3 to 6. This project's own.
pub record Canonical (c : Certificate) : Type 0 where
  pub numbered : IsNumbered (claim_of c) (c.start + c.period - 1) (key_of c)
  pub period : 1 ≤ c.period → IsLeastPeriod (claim_of c) c.start c.period
  pub apart : AllZip (LeastApart (claim_of c)) (pairs_from 0 c.order) c.apart

-- In its ranges, canonical, and the misère quotient of its code's game: of the whole game where it
-- is full, of the heaps below its start where it is partial. This project's own.
pub record Accepted (c : Certificate) : Type 0 where
  pub in_ranges : InRanges c
  pub canonical : Canonical c
  pub represents : Represents (IsHeapOf c) c.code (claim_of c)
