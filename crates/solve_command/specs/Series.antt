-- How many elements the quotients of the first heaps of a game have. The sequence of these orders is
-- that of the tables of Plambeck and Siegel; how it is printed is this project's own.
use Rattle.std.specs.Prelude.{◌≡◌, ◌≤◌, ◌+◌, ℕ, Bool, false, nat_lt, List, [], ◌++◌, Option, Some, None, codes, decimal}
use Rattle.misere_theory.specs.Certificates.{Certificate, Accepted, kind_of}
use Rattle.misere_theory.specs.Games.{HeapOption, Indistinguishable, IsHeapUpTo, IsPosition}
use Rattle.octal_code.specs.Text.{IsCodeText}
use Rattle.requests.specs.declared.plans.Aim.TheVariants.{Part}
use Rattle.requests.specs.declared.plans.PartsBounds.{PartsBounds}
use Rattle.requests.specs.declared.plans.SolveBounds.{SolveBounds}
use Rattle.requests.specs.declared.ranges.TheConstants.{DEFAULT_ROUNDS}
use Rattle.solve_command.specs.Searches.{Calls, WasGivenUpBy}
use Rattle.solve_command.specs.Solved.{HasAsked}

-- a move is possible in the heap
abbrev pub HasOption : List ℕ → ℕ → Type 0
HasOption code h = (H : List ℕ) × HeapOption code h H

-- no move is possible in the heaps 1 to n
abbrev pub AreStill : List ℕ → ℕ → Type 0
AreStill code n = (h : ℕ) → IsHeapUpTo n h → HasOption code h → ⊥

-- The quotient of the heaps 1 to n has so many elements: those of an accepted certificate of these
-- heaps, of at most so many as are allowed; or one, since all positions are of one class.
pub data HasOrder (code : List ℕ) (most n order : ℕ) : Type 0 where
  Certified : (c : Certificate) → c.code ≡ code → kind_of c ≡ n → Accepted c → c.order ≤ most
      → order ≡ c.order → HasOrder code most n order
  OneClass : ((X Y : List ℕ) → IsPosition (IsHeapUpTo n) X → IsPosition (IsHeapUpTo n) Y
      → Indistinguishable (IsHeapUpTo n) code X Y) → order ≡ 1 → HasOrder code most n order

-- how far the search for the quotient of the heaps 1 to n goes
abbrev pub part_of : PartsBounds → ℕ → SolveBounds
part_of bounds n =
    record {
      limit = bounds.limit;
      rounds = DEFAULT_ROUNDS;
      order = bounds.order;
      aim = Part n;
      tells_why = false;
    }

-- the line of the heaps 1 to n
abbrev pub order_line : ℕ → ℕ → List ℕ
order_line n order = decimal n ++ codes " " ++ decimal order ++ codes "\n"

-- the lines of the heaps 1, of the heaps 1 and 2, .., of the heaps 1 to n
pub data AreOrders (code : List ℕ) (most : ℕ) : ℕ → List ℕ → Type 0 where
  NoHeap : AreOrders code most 0 []
  Heaps : {n : ℕ} {text : List ℕ} (order : ℕ) → AreOrders code most n text
      → HasOrder code most (n + 1) order
      → AreOrders code most (n + 1) (text ++ order_line (n + 1) order)

-- What is said of a series by the calls of a search, of which a proof has nothing but what they answered.
module _ (Asked : Calls) where
  -- a move is possible in the heaps 1 to n, and the search for their quotient was given up
  abbrev pub IsUnfound : List ℕ → PartsBounds → ℕ → Type 0
  IsUnfound code bounds n = WasGivenUpBy Asked code (part_of bounds n) × (AreStill code n → ⊥)

  -- how many elements the quotient of the heaps 1 to n has, or that it isn't found
  abbrev pub IsOrder : List ℕ → PartsBounds → ℕ → Option ℕ → Type 0
  IsOrder code bounds n (Some order) = HasOrder code bounds.order n order
  IsOrder code bounds n None = IsUnfound code bounds n

  -- the series ends with the last heap that is asked, or before the first quotient that isn't found
  pub data EndsWith (code : List ℕ) (bounds : PartsBounds) (n : ℕ) : Type 0 where
    AtLast : n ≡ bounds.heaps → EndsWith code bounds n
    Unfound : IsUnfound code bounds (n + 1) → EndsWith code bounds n

  -- The series of a code, which ends well if it has a line.
  pub record HasSeries (code : List ℕ) (bounds : PartsBounds) (text : List ℕ) (succeeds : Bool)
      : Type 0 where
    pub n : ℕ
    pub orders : AreOrders code bounds.order n text
    pub ends : EndsWith code bounds n
    pub well : succeeds ≡ nat_lt 0 n

  -- the word is a code's, and the text is its series
  abbrev pub IsSeriesBy : List ℕ → PartsBounds → List ℕ → Bool → Type 0
  IsSeriesBy word bounds text succeeds = (code : List ℕ) × IsCodeText word code
      × HasSeries code bounds text succeeds

-- the same by the search over proposers
abbrev pub IsSeries : List ℕ → PartsBounds → List ℕ → Bool → Type 0
IsSeries word bounds text succeeds = IsSeriesBy HasAsked word bounds text succeeds
