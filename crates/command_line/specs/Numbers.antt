-- The numbers that options take: their names, ranges and defaults. This project's own.
use Rattle.std.specs.Prelude.{◌≤◌, ◌&&◌, ℕ, List, Option, Some, None, codes, decimal, nat_le}
use Rattle.std.specs.Prelude.{if◌then◌else◌}
use Rattle.std.specs.Str.{bytes_eq}
use Rattle.std.specs.Str.Parse.{digits_value}
use Rattle.clap.specs.Words.{Row, Text, first_of}
use Rattle.misere_theory.specs.declared.TheConstants.{LARGEST_ORDER, LARGEST_FIRST_ORDER, LARGEST_SECOND_ORDER, LARGEST_PART}
use Rattle.command_line.specs.declared.numbers.Bounds.{Bounds}
use Rattle.command_line.specs.declared.numbers.Quantity.{Quantity}
use Rattle.command_line.specs.declared.numbers.Quantity.TheVariants.{Limit, Rounds, Heaps, Order, Part, DeepOrder, Last, PartOrder, Furthest, SeriesLast}
use Rattle.requests.specs.declared.ranges.TheConstants.{DEFAULT_HEAPS, DEFAULT_LIMIT, DEFAULT_ORDER, DEFAULT_ROUNDS, DEFAULT_SERIES, FEWEST_HEAPS, LARGEST_LIMIT, LEAST_ORDER, MOST_HEAPS, MOST_ROUNDS}

-- the range of each number, and what it is where none is given
abbrev pub bounds_of : Quantity → Bounds
bounds_of Limit = record { least = 1; most = LARGEST_LIMIT; default = DEFAULT_LIMIT }
bounds_of Rounds = record { least = 1; most = MOST_ROUNDS; default = DEFAULT_ROUNDS }
bounds_of Heaps = record { least = FEWEST_HEAPS; most = MOST_HEAPS; default = DEFAULT_HEAPS }
bounds_of Order = record { least = LEAST_ORDER; most = LARGEST_FIRST_ORDER; default = DEFAULT_ORDER }
bounds_of Part = record { least = 0; most = LARGEST_PART; default = 0 }
bounds_of DeepOrder = record { least = LEAST_ORDER; most = LARGEST_ORDER; default = LARGEST_FIRST_ORDER }
bounds_of Last = record { least = 1; most = LARGEST_PART; default = LARGEST_PART }
bounds_of PartOrder = record { least = LEAST_ORDER; most = LARGEST_ORDER; default = LARGEST_SECOND_ORDER }
bounds_of Furthest = record { least = LEAST_ORDER; most = LARGEST_ORDER; default = LARGEST_SECOND_ORDER }
bounds_of SeriesLast = record { least = 1; most = LARGEST_PART; default = DEFAULT_SERIES }

-- the number lies in its range
abbrev pub IsWithin : Quantity → ℕ → Type 0
IsWithin quantity n = ((bounds_of quantity).least ≤ n) × (n ≤ (bounds_of quantity).most)

-- the name of its option
abbrev pub name_of : Quantity → Text
name_of Limit = codes "limit"
name_of Rounds = codes "rounds"
name_of Heaps = codes "heaps"
name_of Order = codes "order"
name_of Part = codes "heaps"
name_of DeepOrder = codes "order"
name_of Last = codes "partial"
name_of PartOrder = codes "order"
name_of Furthest = codes "furthest"
name_of SeriesLast = codes "heaps"

-- the number that a text spells in decimal without leading zeros, where it lies between the bounds
unfoldable pub number_within : Bounds → Text → Option ℕ
number_within bounds text =
    let n = digits_value 10 text in
    if bytes_eq text (decimal n) && (nat_le bounds.least n && nat_le n bounds.most) then Some n
    else None

-- the number given, or the default
abbrev pub number_in : Bounds → Option Text → Option ℕ
number_in bounds None = Some bounds.default
number_in bounds (Some text) = number_within bounds text

-- the number that a command's arguments give
abbrev pub number_of : Quantity → List Row → Option ℕ
number_of quantity rows = number_in (bounds_of quantity) (first_of (name_of quantity) rows)
