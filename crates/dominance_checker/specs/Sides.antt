-- The options of a heap, by their triples.
use Rattle.std.specs.Prelude.{ℕ, List, map}
use Rattle.heap_options.specs.Exact.{heaps_of}
use Rattle.heap_options.specs.Options.{options_of}
use Rattle.heap_options.specs.declared.left.Left.{Left}
use Rattle.dominance.specs.Triples.{Triple, triple_of}
use Rattle.dominance.specs.Finite.{is_listed}
use Rattle.dominance_checker.specs.declared.rank.Rank.{Rank}
use Rattle.dominance_checker.specs.declared.shape.Shape.{Shape}
use Rattle.dominance_checker.specs.declared.side.Side.{Side}
use Rattle.dominance_checker.specs.Ranks.{label_by}

-- The numbers of a triple.
abbrev pub rank_in : Triple → Rank
rank_in u = record { odd = u.odd; weight = u.weight; lead = u.lead }

-- What is left of a heap: its triple, and whether it is listed.
abbrev pub side_by : Shape → List Rank → Left → Side
side_by s ranks left =
    record {
      rank = rank_in (triple_of (label_by s ranks) (heaps_of left));
      listed = is_listed s.start (heaps_of left);
    }

-- The options of the heap n, in their order.
abbrev pub sides_by : List ℕ → Shape → List Rank → ℕ → List Side
sides_by code s ranks n = map (side_by s ranks) (options_of code n)
