use Rattle.std.proofs.Common.{ℕ, List, false, take}
use Rattle.std.specs.List.{All}
use Rattle.presented_tables.specs.Elements.{element}
use Rattle.presented_tables.specs.Reached.{StandsAt}
use Rattle.presented_tables.specs.Tested.{Says}
use Rattle.presented_tables.proofs.beside.says_option.Given as goal

abbrev pub invariant-loop-y : goal.invariant-loop-y
invariant-loop-y g l =
    All (λ y. (H : List ℕ) → StandsAt l.p l.e H y → Says l.p (element l.e l.x) H false) (take l.y-index l.reached)
