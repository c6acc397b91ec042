-- Sizes are heaps.
use Rattle.std.proofs.Common.{ℕ, List, All}
use Rattle.std.proofs.lemmas.List.Elements.{recursion_from_All}
use Rattle.misere_theory.specs.Games.{IsHeap, IsPosition}
use Rattle.positions.specs.Positions.{IsSize}

pub sizes_are_heaps : (X : List ℕ) → All IsSize X → IsPosition IsHeap X
sizes_are_heaps X all = recursion_from_All IsHeap X (λ i d l. (all i d l).0)
