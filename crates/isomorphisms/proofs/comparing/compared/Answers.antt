use Rattle.std.proofs.Common.{◌∙◌, ℕ, List, ap}
use Rattle.std.specs.Prelude.{slice_index}
use Rattle.isomorphisms.proofs.comparing.compared.Goals as goal

pub searched-requires-clause-colours : goal.searched-requires-clause-colours
searched-requires-clause-colours g c = λ x l.
    ap (λ (xs : List ℕ). slice_index xs x) c.as_slice-3.ensures.value
    ∙ c.in_ok-first.ensures.values x l

pub searched-requires-clause-others : goal.searched-requires-clause-others
searched-requires-clause-others g c = λ y l.
    ap (λ (xs : List ℕ). slice_index xs y) c.as_slice-4.ensures.value
    ∙ c.in_ok-second.ensures.values y l
