-- What a heap does beside an element. This project's own.
use Rattle.std.specs.Prelude.{ℕ, ◌⊎◌, true, false, List, [], ◌∷◌}
use Rattle.presented_text.specs.Said.{PresentedSaid}
use Rattle.presented_tables.specs.Tested.{Says, SomeSays, NoneSays}
use Rattle.presented_tables.specs.declared.beside.Beside.{Beside}
use Rattle.presented_tables.specs.declared.beside.Beside.TheVariants.{Bad, Good, Both}

-- Neither the heap beside the element nor an option of it is in the portion; one of them is, alone; or both are.
abbrev pub IsBeside : PresentedSaid → List ℕ → ℕ → Beside → Type 0
IsBeside c x n Bad = Says c x (n ∷ []) false × NoneSays c x n
IsBeside c x n Good =
    (Says c x (n ∷ []) true × NoneSays c x n) ⊎ (Says c x (n ∷ []) false × SomeSays c x n)
IsBeside c x n Both = Says c x (n ∷ []) true × SomeSays c x n
