-- The entries of a log. This project's own.
use Rattle.std.specs.Prelude.{List, [], ◌∷◌}
use Rattle.streams.specs.declared.chain.Chain.{Chain, Empty, Noted'}

-- the latest first
abbrev pub entries : {T : Type 0} → Chain T → List T
entries Empty = []
entries (Noted' entry _ before) = entry.value ∷ entries before
