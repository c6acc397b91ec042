-- The triple of a position as a caller has it. This project's own.
use Rattle.dominance.specs.Triples.{Triple}
use Rattle.label_players.specs.declared.value.WholeValue.{WholeValue}

-- the same numbers
abbrev pub triple_told : WholeValue → Triple
triple_told t = record { odd = t.odd; weight = t.weight; lead = t.lead }
