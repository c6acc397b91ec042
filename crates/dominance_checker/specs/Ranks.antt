-- What the numbers of a claim say: the triple of each heap.
use Rattle.std.specs.Prelude.{ℕ, ◌+◌, ◌-◌, ◌*◌, ◌/◌, ◌%◌, nat_lt, ◌==◌, false, if◌then◌else◌, List, slice_index_or}
use Rattle.dominance.specs.Triples.{Triple}
use Rattle.dominance_checker.specs.declared.rank.Rank.{Rank}
use Rattle.dominance_checker.specs.declared.shape.Shape.{Shape}

-- The triple that the numbers are.
abbrev pub triple_in : Rank → Triple
triple_in r = record { odd = r.odd; weight = r.weight; lead = r.lead }

-- Number n of the list, and 0 past its end.
abbrev pub rank_at : List Rank → ℕ → Rank
rank_at ranks n = slice_index_or ranks n (record { odd = false; weight = 0; lead = 0 })

-- So much more weight, and also more lead, unless there is none.
abbrev pub raised_by : ℕ → Triple → Triple
raised_by r u = record { odd = u.odd; weight = u.weight + r; lead = if u.lead == 0 then 0 else u.lead + r }

-- The triple of the heap n: from start on they repeat with the period, up to the rise.
abbrev pub label_by : Shape → List Rank → ℕ → Triple
label_by s ranks n =
    if nat_lt n s.start then triple_in (rank_at ranks n)
    else raised_by (s.rise * ((n - s.start) / s.period))
    (triple_in (rank_at ranks (s.start + (n - s.start) % s.period)))
