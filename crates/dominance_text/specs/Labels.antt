-- The triple that a text gives to each heap. This project's own.
use Rattle.std.specs.Prelude.{ℕ, ◌+◌, ◌-◌, ◌*◌, ◌/◌, ◌%◌, ◌==◌, nat_lt, if◌then◌else◌, ◌∷◌, slice_index}
use Rattle.dominance.specs.Triples.{Triple}
use Rattle.dominance_text.specs.Said.{DominanceSaid}

-- That of a heap up to the end of the first period: its place in the lists.
abbrev pub listed_triple : DominanceSaid → ℕ → Triple
listed_triple c n =
    record {
      odd = slice_index (0 ∷ c.odd) n == 1;
      weight = slice_index (0 ∷ c.weights) n;
      lead = slice_index (0 ∷ c.leads) n;
    }

-- So much more weight, and also more lead, unless there is none.
abbrev pub raised : ℕ → Triple → Triple
raised more u =
    record {
      odd = u.odd;
      weight = u.weight + more;
      lead = if u.lead == 0 then 0 else u.lead + more;
    }

-- That of any heap: from start on they repeat with the period, up to the rise.
abbrev pub label_of : DominanceSaid → ℕ → Triple
label_of c n =
    if nat_lt n c.start then listed_triple c n
    else raised (c.rise * ((n - c.start) / c.period))
    (listed_triple c (c.start + (n - c.start) % c.period))
