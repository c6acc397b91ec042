-- Words that aren't powers of a letter. This project's own.
use Rattle.std.specs.Prelude.{◌≢◌, ℕ, ◌<◌, List, slice_index}
use Rattle.presentations.specs.declared.TheConstants.{LETTERS}

-- Some other letter is in the word.
abbrev pub HasOther : ℕ → List ℕ → Type 0
HasOther i w = (j : ℕ) × (j < LETTERS) × (j ≢ i) × (0 < slice_index w j)
