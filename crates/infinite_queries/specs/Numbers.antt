-- The numbers of refusals of whole games and presentations. This project's own.
use Rattle.std.specs.Prelude.{ℕ}
use Rattle.answers.specs.InfiniteAnswers.{Why, Text, Law, Outcome, Limit, Memory, Part, Undecided, Finite}

-- the number of a refusal
abbrev pub status_of : Why → ℕ
status_of Text = 1
status_of Law = 2
status_of (Outcome code X) = 7
status_of Limit = 8
status_of Memory = 9
status_of (Part n) = 31
status_of Undecided = 33
status_of Finite = 34
