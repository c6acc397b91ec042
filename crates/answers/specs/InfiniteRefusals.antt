-- The numbers and names of refusals, and what they say.
use Rattle.std.specs.Prelude.{ℕ, List, codes}
use Rattle.answers.specs.InfiniteAnswers.{Why, Text, Law, Outcome, Limit, Memory, Part, Undecided, Finite}
use Rattle.answers.specs.declared.infinite_refusal.InfiniteRefusal.{InfiniteRefusal}
use Rattle.answers.specs.declared.infinite_refusal.InfiniteRefusal.TheVariants as no

abbrev pub refusal_number : {A : Type 0} → InfiniteRefusal A → ℕ
refusal_number no.Text = 1
refusal_number no.Law = 2
refusal_number (no.Outcome code position) = 7
refusal_number no.Limit = 8
refusal_number no.Memory = 9
refusal_number (no.Part n) = 31
refusal_number no.Undecided = 33
refusal_number no.Finite = 34

abbrev pub refusal_name : {A : Type 0} → InfiniteRefusal A → List ℕ
refusal_name no.Text = codes "Text"
refusal_name no.Law = codes "Law"
refusal_name (no.Outcome code position) = codes "Outcome"
refusal_name no.Limit = codes "Limit"
refusal_name no.Memory = codes "Memory"
refusal_name (no.Part n) = codes "Part"
refusal_name no.Undecided = codes "Undecided"
refusal_name no.Finite = codes "Finite"

-- what the refusal says
abbrev pub refused : {A : Type 0} → InfiniteRefusal A → Why
refused no.Text = Text
refused no.Law = Law
refused (no.Outcome code X) = Outcome code X
refused no.Limit = Limit
refused no.Memory = Memory
refused (no.Part n) = Part n
refused no.Undecided = Undecided
refused no.Finite = Finite
