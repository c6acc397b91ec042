-- What a search over proposers came to.
use Rattle.std.proofs.Common.{◌≡◌, ◌≤◌, ap, subst, arith, ℕ, List, length, map, Result, Ok}
use Rattle.std.proofs.lemmas.List.{length-map}
use Rattle.misere_theory.specs.Certificates.{Certificate}
use Rattle.quotient_finder.specs.Histories.{Events}
use Rattle.quotient_finder.specs.Rounds.{HasSearched}
use Rattle.quotient_finder.specs.declared.gave_up.GaveUp.{GaveUp}
use Rattle.requests.specs.declared.plans.SolveBounds.{SolveBounds}
use Rattle.solve_command.specs.Searches.{Calls, IsSearchedBy}
use Rattle.solve_command.specs.Solved.{HasAsked}

-- What a search over these proposers came to.
pub asked : {B : Type 0} (h : B → Events) (code : List ℕ) (kind limit rounds : ℕ) (olds : List B)
    (news : List Events) (came : Result Certificate GaveUp)
    → HasSearched code kind limit rounds (map h olds) news came
    → HasAsked code kind (length olds) limit rounds came
asked h code kind limit rounds olds news came s =
    record { olds = map h olds; news = news; count = length-map olds h; searched = s }

-- What a search came to that found a certificate.
pub came_to : (calls : Calls) (code : List ℕ) (bounds : SolveBounds) (came : Result Certificate GaveUp)
    (c : Certificate) → IsSearchedBy calls code bounds came → came ≡ Ok c
    → IsSearchedBy calls code bounds (Ok c)
came_to calls code bounds came c s same =
    let P : Result Certificate GaveUp → Type 0 = λ x. IsSearchedBy calls code bounds x in subst P same s

pub within : (c d : Certificate) (n m : ℕ) → d ≡ c → n ≡ d.order → n ≤ m → c.order ≤ m
within c d n m e f h = let o : d.order ≡ c.order = ap (λ (x : Certificate). x.order) e in
    omega arith
