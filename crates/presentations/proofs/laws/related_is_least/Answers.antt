use Rattle.std.proofs.Common.{ℕ, List}
use Rattle.std.specs.Prelude.{Contains}
use Rattle.presentations.specs.Congruences.{IsCongruence, Related}
use Rattle.presentations.specs.Congruences.Related.{Given, Same, Turned, Chained, Beside}
use Rattle.presentations.proofs.laws.related_is_least.Goals as goal

least : (n : ℕ) (pairs : List (List ℕ × List ℕ)) (R : List ℕ → List ℕ → Type 0) → IsCongruence n R
    → ((r : List ℕ × List ℕ) → Contains pairs r → R r.0 r.1) → (u v : List ℕ) → Related n pairs u v
    → R u v
least n pairs R is holds u v (Given r at) = holds r at
least n pairs R is holds u v (Same w len) = is.same w len
least n pairs R is holds u v (Turned w x r) = is.turned w x (least n pairs R is holds w x r)
least n pairs R is holds u v (Chained w x y r s) =
    is.chained w x y (least n pairs R is holds w x r) (least n pairs R is holds x y s)
least n pairs R is holds u v (Beside x y w len r) =
    is.beside x y w len (least n pairs R is holds x y r)

pub returns-clause-congruence : goal.returns-clause-congruence
returns-clause-congruence g c =
    λ n pairs. record { same = Same; turned = Turned; chained = Chained; beside = Beside }

pub returns-clause-holds : goal.returns-clause-holds
returns-clause-holds g c = λ n pairs. Given

pub returns-clause-least : goal.returns-clause-least
returns-clause-least g c = λ n pairs. least n pairs _
