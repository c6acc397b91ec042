-- How many elements a part has, by the certificate that a search for it came to.
use Rattle.std.proofs.Common.{◌≡◌, ◌∙◌, ap, subst, ℕ, List, Option, Some, None}
use Rattle.misere_theory.specs.Certificates.{Certificate}
use Rattle.requests.specs.declared.plans.PartsBounds.{PartsBounds}
use Rattle.requests.specs.declared.plans.SolveBounds.{SolveBounds}
use Rattle.solve_command.specs.Searches.{Calls, ComesToBy, IsFoundBy, WasGivenUpBy}
use Rattle.solve_command.specs.Series.{HasOrder, IsOrder, IsUnfound, part_of}
use Rattle.solve_command.specs.Series.HasOrder.{Certified}

module _ (calls : Calls) where
  come_to : (code : List ℕ) (sought wanted : SolveBounds) (found came : Option Certificate)
      → sought ≡ wanted → found ≡ came → ComesToBy calls code sought found → ComesToBy calls code wanted came
  come_to code sought wanted found came s f h =
      subst (λ (x : Option Certificate). ComesToBy calls code wanted x) f
      (subst (λ (b : SolveBounds). ComesToBy calls code b found) s h)

  pub of_part : (code : List ℕ) (bounds : PartsBounds) (n order : ℕ) (sought : SolveBounds)
      (found : Option Certificate) (c d : Certificate) → sought ≡ part_of bounds n
      → ComesToBy calls code sought found → found ≡ Some c → d ≡ c → order ≡ d.order
      → HasOrder code bounds.order n order
  of_part code bounds n order sought found c d s h f e o =
      let p : IsFoundBy calls code (part_of bounds n) c =
      come_to code sought (part_of bounds n) found (Some c) s f h in
      Certified c p.asked_for.of_code p.asked_for.of_kind p.asked_for.accepted p.small
      (o ∙ ap (λ (x : Certificate). x.order) e)

  pub none_found : (code : List ℕ) (bounds : PartsBounds) (n : ℕ) (sought : SolveBounds)
      (found : Option Certificate) → sought ≡ part_of bounds n → ComesToBy calls code sought found
      → found ≡ None → WasGivenUpBy calls code (part_of bounds n)
  none_found code bounds n sought found s h f =
      come_to code sought (part_of bounds n) found None s f h

  pub found_of : (code : List ℕ) (bounds : PartsBounds) (n : ℕ) (o : Option ℕ) (order : ℕ)
      → o ≡ Some order → IsOrder calls code bounds n o → HasOrder code bounds.order n order
  found_of code bounds n o order e h = subst (IsOrder calls code bounds n) e h

  pub unfound_of : (code : List ℕ) (bounds : PartsBounds) (n : ℕ) (o : Option ℕ) → o ≡ None
      → IsOrder calls code bounds n o → IsUnfound calls code bounds n
  unfound_of code bounds n o e h = subst (IsOrder calls code bounds n) e h
