-- Lines that are told beside what is said.
use Rattle.std.proofs.Common.{◌≡◌, refl, ℕ, Bool, Bor, false, List, Option, Some, None}
use Rattle.std.specs.Prelude.{option_map}
use Rattle.commands.specs.Causes.{notes}
use Rattle.commands.specs.Responses.{RespondsWith, Says}
use Rattle.description_commands.specs.Described.{Describes, form_of}
use Rattle.description_commands.specs.Described.Describes.{ByQuotient, NoQuotient}
use Rattle.given_quotients.specs.declared.giving.Quotient.TheVariants.{Finite, Whole, Presented}
use Rattle.requests.specs.declared.plans.Output.{Output}
use Rattle.requests.specs.declared.plans.Output.TheVariants.{Description, Latex, Json, Relations, Singular, Gap, GapTable, Structure, Presentation}
use Rattle.requests.specs.Requests.{Request}
use Rattle.requests.specs.Requests.Request.{Check, Solve, SolveMany, SolveLines, Series, Show, Tail, Describe, Play, PlayLines, Present, Catalogue, Desk}
use Rattle.requests.specs.Requests.Request.{Explain, Compare, Certify, SolveInfinite, Infinite, ShowInfinite, PlayInfinite, PlayInfiniteLines}
use Rattle.requests.specs.Requests.Request.{Verify, Wins, Value, Apart}

-- what has no text is nothing
pub option_none : (told : Option (Bor (List ℕ)))
    → option_map (λ (line : Bor (List ℕ)). line.now) told ≡ None → told ≡ None
option_none None is = refl
option_none (Some line) is = cc

silent_description : (Are : List ℕ → Type 0) (file : Option (List ℕ)) (output : Output)
    (basis : Bool) (limit : ℕ) (text : List ℕ) (succeeds : Bool) (told : Option (List ℕ))
    → notes (Some (Describe file output basis limit)) ≡ false
    → Describes Are limit (form_of basis) output text succeeds told → told ≡ None
silent_description Are file output basis limit text succeeds told e (NoQuotient checked ill is) = is
silent_description Are file output basis limit text succeeds told e (ByQuotient (Whole c) f h) = h.1
silent_description Are file output basis limit text succeeds told e (ByQuotient (Presented k) f h) = h.1
silent_description Are file Description basis limit text succeeds told e (ByQuotient (Finite c) f h) = h.1
silent_description Are file Latex basis limit text succeeds told e (ByQuotient (Finite c) f h) = h.1
silent_description Are file Json basis limit text succeeds told e (ByQuotient (Finite c) f h) = h.1
silent_description Are file Singular basis limit text succeeds told e (ByQuotient (Finite c) f h) = h.1
silent_description Are file Gap basis limit text succeeds told e (ByQuotient (Finite c) f h) = h.1
silent_description Are file GapTable basis limit text succeeds told e (ByQuotient (Finite c) f h) = h.1
silent_description Are file Structure basis limit text succeeds told e (ByQuotient (Finite c) f h) = h.1
silent_description Are file Presentation basis limit text succeeds told e (ByQuotient (Finite c) f h) = h.1
silent_description Are file Relations basis limit text succeeds told e (ByQuotient (Finite c) f h) = cc

module _ (input : Option (List ℕ)) (before after : Option (List ℕ → Option (List ℕ))) where
  -- what is said of a request that asks for no description has no line beside it
  pub plainly : (request : Request) (text : List ℕ) (succeeds : Bool)
      → Says input before after request text succeeds
      → RespondsWith input before after request text succeeds None
  plainly (Check file limit) text succeeds h = (h, refl)
  plainly (Verify file limit) text succeeds h = (h, refl)
  plainly (Explain file) text succeeds h = (h, refl)
  plainly (Solve code bounds) text succeeds h = (h, refl)
  plainly (SolveMany codes bounds) text succeeds h = (h, refl)
  plainly (SolveLines bounds) text succeeds h = (h, refl)
  plainly (SolveInfinite code heaps presented) text succeeds h = (h, refl)
  plainly (Series code bounds) text succeeds h = (h, refl)
  plainly (Show file limit) text succeeds h = (h, refl)
  plainly (Tail file limit) text succeeds h = (h, refl)
  plainly (Describe file output basis limit) text succeeds h = absurd h
  plainly (Play file position limit) text succeeds h = (h, refl)
  plainly (PlayLines file limit) text succeeds h = (h, refl)
  plainly (Wins file position limit) text succeeds h = (h, refl)
  plainly (Value file position limit) text succeeds h = (h, refl)
  plainly (Apart file first second limit) text succeeds h = (h, refl)
  plainly (Compare first second limit) text succeeds h = (h, refl)
  plainly (Certify file limit) text succeeds h = (h, refl)
  plainly (Present presentation) text succeeds h = (h, refl)
  plainly (Catalogue file task limit) text succeeds h = (h, refl)
  plainly (Desk script) text succeeds h = (h, refl)
  plainly (Infinite file) text succeeds h = (h, refl)
  plainly (ShowInfinite file layout) text succeeds h = (h, refl)
  plainly (PlayInfinite file position) text succeeds h = (h, refl)
  plainly (PlayInfiniteLines file) text succeeds h = (h, refl)

  -- no line stands beside what is said of a request that asks for no relations
  pub silent : (request : Request) (text : List ℕ) (succeeds : Bool) (told : Option (List ℕ))
      → notes (Some request) ≡ false
      → RespondsWith input before after request text succeeds told → told ≡ None
  silent (Check file limit) text succeeds told e h = h.1
  silent (Verify file limit) text succeeds told e h = h.1
  silent (Explain file) text succeeds told e h = h.1
  silent (Solve code bounds) text succeeds told e h = h.1
  silent (SolveMany codes bounds) text succeeds told e h = h.1
  silent (SolveLines bounds) text succeeds told e h = h.1
  silent (SolveInfinite code heaps presented) text succeeds told e h = h.1
  silent (Series code bounds) text succeeds told e h = h.1
  silent (Show file limit) text succeeds told e h = h.1
  silent (Tail file limit) text succeeds told e h = h.1
  silent (Describe file output basis limit) text succeeds told e h =
      silent_description _ file output basis limit text succeeds told e h
  silent (Play file position limit) text succeeds told e h = h.1
  silent (PlayLines file limit) text succeeds told e h = h.1
  silent (Wins file position limit) text succeeds told e h = h.1
  silent (Value file position limit) text succeeds told e h = h.1
  silent (Apart file first second limit) text succeeds told e h = h.1
  silent (Compare first second limit) text succeeds told e h = h.1
  silent (Certify file limit) text succeeds told e h = h.1
  silent (Present presentation) text succeeds told e h = h.1
  silent (Catalogue file task limit) text succeeds told e h = h.1
  silent (Desk script) text succeeds told e h = h.1
  silent (Infinite file) text succeeds told e h = h.1
  silent (ShowInfinite file layout) text succeeds told e h = h.1
  silent (PlayInfinite file position) text succeeds told e h = h.1
  silent (PlayInfiniteLines file) text succeeds told e h = h.1
