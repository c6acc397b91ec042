-- When a presentation is the misère quotient of its heaps. Plambeck and Siegel.
use Rattle.std.specs.Prelude.{◌≡◌, true}
use Rattle.misere_theory.specs.Parts.{IsPart}
use Rattle.misere_theory.specs.Labels.{RepresentsBy}
use Rattle.presentations.specs.declared.TheConstants.{LETTERS}
use Rattle.normal_forms.specs.Reductions.{AreConvergent}
use Rattle.normal_forms.specs.Forms.{NormalForms}
use Rattle.presented_text.specs.Said.{PresentedSaid}
use Rattle.presented_claims.specs.Claims.{has_word, IsElement, claim_of}

-- No option leaves the heaps; the relations reduce each word to one normal form, in whatever order; and by these
-- normal forms outcomes are predicted, and two positions are indistinguishable exactly if they have the same one. Each
-- element is a position's.
pub record Presents (c : PresentedSaid) : Type 0 where
  pub part : IsPart (λ n. has_word c n ≡ true) c.code
  pub converges : AreConvergent LETTERS c.relations
  pub quotient : (forms : NormalForms LETTERS c.relations)
      → RepresentsBy (IsElement c) (λ n. has_word c n ≡ true) c.code (claim_of c forms)
