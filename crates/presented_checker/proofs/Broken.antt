-- Where the rule is broken by what is said of positions, it is broken by each claim of the presentation.
use Rattle.std.proofs.Common.{◌≡◌, ℕ, Bool, List, refl}
use Rattle.misere_theory.specs.Games.{IsPosition}
use Rattle.misere_theory.specs.Labels.{BreaksRule, says_by}
use Rattle.presentations.specs.declared.TheConstants.{LETTERS}
use Rattle.normal_forms.specs.Reductions.{AreConvergent}
use Rattle.presented_text.specs.Said.{PresentedSaid, IsInRanges}
use Rattle.presented_claims.specs.Claims.{claim_of}
use Rattle.presented_forms.proofs.Words.{heap-long}
use Rattle.presented_tables.specs.Tested.{HasWord}
use Rattle.presented_tables.specs.Saying.{AreSaidBy}
use Rattle.presented_checker.specs.Refused.{IsBrokenAt}

pub broken_at : (c : PresentedSaid) → IsInRanges c → AreConvergent LETTERS c.relations → (X : List ℕ)
    → IsPosition (HasWord c) X
    → ((says : List ℕ → Bool) → AreSaidBy c says → BreaksRule c.code says X)
    → IsBrokenAt c c.code X
broken_at c ranges converges X position breaks = record {
  same = refl;
  converges = converges;
  position = position;
  breaks =
      λ forms.
      breaks (says_by (claim_of c forms))
      (record { converges = converges; long = heap-long c ranges; forms = forms; same = λ Y. refl });
}
