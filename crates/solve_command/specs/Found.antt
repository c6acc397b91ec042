-- What a search for an infinite quotient says. This project's own.
use Rattle.std.specs.Prelude.{◌≡◌, ◌≤◌, ℕ, Bool, true, false, List, ◌++◌, None, codes, decimal}
use Rattle.presented_text.specs.Spelling.{SpellsPresented}
use Rattle.presented_checker.specs.Refused.{Kept, IsRight}
use Rattle.dominance_finder.specs.Whole.{IsWholeOf}
use Rattle.infinite_finder.specs.declared.finding.Unfound.{Unfound}
use Rattle.infinite_finder.specs.declared.finding.Unfound.TheVariants.{Finite, Shapes, Work, Refused}

-- the line that says why none was found
abbrev pub reason_line : Unfound → List ℕ
reason_line (Finite heaps) =
    codes "gave up: each part to heap " ++ decimal heaps
    ++ codes " seems to have a finite quotient\n"
reason_line (Shapes heap) =
    codes "gave up: to heap " ++ decimal heap ++ codes " no shape that was tried is right\n"
reason_line (Work heap) =
    codes "gave up: to heap " ++ decimal heap ++ codes " the work that is allowed was done\n"
reason_line Refused = codes "gave up: what was found was refused by the check\n"

-- The text is that of a presentation of the code: it is the misère quotient of its heaps, and infinite. They are those of
-- a list, which goes no further than was to be looked at. Or it says why none was found, and nothing is claimed.
pub data FindsPart (code : List ℕ) (heaps : ℕ) : List ℕ → Bool → Type 0 where
  Presented : {text : List ℕ} (k : Kept) → SpellsPresented text k.said → IsRight k → k.order ≡ None
      → k.said.code ≡ code → k.said.period ≡ 0 → k.said.heaps ≤ heaps → FindsPart code heaps text true
  GaveUp : {text : List ℕ} (why : Unfound) → text ≡ reason_line why → FindsPart code heaps text false

-- The text is that of the whole game of the code, and what it says of each position is right; or else it is what is found of
-- a part.
pub data Finds (code : List ℕ) (heaps : ℕ) : List ℕ → Bool → Type 0 where
  FoundWhole : {text : List ℕ} → IsWholeOf code text → Finds code heaps text true
  FoundPart : {text : List ℕ} {succeeds : Bool} → FindsPart code heaps text succeeds
      → Finds code heaps text succeeds

-- what is found of a code; presented, if that is asked for
abbrev pub FindsAsked : List ℕ → ℕ → Bool → List ℕ → Bool → Type 0
FindsAsked code heaps true text succeeds = FindsPart code heaps text succeeds
FindsAsked code heaps false text succeeds = Finds code heaps text succeeds
