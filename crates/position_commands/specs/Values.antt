-- The element of a position. This project's own.
use Rattle.std.specs.Prelude.{◌≡◌, ℕ, Bool, true, false, List}
use Rattle.misere_theory.specs.Certificates.{Certificate, claim_of}
use Rattle.misere_theory.specs.Quotients.{value}
use Rattle.positions.specs.Outcomes.{HasOutcome}
use Rattle.positions.specs.declared.outcome.Outcome.{Outcome}
use Rattle.answers.specs.Spelled.{AreSpelled}
use Rattle.dominance.specs.Triples.{triple_of}
use Rattle.dominance_text.specs.Said.{DominanceSaid}
use Rattle.dominance_text.specs.Labels.{label_of}
use Rattle.label_players.specs.WholeTold.{IsHeavy}
use Rattle.presented_checker.specs.Refused.{Kept}
use Rattle.label_players.specs.Forms.{IsFormOf}
use Rattle.label_players.specs.Plays.{SpeaksOf}
use Rattle.position_commands.specs.PlayLines.{beyond_line}
use Rattle.position_commands.specs.Lines.{form_line, heavy_line, triple_line, value_line}

-- the text has the element of the position X, the outcome of X, and the position that the keys of the
-- element spell
abbrev pub TellsValue : Certificate → List ℕ → List ℕ → Type 0
TellsValue c X text =
    (outcome : Outcome) × (sizes : List ℕ) × HasOutcome c.code X outcome
    × AreSpelled c (value (claim_of c) X) sizes
    × (text ≡ value_line (value (claim_of c) X) outcome sizes)

-- In a whole game: the text has the triple of the position X and the outcome of X. Or X is heavy, and the
-- text says so.
pub data TellsWholeValue (c : DominanceSaid) (X text : List ℕ) (succeeds : Bool) : Type 0 where
  Light : (outcome : Outcome) → HasOutcome c.code X outcome
      → text ≡ triple_line (triple_of (label_of c) X) outcome → succeeds ≡ true
      → TellsWholeValue c X text succeeds
  Heavy : IsHeavy c X → text ≡ heavy_line → succeeds ≡ false → TellsWholeValue c X text succeeds

-- By a presentation: the text has the normal form of the position X and the outcome of X. Or the presentation doesn't speak
-- of X, and the text says so.
pub data TellsForm (k : Kept) (X text : List ℕ) (succeeds : Bool) : Type 0 where
  Form : (w : List ℕ) (outcome : Outcome) → IsFormOf k.said X w → HasOutcome k.said.code X outcome
      → text ≡ form_line w outcome → succeeds ≡ true → TellsForm k X text succeeds
  Beyond : (SpeaksOf k X → ⊥) → text ≡ beyond_line → succeeds ≡ false → TellsForm k X text succeeds
