-- Where a word leads a class of elements, as normal forms show it. This project's own.
use Rattle.std.specs.Prelude.{◌≡◌, ℕ, ◌≤◌, List, [], slice_index_or}
use Rattle.presentations.specs.declared.TheConstants.{LETTERS}
use Rattle.presentations.specs.Vectors.{plus, only}
use Rattle.presentations.specs.Congruences.{Related}
use Rattle.normal_forms.specs.Forms.{IsNormalForm}
use Rattle.presented_text.specs.Said.{PresentedSaid}
use Rattle.presented_claims.specs.Folds.{at_letter}
use Rattle.presented_claims.specs.Led.{weight_of, AreWholeAt, RunsOn}

-- The word to which a class is led, and for each letter what a period of it becomes there.
pub record Led : Type 0 where
  pub to : List ℕ
  pub turns : List (List ℕ)

-- The word that letter j becomes.
abbrev pub turn_of : Led → ℕ → List ℕ
turn_of l j = slice_index_or l.turns j []

-- Beside the word z the class a becomes `to`; and there a period more of letter j becomes whole periods, no heavier.
pub record TurnsWhole (c : PresentedSaid) (tops folds : List (ℕ × ℕ)) (weights : List ℕ) (l : Led) (j : ℕ) : Type 0 where
  pub turned : Related LETTERS c.relations (plus l.to (only LETTERS j (at_letter folds j).1)) (plus l.to (turn_of l j))
  pub whole : AreWholeAt LETTERS tops l.to (turn_of l j)
  pub light : weight_of weights (turn_of l j) ≤ weight_of weights (only LETTERS j (at_letter folds j).1)

-- The word z leads the class a there, with each letter that runs on in it.
pub record Leads (c : PresentedSaid) (tops folds : List (ℕ × ℕ)) (weights a z : List ℕ) (l : Led) : Type 0 where
  pub to : IsNormalForm LETTERS c.relations (plus a z) l.to
  pub turns : (j : ℕ) → RunsOn folds a j → TurnsWhole c tops folds weights l j
