-- What is handed out of a search for a presentation. This project's own.
use Rattle.std.specs.Prelude.{ℕ, List}
use Rattle.presented_text.specs.Spelling.{SpellsPresented}
use Rattle.presented_checker.specs.Refused.{Kept, IsRight}

-- A text, and what the check keeps of it.
pub record Found : Type 0 where
  pub text : List ℕ
  pub quotient : Kept

-- The text spells what is kept, and that is right.
pub record IsFound (f : Found) : Type 0 where
  pub spelled : SpellsPresented f.text f.quotient.said
  pub right : IsRight f.quotient
