-- The line of each reply. This project's own.
use Rattle.std.specs.Prelude.{◌≡◌, ℕ, List, [], ◌∷◌, ◌++◌, codes, decimal}
use Rattle.positions.specs.declared.outcome.Outcome.{Outcome}
use Rattle.positions.specs.declared.outcome.Outcome.TheVariants.{P, N}
use Rattle.position_commands.specs.PlayLines.{answer_line}
use Rattle.verdict_texts.specs.Lines.{first_line}
use Rattle.desk.specs.Machine.{Reply}
use Rattle.desk.specs.Machine.Reply.{Opened, Going, VerdictIs, Dropped, OutcomeIs, AnswerIs, Full, NoJob, NotCertified, Beyond, NoMemory}

abbrev pub opened_line : ℕ → List ℕ
opened_line number = codes "opened " ++ decimal number ++ codes "\n"

abbrev pub outcome_line : Outcome → List ℕ
outcome_line P = codes "P\n"
outcome_line N = codes "N\n"

-- The text is the line of the reply. A job that has ended is told by the first line of its
-- verdict's text, want of memory among them; want of memory for a new job has no line.
abbrev pub IsLineOf : Reply → List ℕ → Type 0
IsLineOf (Opened number) text = text ≡ opened_line number
IsLineOf Going text = text ≡ codes "going\n"
IsLineOf (VerdictIs answer) text = text ≡ first_line answer
IsLineOf Dropped text = text ≡ codes "dropped\n"
IsLineOf (OutcomeIs outcome) text = text ≡ outcome_line outcome
IsLineOf (AnswerIs answer) text = text ≡ answer_line answer
IsLineOf Full text = text ≡ codes "refused 20 Full\n"
IsLineOf NoJob text = text ≡ codes "refused 21 NoJob\n"
IsLineOf NotCertified text = text ≡ codes "refused 22 NotCertified\n"
IsLineOf Beyond text = text ≡ codes "refused 23 Beyond\n"
IsLineOf NoMemory text = ⊥

-- the lines of the replies, one behind the other
abbrev pub AreLinesOf : List Reply → List ℕ → Type 0
AreLinesOf [] text = text ≡ []
AreLinesOf (reply ∷ replies) text = (line rest : List ℕ) × IsLineOf reply line
    × AreLinesOf replies rest × (text ≡ line ++ rest)
