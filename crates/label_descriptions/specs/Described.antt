-- The text of a presentation. This project's own.
use Rattle.std.specs.Prelude.{ℕ, List, Option}
use Rattle.presented_text.specs.Said.{PresentedSaid}
use Rattle.presented_checker.specs.Refused.{Kept}
use Rattle.label_descriptions.specs.declared.whole_describing.Output.{Output}
use Rattle.label_descriptions.specs.declared.whole_describing.Output.TheVariants.{Plain, Latex, Json}
use Rattle.label_descriptions.specs.declared.lines.Style.TheVariants as style
use Rattle.label_descriptions.specs.Lines.{lines_text}
use Rattle.label_descriptions.specs.Json.{json_text}

-- the text of what is said and of the order, in lines, for LaTeX or as JSON
abbrev pub text_of : Output → PresentedSaid → Option ℕ → List ℕ
text_of Plain c order = lines_text style.Plain c order
text_of Latex c order = lines_text style.Latex c order
text_of Json c order = json_text c order

-- the text of a presentation that is kept
abbrev pub presented_text_for : Output → Kept → List ℕ
presented_text_for output k = text_of output k.said k.order
