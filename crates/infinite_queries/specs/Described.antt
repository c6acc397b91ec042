-- What is told of an infinite quotient or of a presentation that is opened, in a text. This project's own.
use Rattle.std.specs.Prelude.{◌≡◌, ◌⊎◌, ◌≤◌, ℕ, List}
use Rattle.std.specs.declared.option.Option.{Option}
use Rattle.label_descriptions.specs.declared.whole_describing.Output.{Output}
use Rattle.label_descriptions.specs.declared.whole_describing.Output.TheVariants.{Plain, Latex, Json}
use Rattle.octal_code.specs.Text.{code_text}
use Rattle.opened.specs.Texts.{code_of}
use Rattle.opened.specs.declared.text.AcceptedText.{AcceptedText}
use Rattle.opened.specs.declared.text.AcceptedText.TheVariants.{Whole, Presented}
use Rattle.label_descriptions.specs.Described.{presented_text_for}
use Rattle.player.specs.Asked.{IsOpened, IsUnopened}

-- the number of an output: 0 for readers, 1 for LaTeX, 3 for JSON
abbrev pub IsOutput : ℕ → Output → Type 0
IsOutput number Plain = number ≡ 0
IsOutput number Latex = number ≡ 1
IsOutput number Json = number ≡ 3

-- the text describes the presentation
abbrev pub IsTextBy : Output → AcceptedText → List ℕ → Type 0
IsTextBy output (Whole c) text = ⊥
IsTextBy output (Presented k) text = text ≡ presented_text_for output k

-- the same in the output of this number
abbrev pub IsTextFor : ℕ → AcceptedText → List ℕ → Type 0
IsTextFor number s text = (output : Output) × IsOutput number output × IsTextBy output s text

-- a quotient is opened, and the text is what is asked for of it
abbrev pub IsOpenedText : Option AcceptedText → ℕ → List ℕ → Type 0
IsOpenedText opened number text = IsOpened opened (λ s. IsTextFor number s text)

-- it is a text of a whole game, and no presentation
abbrev pub IsWhole : AcceptedText → Type 0
IsWhole (Whole c) = Unit {0}
IsWhole (Presented k) = ⊥

-- why it isn't described: it is a text of a whole game, or memory was refused
abbrev pub IsUndescribed : AcceptedText → ℕ → Type 0
IsUndescribed s status = ((status ≡ 16) × IsWhole s) ⊎ (status ≡ 9)

-- why no text of what is opened is told: there is no such output; or there is one, and it isn't described
abbrev pub IsUntoldOf : ℕ → AcceptedText → ℕ → Type 0
IsUntoldOf number s status =
    ((status ≡ 15) × ((number ≡ 2) ⊎ (4 ≤ number)))
    ⊎ (IsUndescribed s status × ((output : Output) × IsOutput number output))

-- Why no text is told: nothing is opened; or something is, and its text isn't told.
abbrev pub IsOpenedUntold : Option AcceptedText → ℕ → ℕ → Type 0
IsOpenedUntold opened number status =
    IsUnopened opened status ⊎ IsOpened opened (λ s. IsUntoldOf number s status)

-- a quotient is opened, and the text is its code
abbrev pub IsOpenedCode : Option AcceptedText → List ℕ → Type 0
IsOpenedCode opened text = IsOpened opened (λ s. text ≡ code_text (code_of s))
