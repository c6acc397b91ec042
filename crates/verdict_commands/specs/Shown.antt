-- How an infinite quotient is shown. This project's own.
use Rattle.std.specs.Prelude.{◌≡◌, ℕ, Bool, true, false, List, codes}
use Rattle.requests.specs.declared.plans.Layout.{Layout}
use Rattle.requests.specs.declared.plans.Layout.TheVariants as layout
use Rattle.label_descriptions.specs.declared.whole_describing.Output.{Output}
use Rattle.label_descriptions.specs.declared.whole_describing.Output.TheVariants.{Plain, Latex, Json}
use Rattle.label_descriptions.specs.Whole.{IsWholeText}
use Rattle.label_descriptions.specs.Described.{presented_text_for}
use Rattle.given_quotients.specs.Says.{SaysGiven}
use Rattle.given_quotients.specs.declared.giving.Quotient.{Quotient}
use Rattle.given_quotients.specs.declared.giving.Quotient.TheVariants.{Finite, Whole, Presented}
use Rattle.verdict_commands.specs.Checks.{Hides, Shows}
use Rattle.verdict_texts.specs.Lines.{no_line}

-- for whom the text is
abbrev pub output_for : Layout → Output
output_for layout.Lines = Plain
output_for layout.Latex = Latex
output_for layout.Json = Json

-- All that a text says of what it shows. A certificate shows nothing here.
abbrev pub ShowsAs : Layout → Quotient → List ℕ → Bool → Type 0
ShowsAs layout (Finite c) text succeeds = (text ≡ no_line 1 (codes "Text")) × (succeeds ≡ false)
ShowsAs layout (Whole c) text succeeds = IsWholeText (output_for layout) c text × (succeeds ≡ true)
ShowsAs layout (Presented k) text succeeds =
    (text ≡ presented_text_for (output_for layout) k) × (succeeds ≡ true)

-- all of what such bytes show, or the text of a true no
abbrev pub ShowsInfinite : (List ℕ → Type 0) → Layout → List ℕ → Bool → Type 0
ShowsInfinite Are layout text succeeds = SaysGiven (ShowsAs layout) (Shows Are) (Hides Are) text succeeds
