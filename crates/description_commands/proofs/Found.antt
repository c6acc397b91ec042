-- What is said, from what was found.
use Rattle.std.proofs.Common.{ℕ, Bool, List, Option, Result, Ok, Err, Vec, subst, sym}
use Rattle.given_quotients.specs.Given.{FindsQuotient, Refuses}
use Rattle.given_quotients.specs.declared.giving.Quotient.{Quotient}
use Rattle.relations.specs.declared.finding.Form.{Form}
use Rattle.requests.specs.declared.plans.Output.{Output}
use Rattle.description_commands.specs.Described.{Describes, DescribesFoundBy, HasMet}
use Rattle.description_commands.specs.Described.Describes.{ByQuotient, NoQuotient}

pub describes_found : {A : Type 0} (Are : List ℕ → Type 0) (limit : ℕ) (form : Form) (output : Output)
    (q : Result Quotient (Vec ℕ A)) (text : List ℕ) (succeeds : Bool) (told : Option (List ℕ))
    → FindsQuotient Are limit q → DescribesFoundBy HasMet q form output text succeeds told
    → Describes Are limit form output text succeeds told
describes_found Are limit form output (Ok q) text succeeds told f h = ByQuotient q f h
describes_found Are limit form output (Err said) text succeeds told f h =
    NoQuotient (subst (λ (t : List ℕ). Refuses Are limit t) (sym h.0) f) h.1 h.2
