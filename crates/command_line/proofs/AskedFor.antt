-- What a command asks for is what the words ask for that name it.
use Rattle.std.proofs.Common.{◌≡◌, ◌≢◌, ◌∙◌, ◌||◌, ap, codes, false, refl, subst, sym, true, Bool, List, Option, Some, None, is_some, if◌then◌else◌}
use Rattle.std.proofs.Common.{IfErr, IfOk, Result, Ok, Err}
use Rattle.std.proofs.lemmas.Slice.Eq.{bytes_eq-Decides}
use Rattle.std.specs.Str.{bytes_eq}
use Rattle.clap.specs.Words.{Row, Text, first_of, subcommand_of}
use Rattle.command_line.specs.Program.{program}
use Rattle.command_line.specs.Requests.{WordRequest, explain_conflicts, explain_request, named_by, plan_of, request_in, word_given, word_in, word_of, word_with}
use Rattle.requests.specs.Requests.Request.{Explain}
use Rattle.command_line.specs.Wanted.{IsAskedBy, IsAskedIn}
use Rattle.command_line.specs.declared.faults.UsageFault.{UsageFault}
use Rattle.command_line.specs.declared.faults.UsageFault.TheVariants.{Memory}
use Rattle.command_line.specs.declared.wanted.Asked.{Asked}
use Rattle.command_line.specs.declared.wanted.Asked.TheVariants.{Plan, Word}

module _ (words : List Text) (found : Option (Text × List Row))
    (is : subcommand_of program words ≡ found)
    (plans : plan_of words ≡ request_in (subcommand_of program words))
    (explains : word_of words ≡ word_in (subcommand_of program words)) where
  by_words : (asked : Asked) → IsAskedIn (subcommand_of program words) asked → IsAskedBy words asked
  by_words (Plan plan) h = (plans ∙ h.0, h.1, h.2)
  by_words (Word word) h = (explains ∙ h.0, plans ∙ h.1)

  pub asked_of : (r : Result Asked UsageFault) → IfOk r (IsAskedIn found)
      → IfOk r (IsAskedBy words)
  asked_of (Ok asked) h =
      by_words asked (subst (λ (f : Option (Text × List Row)). IsAskedIn f asked) (sym is) h)
  asked_of (Err fault) h = tt

  pub nothing_of : (r : Result Asked UsageFault)
      → IfErr r (λ (fault : UsageFault). fault ≢ Memory
      → (request_in found ≡ None) × (word_in found ≡ None))
      → IfErr r (λ (fault : UsageFault). fault ≢ Memory
      → (plan_of words ≡ None) × (word_of words ≡ None))
  nothing_of (Ok asked) h = tt
  nothing_of (Err fault) h = λ other.
      let none = h other in (plans ∙ ap request_in is ∙ none.0, explains ∙ ap word_in is ∙ none.1)

-- ---- a word is explained, and then nothing else is asked for

word_first : (file code position : Option Text) (word : WordRequest)
    → word_with file code position ≡ Some word → (is_some code || is_some position) ≡ true
word_first None (Some code) None word e = refl
word_first None None (Some position) word e = refl
word_first None None None word e = absurd cc
word_first None (Some code) (Some position) word e = refl
word_first (Some file) None None word e = absurd cc
word_first (Some file) (Some code) None word e = refl
word_first (Some file) None (Some position) word e = refl
word_first (Some file) (Some code) (Some position) word e = refl

no_file : (rows : List Row) → explain_conflicts rows ≡ true → explain_request rows ≡ None
no_file rows e =
    ap (λ (b : Bool). if b then None else Some (Explain (named_by (first_of (codes "file") rows)))) e

by_name : (b : Bool) (name : Text) (rows : List Row) (word : WordRequest)
    → bytes_eq name (codes "explain") ≡ b
    → (if b then word_given rows else None) ≡ Some word → request_in (Some (name, rows)) ≡ None
by_name true name rows word is e =
    let same = (bytes_eq-Decides name (codes "explain")).0 is in
    subst (λ (n : Text). request_in (Some (n, rows)) ≡ None) (sym same)
    (no_file rows (word_first (first_of (codes "file") rows) (first_of (codes "code") rows)
    (first_of (codes "position") rows) word e))
by_name false name rows word is e = absurd cc

pub word_alone : (name : Text) (rows : List Row) (word : WordRequest)
    → word_in (Some (name, rows)) ≡ Some word → request_in (Some (name, rows)) ≡ None
word_alone name rows word e = by_name (bytes_eq name (codes "explain")) name rows word refl e

not_true : (b : Bool) → (b ≡ true → ⊥) → b ≡ false
not_true true h = absurd (h refl)
not_true false h = refl

-- a command of another name explains no word
pub not_explain : (name : Text) (rows : List Row) → (name ≡ codes "explain" → ⊥)
    → None ≡ word_in (Some (name, rows))
not_explain name rows h =
    sym (ap (λ (b : Bool). if b then word_given rows else None)
    (not_true (bytes_eq name (codes "explain"))
    (λ e. h ((bytes_eq-Decides name (codes "explain")).0 e))))
