use Rattle.std.proofs.Common.{ap, subst, sym, ◌∙◌, arith, Ok, refl}
use Rattle.std.proofs.lemmas.Bool.{iff_false}
use Rattle.octal_code.specs.Text.{IsCodeText}
use Rattle.octal_code.proofs.Spelled.{code_read, long_read, read_code, read_long, no_code, code_is_no_fault, fault_is_no_code, same_code, other_fault, too_long_or_no_code}
use Rattle.octal_code.proofs.code.Code.read.Goals as goal

pub returns-then-not-is_spelling-clause-code : goal.returns-then-not-is_spelling-clause-code
returns-then-not-is_spelling-clause-code c =
    λ ds. (
      λ e. absurd (fault_is_no_code e),
      λ h.
          absurd
          (iff_false c.is_spelling.ensures c.if-not-is_spelling.true
          (read_code c.args.text.now ds h).0),
    )

pub returns-then-not-is_spelling-clause-too_long : goal.returns-then-not-is_spelling-clause-too_long
returns-then-not-is_spelling-clause-too_long c = (
  λ e. absurd (other_fault (λ d. too_long_or_no_code (sym d)) e),
  λ h.
      absurd
      (iff_false c.is_spelling.ensures c.if-not-is_spelling.true
      (read_long c.args.text.now h).0),
)

pub returns-then-not-is_spelling-clause-not_a_code :
    goal.returns-then-not-is_spelling-clause-not_a_code
returns-then-not-is_spelling-clause-not_a_code c = (
  λ e. no_code c.args.text.now (iff_false c.is_spelling.ensures c.if-not-is_spelling.true),
  λ h. refl,
)

pub returns-then-text-gt-LONGEST-clause-too_long : goal.returns-then-text-gt-LONGEST-clause-too_long
returns-then-text-gt-LONGEST-clause-too_long c = (
  λ e. long_read c.args.text.now (c.is_spelling.ensures.0 c.if-not-is_spelling.false)
      (omega arith),
  λ h. refl,
)

pub returns-then-text-gt-LONGEST-clause-not_a_code :
    goal.returns-then-text-gt-LONGEST-clause-not_a_code
returns-then-text-gt-LONGEST-clause-not_a_code c = (
  λ e. absurd (other_fault too_long_or_no_code e),
  λ h.
      absurd
      (h.not_long (long_read c.args.text.now (c.is_spelling.ensures.0 c.if-not-is_spelling.false)
      (omega arith))),
)

pub returns-clause-code : goal.returns-clause-code
returns-clause-code c = λ ds. (
  λ e. subst (IsCodeText c.args.text.now) (sym c.from_text.ensures ∙ same_code e)
      (code_read c.args.text.now (c.is_spelling.ensures.0 c.if-not-is_spelling.false)
      (omega arith)),
  λ h. let s = (read_code c.args.text.now ds h).2 in ap Ok (c.from_text.ensures ∙ s),
)

pub returns-clause-not_a_code : goal.returns-clause-not_a_code
returns-clause-not_a_code c = (
  λ e. absurd (code_is_no_fault e),
  λ h.
      absurd
      (h.no_code _ (code_read c.args.text.now (c.is_spelling.ensures.0 c.if-not-is_spelling.false)
      (omega arith))),
)
