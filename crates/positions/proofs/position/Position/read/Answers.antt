-- At each way out the clause of each fault is right: it is given, or its condition doesn't hold.
use Rattle.std.proofs.Common.{◌≢◌, codes, [], refl, sym, arith}
use Rattle.std.proofs.lemmas.Bool.{iff_false}
use Rattle.positions.specs.declared.fault.PositionFault.TheVariants.{Text, TooMany, TooLarge}
use Rattle.positions.proofs.Texts.{no_text, is_text, too_many, not_too_many, few, too_large, not_too_large, all_fit, read, more_than, is_memory, ok_is_no_fault, other_fault, text_or_too_many, text_or_too_large, too_many_or_too_large, not_text, not_too_many_fault, not_too_large_fault}
use Rattle.positions.proofs.position.Position.read.Goals as goal

pub returns-then-is_zero-clause-text : goal.returns-then-is_zero-clause-text
returns-then-is_zero-clause-text g c =
    (λ e. absurd (ok_is_no_fault e), λ h. absurd (h [] (c.is_zero.ensures.0 c.if-is_zero.true)))

pub returns-in_default-clause-text : goal.returns-in_default-clause-text
returns-in_default-clause-text g c =
    let other : c.args.text.now ≢ codes "0" = iff_false c.is_zero.ensures c.if-is_zero.false in
    (λ e. no_text c.args.text.now other c.in_default.ensures, λ h. refl)

pub returns-in_default-clause-too_many : goal.returns-in_default-clause-too_many
returns-in_default-clause-too_many g c =
    let other : c.args.text.now ≢ codes "0" = iff_false c.is_zero.ensures c.if-is_zero.false in (
      λ e. absurd (other_fault text_or_too_many e),
      λ h.
          absurd (no_text c.args.text.now other c.in_default.ensures h.sizes h.text),
    )

pub returns-in_default-clause-too_large : goal.returns-in_default-clause-too_large
returns-in_default-clause-too_large g c =
    let other : c.args.text.now ≢ codes "0" = iff_false c.is_zero.ensures c.if-is_zero.false in (
      λ e. absurd (other_fault text_or_too_large e),
      λ h.
          absurd (no_text c.args.text.now other c.in_default.ensures h.sizes h.text),
    )

pub returns-then-survey-gt-MOST_SIZES-clause-text : goal.returns-then-survey-gt-MOST_SIZES-clause-text
returns-then-survey-gt-MOST_SIZES-clause-text g c =
    let other : c.args.text.now ≢ codes "0" = iff_false c.is_zero.ensures c.if-is_zero.false in (
      λ e. absurd (other_fault (λ d. text_or_too_many (sym d)) e),
      λ h.
          absurd (is_text c.args.text.now other c.in-Some.survey c.in-Some.ensures h),
    )

pub returns-then-survey-gt-MOST_SIZES-clause-too_many : goal.returns-then-survey-gt-MOST_SIZES-clause-too_many
returns-then-survey-gt-MOST_SIZES-clause-too_many g c =
    let other : c.args.text.now ≢ codes "0" = iff_false c.is_zero.ensures c.if-is_zero.false in (
      λ e. too_many c.args.text.now other c.in-Some.survey c.in-Some.ensures 64 (omega arith),
      λ h.
          refl,
    )

pub returns-then-survey-gt-MOST_SIZES-clause-too_large : goal.returns-then-survey-gt-MOST_SIZES-clause-too_large
returns-then-survey-gt-MOST_SIZES-clause-too_large g c =
    let other : c.args.text.now ≢ codes "0" = iff_false c.is_zero.ensures c.if-is_zero.false in (
      λ e. absurd (other_fault too_many_or_too_large e),
      λ h.
          absurd (let l = few c.args.text.now other c.in-Some.survey c.in-Some.ensures h in
          omega arith),
    )

pub returns-then-survey-clause-text : goal.returns-then-survey-clause-text
returns-then-survey-clause-text g c =
    let other : c.args.text.now ≢ codes "0" = iff_false c.is_zero.ensures c.if-is_zero.false in (
      λ e. absurd (other_fault (λ d. text_or_too_large (sym d)) e),
      λ h.
          absurd (is_text c.args.text.now other c.in-Some.survey c.in-Some.ensures h),
    )

pub returns-then-survey-clause-too_many : goal.returns-then-survey-clause-too_many
returns-then-survey-clause-too_many g c =
    let other : c.args.text.now ≢ codes "0" = iff_false c.is_zero.ensures c.if-is_zero.false in (
      λ e. absurd (other_fault (λ d. too_many_or_too_large (sym d)) e),
      λ h.
          absurd
          (not_too_many c.args.text.now other c.in-Some.survey c.in-Some.ensures (omega arith)
          h),
    )

pub returns-then-survey-clause-too_large : goal.returns-then-survey-clause-too_large
returns-then-survey-clause-too_large g c =
    let other : c.args.text.now ≢ codes "0" = iff_false c.is_zero.ensures c.if-is_zero.false in (
      λ e. too_large c.args.text.now other c.in-Some.survey c.in-Some.ensures (omega arith)
          c.if-survey.true,
      λ h. refl,
    )

pub of-requires : goal.of-requires
of-requires g c =
    let other : c.args.text.now ≢ codes "0" = iff_false c.is_zero.ensures c.if-is_zero.false in
    all_fit c.args.text.now other c.in-Some.survey c.in-Some.ensures (omega arith) c.if-survey.false

pub returns-in_err-position-clause-text : goal.returns-in_err-position-clause-text
returns-in_err-position-clause-text g c =
    let other : c.args.text.now ≢ codes "0" = iff_false c.is_zero.ensures c.if-is_zero.false in (
      λ e. absurd (not_text (is_memory c.from_residual.result Text c.from_residual.ensures.1 e)),
      λ h. absurd (is_text c.args.text.now other c.in-Some.survey c.in-Some.ensures h),
    )

pub returns-in_err-position-clause-too_many : goal.returns-in_err-position-clause-too_many
returns-in_err-position-clause-too_many g c =
    let other : c.args.text.now ≢ codes "0" = iff_false c.is_zero.ensures c.if-is_zero.false in (
      λ e. absurd
          (not_too_many_fault
          (is_memory c.from_residual.result TooMany c.from_residual.ensures.1 e)),
      λ h. absurd
          (not_too_many c.args.text.now other c.in-Some.survey c.in-Some.ensures (omega arith) h),
    )

pub returns-in_err-position-clause-too_large : goal.returns-in_err-position-clause-too_large
returns-in_err-position-clause-too_large g c =
    let other : c.args.text.now ≢ codes "0" = iff_false c.is_zero.ensures c.if-is_zero.false in (
      λ e. absurd
          (not_too_large_fault
          (is_memory c.from_residual.result TooLarge c.from_residual.ensures.1 e)),
      λ h.
          absurd
          (not_too_large c.args.text.now other c.in-Some.survey c.in-Some.ensures c.if-survey.false
          h),
    )

pub returns-in_err-position-clause-memory : goal.returns-in_err-position-clause-memory
returns-in_err-position-clause-memory g c =
    let other : c.args.text.now ≢ codes "0" = iff_false c.is_zero.ensures c.if-is_zero.false in
    λ e. too_many c.args.text.now other c.in-Some.survey c.in-Some.ensures 8
    (more_than c.in-Some.survey.count c.in-Some.survey.sizes 8
    (λ l. let t = c.in_err-position.ensures.inline l in cc))

pub returns-clause-ok : goal.returns-clause-ok
returns-clause-ok g c =
    let other : c.args.text.now ≢ codes "0" = iff_false c.is_zero.ensures c.if-is_zero.false in
    read c.args.text.now other c.in-Some.survey c.in-Some.ensures (omega arith) c.if-survey.false
    c.in_ok-position.position c.in_ok-position.ensures.same

pub returns-clause-text : goal.returns-clause-text
returns-clause-text g c =
    let other : c.args.text.now ≢ codes "0" = iff_false c.is_zero.ensures c.if-is_zero.false in (
      λ e. absurd (ok_is_no_fault e),
      λ h.
          absurd (is_text c.args.text.now other c.in-Some.survey c.in-Some.ensures h),
    )

pub returns-clause-too_many : goal.returns-clause-too_many
returns-clause-too_many g c =
    let other : c.args.text.now ≢ codes "0" = iff_false c.is_zero.ensures c.if-is_zero.false in (
      λ e. absurd (ok_is_no_fault e),
      λ h.
          absurd
          (not_too_many c.args.text.now other c.in-Some.survey c.in-Some.ensures (omega arith)
          h),
    )

pub returns-clause-too_large : goal.returns-clause-too_large
returns-clause-too_large g c =
    let other : c.args.text.now ≢ codes "0" = iff_false c.is_zero.ensures c.if-is_zero.false in (
      λ e. absurd (ok_is_no_fault e),
      λ h.
          absurd
          (not_too_large c.args.text.now other c.in-Some.survey c.in-Some.ensures c.if-survey.false
          h),
    )
