use Rattle.std.proofs.Common.{◌+◌, ◌<◌, ◌++◌, [], ◌∷◌, ◌∙◌, ap, ap₂, sym, subst, arith}
use Rattle.octal_code.specs.Text.{digit_byte}
use Rattle.octal_code.proofs.Spelled.{byte_is_ascii}
use Rattle.octal_code.proofs.Written.{text_more}
use Rattle.octal_code.proofs.code.Code.text.Goals as goal

pub loop-j-preserved : goal.loop-j-preserved
loop-j-preserved g c =
    let small : c.digit_char-in-loop-j.result < 128 =
    subst (λ b. b < 128) (sym c.digit_char-in-loop-j.ensures)
    (byte_is_ascii c.digit-in-loop-j.result c.digit-in-loop-j.ensures.below) in
    let some = c.last-2.ensures.some in
    let value = c.last-2.ensures.value in
    c.in_ok-push-3.ensures.bytes
    ∙ ap₂ (λ xs ys. xs ++ ys) c.loop-j.invariant
    (c.in_ok-push-3.ensures.ascii small
    ∙ ap (λ b. b ∷ [])
    (c.digit_char-in-loop-j.ensures ∙ ap digit_byte c.digit-in-loop-j.ensures.value))
    ∙ text_more c.args.self.now c.loop-j.j c.loop-j.auto.j (omega arith)
