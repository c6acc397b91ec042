use Rattle.std.proofs.Common.{◌≡◌, ◌-◌, length, take, drop, sym, subst, ◌∙◌, arith}
use Rattle.std.proofs.lemmas.Bool.{iff_false, true≢false}
use Rattle.std.proofs.lemmas.List.{length-drop, take_all}
use Rattle.std.specs.List.{All}
use Rattle.octal_code.specs.Spelling.{IsDigitByte}
use Rattle.octal_code.proofs.code.is_spelling.Goals as goal

pub returns-else-are_digits : goal.returns-else-are_digits
returns-else-are_digits c =
    let whole : take (length c.args.text.now - 2) (drop 2 c.args.text.now)
    ≡ drop 2 c.args.text.now =
    take_all (length c.args.text.now - 2) (drop 2 c.args.text.now)
    (let m = length-drop 2 c.args.text.now in omega arith) in (
      λ t. absurd (true≢false (sym t ∙ c.if-are_digits.false)),
      λ h. absurd
          (iff_false c.are_digits.ensures c.if-are_digits.false
          (subst (All IsDigitByte) (sym whole) h.digits)),
    )
