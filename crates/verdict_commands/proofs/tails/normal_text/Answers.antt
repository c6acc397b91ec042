use Rattle.std.proofs.Common.{◌≡◌, ◌∙◌, ◌++◌, ℕ, List, ap, codes, decimal, subst}
use Rattle.std.specs.String.{string_bytes}
use Rattle.octal_code.specs.Text.{code_text}
use Rattle.verdict_commands.proofs.Joins.{joined_twice}
use Rattle.verdict_commands.proofs.tails.normal_text.Goals as goal

pub returns : goal.returns
returns c =
    let above = decimal c.args.tail.above in
    let outside = decimal c.args.tail.outside in
    let code : string_bytes c.in_ok-code.code ≡ code_text c.args.cert.now.code =
    c.in_ok-code.ensures ∙ ap code_text c.code.ensures in
    subst (λ (a : List ℕ). string_bytes c.in_ok-text.text
    ≡ codes "normal "
    ++ (((((a ++ codes " above heap ") ++ above) ++ codes " outside ") ++ outside) ++ codes "\n"))
    code
    (c.in_ok-text.ensures.ok
    ∙ ap (λ (t : List ℕ). codes "normal " ++ t)
    (joined_twice (string_bytes c.in_ok-code.code) (codes " above heap ") above (codes " outside ")
    outside (codes "\n")))
