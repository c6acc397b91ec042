use Rattle.std.proofs.Common.{◌≡◌, ◌++◌, append_assoc, arith, codes, refl}
use Rattle.std.specs.String.{string_bytes}
use Rattle.std.proofs.lemmas.Grind.{common_steps}
use Rattle.descriptions.proofs.Polynomials.{gap-text, singular-text}
use Rattle.descriptions.proofs.systems.system_text.Goals as goal

pub returns-in-Singular : goal.returns-in-Singular
returns-in-Singular c =
    let t = string_bytes c.in_ok-title.title in
    let v = string_bytes c.in_ok-variables.variables in
    let p = string_bytes c.in_ok-polynomials.polynomials in
    let text_is : string_bytes c.in_ok-text-in-Singular.text
    ≡ codes "// " ++ t ++ codes ": vdim(std(I))\nring R = 0,(" ++ v
    ++ codes "),dp;\nideal I =\n  " ++ p ++ codes ";\n" =
    grind (arith, common_steps, c.in_ok-text-in-Singular.ensures.ok)
    in
    rw (c.in-Singular.is) (singular-text c.args.cert.now c.args.letters c.args.relations.now t v p
    (string_bytes c.in_ok-text-in-Singular.text) c.in_ok-title.ensures c.in_ok-variables.ensures
    c.in_ok-polynomials.ensures text_is)

pub returns : goal.returns
returns c =
    let t = string_bytes c.in_ok-title.title in
    let v = string_bytes c.in_ok-variables.variables in
    let p = string_bytes c.in_ok-polynomials.polynomials in
    let l = string_bytes c.in_ok-letters-in-Gap.letters in
    let text_is : string_bytes c.in_ok-text-in-Gap.text
    ≡ codes "# " ++ t ++ codes ": ReducedGroebnerBasis(I, O)\n" ++ l ++ codes "I := [\n  " ++ p
    ++ codes "];;\nO := MonomialGrevlexOrdering(" ++ v ++ codes ");;\n" =
    rw (c.in_ok-text-in-Gap.ensures.ok) (simp append_assoc refl)
    in
    rw (c.in-Gap.is) (gap-text c.args.cert.now c.args.letters c.args.relations.now t v p l
    (string_bytes c.in_ok-text-in-Gap.text) c.in_ok-title.ensures c.in_ok-variables.ensures
    c.in_ok-polynomials.ensures c.in_ok-letters-in-Gap.ensures text_is)
