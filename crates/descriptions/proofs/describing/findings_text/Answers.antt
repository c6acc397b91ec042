use Rattle.std.proofs.Common.{◌≡◌, ◌∙◌, ◌++◌, ℕ, List, length, ap, subst, arith}
use Rattle.std.specs.String.{string_bytes}
use Rattle.std.proofs.lemmas.Grind.{common_steps}
use Rattle.descriptions.specs.Lines.{tail_line}
use Rattle.descriptions.specs.Described.{AreRows}
use Rattle.descriptions.proofs.Assembled.{assembled}
use Rattle.descriptions.proofs.describing.findings_text.Goals as goal

pub returns : goal.returns
returns c =
    let C = c.args.certified.now in
    let N = c.args.notation in
    let f = c.args.findings.now in
    let n_is : c.len-letters.result ≡ length f.description.elements.items =
    omega (arith, c.len-letters.ensures, f.description.elements.ok.0)
    in
    let tail_is : string_bytes c.in_ok-tail.tail ≡ tail_line N C =
    c.in_ok-tail.ensures ∙ ap (tail_line N) c.cert.ensures.same
    in
    let rows_are : AreRows N C c.len-letters.result f.description.words.items
    (string_bytes c.in_ok-rows.rows) =
    subst
    (λ (w : List (List ℕ)). AreRows N C c.len-letters.result w
    (string_bytes c.in_ok-rows.rows)) c.as_slice-words.ensures.value c.in_ok-rows.ensures
    in
    let text_is : string_bytes c.in_ok-text.text
    ≡ ((string_bytes c.in_ok-front.front ++ string_bytes c.in_ok-lists.lists)
    ++ string_bytes c.in_ok-rows.rows) ++ string_bytes c.in_ok-tail.tail =
    grind (arith, common_steps, c.in_ok-text.ensures.ok)
    in
    assembled N c.args.form C f c.len-letters.result (string_bytes c.in_ok-front.front)
    (string_bytes c.in_ok-lists.lists) (string_bytes c.in_ok-rows.rows)
    (string_bytes c.in_ok-tail.tail) (string_bytes c.in_ok-text.text) c.requires n_is
    c.in_ok-front.ensures c.in_ok-lists.ensures rows_are tail_is text_is
