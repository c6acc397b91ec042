use Rattle.std.proofs.Common.{◌≡◌, ◌∙◌, ◌≤◌, ap, subst, sym}
use Rattle.compact_certificates.specs.Rows.{firsts_of}
use Rattle.catalogue_command.proofs.counting.heap_elements.Goals as goal

pub returns : goal.returns
returns c =
    let C = c.args.certified.now in
    let a = c.cert.ensures.accepted in
    let law = c.accepted_certificates_follow.ensures in
    let count : c.first_keys.result ≡ firsts_of C.words =
    c.first_keys.ensures.value ∙ ap firsts_of (c.words.ensures ∙ ap (λ x. x.words) c.cert.ensures.same)
    in
    λ e pos. (
      λ le. law.firsts C e a pos (subst (λ n. e ≤ n) count le),
      λ p. subst (λ n. e ≤ n) (sym count) (subst (λ x. x ≤ firsts_of C.words) p.2 (law.heaps C p.0 a)),
    )
