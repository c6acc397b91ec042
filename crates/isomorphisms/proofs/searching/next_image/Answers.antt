use Rattle.std.proofs.Common.{◌∙◌, ◌+◌, None, length, sym, arith}
use Rattle.std.proofs.lemmas.List.{get_or_default}
use Rattle.isomorphisms.proofs.searching.next_image.Goals as goal

pub returns-then-known : goal.returns-then-known
returns-then-known g c = c.in_ok-known.ensures.clash c.if-known.true

pub returns-in-Some : goal.returns-in-Some
returns-in-Some g c =
    let n = length c.args.images.now + 1 in
    c.in_ok-known.ensures.map.must n c.in-Some.z c.requires.images_few
    (sym (c.index.ensures
    ∙ get_or_default c.in_ok-known.known.map.items n c.index.result.now None
    (omega (arith, c.in_ok-known.ensures.map.long, c.requires.images_few)))
    ∙ c.in-Some.is)
