use Rattle.std.proofs.Common.{◌≡◌, length, refl, arith}
use Rattle.descriptions.proofs.describing.ideal_text.Goals as goal

pub returns : goal.returns
returns c =
    let d = c.in_ok-description.description in
    let n_is : c.len-letters.result ≡ length d.elements.items =
    omega (arith, c.len-letters.ensures, d.elements.ok.0)
    in record {
      elements = d.elements.items;
      relations = d.relations.items;
      words = d.words.items;
      listing = d.listing.items;
      describes = c.in_ok-description.ensures.describes;
      lines = rw (
        c.in_ok-text.ensures,
        c.cert.ensures.same,
        n_is,
        c.as_slice-relations.ensures.value,
      ) refl;
    }
