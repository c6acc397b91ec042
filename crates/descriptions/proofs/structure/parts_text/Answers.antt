use Rattle.std.proofs.Common.{◌≡◌, ◌∙◌, ◌<◌, ◌++◌, ℕ, List, sym, ap, ap₂, subst, length, arith}
use Rattle.std.specs.Prelude.{All}
use Rattle.std.specs.String.{string_bytes}
use Rattle.certificate.specs.Fields.{grid_of}
use Rattle.monoid_table.specs.Grids.{Grid}
use Rattle.descriptions.specs.Invariants.{IsOf}
use Rattle.descriptions.specs.Structure.{IsIdempotent}
use Rattle.descriptions.specs.declared.choosing.Part.TheVariants.{Idempotents}
use Rattle.descriptions.proofs.StructureTexts.{All-those, head-along, lines-along}
use Rattle.descriptions.proofs.structure.parts_text.Goals as goal

pub head_text-requires-clause-idempotents : goal.head_text-requires-clause-idempotents
head_text-requires-clause-idempotents c =
    let d = c.args.description.now in
    let words_are : length c.as_slice-words.result.now ≡ length d.words.items =
    ap length c.as_slice-words.ensures.value in
    let order_is : c.args.certified.now.order ≡ length c.as_slice-words.result.now =
    omega (arith, words_are, c.requires.words, d.words.ok.0) in
    subst (λ n. All (λ x. x < n) c.deref.result.now) order_is
    (rw (c.deref.ensures.value) c.in_ok-idempotents.ensures.within)

pub head_text-requires-clause-kernel : goal.head_text-requires-clause-kernel
head_text-requires-clause-kernel c =
    let d = c.args.description.now in
    let words_are : length c.as_slice-words.result.now ≡ length d.words.items =
    ap length c.as_slice-words.ensures.value in
    let order_is : c.args.certified.now.order ≡ length c.as_slice-words.result.now =
    omega (arith, words_are, c.requires.words, d.words.ok.0) in
    subst (λ n. All (λ x. x < n) c.deref-2.result.now) order_is
    (rw (c.deref-2.ensures.value) c.in_ok-kernel.ensures.within)

pub lines_text-requires-clause-words : goal.lines_text-requires-clause-words
lines_text-requires-clause-words c =
    let d = c.args.description.now in
    let order_is : c.args.table.now.order ≡ c.args.certified.now.order =
    ap (λ (g : Grid). g.order) c.requires.table in
    let words_are : length c.as_slice-words.result.now ≡ length d.words.items =
    ap length c.as_slice-words.ensures.value in
    omega (arith, order_is, words_are, c.requires.words, d.words.ok.0)

pub lines_text-requires-clause-listing : goal.lines_text-requires-clause-listing
lines_text-requires-clause-listing c =
    subst (λ (g : Grid). All (λ x. x < g.order) c.as_slice-listing.result.now)
    (sym c.requires.table)
    (rw (c.as_slice-listing.ensures.value) c.requires.describes.listing_is.below)

pub lines_text-requires-clause-within : goal.lines_text-requires-clause-within
lines_text-requires-clause-within c =
    subst (λ (g : Grid). All (λ x. x < g.order) c.deref-3.result.now) (sym c.requires.table)
    (rw (c.deref-3.ensures.value) c.in_ok-idempotents.ensures.within)

pub lines_text-requires-clause-idempotents : goal.lines_text-requires-clause-idempotents
lines_text-requires-clause-idempotents c =
    let C = c.args.certified.now in
    let found = c.in_ok-idempotents.idempotents.items in
    let all : All (IsIdempotent (grid_of C)) found =
    All-those (IsOf C Idempotents) c.as_slice-listing.result.now found
    c.in_ok-idempotents.ensures.those in
    subst (λ (g : Grid). All (IsIdempotent g) c.deref-3.result.now) (sym c.requires.table)
    (rw (c.deref-3.ensures.value) all)

pub returns : goal.returns
returns c =
    let C = c.args.certified.now in
    let d = c.args.description.now in
    let list = c.as_slice-listing.ensures.value in
    let n_is : c.len-letters.result ≡ length d.elements.items =
    omega (arith, c.len-letters.ensures, d.elements.ok.0)
    in record {
      elements = d.elements.items;
      relations = d.relations.items;
      words = d.words.items;
      listing = d.listing.items;
      describes = c.requires.describes;
      idempotents = c.in_ok-idempotents.idempotents.items;
      are_idempotents = rw (← list) c.in_ok-idempotents.ensures.those;
      kernel = c.in_ok-kernel.kernel.items;
      are_kernel = rw (← list) c.in_ok-kernel.ensures.those;
      parts = string_bytes c.in_ok-parts.parts;
      are_parts =
          lines-along c.args.table.now (grid_of C) c.len-letters.result (length d.elements.items)
          c.as_slice-words.result.now d.words.items c.as_slice-listing.result.now d.listing.items
          c.deref-3.result.now c.in_ok-idempotents.idempotents.items
          (string_bytes c.in_ok-parts.parts) c.requires.table n_is
          c.as_slice-words.ensures.value list c.deref-3.ensures.value c.in_ok-parts.ensures;
      lines =
          c.in_ok-text.ensures
          ∙ ap₂ (λ (x y : List ℕ). x ++ y)
          (c.as_str.ensures.value ∙ c.in_ok-head.ensures
          ∙ head-along c.cert.result.now C c.len-letters.result (length d.elements.items)
          c.as_slice-words.result.now d.words.items c.deref.result.now
          c.in_ok-idempotents.idempotents.items c.deref-2.result.now c.in_ok-kernel.kernel.items
          c.cert.ensures.same n_is c.as_slice-words.ensures.value c.deref.ensures.value
          c.deref-2.ensures.value) c.as_str-2.ensures.value;
    }
