use Rattle.std.proofs.Common.{◌≡◌, ◌∙◌, ◌+◌, ◌-◌, ◌<◌, ◌≤◌, ◌++◌, ◌∷◌, [], ℕ, List, length, All, below_more, arith, refl, rules, subst, sym, ap}
use Rattle.std.specs.Prelude.{slice_index}
use Rattle.std.proofs.lemmas.List.Elements.{All-push}
use Rattle.misere_theory.specs.Certificates.{Certificate, claim_of}
use Rattle.compact_certificates.specs.Rows.{firsts_of}
use Rattle.isomorphisms.specs.Images.{NoneTakes}
use Rattle.isomorphisms.proofs.ImageLemmas.{none-left, none-of-left-out}
use Rattle.isomorphisms.proofs.SearchLemmas.{longer-by-one, passed-on, tried-in-vain}
use Rattle.isomorphisms.proofs.UnitLemmas.{left-out, lists-left, none-for-next}
use Rattle.isomorphisms.proofs.searching.+search.Goals as goal

pub loop-y-preserved-then-is_left_out : goal.loop-y-preserved-then-is_left_out
loop-y-preserved-then-is_left_out g t c =
    let a = claim_of c.args.a.now in
    let b = claim_of c.args.b.now in
    let images : List ℕ = c.args.images.now in
    record {
      tried =
          below_more (λ z. NoneTakes a b (images ++ z ∷ [])) c.loop-y.y c.loop-y.invariant.tried
          (none-of-left-out a b images c.loop-y.y (slice_index c.args.colours.now)
          (slice_index c.args.others.now) c.requires.colours (omega arith) c.in_ok-next.next
          c.in_ok-next.ensures (c.if-is_left_out.ensures.out refl));
      left =
          left-out (slice_index c.args.others.now)
          (slice_index c.args.colours.now (length images + 1)) _ _ c.loop-y.y (c.loop-y.y + 1) _
          (omega arith) c.loop-y.invariant.left;
    }

pub returns-then-units-eq0 : goal.returns-then-units-eq0
returns-then-units-eq0 g t c =
    subst (λ n. c.args.units.now < n)
    (sym (lists-left (slice_index c.args.colours.now) (slice_index c.args.others.now)
    c.args.b.now.order (firsts_of c.args.a.now.words) (length c.args.images.now) (omega arith)))
    (none-for-next (slice_index c.args.others.now)
    (slice_index c.args.colours.now (length c.args.images.now + 1)) _ _ c.args.b.now.order c.loop-y.y
    _ (c.if-is_left_out.ensures.alike refl) c.loop-y.invariant.left c.if-units-eq0.true
    (omega (
      arith,
      c.loop-y-test.true,
      c.order-y-end.ensures.value,
      ap (λ (z : Certificate). z.order) c.cert.ensures.same,
    )))

pub search-requires : goal.search-requires
search-requires g t c κs within =
    let images : List ℕ = c.args.images.now in
    let is : c.as_slice.result.now ≡ images ++ c.loop-y.y ∷ [] =
    c.as_slice.ensures.value ∙ c.in_ok-longer.ensures in
    let long = longer-by-one images c.as_slice.result.now c.loop-y.y is in
    let few : length c.as_slice.result.now ≤ firsts_of c.args.a.now.words =
    omega (arith, long, c.if-images-firsts.false, c.firsts.ensures.value, c.requires.images) in
    let less
    : firsts_of c.args.a.now.words - length c.as_slice.result.now
    < firsts_of c.args.a.now.words - length images =
    omega (arith, long, few) in
    let lt : c.loop-y.y < c.args.b.now.order =
    omega (
      arith,
      c.loop-y-test.true,
      c.order-y-end.ensures.value,
      ap (λ (z : Certificate). z.order) c.cert.ensures.same,
    ) in
    let inside : All (λ y. y < c.args.b.now.order) c.as_slice.result.now =
    subst (All (λ y. y < c.args.b.now.order)) (sym is)
    (All-push (λ y. y < c.args.b.now.order) images c.loop-y.y c.requires.images_in lt) in
    let q = c.requires in (
      search rules,
      (within.0, (within.1, (q.colours_long, (q.others_long, (q.colours, (few, inside)))))),
    )

pub returns-in_default : goal.returns-in_default
returns-in_default g t c =
    passed-on (claim_of c.args.a.now) (claim_of c.args.b.now) (slice_index c.args.colours.now)
    (slice_index c.args.others.now) c.args.images.now c.as_slice.result.now c.loop-y.y
    (firsts_of c.args.a.now.words) c.args.units.now c.loop-y.units (c.loop-y.units - 1)
    c.search.new.units (c.as_slice.ensures.value ∙ c.in_ok-longer.ensures)
    (c.if-is_left_out.ensures.alike refl) c.loop-y.invariant.left
    (omega (arith, c.if-units-eq0.false)) refl c.in_ok-found.found (omega arith)
    (omega (
      arith,
      c.loop-y-test.true,
      c.order-y-end.ensures.value,
      ap (λ (z : Certificate). z.order) c.cert.ensures.same,
    ))
    c.in_ok-found.ensures c.in_default.not-Nothing

pub loop-y-preserved : goal.loop-y-preserved
loop-y-preserved g t c =
    let a = claim_of c.args.a.now in
    let b = claim_of c.args.b.now in
    let images : List ℕ = c.args.images.now in
    let vain =
    tried-in-vain a b (slice_index c.args.colours.now) (slice_index c.args.others.now) images
    c.as_slice.result.now c.loop-y.y (firsts_of c.args.a.now.words) c.args.units.now c.loop-y.units
    (c.loop-y.units - 1) c.search.new.units (c.as_slice.ensures.value ∙ c.in_ok-longer.ensures)
    (c.if-is_left_out.ensures.alike refl) c.loop-y.invariant.left
    (omega (arith, c.if-units-eq0.false)) refl c.in_ok-found.found c.in-Nothing.is
    c.in_ok-found.ensures in
    record {
      tried =
          below_more (λ z. NoneTakes a b (images ++ z ∷ [])) c.loop-y.y c.loop-y.invariant.tried
          vain.0;
      left = vain.1;
    }

pub returns : goal.returns
returns g t c =
    let s = ap (λ (z : Certificate). z.order) c.cert.ensures.same in (
      none-left (claim_of c.args.a.now) (claim_of c.args.b.now) c.args.images.now (omega arith)
          (λ y l. c.loop-y.invariant.tried y
          (omega (arith, l, s, c.loop-y-test.false, c.order-y-end.ensures.value))),
      subst (λ n. c.args.units.now ≤ c.loop-y.units + n)
          (sym (lists-left (slice_index c.args.colours.now) (slice_index c.args.others.now)
          c.args.b.now.order (firsts_of c.args.a.now.words) (length c.args.images.now) (omega arith)))
          (left-out (slice_index c.args.others.now)
          (slice_index c.args.colours.now (length c.args.images.now + 1)) _ _ c.loop-y.y
          c.args.b.now.order _ (omega (arith, s, c.loop-y.auto.y-end, c.order-y-end.ensures.value))
          c.loop-y.invariant.left),
    )
