-- A product more keeps the progress, by NumberLaws. With all products it is a numbering.
use Rattle.std.proofs.Common.{◌≡◌, ◌*◌, ap, ◌∙◌, arith, length, get_or, ◌∷◌, []}
use Rattle.std.specs.Prelude.{slice_index}
use Rattle.std.proofs.lemmas.List.{length-append}
use Rattle.std.proofs.lemmas.Nat.{mul-le}
use Rattle.presentations.proofs.BoxLaws.{size-positive}
use Rattle.presentations.proofs.Faults.{is-fault, err-same, elsewhere}
use Rattle.presentations.proofs.NumberLaws.{progress-more, many-classes}
use Rattle.presentations.proofs.numbering.numbering_of.Goals as goal

pub new-requires : goal.new-requires
new-requires g c =
    let positive = size-positive 1 c.args.axes.now c.requires.roots.axes_are in
    record { some = omega arith; small = omega arith }

pub loop-products-preserved : goal.loop-products-preserved
loop-products-preserved g c =
    let place : c.len-place.result ≡ length c.loop-products.products.items =
    omega (arith, c.len-place.ensures) in
    let rows = ap (λ q. q * length c.args.axes.now) c.order.ensures.value in
    let assigned = rw place at c.in_ok-number.ensures.assigned in
    record {
      progress =
          rw c.in_ok-push.ensures.items
          (progress-more c.loop-products.invariant.progress
          (omega (arith, rows, c.len.ensures, c.loop-products-test.true))
          (ap (slice_index c.args.classes.now)
          (rw (c.first-first.ensures.value, place) at c.next.ensures.value))
          (omega (arith, c.requires.roots.down c.next.result c.next.ensures.within))
          (c.requires.roots.firsts c.next.result c.next.ensures.within)
          assigned.within assigned.there assigned.either);
      places = c.in_ok-number.ensures.places ∙ c.loop-products.invariant.places;
    }

pub loop-products-smaller : goal.loop-products-smaller
loop-products-smaller g c =
    omega (
      arith,
      mul-le c.order.result (length c.args.axes.now) 256 (length c.args.axes.now)
          c.order.ensures.range.1 (omega arith),
      ap length c.in_ok-push.ensures.items,
      length-append c.loop-products.products.items (c.in_ok-number.number ∷ []),
    )

pub returns-in_err-numbers : goal.returns-in_err-numbers
returns-in_err-numbers g c =
    rw (is-fault _ _ c.from_residual.ensures.1, err-same _ _ c.in_err-numbers.ensures.refused)
    (record { numbering = tt; keys = tt; limit = λ e. cc; only = (λ e. cc, λ e. cc) })

pub returns-in_err-number : goal.returns-in_err-number
returns-in_err-number g c =
    rw (is-fault _ _ c.from_residual-in_err-number.ensures.1) (record {
      numbering = tt;
      keys = tt;
      limit = λ limit.
          let full = c.in_err-number.ensures.full (elsewhere limit) in
          let order : c.order.result ≡ 256 = c.order.ensures.value ∙ full.0 in
          many-classes (get_or c.args.classes.now c.next.result 0)
          c.loop-products.invariant.progress full.0
          (λ d e hd he. c.order.ensures.apart d e (omega (arith, order)) (omega (arith, order)))
          full.1
          (omega (arith, c.requires.roots.down c.next.result c.next.ensures.within))
          (c.requires.roots.firsts c.next.result c.next.ensures.within);
      only = (
        λ e. c.in_err-number.ensures.only.0 (elsewhere e),
        λ e. c.in_err-number.ensures.only.1 (elsewhere e),
      );
    })

pub returns-in_err-push : goal.returns-in_err-push
returns-in_err-push g c =
    rw (is-fault _ _ c.from_residual-in_err-push.ensures.1)
    (record { numbering = tt; keys = tt; limit = λ e. cc; only = (λ e. cc, λ e. cc) })
