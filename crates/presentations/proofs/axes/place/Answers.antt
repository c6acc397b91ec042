use Rattle.std.proofs.Common.{◌≡◌, ◌<◌, ap, sym, ◌∙◌, arith, length, get_or}
use Rattle.presentations.specs.Boxes.{place_of, next_of}
use Rattle.presentations.specs.Merging.{letters_in}
use Rattle.presentations.specs.Words.{vector_on}
use Rattle.presentations.specs.Vectors.{zeros}
use Rattle.presentations.proofs.BoxLaws.{place-zeros, place-bump, size-positive, no_axis}
use Rattle.presentations.proofs.VectorLaws.{partial, partial-none, partial-more, partial-next, partial-all, length-partial}
use Rattle.presentations.proofs.PlaceLaws.{length-word, word-at}
use Rattle.presentations.proofs.axes.place.Goals as goal

pub loop-i-init : goal.loop-i-init
loop-i-init c =
    let axes = c.args.axes.now in
    let v = vector_on (letters_in axes) c.args.word.now in
    record {
      value =
          sym (ap (place_of axes) (partial-none v ∙ ap zeros (length-word axes c.args.word.now))
          ∙ place-zeros axes);
      within = size-positive 1 axes c.requires.axes;
    }

pub loop-i-preserved : goal.loop-i-preserved
loop-i-preserved c =
    let axes = c.args.axes.now in
    let word = c.args.word.now in
    let v = vector_on (letters_in axes) word in
    let len = length-word axes word in
    let entry = word-at axes word c.loop-i.i no_axis c.loop-i-test.true in
    let all : c.loop-k._k ≡ get_or v c.loop-i.i 0 = omega (arith, entry) in
    let lt : c.loop-i.i < length v = omega (arith, len) in
    record {
      value =
          c.loop-k.invariant.value
          ∙ ap (place_of axes) (partial-next v c.loop-i.i c.loop-k._k lt all);
      within = c.loop-k.invariant.within;
    }

pub loop-k-preserved : goal.loop-k-preserved
loop-k-preserved c =
    let axes = c.args.axes.now in
    let word = c.args.word.now in
    let v = vector_on (letters_in axes) word in
    let len = length-word axes word in
    let lt : c.loop-i.i < length v = omega (arith, len) in
    record {
      value =
          c.next-at.ensures.value ∙ ap (next_of axes c.loop-i.i) c.loop-k.invariant.value
          ∙ sym (place-bump 1 axes (partial v c.loop-i.i c.loop-k._k) c.loop-i.i c.requires.axes
          (length-partial v c.loop-i.i c.loop-k._k ∙ len) c.loop-i-test.true)
          ∙ ap (place_of axes) (partial-more v c.loop-i.i c.loop-k._k lt);
      within = c.next-at.ensures.within;
    }

pub returns-clause-value : goal.returns-clause-value
returns-clause-value c =
    let axes = c.args.axes.now in
    let v = vector_on (letters_in axes) c.args.word.now in
    let len = length-word axes c.args.word.now in
    c.loop-i.invariant.value ∙ ap (place_of axes) (partial-all v c.loop-i.i (omega (arith, len)))
