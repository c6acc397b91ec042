use Rattle.std.proofs.Common.{◌≡◌, ◌<◌, ap, ◌∙◌, subst, arith, length, get_or}
use Rattle.presentations.specs.declared.TheConstants.{LETTERS}
use Rattle.presentations.specs.Congruences.{Related}
use Rattle.presentations.proofs.VectorLaws.{partial, partial-next, partial-all}
use Rattle.normal_forms.specs.Known.{known_at}
use Rattle.normal_forms.proofs.Known.{walk-none, walk-more}
use Rattle.normal_forms.proofs.remembering.KnownForms.walked.Goals as goal

pub loop-i-init : goal.loop-i-init
loop-i-init g c = record {
  inside = c.requires.some;
  related = walk-none c.args.rules.now c.args.self.now c.args.word.now c.told-word c.requires;
}

pub loop-i-preserved : goal.loop-i-preserved
loop-i-preserved g c =
    let word = c.args.word.now in
    let lt : c.loop-i.i < length word = omega (arith, c.told-word, c.loop-i-test.true) in
    let all : c.loop-k._k ≡ get_or word c.loop-i.i 0 = grind arith in
    record {
      inside = c.loop-k.invariant.inside;
      related =
          subst (λ w. Related LETTERS c.args.rules.now w (known_at c.args.self.now.elements c.loop-k.at))
          (partial-next word c.loop-i.i c.loop-k._k lt all) c.loop-k.invariant.related;
    }

pub loop-k-preserved : goal.loop-k-preserved
loop-k-preserved g c = record {
  inside = c.in_ok-at.ensures.0;
  related =
      walk-more c.args.rules.now c.args.self.now.elements c.args.word.now c.loop-i.i c.loop-k._k c.loop-k.at
      c.in_ok-at.at c.told-word c.loop-i-test.true c.loop-k.invariant.related c.in_ok-at.ensures.1;
}

pub returns : goal.returns
returns g c = (
  c.loop-i.invariant.inside,
  subst (λ w. Related LETTERS c.args.rules.now w (known_at c.args.self.now.elements c.loop-i.at))
      (partial-all c.args.word.now c.loop-i.i (omega (arith, c.told-word, c.loop-i-test.false)))
      c.loop-i.invariant.related,
)
