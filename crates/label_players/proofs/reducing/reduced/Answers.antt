use Rattle.std.proofs.Common.{sym, arith}
use Rattle.presentations.specs.declared.TheConstants.{LETTERS}
use Rattle.normal_forms.specs.Reductions.ReducesTo.{Stays, Goes}
use Rattle.normal_forms.proofs.Replaced.{step-few}
use Rattle.normal_forms.proofs.Steps.{rule-falls, reduces-trans, step-falls, reduces-long}
use Rattle.label_players.proofs.reducing.reduced.Goals as goal

pub loop-k-init : goal.loop-k-init
loop-k-init c = record { reduces = Stays c.args.word.now; few = c.requires.few }

pub replaced-reduced-requires-clause-falls : goal.replaced-reduced-requires-clause-falls
replaced-reduced-requires-clause-falls c =
    let e = c.in-Some.ensures in
    rule-falls LETTERS c.args.rules.now c.requires.oriented c.index-rules-k.result
    (c.in-Some.k, e.0, sym c.index-rules-k.is)

pub loop-k-smaller : goal.loop-k-smaller
loop-k-smaller c =
    let e = c.in-Some.ensures in
    step-falls LETTERS c.args.rules.now c.requires.oriented c.index-rules-k.result c.loop-k.reduced
    c.replaced-reduced.result (c.in-Some.k, e.0, sym c.index-rules-k.is) c.replaced-reduced.ensures

pub loop-k-preserved : goal.loop-k-preserved
loop-k-preserved c =
    let e = c.in-Some.ensures in
    let rule = c.index-rules-k.result in
    let few =
    step-few LETTERS rule c.loop-k.reduced c.replaced-reduced.result
    (rule-falls LETTERS c.args.rules.now c.requires.oriented rule
    (c.in-Some.k, e.0, sym c.index-rules-k.is)) c.replaced-reduced.ensures
    in
    record {
      reduces =
          reduces-trans LETTERS c.args.rules.now c.args.word.now c.loop-k.reduced
          c.replaced-reduced.result c.loop-k.invariant.reduces
          (Goes rule c.loop-k.reduced c.replaced-reduced.result c.replaced-reduced.result
          (c.in-Some.k, e.0, sym c.index-rules-k.is) c.replaced-reduced.ensures
          (Stays c.replaced-reduced.result));
      few = omega (arith, few, c.loop-k.invariant.few);
    }

pub returns-clause-standard : goal.returns-clause-standard
returns-clause-standard c = record {
  long =
      reduces-long LETTERS c.args.rules.now c.requires.oriented c.args.word.now c.loop-k.reduced
      c.told-word c.loop-k.invariant.reduces;
  free = c.in_default.ensures;
}
