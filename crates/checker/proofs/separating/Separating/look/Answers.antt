use Rattle.std.proofs.Common.{[], arith, refl}
use Rattle.checker.proofs.ComeLemmas.{runs_turn}
use Rattle.checker.proofs.separating.Separating.look.Goals as goal

pub returns-then-not-next_pair : goal.returns-then-not-next_pair
returns-then-not-next_pair g c =
    let e = c.if-not-next_pair.ensures in
    rw e.0 (record {
      runs = c.try_elements-is_right.ensures.runs;
      leads = (omega (arith, c.if-left-eq0.false), e.1, e.2);
    })

pub returns : goal.returns
returns g c =
    let r = c.try_elements-is_right.ensures.runs in
    let w = (r [] 0).within in
    record {
      runs = λ bytes limit. runs_turn bytes limit _ _ _ _ _ (r bytes limit)
          (omega (arith, c.if-left-eq0.false)) refl (c.if-not-next_pair.ensures limit);
      leads = omega (arith, c.if-left-eq0.false);
    }
