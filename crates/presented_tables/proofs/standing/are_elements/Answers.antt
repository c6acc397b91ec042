use Rattle.std.proofs.Common.{◌≡◌, ◌<◌, ℕ, false, length, refl, subst, arith}
use Rattle.std.specs.Prelude.{slice_index_or}
use Rattle.presentations.specs.declared.TheConstants.{LETTERS}
use Rattle.presentations.specs.Vectors.{only}
use Rattle.kept_positions.specs.Numbers.{entry}
use Rattle.normal_forms.specs.Reductions.{AreConvergent}
use Rattle.presented_text.specs.Said.{PresentedSaid}
use Rattle.presented_claims.specs.Claims.{IsElement, in_portion}
use Rattle.presented_tables.specs.Elements.{element, Takes}
use Rattle.presented_tables.proofs.Below.{below}
use Rattle.presented_tables.proofs.standing.are_elements.Goals as goal

pub loop-x-preserved : goal.loop-x-preserved
loop-x-preserved g c = record {
  elements =
      below (λ m. IsElement c.args.p.now (element c.args.e.now m)) c.loop-x.x c.loop-x.invariant.elements
      (c.if-not-is_element.ensures.element refl);
  steps =
      below (λ m. (i : ℕ) → i < length c.args.p.now.letters
      → Takes c.args.p.now c.args.e.now (only LETTERS i 1) m
      (entry c.args.e.now.steps (length c.args.p.now.letters) m i)) c.loop-x.x c.loop-x.invariant.steps
      (c.if-not-are_steps.ensures refl);
  bits =
      below (λ m. slice_index_or c.args.e.now.bits m false ≡ in_portion c.args.p.now (element c.args.e.now m))
      c.loop-x.x c.loop-x.invariant.bits (c.if-not-is_element.ensures.bit refl);
}

pub returns : goal.returns
returns g c = λ _. record {
  converges =
      subst (λ (q : PresentedSaid). AreConvergent LETTERS q.relations) c.p.view_is c.rules-rules.ensures.convergent;
  some = (c.if-not-is_first.ensures refl).0;
  first = (c.if-not-is_first.ensures refl).1;
  elements = λ x h. c.loop-x.invariant.elements x (grind arith);
  steps = λ x i h il. c.loop-x.invariant.steps x (grind arith) i il;
  bits = λ x h. c.loop-x.invariant.bits x (grind arith);
}
