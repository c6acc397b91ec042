use Rattle.std.proofs.Common.{◌≡◌, ◌<◌, ℕ, set, ap, ◌∙◌, arith, refl}
use Rattle.std.specs.Prelude.{slice_index, sum}
use Rattle.presentations.specs.Congruences.Related.{Turned}
use Rattle.presentations.specs.Merging.{MergeState, IsPointed, Shrinks}
use Rattle.presentations.proofs.Faults.{is-fault, err-same}
use Rattle.presentations.proofs.Merges.{sum-set}
use Rattle.presentations.proofs.classes.link.Goals as goal

linked : {old middle new : MergeState} {x y : ℕ} → middle.axes ≡ old.axes
    → middle.relations ≡ old.relations → middle.parents ≡ old.parents
    → IsPointed middle new y x → slice_index old.parents y ≡ y → x < y
    → Shrinks old new × (sum new.parents < sum old.parents)
linked {old} {new = new} {x = x} {y = y} axes relations same p first lt =
    let e = p.parents ∙ ap (λ l. set l y x) same in
    let lower = sum-set old.parents y x (omega (arith, first)) in
    let less : sum new.parents < sum old.parents = omega (arith, ap sum e, lower, first) in (
      record {
        axes = p.axes ∙ axes;
        relations = p.relations ∙ relations;
        shorter = omega (arith, less);
      },
      less,
    )

pub point-requires-clause-related : goal.point-requires-clause-related
point-requires-clause-related g c =
    rw (c.in_ok-wait.ensures.axes, c.in_ok-wait.ensures.relations) (Turned _ _ c.requires.related)

pub returns-then-x-y : goal.returns-then-x-y
returns-then-x-y g c =
    let wait = c.in_ok-wait.ensures in
    let l = linked wait.axes wait.relations wait.parents c.point.ensures c.requires.y_first c.if-x-y.true
    in
    record { kept = l.0; fewer = l.1; refused = tt }

pub returns-else-x-y : goal.returns-else-x-y
returns-else-x-y g c =
    let wait = c.in_ok-wait.ensures in
    let l =
    linked wait.axes wait.relations wait.parents c.point-else-x-y.ensures c.requires.x_first
    (omega (arith, c.if-x-y.false, c.requires.differ)) in
    record { kept = l.0; fewer = l.1; refused = tt }

pub returns-in_err-wait : goal.returns-in_err-wait
returns-in_err-wait g c =
    rw (is-fault _ _ c.from_residual.ensures.1, err-same _ _ c.in_err-wait.ensures.refused)
    (record {
      kept = record {
        axes = c.in_err-wait.ensures.axes;
        relations = c.in_err-wait.ensures.relations;
        shorter = omega (arith, ap sum c.in_err-wait.ensures.parents);
      };
      fewer = tt;
      refused = refl;
    })
