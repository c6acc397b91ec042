use Rattle.std.proofs.Common.{◌≡◌, List, ℕ, refl, ◌∙◌, arith}
use Rattle.presentations.specs.declared.axes.Axis.{Axis}
use Rattle.presentations.specs.declared.read.Relation.{Relation}
use Rattle.presentations.specs.Merging.{MergeState, IsMerging, AreFirsts, AreClosed, AreClasses}
use Rattle.presentations.specs.Numberings.{AreRoots}
use Rattle.presentations.proofs.Faults.{is-fault, err-same}
use Rattle.presentations.proofs.Merges.{fresh-merging}
use Rattle.presentations.proofs.classes.classes_of.Goals as goal

joined : (m : MergeState) (items : List ℕ) → items ≡ m.parents
    → IsMerging m.axes m.relations items m.pending → AreFirsts m.axes m.parents
    → AreClosed m.axes m.relations m.parents → AreClasses m.axes m.relations items
joined m items same is firsts closed = record {
  box = is.box;
  length_is = is.length_is;
  down = is.down;
  related = is.related;
  firsts = rw same firsts;
  closed = rw same closed;
}

roots : {axes : List Axis} {relations : List Relation} {items : List ℕ}
    → AreClasses axes relations items → AreRoots axes items
roots k = record {
  axes_are = k.box.axes_are;
  small = k.box.small;
  length_is = k.length_is;
  down = k.down;
  firsts = k.firsts;
}

pub new-merging-requires : goal.new-merging-requires
new-merging-requires g c =
    fresh-merging c.requires.is_box (c.in_ok-parents.ensures.length_is ∙ c.requires.size)
    (λ i lt. c.in_ok-parents.ensures.numbers i (omega (arith, c.requires.size)))
    c.new.ensures.items

pub returns-in_err-parents : goal.returns-in_err-parents
returns-in_err-parents g c =
    rw (is-fault _ _ c.from_residual.ensures.1, err-same _ _ c.in_err-parents.ensures.refused)
    (record { classes = tt; roots = tt; refused = refl })

pub returns-in_err-close : goal.returns-in_err-close
returns-in_err-close g c =
    rw (
      is-fault _ _ c.from_residual-in_err-close.ensures.1,
      err-same _ _ c.in_err-close.ensures.refused,
    ) (record { classes = tt; roots = tt; refused = refl })

pub returns : goal.returns
returns g c =
    let close = c.in_ok-close.ensures in
    let classes =
    rw (
      close.kept.axes ∙ c.new-merging.ensures.axes,
      close.kept.relations ∙ c.new-merging.ensures.relations,
    ) at
    (joined c.close.new.merging c.into_parents.result.items c.into_parents.ensures.value
    c.into_parents.ensures.merging close.firsts close.closed) in
    record { classes = classes; roots = roots classes; refused = tt }
