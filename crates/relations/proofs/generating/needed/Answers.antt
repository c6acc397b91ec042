use Rattle.relations.proofs.Among.{among-self, among-trans}
use Rattle.relations.proofs.generating.needed.Goals as goal
use Rattle.relations.proofs.generating.needed.Goals.{then-i-len+in_ok-others+in_ok-marks+then-index, then-i-len+in_ok-others+in_ok-marks+else-index, else-i-len}

pub loop-k-init : goal.loop-k-init
loop-k-init g c = record { below = c.requires; among = among-self c.args.elements.items }

pub loop-k-preserved : goal.loop-k-preserved
loop-k-preserved g c =
    elim c.if-i-len.branch [
      | then-i-len+in_ok-others+in_ok-marks+then-index w ↦
          rw w.kept-is (record {
            below = rw w.order.ensures.value at w.in_ok-others.ensures.below;
            among =
                among-trans c.args.elements.items c.loop-k.kept.items w.in_ok-others.others.items
                c.loop-k.invariant.among
                (rw w.as_slice.ensures.value at w.in_ok-others.ensures.among);
          })
      | then-i-len+in_ok-others+in_ok-marks+else-index w ↦ rw w.kept-is c.loop-k.invariant
      | else-i-len w ↦ rw w.kept-is c.loop-k.invariant
    ]
