use Rattle.std.proofs.Common.{List, ℕ, ◌+◌, ◌++◌, [], ◌∷◌, ap, ◌∙◌, length-append, append_assoc}
use Rattle.compact_certificates.proofs.Context.{one_lane_more}
use Rattle.compact_certificates.proofs.separators.push_context.Goals as goal

pub loop-i-preserved : goal.loop-i-preserved
loop-i-preserved g c =
    let (more, behind, long, bits) = c.loop-i.invariant in (
      more ++ c.lane.result ∷ [],
      c.in_ok-push.ensures.items ∙ ap (λ (ls : List ℕ). ls ++ c.lane.result ∷ []) behind
          ∙ append_assoc c.args.lanes.now.items more (c.lane.result ∷ []),
      length-append more (c.lane.result ∷ []) ∙ ap (λ n. n + 1) long,
      one_lane_more c.args.row.now c.args.marked.now more c.lane.result c.loop-i.i
          c.min-end.result long c.min-end.ensures bits c.lane.ensures,
    )
