use Rattle.std.proofs.Common.{◌≡◌, sym, ◌∙◌, subst, arith, rules, length, false}
use Rattle.std.specs.List.{list_any}
use Rattle.transition_algebra.specs.Pairs.{covers}
use Rattle.pair_closure.specs.Chains.{last_with}
use Rattle.pair_closure.proofs.ChainLaws.{walk_from, walk_step, walk_ends, covering_of}
use Rattle.pair_closure.proofs.members.Members.any_covers.Goals as goal

pub loop-at-init : goal.loop-at-init
loop-at-init g c =
    let e : c.newest_with-at.result ≡ last_with c.self.inside.list.items c.args.x.now.value
    (length c.self.inside.list.items) = search rules in
    walk_from _ _ _ _ (covering_of _) e

pub loop-at-smaller : goal.loop-at-smaller
loop-at-smaller g c =
    (walk_step _ _ (covering_of c.args.x.now) c.self.invariant c.loop-at.invariant c.loop-at-test.true
    c.index.ensures (sym c.covers.ensures ∙ c.if-covers.false) c.index-at.ensures).1

pub loop-at-preserved : goal.loop-at-preserved
loop-at-preserved g c =
    (walk_step _ _ (covering_of c.args.x.now) c.self.invariant c.loop-at.invariant c.loop-at-test.true
    c.index.ensures (sym c.covers.ensures ∙ c.if-covers.false) c.index-at.ensures).0

pub returns : goal.returns
returns g c =
    subst (λ ms. false ≡ list_any (λ m. covers m.pair c.args.x.now) ms) c.self.view_is
    (walk_ends _ _ _ _ c.loop-at.invariant (omega arith))
