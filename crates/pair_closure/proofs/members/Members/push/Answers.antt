use Rattle.std.proofs.Common.{◌≡◌, ◌<◌, ◌++◌, ◌∷◌, [], length, rules}
use Rattle.pair_closure.proofs.ChainLaws.{chained_reach, pushed}
use Rattle.pair_closure.proofs.members.Members.push.Goals as goal

pub invariant_of-self-2 : goal.invariant_of-self-2
invariant_of-self-2 g c =
    let list : c.push_reserved.new.self.items ≡ c.self.inside.list.items ++ c.args.member ∷ [] =
    search rules in
    let at : c.len-place.result ≡ length c.self.inside.list.items = search rules in
    let older : c.push_reserved-2.new.self.items ≡ c.self.inside.older.items
    ++ c.index-before.result.now ∷ [] = search rules in
    let long : c.args.member.pair.value < length c.reach.new.newest.items = search rules in
    pushed _ _ c.reach.new.newest.items c.args.member _ _ c.len-place.result
    c.index-before.result.now
    (chained_reach _ _ _ c.reach.new.newest.items c.reach.ensures.same c.self.invariant) long list
    older at c.index-before.ensures
