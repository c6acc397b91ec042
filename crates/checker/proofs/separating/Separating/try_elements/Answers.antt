use Rattle.std.proofs.Common.{arith}
use Rattle.check_machine.proofs.ApartLaws.{apart_in}
use Rattle.checker.proofs.PairTurns.{untried, has_tried}
use Rattle.checker.proofs.separating.Separating.try_elements.Goals as goal

pub least_apart-least-requires : goal.least_apart-least-requires
least_apart-least-requires g c =
    let i = c.self.invariant in
    let r = i.0.rises in
    let y = apart_in c.self.inside.certificate c.is_lawful.ensures.in_ranges _ _ _ _ i.0 i.1 in
    (omega arith, (rw c.deref.ensures.value i.2, (omega arith, y)))

pub returns : goal.returns
returns g c =
    let i = c.self.invariant in
    let s = c.self.inside in
    let r = c.is_lawful.ensures.in_ranges in
    let a = c.apart-given.ensures in
    let t = c.least_apart-least.ensures in
    let u = untried s.certificate _ _ _ _ _ _ r i.0 i.1 a.value a.within t.below t.tells in
    let m = c.min.ensures in
    let b = c.min-tried.ensures in
    has_tried s.certificate _ _ _ _ _ _ r i.0 i.1 a.value a.within t.below t.tells _ (omega arith) _ _ _
    c.self.view_is (omega arith) (omega arith) (λ some. omega arith)
