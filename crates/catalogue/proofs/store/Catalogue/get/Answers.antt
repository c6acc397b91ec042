use Rattle.catalogue.proofs.StoreLemmas.{found, found_some, found_none}
use Rattle.catalogue.proofs.store.Catalogue.get.Goals as goal

pub returns-clause-some : goal.returns-clause-some
returns-clause-some c =
    let k = c.code_and_kind.result in
    let is = c.code_and_kind.ensures in
    found_some k c.args.code.now c.args.heaps is.code is.key c.args.self.now c.get.result
    (found k c.args.code.now c.args.heaps is.code is.key c.self.inside.entries.entries
    c.args.self.now c.get.result c.self.invariant c.self.view_is c.get.ensures.value)

pub returns-clause-none : goal.returns-clause-none
returns-clause-none c =
    let k = c.code_and_kind.result in
    let is = c.code_and_kind.ensures in
    found_none k c.args.code.now c.args.heaps is.code is.key c.args.self.now c.get.result
    (found k c.args.code.now c.args.heaps is.code is.key c.self.inside.entries.entries
    c.args.self.now c.get.result c.self.invariant c.self.view_is c.get.ensures.value)
