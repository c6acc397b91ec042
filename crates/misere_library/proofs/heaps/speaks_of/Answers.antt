use Rattle.std.proofs.Common.{◌≡◌, ◌<◌, ◌≤◌, ℕ, sym, subst, arith}
use Rattle.std.specs.List.{All}
use Rattle.misere_theory.specs.Certificates.{kind_of}
use Rattle.misere_library.proofs.Positions.{is_partial, small_speaks, speaks_small}
use Rattle.misere_library.proofs.heaps.speaks_of.Goals as goal

pub returns-else-last-eq0-clause-partial : goal.returns-else-last-eq0-clause-partial
returns-else-last-eq0-clause-partial c e =
    let C = c.args.certified.now in
    let is : c.heaps-last.result ≡ kind_of C =
    (let e = c.heaps-last.ensures.value in let s = c.cert.ensures.same in cc) in
    is_partial C.start C.period (let f = c.if-last-eq0.false in omega (arith, is))

pub returns-else-last-eq0-clause-speaks : goal.returns-else-last-eq0-clause-speaks
returns-else-last-eq0-clause-speaks c =
    let M = kind_of c.args.certified.now in
    let X = c.args.heaps.now in
    let is : c.heaps-last.result ≡ M =
    (let e = c.heaps-last.ensures.value in let s = c.cert.ensures.same in cc) in
    let some : 0 < M = (let f = c.if-last-eq0.false in omega arith) in
    let up : ℕ → Type 0 = λ m. All (λ n. n ≤ m) X in (
      λ t. small_speaks M X c.requires (subst up is (c.are_up_to.ensures.0 t)),
      λ p. c.are_up_to.ensures.1 (subst up (sym is) (speaks_small M X some p)),
    )
