use Rattle.std.proofs.Common.{◌≡◌, ◌<◌, ◌≤◌, ℕ, List, refl, sym, subst, arith}
use Rattle.std.specs.List.{All}
use Rattle.misere_theory.specs.Certificates.{kind_of}
use Rattle.player.proofs.Fitting.{all_fit, small_fit, fit_small}
use Rattle.player.proofs.play.fits.Goals as goal

pub returns-then-last-eq0-clause-fits : goal.returns-then-last-eq0-clause-fits
returns-then-last-eq0-clause-fits g c = (
  λ t. all_fit (kind_of c.args.certified.now) c.args.position.now c.heaps-heaps.ensures.sizes
      (let e = c.heaps-last.ensures.value in let s = c.cert.ensures.same in let z = c.if-last-eq0.true in cc),
  λ p. refl,
)

pub returns-else-last-eq0-clause-fits : goal.returns-else-last-eq0-clause-fits
returns-else-last-eq0-clause-fits g c =
    let M = kind_of c.args.certified.now in
    let is : c.heaps-last.result ≡ M =
    (let e = c.heaps-last.ensures.value in let s = c.cert.ensures.same in cc) in
    let some : 0 < M = (let f = c.if-last-eq0.false in omega arith) in
    let up : List ℕ → ℕ → Type 0 = λ X m. All (λ n. n ≤ m) X in (
      λ t. small_fit M c.args.position.now c.heaps-heaps.ensures.sizes
          (subst (λ X. up X M) c.heaps-heaps.ensures.value
          (subst (up c.heaps-heaps.result.now) is (c.are_up_to.ensures.0 t))),
      λ p. c.are_up_to.ensures.1
          (subst (up c.heaps-heaps.result.now) (sym is)
          (subst (λ X. up X M) (sym c.heaps-heaps.ensures.value) (fit_small M c.args.position.now some p))),
    )
