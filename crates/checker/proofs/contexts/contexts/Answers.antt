use Rattle.std.proofs.Common.{◌≡◌, ℕ, ◌<◌, ◌+◌, ◌∙◌, true, length, ap, arith}
use Rattle.std.proofs.lemmas.List.{length_push}
use Rattle.std.specs.FinSet as set
use Rattle.misere_theory.specs.Certificates.{claim_of, times_of}
use Rattle.checker.proofs.ElementLemmas.{each-push}
use Rattle.checker.proofs.contexts.contexts.Goals as goal

pub loop-x-preserved : goal.loop-x-preserved
loop-x-preserved g c =
    let i = c.loop-x.invariant in
    let certificate = c.args.certificate.now in
    let xs = c.loop-x.all.items in
    let put = c.in_ok-push.ensures.items in
    let s = c.context.result in
    record {
      count = ap length put ∙ length_push xs s ∙ ap (λ n. n + 1) i.count;
      each = λ x y l h. each-push (λ x s. (y : ℕ) → set.contains s y ≡ true
          → (y < certificate.order) × ((claim_of certificate).portion (times_of certificate x y) ≡ true)) xs
          c.push.new.self.items s c.loop-x.x i.count put (λ k b y. i.each k y b)
          c.context.ensures.each x l y h;
      every = λ x y l. each-push (λ x s. (y : ℕ) → y < certificate.order
          → (claim_of certificate).portion (times_of certificate x y) ≡ true → set.contains s y ≡ true) xs
          c.push.new.self.items s c.loop-x.x i.count put (λ k b y. i.every k y b)
          c.context.ensures.all x l y;
    }

pub returns : goal.returns
returns g c =
    let i = c.loop-x.invariant in
    let v = c.order-x-end.ensures.value in
    let e = c.loop-x.auto.x-end in
    let f = c.loop-x-test.false in
    let n : c.loop-x.x ≡ c.args.certificate.now.order = omega arith in
    record {
      length_is = i.count ∙ n;
      each = λ x y l. i.each x y (omega arith);
      all = λ x y l. i.every x y (omega arith);
    }
