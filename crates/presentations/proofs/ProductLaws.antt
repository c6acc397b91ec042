-- Laws of products of powers: that of no letter, and of one letter more.
-- By induction on the generators.
use Rattle.std.proofs.Common.{◌≡◌, ℕ, zero, suc, ◌+◌, ◌<◌, List, [], ◌∷◌, length, get_or, refl, sym, ap, ◌∙◌, add-one, arith}
use Rattle.std.specs.Prelude.{All}
use Rattle.std.proofs.lemmas.List.Elements.{All-head, All-tail}
use Rattle.misere_theory.specs.Quotients.{Monoid}
use Rattle.monoid_table.specs.Laws.{power_of}
use Rattle.presentations.specs.Vectors.{zeros, bump}
use Rattle.presentations.specs.Tables.{product_at}

module _ (q : ℕ) (times : ℕ → ℕ → ℕ) (m : Monoid q times) where
  abbrev IsIn : ℕ → Type 0
  IsIn g = g < q

  power-in : (g n : ℕ) → g < q → power_of 0 times g n < q
  power-in g zero h = m.some
  power-in g (suc n) h = m.closed g (power_of 0 times g n) h (power-in g n h)

  product-in : (gs v : List ℕ) → All IsIn gs → product_at times gs v < q
  product-in [] v h = m.some
  product-in (g ∷ gs) [] h = m.some
  product-in (g ∷ gs) (x ∷ v) h =
      m.closed (power_of 0 times g x) (product_at times gs v) (power-in g x (All-head IsIn g gs h))
      (product-in gs v (All-tail IsIn g gs h))

  pub product-none : (gs : List ℕ) (n : ℕ) → n ≡ length gs → product_at times gs (zeros n) ≡ 0
  product-none [] n e = refl
  product-none (g ∷ gs) zero e = refl
  product-none (g ∷ gs) (suc n) e = ap (times 0) (product-none gs n (omega arith))
      ∙ m.identity 0 m.some

  pub product-bump : (gs v : List ℕ) (i : ℕ) → All (λ g. g < q) gs → length v ≡ length gs
      → i < length gs
      → product_at times gs (bump v i) ≡ times (product_at times gs v) (get_or gs i 0)
  product-bump [] v i h e lt = absurd (omega arith)
  product-bump (g ∷ gs) [] i h e lt = absurd (omega arith)
  product-bump (g ∷ gs) (x ∷ v) zero h e lt =
      let p = power_of 0 times g x in
      let r = product_at times gs v in
      let hg = All-head IsIn g gs h in
      let hp = power-in g x hg in
      let hr = product-in gs v (All-tail IsIn g gs h) in
      rw (add-one x) (m.associates g p r hg hp hr ∙ m.commutes g (times p r) hg (m.closed p r hp hr))
  product-bump (g ∷ gs) (x ∷ v) (suc i) h e lt =
      let p = power_of 0 times g x in
      let r = product_at times gs v in
      let later = All-tail IsIn g gs h in
      ap (times p) (product-bump gs v i later (omega arith) (omega arith))
      ∙ sym (m.associates p r (get_or gs i 0) (power-in g x (All-head IsIn g gs h))
      (product-in gs v later) (later i 0 (omega arith)))
