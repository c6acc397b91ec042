-- The table of a certificate is a commutative monoid, and what divides what in it.
use Rattle.std.proofs.Common.{◌≡◌, ℕ, ◌+◌, ◌<◌, sym, ap, ◌∙◌, inl, inr, arith, subst}
use Rattle.std.specs.List.{concat}
use Rattle.std.proofs.lemmas.Bool.{cases_eq}
use Rattle.misere_theory.specs.Certificates.{Certificate, claim_of, times_of}
use Rattle.misere_theory.specs.Quotients.{Monoid}
use Rattle.monoid_table.specs.Grids.{Grid, IsShaped, IsTable, entry, times_in}
use Rattle.monoid_table.specs.PretendingTables.{Agrees}
use Rattle.certificate.specs.Fields.{grid_of, pretending_of}
use Rattle.descriptions.specs.Invariants.{Divides, IsInKernel}

-- two products that are the same at all elements
monoid_along : (q : ℕ) (f g : ℕ → ℕ → ℕ) → ((x y : ℕ) → x < q → y < q → f x y ≡ g x y)
    → Monoid q g → Monoid q f
monoid_along q f g e m = record {
  some = m.some;
  closed = λ x y a b. subst (λ v. v < q) (sym (e x y a b)) (m.closed x y a b);
  identity = λ x a. e 0 x m.some a ∙ m.identity x a;
  commutes = λ x y a b. e x y a b ∙ (m.commutes x y a b ∙ sym (e y x b a));
  associates = λ x y z a b d.
      let k = m.closed x y a b in
      let l = m.closed y z b d in
      ap (λ v. f v z) (e x y a b)
      ∙ (e (g x y) z k d
      ∙ (m.associates x y z a b d ∙ (sym (e x (g y z) a l) ∙ ap (f x) (sym (e y z b d)))));
}

pub table-is : (c : Certificate) → IsShaped c.order (concat c.rows)
    → Agrees (claim_of c) (grid_of c) (pretending_of c)
    → Monoid c.order (times_of c)
    → IsTable c.order (concat c.rows)
table-is c shaped agrees m = record {
  shaped = shaped;
  monoid =
      monoid_along c.order (entry c.order (concat c.rows)) (times_of c)
      (λ x y a b. sym (agrees.times_is x y a b)) m;
}

module _ (t : Grid) (m : Monoid t.order (times_in t)) where
  -- what divides one of two parts divides their product
  pub divides-left : (y all x : ℕ) → y < t.order → all < t.order → x < t.order → Divides t y all
      → Divides t y (times_in t all x)
  divides-left y all x y_in all_in x_in d =
      let (z, z_in, is) = d in (
        times_in t z x,
        m.closed z x z_in x_in,
        sym (m.associates y z x y_in z_in x_in) ∙ ap (λ v. times_in t v x) is,
      )

  pub divides-right : (all x : ℕ) → all < t.order → x < t.order → Divides t x (times_in t all x)
  divides-right all x all_in x_in = (all, all_in, m.commutes x all x_in all_in)

  -- one element more in a product that all before it divide
  pub divides-next : (all x : ℕ) → all < t.order → x < t.order
      → ((y : ℕ) → y < x → Divides t y all)
      → (y : ℕ) → y < x + 1 → Divides t y (times_in t all x)
  divides-next all x all_in x_in each y lt = elim (cases_eq y x) [
    | inl same ↦ subst (λ k. Divides t k (times_in t all x)) (sym same)
        (divides-right all x all_in x_in)
    | inr other ↦
        let low : y < x = omega (arith, other) in
        divides-left y all x (omega arith) all_in x_in (each y low)
  ]

  -- what an element of the kernel divides is in the kernel
  pub kernel-from : (low x : ℕ) → low < t.order → x < t.order → IsInKernel t low
      → Divides t low x → IsInKernel t x
  kernel-from low x low_in x_in k d = λ y y_in.
      let (z, z_in, is) = d in
      subst (Divides t y) is (divides-left y low z y_in low_in z_in (k y y_in))
