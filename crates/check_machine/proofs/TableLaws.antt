-- What the looks at a table say of the certificate whose rows it has.
-- The certificate's product is the table's at all elements, and so are its laws.
use Rattle.std.proofs.Common.{◌≡◌, ℕ, suc, zero, ◌<◌, Bool, true, false, refl, sym, ◌∙◌, ap, subst, if◌then◌else◌}
use Rattle.misere_theory.specs.Quotients.{Monoid, LawFails}
use Rattle.misere_theory.specs.Quotients.LawFails.{Identity, Commutativity, Associativity}
use Rattle.misere_theory.specs.Certificates.{times_of}
use Rattle.monoid_table.specs.Grids.{entry, IsTable}
use Rattle.monoid_table.specs.Turns.{JobState, turn, turns, is_over}
use Rattle.certificate.specs.Fields.{Fields, certificate_of, IsWhole}
use Rattle.check_machine.specs.LawfulCertificates.{IsLawful}
use Rattle.check_machine.proofs.Rows.{rows_of-entry}

choice_grid : (b : Bool) (s t : JobState) → t.grid ≡ s.grid → (if b then s else t).grid ≡ s.grid
choice_grid true s t e = refl
choice_grid false s t e = e

turn-grid : (s : JobState) → (turn s).grid ≡ s.grid
turn-grid s = choice_grid (is_over s) s _ refl

pub turns-grid : (n : ℕ) (s : JobState) → (turns n s).grid ≡ s.grid
unfolding turns
turns-grid zero s = refl
turns-grid (suc n) s = turns-grid n (turn s) ∙ turn-grid s

-- two products that are the same at all elements
pub monoid_along : (q : ℕ) (f g : ℕ → ℕ → ℕ) → ((x y : ℕ) → x < q → y < q → f x y ≡ g x y)
    → Monoid q g → Monoid q f
monoid_along q f g e m = record {
  some = m.some;
  closed = λ x y a b. subst (λ v. v < q) (sym (e x y a b)) (m.closed x y a b);
  identity = λ x a. e 0 x m.some a ∙ m.identity x a;
  commutes = λ x y a b. e x y a b ∙ (m.commutes x y a b ∙ sym (e y x b a));
  associates = λ x y z a b d.
      let k = m.closed x y a b in
      let l = m.closed y z b d in
      ap (λ v. f v z) (e x y a b)
      ∙ (e (g x y) z k d
      ∙ (m.associates x y z a b d ∙ (sym (e x (g y z) a l) ∙ ap (f x) (sym (e y z b d)))));
}

pub fails_along : (q : ℕ) (f g : ℕ → ℕ → ℕ) → 0 < q → ((x y : ℕ) → x < q → y < q → f x y ≡ g x y)
    → ((x y : ℕ) → x < q → y < q → g x y < q) → LawFails q g → LawFails q f
fails_along q f g p e closed (Identity x a n) = Identity x a (λ h. n (sym (e 0 x p a) ∙ h))
fails_along q f g p e closed (Commutativity x y a b n) =
    Commutativity x y a b (λ h. n (sym (e x y a b) ∙ (h ∙ e y x b a)))
fails_along q f g p e closed (Associativity x y z a b d n) =
    Associativity x y z a b d (λ h.
    let k = closed x y a b in
    let l = closed y z b d in
    n (sym (e (g x y) z k d)
    ∙ (sym (ap (λ v. f v z) (e x y a b)) ∙ (h ∙ (ap (f x) (e y z b d) ∙ e x (g y z) a l)))))

module _ (p : Fields) (w : IsWhole p) where
  products : (x y : ℕ) → x < p.order → y < p.order
      → times_of (certificate_of p) x y ≡ entry p.order p.rows x y
  products x y a b = rows_of-entry p.order p.order p.rows x y a b

  pub table_lawful : IsTable p.order p.rows → IsLawful (certificate_of p)
  table_lawful t = record {
    in_ranges = w.writable.in_ranges;
    monoid =
        monoid_along p.order (times_of (certificate_of p)) (entry p.order p.rows) products t.monoid;
  }
