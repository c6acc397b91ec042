-- Entry by entry: a code and a kind have one accepted certificate.
use Rattle.std.proofs.Common.{◌≡◌, ℕ, suc, List, [], ◌∷◌, All, map, refl, ap, ap₂, arith}
use Rattle.misere_theory.specs.Certificates.{Certificate, Accepted, kind_of}
use Rattle.catalogue.specs.Texts.{catalogue_text}
use Rattle.catalogue.proofs.laws.texts_of_the_same_codes_are_equal.Goals as goal

module _ (unique : (c d : Certificate) → Accepted c → Accepted d → c.code ≡ d.code
    → kind_of c ≡ kind_of d → c ≡ d) where
  same : (cs ds : List Certificate) → All Accepted cs → All Accepted ds
      → map {B = List ℕ × ℕ} (λ c. (c.code, kind_of c)) cs
      ≡ map {B = List ℕ × ℕ} (λ d. (d.code, kind_of d)) ds → cs ≡ ds
  same [] [] h k e = refl
  same [] (d ∷ ds) h k e = cc
  same (c ∷ cs) [] h k e = cc
  same (c ∷ cs) (d ∷ ds) h k e =
      let first : ◌≡◌ {A = List ℕ × ℕ} (c.code, kind_of c) (d.code, kind_of d) = cc in
      let others : map {B = List ℕ × ℕ} (λ c. (c.code, kind_of c)) cs
      ≡ map {B = List ℕ × ℕ} (λ d. (d.code, kind_of d)) ds = cc in
      ap₂ (λ x xs. x ∷ xs) (unique c d (h 0 c (omega arith)) (k 0 d (omega arith))
      (ap (λ p. p.0) first) (ap (λ p. p.1) first))
      (same cs ds (λ i x l. h (suc i) x (omega arith)) (λ i x l. k (suc i) x (omega arith)) others)

pub returns : goal.returns
returns c cs ds h k e =
    ap catalogue_text (same c.accepted_certificates_are_unique.ensures.one cs ds h k e)
