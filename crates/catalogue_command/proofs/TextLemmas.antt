-- A text more.
use Rattle.std.proofs.Common.{◌≡◌, ℕ, ◌+◌, ◌-◌, ◌<◌, ◌≤◌, List, [], ◌∷◌, ◌++◌, codes, length, take, drop, get_or, sym, ap, subst, refl, ◌∙◌, arith}
use Rattle.std.proofs.lemmas.List.{take_all, take_more, append-nil, append_assoc}
use Rattle.misere_theory.specs.Certificates.{Certificate}
use Rattle.catalogue_command.specs.Tables.{AreTexts, IsNextObject, IsObject, IsTableArray}

one_after : (Is : Certificate → List ℕ → Type 0) (cs : List Certificate) (text : List ℕ)
    (c : Certificate) (own : List ℕ) → AreTexts Is cs text → Is c own
    → AreTexts Is (cs ++ c ∷ []) (text ++ own)
one_after Is [] text c own none is =
    (own, [], is, refl, ap (λ (t : List ℕ). t ++ own) none ∙ sym (append-nil own))
one_after Is (d ∷ ds) text c own (first, rest, p, q, e) is = (
  first,
  rest ++ own,
  p,
  one_after Is ds rest c own q is,
  ap (λ (t : List ℕ). t ++ own) e ∙ append_assoc first rest own,
)

pub text_more : (Is : Certificate → List ℕ → Type 0) (cs : List Certificate) (i : ℕ)
    (c : Certificate) (text own : List ℕ) → i < length cs → c ≡ get_or cs i c
    → AreTexts Is (take i cs) text → Is c own → AreTexts Is (take (i + 1) cs) (text ++ own)
text_more Is cs i c text own l here so_far is =
    subst (λ ds. AreTexts Is ds (text ++ own))
    (sym (take_more cs i c l ∙ ap (λ y. take i cs ++ y ∷ []) (sym here)))
    (one_after Is (take i cs) text c own so_far is)

-- the array of one entry or more
pub array_of : (cs : List Certificate) (c : Certificate) (first rest text : List ℕ)
    → 1 ≤ length cs → c ≡ get_or cs 0 c → IsObject c first
    → AreTexts IsNextObject (take (length cs - 1) (drop 1 cs)) rest
    → text ≡ codes "[" ++ (first ++ (rest ++ codes "]\n")) → IsTableArray cs text
array_of [] c first rest text le is one others e = absurd (omega (arith, le))
array_of (d ∷ ds) c first rest text le is one others e =
    let all = take_all (length (d ∷ ds) - 1) ds (omega arith) in (
      first,
      rest,
      subst (λ x. IsObject x first) is one,
      subst (λ es. AreTexts IsNextObject es rest) all others,
      e ∙ ap (λ (t : List ℕ). codes "[" ++ t) (sym (append_assoc first rest (codes "]\n"))),
    )
