-- What becomes of the entries, one after the other.
use Rattle.std.proofs.Common.{◌≡◌, ℕ, suc, ◌+◌, ◌<◌, ◌≤◌, inl, inr, List, [], ◌∷◌, ◌++◌, length, drop, map, get_or, refl, sym, ap, subst, ◌∙◌, arith}
use Rattle.std.proofs.lemmas.List.{append_assoc, append-nil, length-map, get_or-map}
use Rattle.std.proofs.Math.ListN.{drop_of_length-le}
use Rattle.std.proofs.Math.Seq.{drop-cons}
use Rattle.misere_theory.specs.Certificates.{Certificate}
use Rattle.catalogue.specs.Files.{Written, written}
use Rattle.catalogue.specs.Loads.{IsFaultOf}
use Rattle.catalogue.specs.LoadSteps.{IsTaken}
use Rattle.catalogue.specs.Salvages.{Salvages}
use Rattle.catalogue.specs.declared.file.Texts.{Texts}
use Rattle.catalogue.specs.declared.fault.LoadFault.{LoadFault}

-- whatever becomes of the entries from the place on becomes of all, behind the faults listed so far
abbrev pub GoesOn : ℕ → List Certificate → ℕ → List Written → List LoadFault → Type 0
GoesOn limit held i es faults = (cs : List Certificate) (more : List LoadFault)
    → Salvages limit held (i + 1) (drop i es) cs more → Salvages limit [] 1 es cs (faults ++ more)

module _ (limit : ℕ) (ts : List Texts) (i : ℕ) (t : Texts) (l : i < length ts)
    (is : t ≡ get_or ts i t) where
  abbrev all : List Written
  all = map written ts

  here : drop i all ≡ written t ∷ drop (i + 1) all
  here =
      let m : i < length all = omega (arith, length-map ts written) in
      let next : suc i ≡ i + 1 = omega arith in
      drop-cons all i (written t) m ∙ ap (λ e. e ∷ drop (suc i) all)
      (get_or-map written ts i t (written t) l ∙ ap written (sym is)) ∙ ap (λ j. written t ∷ drop j all) next

  next_place : i + 1 + 1 ≡ suc (i + 1)
  next_place = omega arith

  pub kept : (held new : List Certificate) (faults : List LoadFault) → IsTaken limit held (written t) new
      → GoesOn limit held i all faults → GoesOn limit new (i + 1) all faults
  kept held new faults taken goes cs more h =
      goes cs more (subst (λ es. Salvages limit held (i + 1) es cs more) (sym here)
      (inl (
        taken.certificate,
        taken.certified,
        taken.absent,
        subst (λ p. Salvages limit (held ++ taken.certificate ∷ []) p (drop (i + 1) all) cs more)
            next_place
            (subst (λ k. Salvages limit k (i + 1 + 1) (drop (i + 1) all) cs more) taken.last h),
      )))

  pub listed : (held new : List Certificate) (faults : List LoadFault) (f : LoadFault) → new ≡ held
      → IsFaultOf limit held (i + 1) (written t) f
      → GoesOn limit held i all faults → GoesOn limit new (i + 1) all (faults ++ f ∷ [])
  listed held new faults f same fault goes cs more h =
      subst (Salvages limit [] 1 all cs) (sym (append_assoc faults (f ∷ []) more))
      (goes cs (f ∷ more) (subst (λ es. Salvages limit held (i + 1) es cs (f ∷ more)) (sym here)
      (inr (
        f,
        more,
        refl,
        fault,
        subst (λ p. Salvages limit held p (drop (i + 1) all) cs more) next_place
            (subst (λ k. Salvages limit k (i + 1 + 1) (drop (i + 1) all) cs more) same h),
      ))))

-- at the end nothing is left
pub at_end : (limit : ℕ) (ts : List Texts) (i : ℕ) (held : List Certificate)
    (faults : List LoadFault) → length ts ≤ i → GoesOn limit held i (map written ts) faults
    → Salvages limit [] 1 (map written ts) held faults
at_end limit ts i held faults l goes =
    let m : length (map written ts) ≤ i = omega (arith, length-map ts written) in
    subst (Salvages limit [] 1 (map written ts) held) (append-nil faults)
    (goes held []
    (subst (λ es. Salvages limit held (i + 1) es held [])
    (sym (drop_of_length-le (map written ts) m)) (refl, refl)))
