-- What is handed over where a search spells a certificate, and where a check says yes.
use Rattle.std.proofs.Common.{◌≡◌, ◌≤◌, ◌∙◌, ◌⊎◌, inl, inr, refl, sym, subst, ℕ, true, List, arith}
use Rattle.std.specs.Prelude.{Ok}
use Rattle.misere_theory.specs.Certificates.{Certificate, kind_of}
use Rattle.answers.specs.ByteVerdicts.{IsTrueOf}
use Rattle.answers.specs.ByteVerdicts.ByteVerdict.{Yes, Memory}
use Rattle.check_machine.specs.Turns.{verdict}
use Rattle.octal_code.specs.Text.{IsCodeText}
use Rattle.requests.specs.declared.plans.Aim.{Aim}
use Rattle.requests.specs.declared.plans.Aim.TheVariants.{Whole, Deep, Any, Part, Furthest}
use Rattle.requests.specs.declared.plans.SolveBounds.{SolveBounds}
use Rattle.solve_command.specs.Searches.{IsAimedAt}
use Rattle.solve_command.specs.Solved.{IsSearched, Solves}
use Rattle.solve_library.specs.Found.{AreBounds, Certify, IsAim, IsCertificateFor, IsOfKind, IsUntold, IsUntoldOf, form_at}
use Rattle.solve_library.specs.declared.causes.Untold.{Untold}
use Rattle.solve_library.specs.declared.causes.Untold.TheVariants.{NotInRange}
use Rattle.solve_library.specs.declared.solving.Asked.{Asked}

-- a certificate of a kind that is aimed at is of the kind that is asked
of_aim : (aim heaps kind : ℕ) (a : Aim) → IsAim aim heaps a → IsAimedAt a kind → IsOfKind aim heaps kind
of_aim aim heaps kind (Whole most) is at =
    ((λ e. at), (λ e. absurd (let z = is.0 in omega arith)), (λ e. absurd (let z = is.0 in omega arith)))
of_aim aim heaps kind Deep is at = absurd is
of_aim aim heaps kind Any is at = absurd is
of_aim aim heaps kind (Part last) is at =
    ((λ e. absurd (let z = is.0 in omega arith)), (λ e. at ∙ is.1), (λ e. absurd (let z = is.0 in omega arith)))
of_aim aim heaps kind Furthest is at =
    ((λ e. absurd (omega arith)), (λ e. absurd (omega arith)), (λ e. at))

-- the text of a search that found a certificate is its bytes
pub certificate : (word bytes : List ℕ) (a : Asked) (bounds : SolveBounds) → AreBounds a bounds
    → Solves word bounds bytes true → IsCertificateFor word a bytes
certificate word bytes a bounds are (code, spells, p) = record {
  certificate = p.c;
  of_code = subst (IsCodeText word) (sym p.asked_for.of_code) spells;
  of_kind = of_aim a.aim a.heaps (kind_of p.c) bounds.aim are.aim p.asked_for.of_kind;
  spelled = p.spelled;
  accepted = p.asked_for.accepted;
  small = subst (λ (n : ℕ). p.c.order ≤ n) are.order p.small;
  bounds = bounds;
  are_bounds = are;
  searched = subst (λ (d : List ℕ). IsSearched d bounds (Ok p.c)) (sym p.asked_for.of_code) p.searched;
}

-- bytes to which the answer is yes, if it is the verdict's, are certified
certify : (bytes : List ℕ) (limit : ℕ) (c : Certificate) (says : Certificate → Type 0)
    → IsTrueOf bytes limit (Yes c) → (Yes c ≡ verdict bytes limit) ⊎ (Yes c ≡ Memory) → says c
    → Certify bytes limit says
certify bytes limit c says true_of (inl same) h =
    let (spells, accepted, only) = true_of.yes c refl in
    (c, spells, accepted, sym same, h)
certify bytes limit c says true_of (inr memory) h = absurd cc

-- why no text of them is told
pub untold-of : (bytes : List ℕ) (limit output form : ℕ) (c : Certificate) → IsTrueOf bytes limit (Yes c)
    → (Yes c ≡ verdict bytes limit) ⊎ (Yes c ≡ Memory)
    → (untold : Untold)
    → ((untold ≡ NotInRange) × (2 ≤ form)) ⊎ IsUntoldOf output (form_at form) c untold
    → IsUntold bytes limit output form untold
untold-of bytes limit output form c true_of decided untold (inl h) = inl h
untold-of bytes limit output form c true_of decided untold (inr h) =
    inr (inl (certify bytes limit c (λ d. IsUntoldOf output (form_at form) d untold) true_of decided h))
