-- Images of sets.
-- Element by element.
use Rattle.std.proofs.Common.{◌≡◌, ℕ, sym, ◌∙◌, subst}
use Rattle.std.specs.FinSet as set
use Rattle.std.specs.Ordering.{nat_cmp}
use Rattle.transition_algebra.specs.PairLaws.{has, image, has_image, image_has, same_members}

-- the image is that of any function with the same values at the members
pub same_image : (f g : ℕ → ℕ) (s : set.FinSet nat_cmp) → ((x : ℕ) → has s x → f x ≡ g x)
    → image f s ≡ image g s
same_image f g s same = same_members (image f s) (image g s)
    (λ y h. let (x, i, e) = has_image f s y h in
    subst (has (image g s)) (sym (same x i) ∙ e) (image_has g s x i))
    (λ y h. let (x, i, e) = has_image g s y h in
    subst (has (image f s)) (same x i ∙ e) (image_has f s x i))
