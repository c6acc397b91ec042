-- Images behind spaces, one more each time.
use Rattle.std.proofs.Common.{◌≡◌, ◌∙◌, ◌<◌, ◌+◌, ◌++◌, ℕ, zero, suc, List, [], ◌∷◌, ap, append_assoc, append-nil, arith, decimal, get_or, length, map, sym, take}
use Rattle.certificate_text.specs.Spelling.{spaced}

next_image : (images : List ℕ) (i : ℕ) → i < length images
    → spaced (map decimal (take i images)) ++ 32 ∷ decimal (get_or images i 0)
    ≡ spaced (map decimal (take (suc i) images))
next_image [] i h = absurd (omega arith)
next_image (n ∷ more) zero h = ap (λ (t : List ℕ). 32 ∷ t) (sym (append-nil (decimal n)))
next_image (n ∷ more) (suc i) h =
    ap (λ (t : List ℕ). 32 ∷ t)
    (append_assoc (decimal n) (spaced (map decimal (take i more))) (32 ∷ decimal (get_or more i 0))
    ∙ ap (λ (t : List ℕ). decimal n ++ t) (next_image more i (omega arith)))

pub one_image_more : (images : List ℕ) (i : ℕ) → i < length images
    → spaced (map decimal (take i images)) ++ 32 ∷ decimal (get_or images i 0)
    ≡ spaced (map decimal (take (i + 1) images))
one_image_more images i h =
    let e : suc i ≡ i + 1 = omega arith in
    next_image images i h ∙ ap (λ k. spaced (map decimal (take k images))) e
