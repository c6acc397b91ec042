-- What a presentation's cycles make of words, and that least cycles are determined by which words are in the portion.
use Rattle.std.proofs.Common.{◌≡◌, ℕ, zero, suc, ◌+◌, ◌*◌, ◌<◌, ◌≤◌, Bool, List, length, refl, sym, ap, ◌∙◌, arith}
use Rattle.std.specs.Prelude.{slice_index}
use Rattle.presentations.specs.declared.TheConstants.{LETTERS}
use Rattle.presentations.specs.Vectors.{plus, zeros, only}
use Rattle.presentations.proofs.VectorLaws.{cons-same, length-only, only-here, plus-assoc, plus-zeros}
use Rattle.normal_forms.proofs.Words.{plus-at, length-sum}
use Rattle.presented_forms.proofs.OneLeast.{IsLeast, one-least}

zeros-sum : (n : ℕ) → plus (zeros n) (zeros n) ≡ zeros n
zeros-sum zero = refl
zeros-sum (suc n) = cons-same refl (zeros-sum n)

only-sum : (n i a b : ℕ) → plus (only n i a) (only n i b) ≡ only n i (a + b)
only-sum zero i a b = refl
only-sum (suc n) zero a b = cons-same refl (zeros-sum n)
only-sum (suc n) (suc i) a b = cons-same refl (only-sum n i a b)

only-none : (n i : ℕ) → only n i 0 ≡ zeros n
only-none zero i = refl
only-none (suc n) zero = refl
only-none (suc n) (suc i) = cons-same refl (only-none n i)

module _ (i : ℕ) (i_in : i < LETTERS) where
  -- the word with letter i so many times more
  abbrev pub more : List ℕ → ℕ → List ℕ
  more w a = plus w (only LETTERS i a)

  more-more : (w : List ℕ) (a b : ℕ) → more (more w a) b ≡ more w (a + b)
  more-more w a b = plus-assoc w (only LETTERS i a) (only LETTERS i b) ∙ ap (plus w) (only-sum LETTERS i a b)

  more-none : (w : List ℕ) → length w ≡ LETTERS → more w 0 ≡ w
  more-none w long = ap (plus w) (only-none LETTERS i) ∙ plus-zeros w LETTERS long

  pub more-long : (w : List ℕ) (a : ℕ) → length w ≡ LETTERS → length (more w a) ≡ LETTERS
  more-long w a long = length-sum LETTERS w (only LETTERS i a) long (length-only LETTERS i a)

  pub more-at : (w : List ℕ) (a : ℕ) → slice_index (more w a) i ≡ slice_index w i + a
  more-at w a = plus-at w (only LETTERS i a) i ∙ ap (λ x. slice_index w i + x) (only-here LETTERS i a i_in)

  abbrev pub Repeats : (List ℕ → Bool) → ℕ → ℕ → Type 0
  Repeats f start period = (w : List ℕ) → length w ≡ LETTERS → start ≤ slice_index w i
      → f (more w period) ≡ f w

  far : (f : List ℕ → Bool) (s p : ℕ) → Repeats f s p → (m : ℕ) (w : List ℕ) → length w ≡ LETTERS
      → s ≤ slice_index w i → f (more w (m * p)) ≡ f w
  far f s p rep zero w long le =
      let e : 0 * p ≡ 0 = omega arith in
      ap (λ a. f (more w a)) e ∙ ap f (more-none w long)
  far f s p rep (suc m) w long le =
      let e : suc m * p ≡ m * p + p = omega arith in
      ap (λ a. f (more w a)) e ∙ ap f (sym (more-more w (m * p) p))
      ∙ rep (more w (m * p)) (more-long w (m * p) long)
      (let at = more-at w (m * p) in omega (arith, at, le))
      ∙ far f s p rep m w long le

  later : (f : List ℕ → Bool) (s t p : ℕ) → s ≤ t → Repeats f s p → Repeats f t p
  later f s t p le rep w long at = rep w long (omega (arith, le, at))

  most : (t p : ℕ) → 0 < p → t ≤ t * p
  most zero p some = omega arith
  most (suc t) p some = let h = most t p some in let e : suc t * p ≡ t * p + p = omega arith in omega (arith, h, e, some)

  sooner : (f : List ℕ → Bool) (s t p q : ℕ) → 0 < p → Repeats f s p → Repeats f t q → Repeats f s q
  sooner f s t p q some rep other w long le =
      let k = t * p in
      let swap : more (more w q) k ≡ more (more w k) q =
      more-more w q k ∙ (let e : q + k ≡ k + q = omega arith in ap (more w) e) ∙ sym (more-more w k q) in
      sym (far f s p rep t (more w q) (more-long w q long) (let at = more-at w q in omega (arith, at, le)))
      ∙ ap f swap
      ∙ other (more w k) (more-long w k long)
      (let at = more-at w k in let high = most t p some in omega (arith, at, high))
      ∙ far f s p rep t w long le

  pub one-cycle : (f : List ℕ → Bool) (s p t q : ℕ) → IsLeast (Repeats f) s p → IsLeast (Repeats f) t q
      → (s ≡ t) × (p ≡ q)
  one-cycle f s p t q one two = one-least (Repeats f) (later f) (sooner f) s p t q one two
