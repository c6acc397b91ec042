-- The triples before a first and a second part.
-- Row by row: a row has one first part, and its second parts one after another.
use Rattle.std.proofs.Common.{◌≡◌, ℕ, zero, suc, ◌+◌, ◌-◌, ◌<◌, ◌≤◌, List, [], ◌++◌, refl, sym, ◌∙◌, ap, arith, append_assoc}
use Rattle.std.specs.List.{flat_map, range_with_len}
use Rattle.std.proofs.lemmas.List.{append-nil}
use native.Mathlib.Decide.{dec_lt}
use Rattle.heap_options.specs.Options.{row, last_first, last_second, triples_at, triples}
use Rattle.heap_options.proofs.WalkLaws.{row_add, no_row}
use Rattle.heap_options.specs.declared.left.Left.{Left}
use Rattle.transition_algebra.specs.Trials.{triples_before}

-- one number more
one_behind : (f : ℕ → List Left) (s n : ℕ)
    → flat_map f (range_with_len s n) ++ f (s + n) ≡ flat_map f (range_with_len s (suc n))
one_behind f s zero = let e : s + 0 ≡ s = omega arith in ap f e ∙ sym (append-nil (f s))
one_behind f s (suc n) =
    let e : s + suc n ≡ s + 1 + n = omega arith in
    append_assoc (f s) (flat_map f (range_with_len (s + 1) n)) (f (s + suc n))
    ∙ ap (λ k. f s ++ (flat_map f (range_with_len (s + 1) n) ++ f k)) e
    ∙ ap (λ xs. f s ++ xs) (one_behind f (s + 1) n)

module _ (m most : ℕ) where
  -- a row that is passed
  whole_row : (a b : ℕ) → a ≤ b → last_second m most a < b
      → (a < b → b ≤ last_second m most a + 1)
      → row m a a (b - a) ≡ triples_at m most a
  whole_row a b l over is =
      let e : b - a ≡ last_second m most a + 1 - a = elim (dec_lt a b) [
        | yes h ↦ let k = is h in omega arith
        | no f ↦ omega arith
      ] in
      ap (row m a a) e

  -- the rows up to the first part a
  rows_to : (a b : ℕ) → 1 ≤ a → a ≤ b → last_second m most a < b
      → (a < b → b ≤ last_second m most a + 1)
      → triples_before m most a b ≡ flat_map (triples_at m most) (range_with_len 1 a)
  rows_to a b one l over is =
      let T = triples_at m most in
      let e : 1 + (a - 1) ≡ a = omega arith in
      let f : suc (a - 1) ≡ a = omega arith in
      ap (λ xs. flat_map T (range_with_len 1 (a - 1)) ++ xs)
      (whole_row a b l over is ∙ ap T (sym e))
      ∙ one_behind T 1 (a - 1) ∙ ap (λ n. flat_map T (range_with_len 1 n)) f

  pub before_next_row : (a b : ℕ) → 1 ≤ a → a ≤ b → last_second m most a < b
      → (a < b → b ≤ last_second m most a + 1)
      → triples_before m most (a + 1) (a + 1) ≡ triples_before m most a b
  before_next_row a b one l over is =
      let T = triples_at m most in
      let e : a + 1 - 1 ≡ a = omega arith in
      ap (λ n. flat_map T (range_with_len 1 n) ++ row m (a + 1) (a + 1) (a + 1 - (a + 1))) e
      ∙ ap (λ xs. flat_map T (range_with_len 1 a) ++ xs)
      (no_row m (a + 1) (a + 1) (a + 1 - (a + 1)) (omega arith))
      ∙ append-nil (flat_map T (range_with_len 1 a)) ∙ sym (rows_to a b one l over is)

  pub before_all : (a b : ℕ) → 1 ≤ a → a ≤ b → last_second m most a < b
      → (a < b → b ≤ last_second m most a + 1)
      → (2 ≤ a → a ≤ last_first m most)
      → last_first m most ≤ a
      → triples_before m most a b ≡ triples m most 1
  before_all a b one l over is up last = elim (dec_lt (last_first m most) a) [
    | no f ↦
        let e : a ≡ last_first m most + 1 - 1 = omega arith in
        rows_to a b one l over is
        ∙ ap (λ n. flat_map (triples_at m most) (range_with_len 1 n)) e
    | yes h ↦ alone a b one l over is up h (dec_lt 1 a)
  ]
    where
      alone : (a b : ℕ) → 1 ≤ a → a ≤ b → last_second m most a < b
          → (a < b → b ≤ last_second m most a + 1)
          → (2 ≤ a → a ≤ last_first m most)
          → last_first m most < a → Dec (1 < a)
          → triples_before m most a b ≡ triples m most 1
      alone a b one l over is up h (yes two) = absurd (let k = up two in omega arith)
      alone a b one l over is up h (no f) =
          let T = triples_at m most in
          let e : a ≡ 1 = omega arith in
          let none : last_first m most + 1 - 1 ≡ 0 = omega arith in
          rows_to a b one l over is ∙ ap (λ n. flat_map T (range_with_len 1 n)) e
          ∙ append-nil (T 1)
          ∙ no_row m 1 1 (last_second m most 1 + 1 - 1) (omega arith)
          ∙ sym (ap (λ n. flat_map T (range_with_len 1 n)) none)

  pub before_more : (a b r : ℕ) → a ≤ b
      → triples_before m most a (b + r) ≡ triples_before m most a b ++ row m a b r
  before_more a b r l =
      let F = flat_map (triples_at m most) (range_with_len 1 (a - 1)) in
      let e : b + r - a ≡ b - a + r = omega arith in
      let f : a + (b - a) ≡ b = omega arith in
      ap (λ n. F ++ row m a a n) e
      ∙ ap (λ xs. F ++ xs) (row_add m a a (b - a) r ∙ ap (λ i. row m a a (b - a) ++ row m a i r) f)
      ∙ sym (append_assoc F (row m a a (b - a)) (row m a b r))

  -- nothing is before the first
  pub none_before : triples_before m most 1 1 ≡ []
  none_before = no_row m 1 1 0 refl
