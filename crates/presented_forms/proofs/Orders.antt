-- The order of words, and that by last letters, are strict.
use Rattle.std.proofs.Common.{◌≡◌, ℕ, zero, suc, ◌<◌, List, ◌∙◌, inl, inr, arith}
use Rattle.std.specs.Prelude.{slice_index}
use Rattle.std.proofs.lemmas.Bool.{cases_lt, cases_eq}
use Rattle.presentations.specs.declared.TheConstants.{LETTERS}
use Rattle.relations.specs.Bases.{Precedes, letter_count}
use Rattle.normal_forms.proofs.Ranks.{at-most-count}
use Rattle.presented_forms.specs.Form.{IsLastLetter, ComesEarlier}

pub precedes-never : (n : ℕ) (v : List ℕ) → Precedes n v v → ⊥
precedes-never n v (inl less) = omega (arith, less)
precedes-never n v (inr (e, (i, i_in, less, same))) = omega (arith, less)

pub precedes-trans : (n : ℕ) (u v w : List ℕ) → Precedes n u v → Precedes n v w → Precedes n u w
precedes-trans n u v w (inl a) (inl b) = inl (omega (arith, a, b))
precedes-trans n u v w (inl a) (inr (f, q)) = inl (omega (arith, a, f))
precedes-trans n u v w (inr (e, p)) (inl b) = inl (omega (arith, e, b))
precedes-trans n u v w (inr (e, (i, i_in, less, same))) (inr (f, (j, j_in, more, alike))) =
    inr (
      omega (arith, e, f),
      elim (cases_lt i j) [
        | inl lt ↦ (
          i,
          i_in,
          (let h = alike i lt in omega (arith, h, less)),
          λ k l. same k l ∙ alike k (omega (arith, l, lt)),
        )
        | inr le ↦ (
          j,
          j_in,
          elim (cases_eq i j) [
            | inl here ↦ (let h : slice_index v j < slice_index u j = rw (← here) less in omega (arith, h, more))
            | inr other ↦ (let h = same j (omega (arith, le, other)) in omega (arith, h, more))
          ],
          λ k l. same k (omega (arith, l, le)) ∙ alike k l,
        )
      ],
    )

-- ---- last letters

-- A letter that no other one of the first n follows.
record IsLastBelow (n : ℕ) (w : List ℕ) (i : ℕ) : Type 0 where
  letter : i < n
  some : 0 < slice_index w i
  none : (k : ℕ) → i < k → k < n → slice_index w k ≡ 0

last-below : (n : ℕ) (w : List ℕ) → 0 < letter_count n w → (i : ℕ) × IsLastBelow n w i
last-below zero w some = absurd (omega (arith, some))
last-below (suc n) w some = elim (cases_eq (slice_index w n) 0) [
  | inl none ↦
      let found = last-below n w (omega (arith, some, none)) in (
        found.0,
        record {
          letter = (let l = found.1.letter in omega (arith, l));
          some = found.1.some;
          none = λ k gt lt.
              elim (cases_eq k n) [
                | inl e ↦ rw e none
                | inr other ↦ found.1.none k gt (omega (arith, lt, other))
              ];
        },
      )
  | inr more ↦ (
    n,
    record {
      letter = omega arith;
      some = omega (arith, more);
      none = λ k gt lt. absurd (omega (arith, gt, lt));
    },
  )
]

abbrev pub HasLast : List ℕ → Type 0
HasLast w = (i : ℕ) × IsLastLetter w i

-- a word that another one comes before has a letter
some-letter : (n : ℕ) (v w : List ℕ) → Precedes n v w → 0 < letter_count n w
some-letter n v w (inl less) = omega (arith, less)
some-letter n v w (inr (e, (i, i_in, less, same))) =
    let most = at-most-count n v i i_in in
    omega (arith, e, less, most)

pub has-last : (v w : List ℕ) → Precedes LETTERS v w → HasLast w
has-last v w less =
    let found = last-below LETTERS w (some-letter LETTERS v w less) in
    (found.0, record { letter = found.1.letter; some = found.1.some; none = found.1.none })

pub earlier-never : (v : List ℕ) → HasLast v → ComesEarlier v v → ⊥
earlier-never v (i, last) less = elim (less i i last last) [
  | inl lt ↦ omega (arith, lt)
  | inr same ↦ precedes-never LETTERS v same.1
]

pub earlier-trans : (u v w : List ℕ) → HasLast v → ComesEarlier u v → ComesEarlier v w → ComesEarlier u w
earlier-trans u v w (j, mid) less more i k one two = elim (less i j one mid) [
  | inl lt ↦
      elim (more j k mid two) [
        | inl gt ↦ inl (omega (arith, lt, gt))
        | inr at ↦ inl (let e = at.0 in omega (arith, lt, e))
      ]
  | inr at ↦
      elim (more j k mid two) [
        | inl gt ↦ inl (let e = at.0 in omega (arith, gt, e))
        | inr too ↦ inr (at.0 ∙ too.0, precedes-trans LETTERS u v w at.1 too.1)
      ]
]
