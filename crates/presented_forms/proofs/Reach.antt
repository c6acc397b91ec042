-- What the cycles make of a word, letter by letter; and which words they take to one.
use Rattle.std.proofs.Common.{◌≡◌, ℕ, zero, suc, ◌<◌, ◌≤◌, true, List, [], ◌∷◌, length, All, refl, sym, ap, ◌∙◌, inl, inr, arith}
use Rattle.std.specs.Prelude.{slice_index, slice_index_or, nat_eq}
use Rattle.std.specs.List.{list_any}
use Rattle.std.specs.Cmp.Lexicographic.{pointwise, same_text}
use Rattle.std.proofs.lemmas.Bool.{lt-ltb, le-ltb}
use Rattle.std.proofs.lemmas.List.Folds.{Any-from_list_any}
use native.Mathlib.Decide.{dec_lt}
use Rattle.presentations.specs.declared.TheConstants.{LETTERS}
use Rattle.relations.specs.Bases.{Divides}
use Rattle.normal_forms.specs.Forms.{IsStandard}
use Rattle.presented_claims.specs.Claims.{cycled_exponent, cycled}
use Rattle.presented_forms.specs.Form.{MayHold, StandsForStandard}

pub cycled-out : (cs : List (ℕ × ℕ)) (w : List ℕ) (i : ℕ) → length cs ≤ i
    → slice_index (cycled cs w) i ≡ slice_index w i
cycled-out [] w i le = refl
cycled-out (c ∷ cs) [] i le = refl
cycled-out (c ∷ cs) (e ∷ w) zero le = absurd (omega (arith, le))
cycled-out (c ∷ cs) (e ∷ w) (suc i) le = cycled-out cs w i (omega (arith, le))

pub cycled-in : (cs : List (ℕ × ℕ)) (w : List ℕ) (i : ℕ) (d : ℕ × ℕ) → i < length cs → i < length w
    → slice_index (cycled cs w) i ≡ cycled_exponent (slice_index_or cs i d) (slice_index w i)
cycled-in [] w i d near long = absurd (omega (arith, near))
cycled-in (c ∷ cs) [] i d near long = absurd (omega (arith, long))
cycled-in (c ∷ cs) (e ∷ w) zero d near long = refl
cycled-in (c ∷ cs) (e ∷ w) (suc i) d near long =
    cycled-in cs w i d (omega (arith, near)) (omega (arith, long))

below-start : (c : ℕ × ℕ) (e : ℕ) → e < c.0 → cycled_exponent c e ≡ e
below-start c e low = rw (lt-ltb e c.0 low) refl

from-start : (c : ℕ × ℕ) (e : ℕ) → c.0 ≤ e → c.0 ≤ cycled_exponent c e
from-start c e high = rw (le-ltb e c.0 high) (omega arith)

pub may-hold : (cs : List (ℕ × ℕ)) (v w u : List ℕ) → length w ≡ LETTERS → cycled cs w ≡ u
    → Divides LETTERS v w → MayHold cs v u
may-hold cs v w u long is divides i d lt = elim (dec_lt i (length cs)) [
  | no far ↦
      let same : slice_index u i ≡ slice_index w i =
      ap (λ (x : List ℕ). slice_index x i) (sym is) ∙ cycled-out cs w i (omega (arith, far))
      in
      inl (omega (arith, same, divides i lt))
  | yes near ↦
      let c = slice_index_or cs i d in
      let same : slice_index u i ≡ cycled_exponent c (slice_index w i) =
      ap (λ (x : List ℕ). slice_index x i) (sym is) ∙ cycled-in cs w i d near (omega (arith, lt, long))
      in
      elim (dec_lt (slice_index w i) c.0) [
        | yes low ↦
            let e = below-start c (slice_index w i) low in inl (omega (arith, same, e, divides i lt))
        | no high ↦
            let e = from-start c (slice_index w i) (omega (arith, high)) in inr (near, omega (arith, same, e))
      ]
]

-- a word that the cycles take to one of the list is standard if these stand for standard words
pub in_list : (relations : List (List ℕ × List ℕ)) (cs : List (ℕ × ℕ)) (portion : List (List ℕ))
    → All (StandsForStandard relations cs) portion → (w : List ℕ) → length w ≡ LETTERS
    → list_any (pointwise nat_eq (cycled cs w)) portion ≡ true → IsStandard LETTERS relations w
in_list relations cs portion all w long e =
    let (k, u, lt, is, same) = Any-from_list_any (pointwise nat_eq (cycled cs w)) portion e in
    all k u lt w long (same_text (cycled cs w) (slice_index_or portion k u) (sym (rw is same)))
