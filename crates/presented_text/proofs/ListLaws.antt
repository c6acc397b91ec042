-- Words behind a sign each, and lines of them: what is read stood there, and what stands there is read.
use Rattle.std.proofs.Common.{◌≡◌, ℕ, zero, suc, ◌<◌, ◌≤◌, List, [], ◌∷◌, ◌++◌, map, length, Option, Some, None, refl, sym, ap, ◌∙◌, append_assoc, inl, inr, arith, codes}
use Rattle.std.specs.List.{AllByRecursion}
use Rattle.std.proofs.lemmas.Bool.{eqb-true, eq-eqb}
use Rattle.std.proofs.lemmas.Option.{some_pair_parts}
use Rattle.certificate_text.specs.Spelling.{spaced}
use Rattle.certificate_text.specs.Reading.{◌>>=◌, with_front, fixed_at}
use Rattle.certificate_text.proofs.Numbers.{bind_some, test_some, fixed_takes, fixed_then, fixed_again, behind}
use Rattle.certificate_text.proofs.Fields.{otherwise_some}
use Rattle.certificate_text.proofs.Lists.{line_text}
use Rattle.presented_text.specs.Reading.{while_at, some_at, exact_at}

-- A reader of words reads just those that spell gives, of values that fit, before what may come next.
pub record IsReaderBefore {X : Type 0} (spell : X → List ℕ) (Fits : X → Type 0)
    (Next : List ℕ → Type 0) (word : List ℕ → Option (X × List ℕ)) : Type 0 where
  pub takes : (bytes : List ℕ) (x : X) (rest : List ℕ) → word bytes ≡ Some (x, rest)
      → (bytes ≡ spell x ++ rest) × Fits x
  pub again : (x : X) (bytes : List ℕ) → Fits x → Next bytes
      → word (spell x ++ bytes) ≡ Some (x, bytes)

-- words, each behind a sign
abbrev pub signed : List ℕ → List (List ℕ) → List ℕ
signed sign [] = []
signed sign (w ∷ ws) = sign ++ (w ++ signed sign ws)

module _ {X : Type 0} {spell : X → List ℕ} {Fits : X → Type 0} {Next : List ℕ → Type 0}
    {word : List ℕ → Option (X × List ℕ)} (r : IsReaderBefore spell Fits Next word)
    (sign : List ℕ) where
  pub while_takes : (room : ℕ) (bytes : List ℕ) (xs : List X) (rest : List ℕ)
      → while_at sign word room bytes ≡ Some (xs, rest)
      → (bytes ≡ signed sign (map spell xs) ++ rest) × (length xs ≤ room)
      × AllByRecursion Fits xs
  unfolding while_at
  while_takes zero bytes xs rest e =
      let p = some_pair_parts _ _ _ _ e in rw (← p.0) (p.1, omega arith, tt)
  while_takes (suc room) bytes xs rest e =
      elim (otherwise_some (fixed_at sign bytes) (Some ([], bytes))
      (λ after. word after >>= λ x. with_front (x.0 ∷ []) (while_at sign word room x.1))
      (xs, rest) e) [
        | inl none ↦
            let p = some_pair_parts _ _ _ _ none.1 in rw (← p.0) (p.1, omega arith, tt)
        | inr some ↦
            let x = bind_some some.2 in
            let ys = bind_some x.2 in
            let st = fixed_takes _ _ _ some.1 in
            let xt = r.takes some.0 x.0.0 x.0.1 x.1 in
            let yt = while_takes room x.0.1 ys.0.0 ys.0.1 ys.1 in
            let p = some_pair_parts (x.0.0 ∷ ys.0.0) xs ys.0.1 rest ys.2 in
            rw (← p.0) (
              behind sign st
                  (xt.0 ∙ ap (λ (t : List ℕ). spell x.0.0 ++ t)
                  (yt.0 ∙ ap (λ (t : List ℕ). signed sign (map spell ys.0.0) ++ t) p.1)
                  ∙ sym (append_assoc (spell x.0.0) (signed sign (map spell ys.0.0)) rest))
                  ∙ sym (append_assoc sign (spell x.0.0 ++ signed sign (map spell ys.0.0)) rest),
              omega (arith, yt.1),
              (xt.1, yt.2),
            )
      ]

  pub while_again : ((ws : List (List ℕ)) (t : List ℕ) → Next t → Next (signed sign ws ++ t))
      → (room : ℕ) (xs : List X) (t : List ℕ) → length xs ≤ room → AllByRecursion Fits xs → Next t
      → fixed_at sign t ≡ None
      → while_at sign word room (signed sign (map spell xs) ++ t) ≡ Some (xs, t)
  unfolding while_at
  while_again goes zero [] t few fits next none = refl
  while_again goes zero (x ∷ xs) t few fits next none = absurd (omega (arith, few))
  while_again goes (suc room) [] t few fits next none = rw none refl
  while_again goes (suc room) (x ∷ xs) t few fits next none =
      let rest = signed sign (map spell xs) in
      rw (
        append_assoc sign (spell x ++ rest) t,
        append_assoc (spell x) rest t,
        fixed_again sign (spell x ++ (rest ++ t)),
        r.again x (rest ++ t) fits.0 (goes (map spell xs) t next),
        while_again goes room xs t (omega (arith, few)) fits.1 next none,
      ) refl

-- ---- lines of words

-- a space or a line's end comes next
pub record IsLow (bytes : List ℕ) : Type 0 where
  pub first : ℕ
  pub more : List ℕ
  pub is : bytes ≡ first ∷ more
  pub low : first < 48

pub low_goes : (ws : List (List ℕ)) (t : List ℕ) → IsLow t → IsLow (signed (codes " ") ws ++ t)
low_goes [] t low = low
low_goes (w ∷ ws) t low = record {
  first = 32;
  more = (w ++ signed (codes " ") ws) ++ t;
  is = refl;
  low = omega arith;
}

no_space : (rest : List ℕ) → fixed_at (codes " ") (10 ∷ rest) ≡ None
unfolding fixed_at
no_space rest = refl

spaced_is : (ws : List (List ℕ)) → signed (codes " ") ws ≡ spaced ws
spaced_is [] = refl
spaced_is (w ∷ ws) = ap (λ (t : List ℕ). 32 ∷ w ++ t) (spaced_is ws)

module _ {X : Type 0} {spell : X → List ℕ} {Fits : X → Type 0}
    {word : List ℕ → Option (X × List ℕ)} (r : IsReaderBefore spell Fits IsLow word) where
  pub some_takes : (name : List ℕ) (room : ℕ) (bytes : List ℕ) (xs : List X) (rest : List ℕ)
      → some_at name word room bytes ≡ Some (xs, rest)
      → (bytes ≡ line_text name (map spell xs) rest) × (length xs ≤ room) × AllByRecursion Fits xs
  unfolding some_at
  some_takes name room bytes xs rest e =
      let named = fixed_then _ _ e in
      let ys = bind_some named.2 in
      let ended = fixed_then _ _ ys.2 in
      let yt = while_takes r (codes " ") room named.0 ys.0.0 ys.0.1 ys.1 in
      let p = some_pair_parts ys.0.0 xs ended.0 rest ended.2 in
      rw (← p.0, ← spaced_is (map spell ys.0.0)) (
        behind name named.1
            (yt.0 ∙ ap (λ (t : List ℕ). signed (codes " ") (map spell ys.0.0) ++ t)
            (behind (10 ∷ []) ended.1 p.1)),
        yt.1,
        yt.2,
      )

  pub some_again : (name : List ℕ) (room : ℕ) (xs : List X) (rest : List ℕ) → length xs ≤ room
      → AllByRecursion Fits xs
      → some_at name word room (line_text name (map spell xs) rest) ≡ Some (xs, rest)
  unfolding some_at
  some_again name room xs rest few fits =
      rw (
        fixed_again name (spaced (map spell xs) ++ 10 ∷ rest),
        ← spaced_is (map spell xs),
        while_again r (codes " ") low_goes room xs (10 ∷ rest) few fits
            (record { first = 10; more = rest; is = refl; low = omega arith }) (no_space rest),
        fixed_again (10 ∷ []) rest,
      ) refl

  pub exact_takes : (name : List ℕ) (count : ℕ) (bytes : List ℕ) (xs : List X) (rest : List ℕ)
      → exact_at name word count bytes ≡ Some (xs, rest)
      → (bytes ≡ line_text name (map spell xs) rest) × (length xs ≡ count) × AllByRecursion Fits xs
  unfolding exact_at
  exact_takes name count bytes xs rest e =
      let ys = bind_some e in
      let t = test_some ys.2 in
      let yt = some_takes name count bytes ys.0.0 ys.0.1 ys.1 in
      let p = some_pair_parts ys.0.0 xs ys.0.1 rest t.1 in
      rw (← p.0) (
        yt.0 ∙ ap (line_text name (map spell ys.0.0)) p.1,
        eqb-true (length ys.0.0) count t.0,
        yt.2,
      )

  pub exact_again : (name : List ℕ) (count : ℕ) (xs : List X) (rest : List ℕ) → length xs ≡ count
      → AllByRecursion Fits xs
      → exact_at name word count (line_text name (map spell xs) rest) ≡ Some (xs, rest)
  unfolding exact_at
  exact_again name count xs rest long fits =
      rw (
        some_again name count xs rest (omega (arith, long)) fits,
        eq-eqb (length xs) count long,
      ) refl
