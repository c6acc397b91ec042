-- Words, lines and rising numbers: what is read stood there, and what stands there is read.
use Rattle.std.proofs.Common.{◌≡◌, ℕ, zero, suc, ◌^◌, ◌<◌, ◌≤◌, false, List, [], ◌∷◌, ◌++◌, map, length, Option, Some, refl, append_assoc, sym, ◌∙◌}
use Rattle.std.specs.Fmt.{decimal}
use Rattle.std.specs.List.{AllByRecursion}
use Rattle.std.proofs.lemmas.Bool.{ltb-true, lt-ltb}
use Rattle.std.proofs.lemmas.Option.{some_pair_parts}
use Rattle.certificate_text.specs.Spelling.{spaced, key_word}
use Rattle.certificate_text.specs.Reading.{is_digit, number_at, key_at, words_at, line_at}
use Rattle.certificate_text.proofs.Numbers.{bind_some, test_some, fixed_again, number_takes, number_again, fixed_then, behind}

-- A reader of words reads just the words that spell gives, of values that fit.
pub record IsReader (X : Type 0) (spell : X → List ℕ) (Fits : X → Type 0) (word : List ℕ
    → Option (X × List ℕ)) : Type 0 where
  pub takes : (bytes : List ℕ) (x : X) (rest : List ℕ) → word bytes ≡ Some (x, rest)
      → (bytes ≡ spell x ++ rest) × Fits x
  pub again : (x : X) (s : ℕ) (rest : List ℕ) → Fits x → is_digit s ≡ false
      → word (spell x ++ s ∷ rest) ≡ Some (x, s ∷ rest)

pub numbers_reader : (limit : ℕ) → 0 < limit → limit ≤ 2 ^ 16
    → IsReader ℕ decimal (λ x. x < limit) (number_at limit)
numbers_reader limit low small = record {
  takes = λ bytes x rest e. number_takes _ _ _ _ low small e;
  again = λ x s rest fits e. number_again limit x s rest fits small e;
}

-- ---- keys

abbrev pub KeyFits : ℕ → ℕ → ℕ × ℕ → Type 0
KeyFits order heaps k = (k.0 < order) × (1 ≤ k.1) × (k.1 < heaps)

key_takes : (order heaps : ℕ) → 0 < order → order ≤ 2 ^ 16 → 0 < heaps → heaps ≤ 2 ^ 16
    → (bytes : List ℕ) (k : ℕ × ℕ) (rest : List ℕ) → key_at order heaps bytes ≡ Some (k, rest)
    → (bytes ≡ key_word k ++ rest) × KeyFits order heaps k
unfolding key_at
key_takes order heaps lo so lh sh bytes k rest e =
    let f = bind_some e in
    let c = fixed_then _ _ f.2 in
    let h = bind_some c.2 in
    let t = test_some h.2 in
    let ft = number_takes _ _ _ _ lo so f.1 in
    let ht = number_takes _ _ _ _ lh sh h.1 in
    let p = some_pair_parts (f.0.0, h.0.0) k h.0.1 rest t.1 in
    let grouped = append_assoc (decimal f.0.0) (58 ∷ decimal h.0.0) rest in
    rw (← p.0) (
      behind (decimal f.0.0) ft.0 (behind (58 ∷ []) c.1 (behind (decimal h.0.0) ht.0 p.1))
          ∙ sym grouped,
      (ft.1, ltb-true _ _ t.0, ht.1),
    )

key_again : (order heaps : ℕ) → order ≤ 2 ^ 16 → heaps ≤ 2 ^ 16
    → (k : ℕ × ℕ) (s : ℕ) (rest : List ℕ) → KeyFits order heaps k → is_digit s ≡ false
    → key_at order heaps (key_word k ++ s ∷ rest) ≡ Some (k, s ∷ rest)
unfolding key_at
key_again order heaps so sh k s rest fits e =
    rw (
      append_assoc (decimal k.0) (58 ∷ decimal k.1) (s ∷ rest),
      number_again order k.0 58 (decimal k.1 ++ s ∷ rest) fits.0 so refl,
      fixed_again (58 ∷ []) (decimal k.1 ++ s ∷ rest),
      number_again heaps k.1 s rest fits.2 sh e,
      lt-ltb 0 k.1 fits.1,
    ) refl

pub keys_reader : (order heaps : ℕ) → 0 < order → order ≤ 2 ^ 16 → 0 < heaps → heaps ≤ 2 ^ 16
    → IsReader (ℕ × ℕ) key_word (KeyFits order heaps) (key_at order heaps)
keys_reader order heaps lo so lh sh = record {
  takes = λ bytes k rest e. key_takes order heaps lo so lh sh bytes k rest e;
  again = λ k s rest fits e. key_again order heaps so sh k s rest fits e;
}

-- ---- several words, and a line of them

module _ {X : Type 0} {spell : X → List ℕ} {Fits : X → Type 0} {word : List ℕ → Option (X × List ℕ)}
    (r : IsReader X spell Fits word) where
  words_take : (n : ℕ) (bytes : List ℕ) (xs : List X) (rest : List ℕ)
      → words_at word n bytes ≡ Some (xs, rest) → (bytes ≡ spaced (map spell xs) ++ rest)
      × (length xs ≡ n) × AllByRecursion Fits xs
  unfolding words_at
  words_take zero bytes xs rest e =
      let p = some_pair_parts _ _ _ _ e in rw (← p.0) (p.1, refl, tt)
  words_take (suc n) bytes xs rest e =
      let space = fixed_then _ _ e in
      let x = bind_some space.2 in
      let ys = bind_some x.2 in
      let xt = r.takes _ _ _ x.1 in
      let yt = words_take n _ _ _ ys.1 in
      let p = some_pair_parts _ _ _ _ ys.2 in
      let grouped = append_assoc (spell x.0.0) (spaced (map spell ys.0.0)) rest in
      rw (← p.0) (cc, cc, (xt.1, yt.2))

  next_again : (x : X) (xs : List X) (rest : List ℕ) → Fits x
      → word (spell x ++ (spaced (map spell xs) ++ 10 ∷ rest))
      ≡ Some (x, spaced (map spell xs) ++ 10 ∷ rest)
  next_again x [] rest fits = r.again x 10 rest fits refl
  next_again x (y ∷ ys) rest fits =
      r.again x 32 ((spell y ++ spaced (map spell ys)) ++ 10 ∷ rest) fits refl

  words_again : (xs : List X) (rest : List ℕ) → AllByRecursion Fits xs
      → words_at word (length xs) (spaced (map spell xs) ++ 10 ∷ rest) ≡ Some (xs, 10 ∷ rest)
  unfolding words_at
  words_again [] rest fits = refl
  words_again (x ∷ xs) rest fits =
      rw (
        append_assoc (spell x) (spaced (map spell xs)) (10 ∷ rest),
        fixed_again (32 ∷ []) (spell x ++ (spaced (map spell xs) ++ 10 ∷ rest)),
        next_again x xs rest fits.0,
        words_again xs rest fits.1,
      ) refl

  pub line_takes : (name : List ℕ) (n : ℕ) (bytes : List ℕ) (xs : List X) (rest : List ℕ)
      → line_at name word n bytes ≡ Some (xs, rest)
      → (bytes ≡ name ++ (spaced (map spell xs) ++ 10 ∷ rest)) × (length xs ≡ n)
      × AllByRecursion Fits xs
  unfolding line_at
  line_takes name n bytes xs rest e =
      let named = fixed_then _ _ e in
      let ys = bind_some named.2 in
      let ended = fixed_then _ _ ys.2 in
      let yt = words_take _ _ _ _ ys.1 in
      let p = some_pair_parts _ _ _ _ ended.2 in
      rw (← p.0) (cc, yt.1, yt.2)

  pub line_again : (name : List ℕ) (n : ℕ) (xs : List X) (rest : List ℕ) → length xs ≡ n
      → AllByRecursion Fits xs → line_at name word n (name ++ (spaced (map spell xs) ++ 10 ∷ rest))
      ≡ Some (xs, rest)
  unfolding line_at
  line_again name n xs rest len fits =
      rw (
        ← len,
        fixed_again name (spaced (map spell xs) ++ 10 ∷ rest),
        words_again xs rest fits,
        fixed_again (10 ∷ []) rest,
      ) refl
