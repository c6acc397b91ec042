-- Bytes that go out one after another.
use Rattle.std.proofs.Common.{◌≡◌, ◌≤◌, ◌<◌, ℕ, suc, get_or, ◌+◌, ◌-◌, List, [], ◌∷◌, ◌++◌, take, drop, length, map, Option, append_assoc, sym, ap, subst, ◌∙◌, arith, refl, codes}
use Rattle.std.proofs.Math.Seq.{take-suc}
use Rattle.std.proofs.lemmas.List.{append-nil, length-drop, take_all, take-append-drop}
use Rattle.std.proofs.lemmas.List.Concat.{flat_map-append}
use Rattle.std.specs.Fmt.{decimal}
use Rattle.std.specs.Io.KnownBytes.{Appends}
use Rattle.std.specs.List.{flat_map}
use Rattle.misere_theory.specs.Games.{IsCode}
use Rattle.octal_code.specs.Text.{code_text, digit_byte}
use Rattle.streams.specs.Stream.{AppendsSome}
use Rattle.streams.proofs.StreamLaws.{appends_then, some_then, some_more}
use Rattle.certificate_text.specs.Spelling.{Line, spaced, row_line, text}

-- ---- a piece for each element of a list

module _ {X : Type 0} (f : X → List ℕ) where
  one_more : (xs : List X) (i : ℕ) (d : X) → i < length xs
      → flat_map f (take (suc i) xs) ≡ flat_map f (take i xs) ++ f (get_or xs i d)
  one_more xs i d lt =
      ap (flat_map f) (take-suc xs i d lt) ∙ flat_map-append f (take i xs) (get_or xs i d ∷ [])
      ∙ ap (λ (t : List ℕ). flat_map f (take i xs) ++ t) (append-nil (f (get_or xs i d)))

  in_two : (xs : List X) (i : ℕ) → flat_map f xs ≡ flat_map f (take i xs) ++ flat_map f (drop i xs)
  in_two xs i =
      ap (flat_map f) (sym (take-append-drop i xs)) ∙ flat_map-append f (take i xs) (drop i xs)

  -- the piece of the next element goes out
  module _ (a b c : Option (List ℕ)) (xs : List X) (i : ℕ) (d : X) (piece : List ℕ)
      (lt : i < length xs) (p : Appends a b (flat_map f (take i xs))) where
    pub pieces_go_on : Appends b c piece → piece ≡ f (get_or xs i d)
        → Appends a c (flat_map f (take (i + 1) xs))
    pieces_go_on q is =
        let e : suc i ≡ i + 1 = omega arith in
        subst (λ (k : ℕ). Appends a c (flat_map f (take k xs))) e
        (subst (λ (t : List ℕ). Appends a c t) (sym (one_more xs i d lt))
        (appends_then a b c (flat_map f (take i xs)) (f (get_or xs i d)) p
        (subst (λ (t : List ℕ). Appends b c t) is q)))

    pub pieces_stop : (all : List ℕ) → AppendsSome b c piece → piece ≡ f (get_or xs i d)
        → flat_map f xs ≡ all → AppendsSome a c all
    pieces_stop all q is total =
        subst (λ (t : List ℕ). AppendsSome a c t) (sym (in_two xs (suc i)) ∙ total)
        (some_more a c (flat_map f (take (suc i) xs)) (flat_map f (drop (suc i) xs))
        (subst (λ (t : List ℕ). AppendsSome a c t) (sym (one_more xs i d lt))
        (some_then a b c (flat_map f (take i xs)) (f (get_or xs i d)) p
        (subst (λ (t : List ℕ). AppendsSome b c t) is q))))

  pub pieces_are_all : (a b : Option (List ℕ)) (xs : List X) (i : ℕ) (all : List ℕ) → length xs ≤ i
      → Appends a b (flat_map f (take i xs)) → flat_map f xs ≡ all → Appends a b all
  pieces_are_all a b xs i all le p total =
      subst (λ (t : List ℕ). Appends a b t) (ap (flat_map f) (take_all i xs le) ∙ total) p

  -- words, each behind a space
  pub spaced_is : (xs : List X) → flat_map (λ x. 32 ∷ f x) xs ≡ spaced (map f xs)
  spaced_is [] = refl
  spaced_is (x ∷ xs) = ap (λ (t : List ℕ). 32 ∷ (f x ++ t)) (spaced_is xs)

-- ---- lines

pub text_append : (ks ls : List Line) → text (ks ++ ls) ≡ text ks ++ text ls
text_append [] ls = refl
text_append (k ∷ ks) ls =
    ap (λ (t : List ℕ). k.name ++ (spaced k.words ++ 10 ∷ t)) (text_append ks ls)
    ∙ ap (λ (t : List ℕ). k.name ++ t)
    (sym (append_assoc (spaced k.words) (10 ∷ text ks) (text ls)))
    ∙ sym (append_assoc k.name (spaced k.words ++ 10 ∷ text ks) (text ls))

pub text_of_pieces : {X : Type 0} (g : X → List Line) (xs : List X)
    → flat_map (λ x. text (g x)) xs ≡ text (flat_map g xs)
text_of_pieces g [] = refl
text_of_pieces g (x ∷ xs) = ap (λ (t : List ℕ). text (g x) ++ t) (text_of_pieces g xs)
    ∙ sym (text_append (g x) (flat_map g xs))

abbrev pub row_text : List ℕ → List ℕ
row_text row = codes "row" ++ (spaced (map decimal row) ++ 10 ∷ [])

pub rows_text : (rows : List (List ℕ)) → flat_map row_text rows ≡ text (map row_line rows)
rows_text [] = refl
rows_text (row ∷ rows) =
    append_assoc (codes "row") (spaced (map decimal row) ++ 10 ∷ []) (flat_map row_text rows)
    ∙ ap (λ (t : List ℕ). codes "row" ++ t)
    (append_assoc (spaced (map decimal row)) (10 ∷ []) (flat_map row_text rows))
    ∙ ap (λ (t : List ℕ). codes "row" ++ (spaced (map decimal row) ++ 10 ∷ t)) (rows_text rows)

-- ---- the digits of a code

pub digits_behind : (code : List ℕ) → length (drop 1 code) ≡ length code - 1
digits_behind code = length-drop 1 code

pub digit_place : (code : List ℕ) (j : ℕ) → get_or code (j + 1) 0 ≡ get_or (drop 1 code) j 0
digit_place [] j = refl
digit_place (d ∷ ds) j = let e : j + 1 ≡ suc j = omega arith in
    ap (λ (k : ℕ). get_or (d ∷ ds) k 0) e

pub code_is : (code : List ℕ) → IsCode code
    → code_text code ≡ digit_byte (get_or code 0 0) ∷ 46 ∷ map digit_byte (drop 1 code)
code_is [] is = absurd is
code_is (d ∷ ds) is = refl
