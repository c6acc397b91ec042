-- Lines that are answered one after another.
use Rattle.std.proofs.Common.{◌≡◌, ◌≢◌, ◌∙◌, ◌<◌, ◌&&◌, ◌==◌, ℕ, Bool, true, false, List, [], ◌∷◌, ◌++◌, Option, Some, None, append_assoc, append-nil, ap, arith, length, refl, subst, sym}
use Rattle.std.specs.Io.KnownBytes.{Consumes}
use Rattle.std.proofs.lemmas.Bool.{eqb-true}
use Rattle.std.proofs.lemmas.List.{length-append}
use Rattle.command_results.specs.Lines.{AreLinesOf, IsTooLong}

-- ---- what is read

longer : (bytes read rest : List ℕ) → bytes ≡ read ++ rest → 4194304 < length read
    → 4194304 < length bytes
longer bytes read rest is more =
    let long = ap length is ∙ length-append read rest in omega (arith, long, more)

-- a stream of which too much was read
pub too_long : (before after : Option (List ℕ)) (read : List ℕ) → Consumes before after read
    → 4194304 < length read → IsTooLong (AreLinesOf before)
too_long None after read consumed more = (read, tt, more)
too_long (Some bytes) None read consumed more = absurd consumed
too_long (Some bytes) (Some rest) read consumed more =
    (bytes, refl, longer bytes read rest consumed more)

-- ---- what is left

pub not_empty : {A : Type 0} (b : Bool) (xs : List A) → b ≡ false → b ≡ (length xs == 0) → xs ≢ []
not_empty b [] f h e = let no_test : false ≡ true = sym f ∙ h in absurd cc
not_empty b (x ∷ xs) f h e = absurd (let t : length (x ∷ xs) ≡ 0 = ap length e in omega arith)

pub is_nothing : {A : Type 0} (b : Bool) (xs : List A) → b ≡ true → b ≡ (length xs == 0) → xs ≡ []
is_nothing b [] t h = refl
is_nothing b (x ∷ xs) t h =
    absurd (let none : length (x ∷ xs) ≡ 0 = eqb-true (length (x ∷ xs)) 0 (sym h ∙ t) in
    omega arith)

-- ---- what is said

and_assoc : (a b c : Bool) → ((a && b) && c) ≡ (a && (b && c))
and_assoc true b c = refl
and_assoc false b c = refl

-- whether both are so
pub if_so : (a b r : Bool) → a ≡ true → r ≡ b → r ≡ (a && b)
if_so true b r e is = is
if_so false b r e is = cc

pub if_not : (a b r : Bool) → a ≡ false → r ≡ a → r ≡ (a && b)
if_not true b r e is = cc
if_not false b r e is = is

and_true : (a : Bool) → (a && true) ≡ a
and_true true = refl
and_true false = refl

-- Something is answered by texts, and by whether all end well.
module _ {A : Type 0} (Answers : A → List ℕ → Bool → Type 0) where
  -- The text is what is said before the rest: what is said of the rest goes on with it.
  abbrev pub Answered : (whole rest : A) (text : List ℕ) → Bool → Type 0
  Answered whole rest text all = (later : List ℕ) (well : Bool) → Answers rest later well
      → Answers whole (text ++ later) (all && well)

  -- one more is answered, where what is said of those behind it goes on with what is said of it
  pub one_more_answered : (whole rest back : A) (text said new : List ℕ) (all answered all' : Bool)
      → Answered whole rest text all
      → ((later : List ℕ) (well : Bool) → Answers back later well
      → Answers rest (said ++ later) (answered && well))
      → new ≡ text ++ said → all' ≡ (all && answered) → Answered whole back new all'
  one_more_answered whole rest back text said new all answered all' before one is is' later well
      after =
      subst (λ (t : List ℕ). Answers whole (t ++ later) (all' && well)) (sym is)
      (subst (λ (b : Bool). Answers whole ((text ++ said) ++ later) (b && well)) (sym is')
      (subst (λ (t : List ℕ). Answers whole t ((all && answered) && well))
      (sym (append_assoc text said later))
      (subst (λ (b : Bool). Answers whole (text ++ (said ++ later)) b)
      (sym (and_assoc all answered well))
      (before (said ++ later) (answered && well) (one later well after)))))

  pub all_answered : (whole rest : A) (text : List ℕ) (all : Bool)
      → Answered whole rest text all → Answers rest [] true → Answers whole text all
  all_answered whole rest text all before end =
      subst (λ (t : List ℕ). Answers whole t all) (append-nil text)
      (subst (λ (b : Bool). Answers whole (text ++ []) b) (and_true all) (before [] true end))
