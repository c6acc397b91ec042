-- Factors and words at the front of bytes.
-- What was read and what is left are the text: each factor more keeps this.
use Rattle.std.proofs.Common.{◌≡◌, ℕ, zero, suc, ◌+◌, ◌*◌, ◌<◌, ◌≤◌, List, [], ◌∷◌, ◌++◌, length, get_or, set, refl, sym, ap, ap₂, ◌∙◌, inl, inr, arith, subst, append_assoc, length-append, All}
use Rattle.std.specs.Prelude.{Option, Some, None as Nothing, Bool, true, is_some, IfSome}
use Rattle.std.proofs.lemmas.Bool.{false≢true}
use Rattle.std.proofs.lemmas.List.{append-nil}
use Rattle.presentations.specs.declared.TheConstants.{LETTERS, LARGEST_EXPONENT}
use Rattle.presentations.specs.Vectors.{plus, zeros, only}
use Rattle.presentations.specs.Text.{IsPower, IsFactor, AreFactors, AreFewFactors, IsWord}
use Rattle.presentations.specs.Text.IsPower.{One, Two}
use Rattle.presentations.specs.Text.IsFactor.{Alone, Raised}
use Rattle.presentations.specs.Text.AreFactors.{None, More}
use Rattle.presentations.specs.Text.IsWord.{Empty, Product}
use Rattle.presentations.specs.Fronts.{EndsFactor, EndsWord, EndsDigits, StartsWith, IsFront, IsNoFront}
use Rattle.presentations.proofs.VectorLaws.{cons-same, only-here, length-only, length-plus, plus-zeros, zeros-plus, plus-assoc}

pub head-same : {b c : ℕ} {bs cs : List ℕ} → ◌≡◌ {A = List ℕ} (b ∷ bs) (c ∷ cs) → b ≡ c
head-same e = cc

pub tail-same : {b c : ℕ} {bs cs : List ℕ} → ◌≡◌ {A = List ℕ} (b ∷ bs) (c ∷ cs) → bs ≡ cs
tail-same e = cc

pub nothing-there : {b : ℕ} {bs : List ℕ} → ◌≡◌ {A = List ℕ} [] (b ∷ bs) → ⊥
nothing-there e = cc

-- one digit, from 2 on
pub one-digit : (rest : List ℕ) (d : ℕ) → 2 ≤ d → d < 10 → EndsDigits rest
    → IsFront IsPower EndsFactor ((48 + d) ∷ rest) d rest
one-digit rest d two ten ends =
    record { word = (48 + d) ∷ []; is = One d two ten; joined = refl; only = same }
  where
    same : (other : List ℕ) (y : ℕ) (tail : List ℕ) → IsPower other y → EndsFactor tail
        → (48 + d) ∷ rest ≡ other ++ tail → (y ≡ d) × (tail ≡ rest)
    same other y tail (One c c2 c10) ok f = (omega (arith, head-same f), sym (tail-same f))
    same other y tail (Two b c b1 b10 c10 few) ok f =
        absurd (omega (arith, c10, rw (tail-same f) at ends))

-- two digits, the first not 0
pub two-digits : (rest : List ℕ) (d e : ℕ) → 1 ≤ d → d < 10 → e < 10
    → 10 * d + e ≤ LARGEST_EXPONENT
    → IsFront IsPower EndsFactor ((48 + d) ∷ (48 + e) ∷ rest) (10 * d + e) rest
two-digits rest d e one ten nine few = record {
  word = (48 + d) ∷ (48 + e) ∷ [];
  is = Two d e one ten nine few;
  joined = refl;
  only = same;
}
  where
    same : (other : List ℕ) (y : ℕ) (tail : List ℕ) → IsPower other y → EndsFactor tail
        → (48 + d) ∷ (48 + e) ∷ rest ≡ other ++ tail → (y ≡ 10 * d + e) × (tail ≡ rest)
    same other y tail (One c c2 c10) ok f =
        absurd (omega (arith, nine, (rw (← tail-same f) at ok).0))
    same other y tail (Two b c b1 b10 c10 less) ok f =
        (omega (arith, head-same f, head-same (tail-same f)), sym (tail-same (tail-same f)))

-- two digits that don't make an exponent, or three
pub no-exponent : (rest : List ℕ) (d e : ℕ) → e < 10
    → ((10 * d + e ≤ LARGEST_EXPONENT) → (EndsFactor rest → ⊥))
    → IsNoFront IsPower EndsFactor ((48 + d) ∷ (48 + e) ∷ rest)
no-exponent rest d e nine bad other y tail (One c c2 c10) ok f =
    absurd (omega (arith, nine, (rw (← tail-same f) at ok).0))
no-exponent rest d e nine bad other y tail (Two b c b1 b10 c10 few) ok f =
    bad (omega (arith, few, head-same f, head-same (tail-same f)))
    (rw (← tail-same (tail-same f)) at ok)

-- a letter alone
pub letter-alone : (rest : List ℕ) (letter : ℕ) → letter < LETTERS → (StartsWith 94 rest → ⊥)
    → IsFront IsFactor EndsFactor ((97 + letter) ∷ rest) (letter, 1) rest
letter-alone rest letter low bare =
    record { word = (97 + letter) ∷ []; is = Alone letter low; joined = refl; only = same }
  where
    same : (other : List ℕ) (y : ℕ × ℕ) (tail : List ℕ) → IsFactor other y → EndsFactor tail
        → (97 + letter) ∷ rest ≡ other ++ tail → (y ≡ (letter, 1)) × (tail ≡ rest)
    same other y tail (Alone l lt) ok f =
        let l_is : l ≡ letter = omega (arith, head-same f) in
        (ap (λ k. (k, 1)) l_is, sym (tail-same f))
    same other y tail (Raised l n digits lt p) ok f = absurd (bare (rw (tail-same f) refl))

-- a letter with an exponent
pub letter-raised : (rest behind : List ℕ) (letter n : ℕ) → letter < LETTERS
    → IsFront IsPower EndsFactor rest n behind
    → IsFront IsFactor EndsFactor ((97 + letter) ∷ 94 ∷ rest) (letter, n) behind
letter-raised rest behind letter n low p = record {
  word = (97 + letter) ∷ 94 ∷ p.word;
  is = Raised letter n p.word low p.is;
  joined = ap (λ t. (97 + letter) ∷ 94 ∷ t) p.joined;
  only = same;
}
  where
    same : (other : List ℕ) (y : ℕ × ℕ) (tail : List ℕ) → IsFactor other y → EndsFactor tail
        → (97 + letter) ∷ 94 ∷ rest ≡ other ++ tail → (y ≡ (letter, n)) × (tail ≡ behind)
    same other y tail (Alone l lt) ok f = absurd ((rw (← tail-same f) at ok).1 refl)
    same other y tail (Raised l m digits lt q) ok f =
        let l_is : l ≡ letter = omega (arith, head-same f) in
        let r = p.only digits m tail q ok (tail-same (tail-same f)) in
        (ap₂ (λ k m. (k, m)) l_is r.0, r.1)

-- a factor begins with a letter
pub factor-letter : (bytes : List ℕ) (f : ℕ × ℕ) → IsFactor bytes f → (b : ℕ) × (bs : List ℕ)
    × (bytes ≡ b ∷ bs) × (97 ≤ b)
factor-letter bytes f (Alone letter lt) = (97 + letter, [], refl, omega arith)
factor-letter bytes f (Raised letter n digits lt p) = (97 + letter, 94 ∷ digits, refl, omega arith)

pub factors-letter : (bytes v : List ℕ) → AreFactors bytes v → 0 < length bytes
    → (b : ℕ) × (bs : List ℕ) × (bytes ≡ b ∷ bs) × (97 ≤ b)
factors-letter bytes v None some = absurd (omega arith)
factors-letter bytes v (More first rest factor w is are) some =
    let l = factor-letter first factor is in (l.0, l.1 ++ rest, ap (λ t. t ++ rest) l.2, l.3)

ends-word : (tail : List ℕ) → EndsWord tail → EndsFactor tail
ends-word [] ok = tt
ends-word (t ∷ tail) (inl e) = (inr (omega arith), λ same. absurd (omega (arith, same, e)))
ends-word (t ∷ tail) (inr e) = (inl (omega arith), λ same. absurd (omega (arith, same, e)))

pub word-no-letter : (tail : List ℕ) (b : ℕ) (bs : List ℕ) → EndsWord tail → tail ≡ b ∷ bs → 97 ≤ b
    → ⊥
word-no-letter tail b bs ok e high = omega (arith, rw e at ok, high)

-- behind factors comes a letter, or what may come behind a word
ends-more : (bytes v tail : List ℕ) → AreFactors bytes v → EndsWord tail
    → EndsFactor (bytes ++ tail)
ends-more bytes v tail None ok = ends-word tail ok
ends-more bytes v tail (More first rest factor w is are) ok =
    let l = factor-letter first factor is in
    rw l.2 (inr (omega (arith, l.3)), λ same. absurd (omega (arith, same, l.3)))

-- Factors were read from the front on, with these exponents, and the rest is still to be read.
pub record IsReadSoFar (front rest v : List ℕ) : Type 0 where
  pub read : List ℕ
  pub joined : front ≡ read ++ rest
  pub sound : (word w : List ℕ) → AreFactors word w → AreFactors (read ++ word) (plus v w)
  pub whole : (word w tail : List ℕ) → AreFactors word w → EndsWord tail → front ≡ word ++ tail
      → (later : List ℕ) × (u : List ℕ) × AreFactors later u × (rest ≡ later ++ tail)
      × (w ≡ plus v u)

pub length-factors : (bytes v : List ℕ) → AreFactors bytes v → length v ≡ LETTERS
length-factors bytes v None = refl
length-factors bytes v (More first rest factor w is are) =
    length-plus (only LETTERS factor.0 factor.1) w
    (length-only LETTERS factor.0 factor.1 ∙ sym (length-factors rest w are)) ∙ length-factors rest w are

pub read-none : (front : List ℕ) → IsReadSoFar front front (zeros LETTERS)
read-none front = record {
  read = [];
  joined = refl;
  sound = λ word w are. rw (zeros-plus w LETTERS (length-factors word w are)) are;
  whole =
      λ word w tail are ok e. (word, w, are, e, sym (zeros-plus w LETTERS (length-factors word w are)));
}

pub read-more : (front rest behind v : List ℕ) (letter n : ℕ) → IsReadSoFar front rest v
    → IsFront IsFactor EndsFactor rest (letter, n) behind
    → IsReadSoFar front behind (plus v (only LETTERS letter n))
read-more front rest behind v letter n so f = record {
  read = so.read ++ f.word;
  joined = so.joined ∙ ap (λ t. so.read ++ t) f.joined ∙ sym (append_assoc so.read f.word behind);
  sound = λ word w are.
      rw (append_assoc so.read f.word word, plus-assoc v (only LETTERS letter n) w)
      (so.sound (f.word ++ word) (plus (only LETTERS letter n) w)
      (More f.word word (letter, n) w f.is are));
  whole = λ word w tail are ok e. let l = so.whole word w tail are ok e in
      later l.0 l.1 tail w l.2 ok l.3 l.4;
}
  where
    later : (bytes u tail w : List ℕ) → AreFactors bytes u → EndsWord tail → rest ≡ bytes ++ tail
        → w ≡ plus v u
        → (more : List ℕ) × (x : List ℕ) × AreFactors more x × (behind ≡ more ++ tail)
        × (w ≡ plus (plus v (only LETTERS letter n)) x)
    later bytes u tail w None ok e is =
        let l = factor-letter f.word (letter, n) f.is in
        absurd
        (word-no-letter tail l.0 (l.1 ++ behind) ok
        (sym e ∙ f.joined ∙ ap (λ t. t ++ behind) l.2) l.3)
    later bytes u tail w (More first after factor x one are) ok e is =
        let same =
        f.only first factor (after ++ tail) one (ends-more after x tail are ok)
        (e ∙ append_assoc first after tail) in (
          after,
          x,
          are,
          sym same.1,
          is ∙ ap (λ p. plus v (plus (only LETTERS p.0 p.1) x)) same.0
              ∙ sym (plus-assoc v (only LETTERS letter n) x),
        )

-- no further factor
pub read-all : (front rest v : List ℕ) → IsReadSoFar front rest v
    → IsNoFront IsFactor EndsFactor rest → length v ≡ LETTERS → All (λ x. x ≤ LARGEST_EXPONENT) v
    → IsFront AreFewFactors EndsWord front v rest
read-all front rest v so none long few = record {
  word = so.read;
  is = record {
    are = rw (append-nil so.read, plus-zeros v LETTERS long) at (so.sound [] (zeros LETTERS) None);
    few = few;
  };
  joined = so.joined;
  only = λ other y tail is ok e. let l = so.whole other y tail is.are ok e in
      last l.0 l.1 tail y l.2 ok l.3 l.4;
}
  where
    last : (bytes u tail w : List ℕ) → AreFactors bytes u → EndsWord tail → rest ≡ bytes ++ tail
        → w ≡ plus v u → (w ≡ v) × (tail ≡ rest)
    last bytes u tail w None ok e is = (is ∙ plus-zeros v LETTERS long, sym e)
    last bytes u tail w (More first after factor x one are) ok e is =
        absurd
        (none first factor (after ++ tail) one (ends-more after x tail are ok)
        (e ∙ append_assoc first after tail))

plus-at : (u w : List ℕ) (i : ℕ) → get_or (plus u w) i 0 ≡ get_or u i 0 + get_or w i 0
plus-at [] w i = omega arith
plus-at (x ∷ u) [] i = omega arith
plus-at (x ∷ u) (y ∷ w) zero = refl
plus-at (x ∷ u) (y ∷ w) (suc i) = plus-at u w i

-- an exponent that is too large stays too large
pub read-much : (front rest behind v : List ℕ) (letter n : ℕ) → IsReadSoFar front rest v
    → IsFront IsFactor EndsFactor rest (letter, n) behind
    → letter < LETTERS → LARGEST_EXPONENT < get_or v letter 0 + n
    → IsNoFront AreFewFactors EndsWord front
read-much front rest behind v letter n so f low much other y tail is ok e =
    let l = (read-more front rest behind v letter n so f).whole other y tail is.are ok e in
    let one = only LETTERS letter n in
    omega (
      arith,
      ap (λ w. get_or w letter 0) l.4,
      plus-at (plus v one) l.1 letter,
      plus-at v one letter,
      only-here LETTERS letter n low,
      is.few letter 0 (omega (arith, length-factors other y is.are)),
    )

-- what the code writes
pub set-only : (v : List ℕ) (m letter n whole : ℕ) → length v ≡ m → letter < m
    → whole ≡ get_or v letter 0 + n → set v letter whole ≡ plus v (only m letter n)
set-only v zero letter n whole len lt e = absurd (omega arith)
set-only [] (suc m) letter n whole len lt e = absurd (omega arith)
set-only (x ∷ v) (suc m) zero n whole len lt e =
    cons-same e (sym (plus-zeros v m (omega arith)))
set-only (x ∷ v) (suc m) (suc letter) n whole len lt e =
    cons-same (omega arith) (set-only v m letter n whole (omega arith) (omega arith) e)

-- the word 1
pub word-one : (rest : List ℕ) → IsFront IsWord EndsWord (49 ∷ rest) (zeros LETTERS) rest
word-one rest = record { word = 49 ∷ []; is = Empty; joined = refl; only = same }
  where
    same : (other y tail : List ℕ) → IsWord other y → EndsWord tail → 49 ∷ rest ≡ other ++ tail
        → (y ≡ zeros LETTERS) × (tail ≡ rest)
    same other y tail Empty ok e = (refl, sym (tail-same e))
    same other y tail (Product b v some f) ok e =
        let l = factors-letter b v f.are some in
        absurd (omega (arith, l.3, head-same (e ∙ ap (λ t. t ++ tail) l.2)))

-- a word of factors
pub word-product : (bytes rest v : List ℕ) → (StartsWith 49 bytes → ⊥)
    → IsFront AreFewFactors EndsWord bytes v rest → length rest < length bytes
    → IsFront IsWord EndsWord bytes v rest
word-product bytes rest v other_one f less = record {
  word = f.word;
  is = Product f.word v (omega (arith, ap length f.joined, length-append f.word rest)) f.is;
  joined = f.joined;
  only = same;
}
  where
    same : (other y tail : List ℕ) → IsWord other y → EndsWord tail → bytes ≡ other ++ tail
        → (y ≡ v) × (tail ≡ rest)
    same other y tail Empty ok e = absurd (other_one (rw e refl))
    same other y tail (Product b w some g) ok e = f.only b w tail g ok e

pub no-factors : (bytes rest v : List ℕ) → (StartsWith 49 bytes → ⊥)
    → IsFront AreFewFactors EndsWord bytes v rest → rest ≡ bytes → IsNoFront IsWord EndsWord bytes
no-factors bytes rest v other_one f same other y tail Empty ok e =
    other_one (rw e refl)
no-factors bytes rest v other_one f same other y tail (Product b w some g) ok e =
    let t = f.only b w tail g ok e in
    absurd (omega (arith, ap length t.1, ap length same, ap length e, length-append b tail))

-- a digit goes on
pub digit-goes-on : (At : Type 0) (o : Option ℕ) (b : Bool) (rest behind : List ℕ) → b ≡ is_some o
    → b ≡ true
    → IfSome o (λ d. (d < 10) × At × (rest ≡ (48 + d) ∷ behind)) → EndsFactor rest → ⊥
digit-goes-on At Nothing b rest behind e t h ok = false≢true (sym e ∙ t)
digit-goes-on At (Some d) b rest behind e t h ok = omega (arith, h.0, (rw h.2 at ok).0)

pub all-zeros : (n : ℕ) → All (λ x. x ≤ LARGEST_EXPONENT) (zeros n)
all-zeros zero k d lt = absurd (omega arith)
all-zeros (suc n) zero d lt = omega arith
all-zeros (suc n) (suc k) d lt = all-zeros n k d (omega arith)
