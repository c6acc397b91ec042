-- If a move wins, one wins that is tried.
use Rattle.std.proofs.Common.{◌≡◌, ℕ, ◌+◌, ◌-◌, ◌<◌, ◌≤◌, true, List, [], ◌∷◌, ◌++◌, map, refl, sym, ap, ap₂, ◌∙◌, subst, inl, inr, arith, eq-zero-or-pos}
use Rattle.std.specs.List.Sorted.{IsNonDecreasing}
use Rattle.std.specs.Prelude.{is_some, false}
use Rattle.std.proofs.lemmas.Bool.{true≢false, cases_lt, lt-ltb}
use Rattle.std.proofs.lemmas.List.Sorted.{IsPermutation-refl}
use Rattle.misere_theory.specs.Games.{HeapOption, IsP, IsPosition}
use Rattle.misere_theory.specs.Games.HeapOption.{Nothing, One, Two, Three}
use Rattle.misere_theory.specs.Labels.{LabelClaim, label_of}
use Rattle.misere_theory.specs.Pairs.{IsSmallSplit}
use Rattle.misere_theory.specs.Plays.{IsWinningMove}
use Rattle.misere_theory.proofs.Shuffles.{beside, p_shuffled, from_permutation, position_shuffled}
use Rattle.misere_theory.proofs.Sums.{IsPosition-append}
use Rattle.misere_theory.proofs.Wins.{winning_leads}
use Rattle.presentations.specs.declared.TheConstants.{LETTERS}
use Rattle.normal_forms.specs.Forms.{NormalForms}
use Rattle.normal_forms.proofs.Steps.{forms}
use Rattle.presented_text.specs.Said.{PresentedSaid}
use Rattle.presented_claims.specs.Claims.{listed_heap, listed_word, word_or_one, in_portion, claim_of}
use Rattle.presented_tables.specs.Tested.{HasWord}
use Rattle.presented_checker.specs.Refused.{Kept, IsRight}
use Rattle.presented_checker.specs.Unrolled.{said_word, repeats_from}
use Rattle.presented_checker.proofs.Lists.{periodic}
use Rattle.player.specs.Wins.{IsTriedWin}
use Rattle.label_players.proofs.Splits.{small_like}

-- ---- labels by what heaps have

label_by : {L : Type 0} → LabelClaim L → List L → L
label_by c [] = c.one
label_by c (x ∷ xs) = c.times x (label_by c xs)

module _ {L : Type 0} {T : Type 0} (c : LabelClaim L) (f : ℕ → T) (of : T → L) (is : (n : ℕ) → c.label n ≡ of (f n))
  where
    by_what : (X : List ℕ) → label_of c X ≡ label_by c (map of (map f X))
    unfolding label_by
    by_what [] = refl
    by_what (n ∷ X) = ap₂ c.times (is n) (by_what X)

    same-label : (H K X : List ℕ) → map f K ≡ map f H → label_of c (K ++ X) ≡ label_of c (H ++ X)
    same-label H K X e = by_what (K ++ X) ∙ ap (λ ys. label_by c (map of ys)) (joined X e) ∙ sym (by_what (H ++ X))
      where
        appended : (Y X : List ℕ) → map f (Y ++ X) ≡ map f Y ++ map f X
        appended [] X = refl
        appended (y ∷ Y) X = ap (λ ys. f y ∷ ys) (appended Y X)

        joined : (X : List ℕ) → map f K ≡ map f H → map f (K ++ X) ≡ map f (H ++ X)
        joined X e = appended K X ∙ ap (λ ys. ys ++ map f X) e ∙ sym (appended H X)

-- ---- a list without a period

-- a heap with a word is in it
in-list : (c : PresentedSaid) → c.period ≡ 0 → (n : ℕ) → HasWord c n → n ≤ c.heaps
in-list c none n has = elim (cases_lt c.heaps n) [
  | inl lt ↦ absurd (true≢false (sym has ∙ out lt))
  | inr le ↦ le
]
  where
    out : c.heaps < n → is_some (listed_word c (listed_heap c n)) ≡ false
    out lt = rw (lt-ltb c.heaps n lt, none) refl

-- each of its options is tried
all-small : (code : List ℕ) (n b : ℕ) (H : List ℕ) → n ≤ b → HeapOption code n H → IsNonDecreasing H
    → IsSmallSplit (b + 1) H
all-small code n b H le (Nothing j l h s) w = tt
all-small code n b H le (One j x l p h s) w = tt
all-small code n b H le (Two j x y p q h s) w = (w 0 1 0 (omega arith) (omega arith), omega arith)
all-small code n b H le (Three j x y z p q r h s) w =
    (w 0 1 0 (omega arith) (omega arith), w 1 2 0 (omega arith) (omega arith), omega arith, omega arith)

-- ---- either way

module _ (k : Kept) (right : IsRight k) where
  abbrev c : PresentedSaid
  c = k.said

  abbrev most : ℕ → ℕ
  most n = c.heaps

  -- of a winning move in a list that repeats there is one that is tried
  module _ (some : 0 < c.period) (X : List ℕ) (position : IsPosition (HasWord c) X) where
    by-period : (n : ℕ) (H : List ℕ) → IsWinningMove c.code X n H
        → (m : ℕ) × (L : List ℕ) × IsTriedWin c.code most X m L
    by-period n H w =
        let move = w.1.1 in
        let F : NormalForms LETTERS c.relations =
        forms LETTERS c.relations right.accepted.presents.converges.oriented in
        let predicts = (right.accepted.presents.quotient F).predicts in
        let part = right.accepted.presents.part in
        let all = position_shuffled (HasWord c) (from_permutation X _ move.before) position in
        let like =
        small_like c.code (said_word c) _ (repeats_from c) c.period (periodic c right.ranges some) n H move.allowed w.0
        in
        let same : label_of (claim_of c F) (like.other ++ move.others) ≡ label_of (claim_of c F) (H ++ move.others) =
        same-label (claim_of c F) (said_word c) (λ v. F.form (word_or_one v)) (λ m. refl) H like.other move.others
        like.like in
        let p : IsP c.code (H ++ move.others) =
        winning_leads w (record {
          others = move.others;
          before = move.before;
          allowed = move.allowed;
          after = IsPermutation-refl (H ++ move.others);
        }) in
        let other_wins : IsP c.code (like.other ++ move.others) =
        (predicts (like.other ++ move.others)
        (IsPosition-append (HasWord c) like.other move.others (part n like.other all.0 like.other_option) all.1)).1
        (ap (in_portion c) same ∙ (predicts (H ++ move.others)
        (IsPosition-append (HasWord c) H move.others (part n H all.0 move.allowed) all.1)).0 p) in
        let wins : IsP c.code (like.left ++ move.others) =
        p_shuffled other_wins (beside like.shuffled move.others) in
        let few = right.ranges.period in
        let bound : repeats_from c + c.period ≡ c.heaps + 1 = omega arith in (
          n,
          like.left,
          (
            (
              like.rising,
              (
                like.left ++ move.others,
                record {
                  others = move.others;
                  before = move.before;
                  allowed = like.option;
                  after = IsPermutation-refl (like.left ++ move.others);
                },
                wins,
              ),
            ),
            subst (λ b. IsSmallSplit b like.left) bound like.small,
          ),
        )

  pub enough : (X : List ℕ) → IsPosition (HasWord c) X → (n : ℕ) (H : List ℕ) → IsWinningMove c.code X n H
      → (m : ℕ) × (L : List ℕ) × IsTriedWin c.code most X m L
  enough X position n H w = elim (eq-zero-or-pos c.period) [
    | inl none ↦
        let move = w.1.1 in
        let all = position_shuffled (HasWord c) (from_permutation X _ move.before) position in
        (n, H, (w, all-small c.code n c.heaps H (in-list c none n all.0) move.allowed w.0))
    | inr some ↦ by-period some X position n H w
  ]
