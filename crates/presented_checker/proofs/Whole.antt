-- A presentation of a whole game is right where it is right of as many heaps as are enough.
use Rattle.std.proofs.Common.{◌≡◌, ℕ, ◌<◌, ◌≤◌, true, List, [], ◌∷◌, map, Option, refl, sym, ap, ◌∙◌, subst, inl, inr, arith}
use Rattle.std.specs.Prelude.{is_some}
use Rattle.std.specs.List.{AllByRecursion}
use Rattle.misere_theory.specs.Games.{Move, IsPosition, IsHeapUpTo}
use Rattle.misere_theory.specs.Labels.{label_of, says_by, BreaksRule}
use Rattle.misere_theory.specs.Parts.{IsPart, IsInfinite}
use Rattle.misere_theory.proofs.Sums.{move_kept, heaps_up_to_kept}
use Rattle.presentations.specs.declared.TheConstants.{LETTERS}
use Rattle.presentations.specs.Vectors.{zeros}
use Rattle.normal_forms.specs.Forms.{NormalForms, product_by}
use Rattle.presented_text.specs.Said.{PresentedSaid, IsInRanges}
use Rattle.presented_claims.specs.Claims.{word_or_one, heap_word, IsElement, claim_of}
use Rattle.presented_claims.specs.Presents.{Presents}
use Rattle.presented_tables.specs.Tested.{HasWord}
use Rattle.presented_tables.specs.Faults.{LeavesOut}
use Rattle.presented_checker.specs.Unrolled.{said_word, unrolled, repeats_from, enough_heaps}
use Rattle.presented_checker.proofs.Shifts.{AreLike, like_small}
use Rattle.presented_checker.proofs.Twins.{label-same, relabelled, HaveTwins, represents}
use Rattle.presented_checker.proofs.Lists.{periodic, has-size, inside, has-inside, has-before, has-still, all-inside, all-before, all-still}

-- ---- positions and labels by the words of heaps

abbrev AreSome : List (Option (List ℕ)) → Type 0
AreSome words = AllByRecursion (λ w. is_some w ≡ true) words

module _ (c : PresentedSaid) where
  have-some : (X : List ℕ) → IsPosition (HasWord c) X → AreSome (map (said_word c) X)
  have-some [] p = tt
  have-some (n ∷ X) p = (p.0, have-some X p.1)

  some-have : (X : List ℕ) → AreSome (map (said_word c) X) → IsPosition (HasWord c) X
  some-have [] p = tt
  some-have (n ∷ X) p = (p.0, some-have X p.1)

  position-by-words : (X Y : List ℕ) → map (said_word c) X ≡ map (said_word c) Y → IsPosition (HasWord c) X
      → IsPosition (HasWord c) Y
  position-by-words X Y e p = some-have Y (subst AreSome e (have-some X p))

  module _ (forms : NormalForms LETTERS c.relations) where
    label_by : List (Option (List ℕ)) → List ℕ
    label_by [] = zeros LETTERS
    label_by (w ∷ ws) = product_by forms.form (forms.form (word_or_one w)) (label_by ws)

    label-by-words : (X : List ℕ) → label_of (claim_of c forms) X ≡ label_by (map (said_word c) X)
    unfolding label_by
    label-by-words [] = refl
    label-by-words (n ∷ X) = ap (product_by forms.form (forms.form (heap_word c n))) (label-by-words X)

    same-labels : (X Y : List ℕ) → map (said_word c) X ≡ map (said_word c) Y
        → label_of (claim_of c forms) X ≡ label_of (claim_of c forms) Y
    same-labels X Y e = label-by-words X ∙ ap label_by e ∙ sym (label-by-words Y)

-- ---- as many heaps as are enough

module _ (c : PresentedSaid) (ranges : IsInRanges c) (some : 0 < c.period) (B : ℕ) (enough : enough_heaps c ≤ B)
  where
    like : (n : ℕ) → 1 ≤ n → (m : ℕ) × (m ≤ B) × AreLike c.code (said_word c) n m
    like n le =
        let (m, (m_some, m_in), t) =
        like_small c.code (said_word c) _ (repeats_from c) c.period (periodic c ranges some) n le in
        (m, omega arith, t)

    part : IsPart (HasWord (unrolled c B)) c.code → IsPart (HasWord c) c.code
    part small n H has o =
        let (m, m_in, t) = like n (has-size c n has) in
        let (K, k, e) = t.forth H o in
        let has_m : HasWord c m = sym (ap is_some t.same) ∙ has in
        position-by-words c K H e (all-before c B K (small m K (has-still c B m m_in has_m) k))

    twins : (forms : NormalForms LETTERS c.relations)
        → HaveTwins (HasWord (unrolled c B)) (HasWord c) c.code (claim_of c forms)
    twins forms n has =
        let (m, m_in, t) = like n (has-size c n has) in (
          m,
          has-still c B m m_in (sym (ap is_some t.same) ∙ has),
          record {
            same = ap (λ w. forms.form (word_or_one w)) t.same;
            forth = λ H o. let (K, k, e) = t.forth H o in (K, k, same-labels c forms K H e);
            back = λ H o. let (K, k, e) = t.back H o in (K, k, same-labels c forms K H e);
          },
        )

    pub presents : Presents (unrolled c B) → Presents c
    presents small = record {
      part = part small.part;
      converges = small.converges;
      quotient = λ forms.
          represents (IsElement c) (HasWord (unrolled c B)) (HasWord c) c.code (claim_of c forms) (has-before c B)
          small.part (part small.part) (twins forms)
          (relabelled (IsElement c) (HasWord (unrolled c B)) c.code (claim_of (unrolled c B) forms)
          (λ n. forms.form (heap_word c n))
          (λ n has. ap (λ w. forms.form (word_or_one w)) (inside c B n (has-inside c B n has).1))
          (small.quotient forms));
    }

-- ---- what is true of the heaps up to B

module _ (c : PresentedSaid) (B : ℕ) where
  pub infinite : IsInfinite (HasWord (unrolled c B)) c.code → IsInfinite (HasWord c) c.code
  infinite (X, in_X, apart) = (
    X,
    λ n. all-before c B (X n) (in_X n),
    λ m n lt. let (Z, z, e) = apart m n lt in (Z, all-before c B Z z, e),
  )

  pub leaves : (n : ℕ) → LeavesOut (unrolled c B) n → LeavesOut c n
  leaves n l = record {
    has = has-before c B n l.has;
    left = l.left;
    option = l.option;
    out = λ p.
        l.out (all-still c B l.left
        (heaps_up_to_kept B c.code n l.left (has-inside c B n l.has) l.option) p);
  }

  module _ (forms : NormalForms LETTERS c.relations) where
    same-says : (X : List ℕ) → IsPosition (IsHeapUpTo B) X
        → says_by (claim_of c forms) X ≡ says_by (claim_of (unrolled c B) forms) X
    same-says X p =
        ap (claim_of c forms).portion
        (sym (label-same (IsElement c) (IsHeapUpTo B) c.code (claim_of (unrolled c B) forms)
        (λ n. forms.form (heap_word c n))
        (λ n h. ap (λ w. forms.form (word_or_one w)) (inside c B n h.1)) X p))

    pub breaks : (X : List ℕ) → IsPosition (HasWord (unrolled c B)) X
        → BreaksRule c.code (says_by (claim_of (unrolled c B) forms)) X
        → BreaksRule c.code (says_by (claim_of c forms)) X
    breaks X p broken =
        let small = all-inside c B X p in
        let kept = λ (Y : List ℕ) (m : Move c.code X Y).
        move_kept (IsHeapUpTo B) c.code (heaps_up_to_kept B c.code) m small in
        elim broken [
          | inl (t, inl none) ↦ inl (same-says X small ∙ t, inl none)
          | inl (t, inr (Y, m, u)) ↦ inl (same-says X small ∙ t, inr (Y, m, same-says Y (kept Y m) ∙ u))
          | inr (f, moves, all) ↦ inr (same-says X small ∙ f, moves, λ Y m. same-says Y (kept Y m) ∙ all Y m)
        ]
