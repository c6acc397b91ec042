-- The options that a player looks at, and winning moves among them.
use Rattle.std.proofs.Common.{◌≡◌, ℕ, ◌+◌, ◌-◌, ◌<◌, ◌≤◌, ◌⊎◌, inl, inr, List, ◌++◌, length, sym, ◌∙◌, ap, ap₂, subst, arith, eq-zero-or-pos}
use Rattle.std.specs.List.{Contains}
use Rattle.std.specs.List.Sorted.{IsNonDecreasing}
use Rattle.std.proofs.lemmas.List.Sorted.{IsPermutation-refl}
use Rattle.misere_theory.specs.Certificates.{Certificate, kind_of, IsHeapOf, Accepted, claim_of}
use Rattle.misere_theory.specs.Games.{HeapOption, IsPosition, IsP}
use Rattle.misere_theory.specs.Kinds.{IsPeriodicIn}
use Rattle.misere_theory.specs.Pairs.{IsSmallSplit}
use Rattle.misere_theory.specs.Parts.{IsPart}
use Rattle.misere_theory.specs.Plays.{LeftBefore, MoveBefore, IsWinningMove, IsFirstWin}
use Rattle.misere_theory.specs.Quotients.{Claim, value}
use Rattle.misere_theory.proofs.Counting.{kept_in, kind_full, kind_partial}
use Rattle.misere_theory.proofs.Shuffles.{from_permutation, position_shuffled}
use Rattle.misere_theory.proofs.SmallParts.{small_or_earlier}
use Rattle.misere_theory.proofs.Sums.{IsPosition-append, value_in, value-append}
use Rattle.misere_theory.proofs.Wins.{winning_leads}
use Rattle.misere_theory.proofs.Written.{periodic}
use Rattle.heap_options.specs.Options.{options_up_to}
use Rattle.heap_options.specs.Exact.{heaps_of}
use Rattle.heap_options.specs.declared.left.Left.{Left}
use Rattle.heap_options.proofs.OptionLaws.{only, cut}
use Rattle.player.specs.Looks.{IsFirstInto}
use Rattle.player.specs.Wins.{IsTriedWin, IsFirstTried}
use Rattle.player.proofs.Order.{before_trans, small_in, in_order, up_to_small}

module _ (c : Certificate) (yes_to : Accepted c) where
  abbrev C : Claim
  C = claim_of c

  abbrev most : ℕ → ℕ
  most n = c.start + c.period - 1

  abbrev heap : ℕ → Type 0
  heap = IsHeapOf c

  -- no move leaves the heaps of which the certificate speaks
  pub keeps_heaps : IsPart heap c.code
  keeps_heaps = kept_in (kind_of c) c.code

  repeats : IsPeriodicIn (kind_of c) c.code C (length c.code - 1) c.start c.period
  repeats = periodic c yes_to.in_ranges

  past : kind_of c < c.start + c.period
  past = elim (eq-zero-or-pos c.period) [
    | inl z ↦ let k = kind_partial c.start c.period z in let s = yes_to.in_ranges.start in omega arith
    | inr some ↦ let k = kind_full c.start c.period some in let s = yes_to.in_ranges.start in omega arith
  ]

  -- each option has one of its value among the looks, which is it or comes before it
  look_for : (n : ℕ) → (0 < kind_of c → n ≤ kind_of c) → (H : List ℕ) → HeapOption c.code n H
      → IsNonDecreasing H
      → (L : Left) × Contains (options_up_to c.code n (most n)) L × (value C (heaps_of L) ≡ value C H)
      × ((heaps_of L ≡ H) ⊎ LeftBefore (heaps_of L) H)
  look_for n counts H o w =
      let (S, i, small, e, before) =
      small_or_earlier (kind_of c) c.code C (length c.code - 1) c.start c.period repeats
      past n counts (λ _. (yes_to.represents.monoid, yes_to.represents.elements)) H o w
      in
      let s : c.start + c.period ≡ most n + 1 = (let r = yes_to.in_ranges.start in omega arith) in
      let (L, there, same) = small_in c.code n (most n) S i (subst (λ b. IsSmallSplit b S) s small) in (
        L,
        there,
        ap (value C) same ∙ e,
        subst (λ v. (v ≡ H) ⊎ LeftBefore v H) (sym same) before,
      )

  -- the first option that passes is among the looks
  pub first_among : (n y : ℕ) (H : List ℕ) → (0 < kind_of c → n ≤ kind_of c) → IsFirstInto c n y H
      → (L : Left) × Contains (options_up_to c.code n (most n)) L × (heaps_of L ≡ H)
  first_among n y H counts into =
      let (L, i, v, b) = look_for n counts H into.option into.in_order in
      let o = only c.code n (most n) L i in (
        L,
        i,
        elim b [
          | inl same ↦ same
          | inr less ↦ absurd
              (into.first (heaps_of L) o.0 (in_order L o.1)
              (ap (λ v. C.portion (C.times y v)) v ∙ into.here) less)
        ],
      )

  sum_value : (H : List ℕ) → IsPosition heap H → (Y : List ℕ) → IsPosition heap Y
      → value C (H ++ Y) ≡ C.times (value C H) (value C Y)
  sum_value H h Y y = value-append heap C yes_to.represents.monoid yes_to.represents.elements H Y h y

  -- labels are elements, and products of labels are labels of sums
  pub label_in : (x : ℕ) → (X : List ℕ) × (IsPosition heap X × (x ≡ value C X)) → x < c.order
  label_in x (X, h) =
      subst (λ v. v < c.order) (sym h.1)
      (value_in heap C yes_to.represents.monoid yes_to.represents.elements X h.0)

  pub sum_label : (X Y : List ℕ) (x y r : ℕ) → r ≡ C.times x y → IsPosition heap X × (x ≡ value C X)
      → IsPosition heap Y × (y ≡ value C Y) → IsPosition heap (X ++ Y) × (r ≡ value C (X ++ Y))
  sum_label X Y x y r e a b = (
    IsPosition-append heap X Y a.0 b.0,
    e ∙ (ap₂ C.times a.1 b.1 ∙ sym (sum_value X a.0 Y b.0)),
  )

  module _ (X : List ℕ) (position : IsPosition heap X) where
    -- of a winning move there is one that is tried, which is it or comes before it
    tried_for : (n : ℕ) (H : List ℕ) → IsWinningMove c.code X n H
        → (L : List ℕ) × IsTriedWin c.code most X n L × ((L ≡ H) ⊎ LeftBefore L H)
    tried_for n H w =
        let move = w.1.1 in
        let all = position_shuffled heap (from_permutation X _ move.before) position in
        let (L, i, v, b) = look_for n all.0.1 H move.allowed w.0 in
        let o = only c.code n (most n) L i in
        let same : value C (heaps_of L ++ move.others) ≡ value C (H ++ move.others) =
        sum_value (heaps_of L) (keeps_heaps n (heaps_of L) all.0 o.0) move.others all.1
        ∙ (ap (λ u. C.times u (value C move.others)) v
        ∙ sym (sum_value H (keeps_heaps n H all.0 move.allowed) move.others all.1)) in
        let p : IsP c.code (H ++ move.others) =
        winning_leads w (record {
          others = move.others;
          before = move.before;
          allowed = move.allowed;
          after = IsPermutation-refl (H ++ move.others);
        }) in
        let wins =
        (yes_to.represents.predicts (heaps_of L ++ move.others)
        (IsPosition-append heap (heaps_of L) move.others (keeps_heaps n (heaps_of L) all.0 o.0) all.1)).1
        (ap C.portion same ∙ (yes_to.represents.predicts (H ++ move.others)
        (IsPosition-append heap H move.others (keeps_heaps n H all.0 move.allowed) all.1)).0 p) in (
          heaps_of L,
          (
            (
              in_order L o.1,
              (
                heaps_of L ++ move.others,
                record {
                  others = move.others;
                  before = move.before;
                  allowed = o.0;
                  after = IsPermutation-refl (heaps_of L ++ move.others);
                },
                wins,
              ),
            ),
            up_to_small (most n) L o.1 ((cut c.code n (most n) L).0 i).1,
          ),
          b,
        )

    pub enough : (n : ℕ) (H : List ℕ) → IsWinningMove c.code X n H
        → (m : ℕ) × (L : List ℕ) × IsTriedWin c.code most X m L
    enough n H w = let (L, t, b) = tried_for n H w in (n, L, t)

    -- the first winning move that is tried is the first of all
    pub first_of_tried : (n : ℕ) (H : List ℕ) → IsFirstTried c.code most X n H → IsFirstWin c.code X n H
    first_of_tried n H first = (
      first.0.0,
      λ m K w before. let (L, t, b) = tried_for m K w in first.1 m L t (elim b [
        | inl same ↦ subst (λ v. MoveBefore m v n H) (sym same) before
        | inr less ↦ elim before [
          | inl l ↦ inl l
          | inr l ↦ inr (l.0, before_trans L K H less l.1)
        ]
      ]),
    )
