-- Some heaps have the quotient of all, where each heap has a twin among them: a heap with the same label, whose options
-- have the same labels.
use Rattle.std.proofs.Common.{◌≡◌, ◌↔◌, ℕ, true, List, [], ◌∷◌, ◌++◌, refl, sym, ◌∙◌, ap, ap₂, subst}
use Rattle.misere_theory.specs.Games.{HeapOption, Move, IsP, IsPosition, Indistinguishable}
use Rattle.misere_theory.specs.Games.Move.{Here, There}
use Rattle.misere_theory.specs.Parts.{IsPart}
use Rattle.misere_theory.specs.Labels.{LabelClaim, label_of, says_by, AreLabels, PredictsOutcomes, ObeysRule, RepresentsBy}
use Rattle.misere_theory.proofs.Sums.{label-append, no_move_of_none}
use Rattle.misere_theory.proofs.LocalRule.{right_by_rule, rule_of_right}
use Rattle.misere_theory.proofs.LabelLaws.{same_label_alike}

-- ---- heaps with other labels where they don't count

abbrev pub with_labels : {L : Type 0} → LabelClaim L → (ℕ → L) → LabelClaim L
with_labels c label = record { one = c.one; times = c.times; label = label; portion = c.portion }

module _
    {L : Type 0} (IsLabel : L → Type 0) (heap : ℕ → Type 0) (code : List ℕ) (c : LabelClaim L) (label : ℕ → L)
    (same : (n : ℕ) → heap n → c.label n ≡ label n) where
  pub label-same : (X : List ℕ) → IsPosition heap X → label_of c X ≡ label_of (with_labels c label) X
  label-same [] p = refl
  label-same (n ∷ X) p = ap₂ c.times (same n p.0) (label-same X p.1)

  pub relabelled : RepresentsBy IsLabel heap code c → RepresentsBy IsLabel heap code (with_labels c label)
  relabelled r = record {
    monoid = r.monoid;
    labels = λ n p. subst IsLabel (same n p) (r.labels n p);
    predicts = λ X p.
        subst (λ x. IsP code X ↔ (c.portion x ≡ true)) (label-same X p) (r.predicts X p);
    indistinguishable = λ X Y p q. (
      (λ a. sym (label-same X p) ∙ (r.indistinguishable X Y p q).0 a ∙ label-same Y q),
      (λ e. (r.indistinguishable X Y p q).1 (label-same X p ∙ e ∙ sym (label-same Y q))),
    );
    reached = λ x p. let (X, in_X, e) = r.reached x p in (X, in_X, sym (label-same X in_X) ∙ e);
  }

-- ---- twins

-- Each option of the heap n has one of the heap m beside it that has the same label.
abbrev pub LeadsAlike : {L : Type 0} → List ℕ → LabelClaim L → ℕ → ℕ → Type 0
LeadsAlike code c n m =
    (H : List ℕ) → HeapOption code n H → (K : List ℕ) × HeapOption code m K × (label_of c K ≡ label_of c H)

pub record AreTwins {L : Type 0} (code : List ℕ) (c : LabelClaim L) (n m : ℕ) : Type 0 where
  pub same : c.label n ≡ c.label m
  pub forth : LeadsAlike code c n m
  pub back : LeadsAlike code c m n

module _
    {L : Type 0} (IsLabel : L → Type 0) (c : LabelClaim L) (monoid : AreLabels IsLabel c.one c.times)
    (heap : ℕ → Type 0) (labels : (n : ℕ) → heap n → IsLabel (c.label n)) (code : List ℕ)
    (part : IsPart heap code) where
  -- positions whose heaps are twins, one by one
  pub data AreTwinPositions : List ℕ → List ℕ → Type 0 where
    None : AreTwinPositions [] []
    More : {n m : ℕ} {X Y : List ℕ} → heap n → heap m → AreTwins code c n m → AreTwinPositions X Y
        → AreTwinPositions (n ∷ X) (m ∷ Y)

  turned : {X Y : List ℕ} → AreTwinPositions X Y → AreTwinPositions Y X
  turned None = None
  turned (More p q t more) =
      More q p (record { same = sym t.same; forth = t.back; back = t.forth }) (turned more)

  first_in : {X Y : List ℕ} → AreTwinPositions X Y → IsPosition heap X
  first_in None = tt
  first_in (More p q t more) = (p, first_in more)

  pub twin-label : {X Y : List ℕ} → AreTwinPositions X Y → label_of c X ≡ label_of c Y
  twin-label None = refl
  twin-label (More p q t more) = ap₂ c.times t.same (twin-label more)

  twin_moves : {X Y Z : List ℕ} → AreTwinPositions X Y → Move code X Z
      → (W : List ℕ) × Move code Y W × (label_of c W ≡ label_of c Z)
  twin_moves None m = absurd (no_move_of_none m)
  twin_moves (More {n = n} {m = k} {X = X} {Y = Y} p q t more) (Here {H = H} o e) =
      let (K, i, f) = t.forth H o in (
        K ++ Y,
        Here i refl,
        label-append IsLabel c monoid heap labels K Y (part k K q i) (first_in (turned more))
            ∙ ap₂ c.times f (sym (twin-label more))
            ∙ sym (label-append IsLabel c monoid heap labels H X (part n H p o) (first_in more))
            ∙ sym (ap (label_of c) e),
      )
  twin_moves (More {n = n} {m = k} p q t more) (There i e) =
      let (W, j, f) = twin_moves more i in (
        k ∷ W,
        There j refl,
        ap₂ c.times (sym t.same) f ∙ sym (ap (label_of c) e),
      )

  twin_rule : {X Y : List ℕ} → AreTwinPositions X Y → ObeysRule code (says_by c) Y → ObeysRule code (says_by c) X
  twin_rule {X = X} {Y = Y} t rule = (
    λ e.
        let (some, all) = rule.0 (sym (ap c.portion (twin-label t)) ∙ e) in
        let (W, i, f) = twin_moves (turned t) some.1 in (
          (W, i),
          λ Z j. let (V, l, g) = twin_moves t j in sym (ap c.portion g) ∙ all V l,
        ),
    λ given.
        let (some, all) = given in
        let (W, i, f) = twin_moves t some.1 in
        ap c.portion (twin-label t)
        ∙ rule.1 (
          (W, i),
          λ Z j. let (V, l, g) = twin_moves (turned t) j in sym (ap c.portion g) ∙ all V l,
        ),
  )

-- ---- the quotient

-- Each heap has a twin among the small ones.
abbrev pub HaveTwins : {L : Type 0} → (ℕ → Type 0) → (ℕ → Type 0) → List ℕ → LabelClaim L → Type 0
HaveTwins small heap code c = (n : ℕ) → heap n → (m : ℕ) × small m × AreTwins code c n m

module _
    {L : Type 0} (IsLabel : L → Type 0) (small heap : ℕ → Type 0) (code : List ℕ) (c : LabelClaim L)
    (within : (n : ℕ) → small n → heap n) (small_part : IsPart small code) (part : IsPart heap code)
    (twins : HaveTwins small heap code c) (r : RepresentsBy IsLabel small code c) where
  all_in : (X : List ℕ) → IsPosition small X → IsPosition heap X
  all_in [] p = tt
  all_in (n ∷ X) p = (within n p.0, all_in X p.1)

  labels : (n : ℕ) → heap n → IsLabel (c.label n)
  labels n p = let (m, q, t) = twins n p in subst IsLabel (sym t.same) (r.labels m q)

  -- a position of small heaps that are twins
  record HasTwin (X : List ℕ) : Type 0 where
    at : List ℕ
    in_at : IsPosition small at
    twinned : AreTwinPositions IsLabel c r.monoid heap labels code part X at

  twin_of : (X : List ℕ) → IsPosition heap X → HasTwin X
  twin_of [] p = record { at = []; in_at = tt; twinned = AreTwinPositions.None }
  twin_of (n ∷ X) p =
      let (m, q, t) = twins n p.0 in
      let more = twin_of X p.1 in
      record {
        at = m ∷ more.at;
        in_at = (q, more.in_at);
        twinned = AreTwinPositions.More p.0 (within m q) t more.twinned;
      }

  label-twin : (X : List ℕ) (t : HasTwin X) → label_of c X ≡ label_of c t.at
  label-twin X t = twin-label IsLabel c r.monoid heap labels code part t.twinned

  predicts : PredictsOutcomes heap code (says_by c)
  predicts =
      right_by_rule heap code part (says_by c) (λ X p.
      let t = twin_of X p in
      twin_rule IsLabel c r.monoid heap labels code part t.twinned
      (rule_of_right small code small_part (says_by c) r.predicts t.at t.in_at))

  -- a position and its twin are alike
  alike_twin : (X : List ℕ) → IsPosition heap X → (t : HasTwin X) → Indistinguishable heap code X t.at
  alike_twin X p t =
      same_label_alike IsLabel c r.monoid heap labels code predicts X t.at p (all_in t.at t.in_at) (label-twin X t)

  same_label : (X Y : List ℕ) → IsPosition heap X → IsPosition heap Y → Indistinguishable heap code X Y
      → label_of c X ≡ label_of c Y
  same_label X Y p q alike =
      let t = twin_of X p in
      let u = twin_of Y q in
      label-twin X t
      ∙ (r.indistinguishable t.at u.at t.in_at u.in_at).0 (λ Z s. let z = all_in Z s in (
        λ is. (alike_twin Y q u Z z).0 ((alike Z z).0 ((alike_twin X p t Z z).1 is)),
        λ is. (alike_twin X p t Z z).0 ((alike Z z).1 ((alike_twin Y q u Z z).1 is)),
      ))
      ∙ sym (label-twin Y u)

  pub represents : RepresentsBy IsLabel heap code c
  represents = record {
    monoid = r.monoid;
    labels = labels;
    predicts = predicts;
    indistinguishable = λ X Y p q. (
      same_label X Y p q,
      same_label_alike IsLabel c r.monoid heap labels code predicts X Y p q,
    );
    reached = λ x p. let (X, in_X, e) = r.reached x p in (X, all_in X in_X, e);
  }
