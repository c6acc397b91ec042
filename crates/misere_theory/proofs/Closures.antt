-- A closed set of pairs covers the pair of every position, and the rule need only be tested at its
-- members.
-- The theorem of Covers: a member stands where its value is the position's, and its options are values.
use Rattle.std.proofs.Common.{◌≡◌, ℕ, ◌<◌, ◌⊎◌, true, false, List, refl, sym, ◌∙◌, ap, ap₂, inl, inr}
use Rattle.misere_theory.specs.Games.{Move, IsPosition}
use Rattle.misere_theory.specs.Quotients.{Claim, Monoid, GivesElements, value, HeapOptionValue, RuleHolds}
use Rattle.misere_theory.specs.Parts.{IsPart}
use Rattle.misere_theory.specs.Labels.{over_elements}
use Rattle.misere_theory.proofs.Sums.{value_is, elements_are_labels, value_in, value-append}
use Rattle.misere_theory.proofs.LabelLaws.{split}
use Rattle.misere_theory.proofs.Covers.{IsCover, IsCoverBeside, each_covered, each_obeys}
use Rattle.misere_theory.proofs.Rules.{said, holds}

module _
    (heap : ℕ → Type 0) (code : List ℕ) (part : IsPart heap code) (c : Claim)
    (m : Monoid c.order c.times)
    (phi_in : GivesElements heap c) where
  -- what is tested beside each element holds of each move
  never_into : ((n h y : ℕ) → heap n → HeapOptionValue code c n h → y < c.order
      → c.portion (c.times (c.phi n) y) ≡ true → c.portion (c.times h y) ≡ false)
      → (X Y : List ℕ) → IsPosition heap X → Move code X Y → c.portion (value c X) ≡ true
      → c.portion (value c Y) ≡ false
  never_into elements X Y w i t =
      let f =
      split (λ x. x < c.order) (over_elements c) (elements_are_labels c m) heap phi_in code part i w in
      ap c.portion
      (sym (value_is c Y) ∙ f.to ∙ ap₂ c.times (value_is c f.left) (value_is c f.others))
      ∙ elements f.part_heap (value c f.left) (value c f.others) f.in_part (f.left, f.of_heap, refl)
      (value_in heap c m phi_in f.others f.others_in)
      (ap c.portion
      (ap (c.times (c.phi f.part_heap)) (sym (value_is c f.others)) ∙ sym f.from ∙ value_is c X) ∙ t)

  -- Members with a value and a set each. Each position has one of its value, whose set is among the
  -- position's and is empty only where that is.
  module _ (I : Type 0) (val : I → ℕ) (Has : I → ℕ → Type 0) where
    abbrev pub Covers : I → List ℕ → Type 0
    Covers = IsCover heap code I ℕ (λ i X. val i ≡ value c X) Has (λ X Y e. value c Y ≡ e)

    -- j covers the product of the member i with the pair of the heap n
    pub record CoversProduct (j i : I) (n : ℕ) : Type 0 where
      pub same_value : val j ≡ c.times (c.phi n) (val i)
      pub among : (e : ℕ) → Has j e →
          ((h : ℕ) × HeapOptionValue code c n h × (e ≡ c.times h (val i)))
          ⊎ ((f : ℕ) × Has i f × (e ≡ c.times (c.phi n) f))
      pub some_heap : (h : ℕ) → HeapOptionValue code c n h → (e : ℕ) × Has j e
      pub some_rest : (f : ℕ) → Has i f → (e : ℕ) × Has j e

    beside : (j i : I) (n : ℕ) (X : List ℕ) → heap n → IsPosition heap X → Covers i X
        → CoversProduct j i n
        → IsCoverBeside heap code I ℕ (λ i X. val i ≡ value c X) Has (λ X Y e. value c Y ≡ e) j i n X
    beside j i n X u w k p = record {
      stands = p.same_value ∙ ap (c.times (c.phi n)) k.stands;
      among = λ e h. elim (p.among e h) [
        | inl (v, (H, o, q), d) ↦ inl (
          H,
          o,
          value-append heap c m phi_in H X (part n H u o) w ∙ ap (λ z. c.times z (value c X)) q
              ∙ ap (c.times v) (sym k.stands) ∙ sym d,
        )
        | inr (f, g, d) ↦ inr (f, g, λ Y i q. ap (c.times (c.phi n)) q ∙ sym d)
      ];
      some_heap = λ H o. p.some_heap (value c H) (H, o, refl);
      some_rest = p.some_rest;
    }

    module _
        (start : (i : I) × (val i ≡ 0) × ((e : ℕ) → Has i e → ⊥)) (step : (i : I) (n : ℕ) → heap n
        → (j : I) × CoversProduct j i n) where
      next : (i : I) (n : ℕ) (X : List ℕ) → heap n → IsPosition heap X → Covers i X
          → (j : I)
          × IsCoverBeside heap code I ℕ (λ i X. val i ≡ value c X) Has (λ X Y e. value c Y ≡ e) j i n X
      next i n X u w k = let (j, p) = step i n u in (j, beside j i n X u w k p)

      pub covered : (X : List ℕ) → IsPosition heap X → (i : I) × Covers i X
      covered =
          each_covered heap code I ℕ (λ i X. val i ≡ value c X) Has (λ X Y e. value c Y ≡ e) start next

      -- the rule at each position, from the rule at the members outside the portion and a check by
      -- elements inside it
      pub rule_from_members :
          ((i : I) → c.portion (val i) ≡ false → (e : ℕ) → Has i e
          → (f : ℕ) × Has i f × (c.portion f ≡ true))
          → ((i : I) → c.portion (val i) ≡ true → (e : ℕ) × Has i e)
          → ((n h y : ℕ) → heap n → HeapOptionValue code c n h → y < c.order
          → c.portion (c.times (c.phi n) y) ≡ true → c.portion (c.times h y) ≡ false)
          → (X : List ℕ) → IsPosition heap X → RuleHolds code c X
      rule_from_members outside inside elements X w =
          holds code c X
          (each_obeys heap code I ℕ (λ i X. val i ≡ value c X) Has (λ X Y e. value c Y ≡ e) start next
          (said code c)
          (λ i X w k f e h. let (x, g, t) = outside i (ap c.portion k.stands ∙ f) e h in
          (x, g, λ Y j q. ap c.portion q ∙ t))
          (λ i X w k t. inside i (ap c.portion k.stands ∙ t)) (never_into elements) X w)
