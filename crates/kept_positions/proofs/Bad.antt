-- A sum is bad beside a label exactly if each part is bad beside the product with the other part's label.
use Rattle.std.proofs.Common.{◌≡◌, ℕ, ◌↔◌, false, List, ◌++◌, sym, ◌∙◌, ap, subst, inl, inr}
use Rattle.misere_theory.specs.Games.{IsPosition}
use Rattle.misere_theory.specs.Parts.{IsPart}
use Rattle.misere_theory.specs.Labels.{LabelClaim, label_of, AreLabels}
use Rattle.misere_theory.proofs.Sums.{sum_moves, move_on_left, move_on_right, move_kept, label_in, label-append}
use Rattle.kept_positions.specs.Kept.{IsBadBeside}

module _
    {L : Type 0} (IsLabel : L → Type 0) (c : LabelClaim L) (m : AreLabels IsLabel c.one c.times)
    (heap : ℕ → Type 0) (labels : (n : ℕ) → heap n → IsLabel (c.label n))
    (code : List ℕ) (part : IsPart heap code) where
  on_right : (x : L) (X Y : List ℕ) → IsLabel x → IsPosition heap X → IsPosition heap Y
      → c.times x (label_of c (X ++ Y)) ≡ c.times (c.times x (label_of c X)) (label_of c Y)
  on_right x X Y l p q =
      ap (c.times x) (label-append IsLabel c m heap labels X Y p q)
      ∙ sym (m.associates _ _ _ l (label_in IsLabel c m heap labels X p) (label_in IsLabel c m heap labels Y q))

  on_left : (x : L) (X Y : List ℕ) → IsLabel x → IsPosition heap X → IsPosition heap Y
      → c.times x (label_of c (X ++ Y)) ≡ c.times (c.times x (label_of c Y)) (label_of c X)
  on_left x X Y l p q =
      let i = label_in IsLabel c m heap labels X p in
      let j = label_in IsLabel c m heap labels Y q in
      ap (c.times x) (label-append IsLabel c m heap labels X Y p q ∙ m.commutes _ _ i j)
      ∙ sym (m.associates _ _ _ l j i)

  pub bad_parts : (x : L) (X Y : List ℕ) → IsLabel x → IsPosition heap X → IsPosition heap Y
      → IsBadBeside code c x (X ++ Y)
      → IsBadBeside code c (c.times x (label_of c Y)) X × IsBadBeside code c (c.times x (label_of c X)) Y
  bad_parts x X Y l p q b = (
    (
      ap c.portion (sym (on_left x X Y l p q)) ∙ b.0,
      λ U i. ap c.portion (sym (on_left x U Y l (move_kept heap code part i p) q))
          ∙ b.1 (U ++ Y) (move_on_left code X U Y i),
    ),
    (
      ap c.portion (sym (on_right x X Y l p q)) ∙ b.0,
      λ U i. ap c.portion (sym (on_right x X U l p (move_kept heap code part i q)))
          ∙ b.1 (X ++ U) (move_on_right code X Y U i),
    ),
  )

  pub bad_sum : (x : L) (X Y : List ℕ) → IsLabel x → IsPosition heap X → IsPosition heap Y
      → IsBadBeside code c (c.times x (label_of c Y)) X → IsBadBeside code c (c.times x (label_of c X)) Y
      → IsBadBeside code c x (X ++ Y)
  bad_sum x X Y l p q a b = (
    ap c.portion (on_left x X Y l p q) ∙ a.0,
    λ Z i. elim (sum_moves code X Y Z i) [
      | inl (U, j, e) ↦ subst (λ V. c.portion (c.times x (label_of c V)) ≡ false) (sym e)
          (ap c.portion (on_left x U Y l (move_kept heap code part j p) q) ∙ a.1 U j)
      | inr (U, j, e) ↦ subst (λ V. c.portion (c.times x (label_of c V)) ≡ false) (sym e)
          (ap c.portion (on_right x X U l p (move_kept heap code part j q)) ∙ b.1 U j)
    ],
  )

  pub bad_exactly : (x : L) (X Y : List ℕ) → IsLabel x → IsPosition heap X → IsPosition heap Y
      → IsBadBeside code c x (X ++ Y)
      ↔ (IsBadBeside code c (c.times x (label_of c Y)) X
      × IsBadBeside code c (c.times x (label_of c X)) Y)
  bad_exactly x X Y l p q = (bad_parts x X Y l p q, λ h. bad_sum x X Y l p q h.0 h.1)
