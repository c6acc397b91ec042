-- What tells two elements apart, by their contexts.
use Rattle.std.proofs.Common.{◌≡◌, ℕ, ◌<◌, Bool, true, false, not, List, get_or, refl, sym, ap, ◌∙◌, arith}
use Rattle.std.specs.Prelude.{if◌then◌else◌}
use Rattle.std.specs.List.{slice_index_or}
use Rattle.std.proofs.lemmas.List.{get_or_default}
use Rattle.std.specs.FinSet as set
use Rattle.std.specs.Ordering.{nat_cmp}
use Rattle.misere_theory.specs.Certificates.{Certificate, claim_of, times_of, TellsApart}
use Rattle.check_machine.specs.Closings.{AreContexts}
use Rattle.check_machine.specs.Turns.{tells_apart}

-- one of two tests exactly
differing : (a b : Bool) → (a ≡ b → ⊥) → (if a then not b else b) ≡ true
differing true true n = absurd (n refl)
differing true false n = refl
differing false true n = refl
differing false false n = absurd (n refl)

alike : (a b : Bool) → a ≡ b → (if a then not b else b) ≡ false
alike true true e = refl
alike true false e = absurd (cc)
alike false true e = absurd (cc)
alike false false e = refl

apart : (a b : Bool) → (if a then not b else b) ≡ true → a ≡ b → ⊥
apart true true e d = cc
apart true false e d = cc
apart false true e d = cc
apart false false e d = cc

not_apart : (a b : Bool) → (if a then not b else b) ≡ false → a ≡ b
not_apart true true e = refl
not_apart true false e = absurd (cc)
not_apart false true e = absurd (cc)
not_apart false false e = refl

pub tells_is : (c : Certificate) (x y z : ℕ) → tells_apart c x y z ≡ true
    → TellsApart (claim_of c) (x, y) z
tells_is c x y z e = apart _ _ e

pub tells_not : (c : Certificate) (x y z : ℕ) → tells_apart c x y z ≡ false
    → TellsApart (claim_of c) (x, y) z → ⊥
tells_not c x y z e t = t (not_apart _ _ e)

same_test : (a b : Bool) → (a ≡ true → b ≡ true) → (b ≡ true → a ≡ true) → a ≡ b
same_test true b f g = sym (f refl)
same_test false true f g = g refl
same_test false false f g = refl

module _ (c : Certificate) (ctx : List (set.FinSet nat_cmp)) (a : AreContexts c ctx) where
  context_holds : (x z : ℕ) → x < c.order → z < c.order
      → set.contains (slice_index_or ctx x set.empty) z ≡ (claim_of c).portion (times_of c x z)
  context_holds x z l m =
      same_test _ _ (λ h. (a.each x z l h).1) (λ h. a.all x z l m h)

  -- what was read at x
  read_holds : (x z : ℕ) → x < c.order → z < c.order → (s : set.FinSet nat_cmp) → s ≡ get_or ctx x s
      → set.contains s z ≡ (claim_of c).portion (times_of c x z)
  read_holds x z l m s is =
      let n = a.length_is in
      ap (λ v. set.contains v z) (is ∙ get_or_default ctx x s set.empty (omega arith))
      ∙ context_holds x z l m

  module _ (x y z : ℕ) (l : x < c.order) (m : y < c.order) (k : z < c.order)
      (s t : set.FinSet nat_cmp) (is : s ≡ get_or ctx x s) (other : t ≡ get_or ctx y t) where
    pub untold : set.contains s z ≡ set.contains t z → tells_apart c x y z ≡ false
    untold e = alike _ _ (sym (read_holds x z l k s is) ∙ e ∙ read_holds y z m k t other)

    pub told : (set.contains s z ≡ set.contains t z → ⊥) → tells_apart c x y z ≡ true
    told n =
        differing _ _ (λ e. n (read_holds x z l k s is ∙ e ∙ sym (read_holds y z m k t other)))
