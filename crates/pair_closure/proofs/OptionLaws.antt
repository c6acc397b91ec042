-- What the options of a pair hold, as a list and as a set.
use Rattle.std.proofs.Common.{◌≡◌, ◌⊎◌, ℕ, Bool, true, false, List, [], ◌∷◌, refl, sym, ap, ◌∙◌, inl, inr, ◌||◌, eqb-true, eq-eqb}
use Rattle.std.proofs.lemmas.Cmp.{eq_by_cmp_equiv}
use Rattle.std.proofs.lemmas.Map.Views.{list_any-from_Contains, Contains-from_any}
use Rattle.std.specs.List.{Contains, list_any}
use Rattle.std.specs.Ordering.{nat_cmp, eq_by_cmp}
use Rattle.std.specs.Cmp.{nat_cmp_total, unsigned_tied}
use Rattle.std.specs.FinSet as set
use Rattle.std.specs.FinSet.{is_subset-contains, contains-is_subset, contains-items}
use Rattle.transition_algebra.specs.Pairs.{is_empty}
use Rattle.transition_algebra.specs.PairLaws.{has, empty_has}

pub items_have : (s : set.FinSet nat_cmp) (x : ℕ) → Contains (set.items s) x → has s x
items_have s x h = contains-items s x ∙ list_any-from_Contains (eq_by_cmp_equiv nat_cmp_total) x
    (set.items s) h

pub has_items : (s : set.FinSet nat_cmp) (x : ℕ) → has s x → Contains (set.items s) x
has_items s x h =
    Contains-from_any (λ y z e. eqb-true y z (sym (unsigned_tied y z) ∙ e)) x (set.items s)
    (sym (contains-items s x) ∙ h)

apart : {b : Bool} → b ≡ true → b ≡ false → ⊥
apart e f = cc

-- some option, or none
abbrev pub SomeOrEmpty : set.FinSet nat_cmp → Type 0
SomeOrEmpty s = (is_empty s ≡ false × ((x : ℕ) × has s x))
    ⊎ (is_empty s ≡ true × ((x : ℕ) → has s x → ⊥))

pub some_or_empty : (s : set.FinSet nat_cmp) → SomeOrEmpty s
some_or_empty s = split (set.items s) refl
  where
    filled : (b : Bool) (x : ℕ) → is_empty s ≡ b → has s x → b ≡ false
    filled true x e h = absurd (empty_has x (is_subset-contains nat_cmp_total s set.empty e x h))
    filled false x e h = refl

    split : (xs : List ℕ) → set.items s ≡ xs → SomeOrEmpty s
    split [] e =
        let none : (x : ℕ) → has s x → ⊥ =
        λ x h. apart (sym (contains-items s x ∙ ap (list_any _) e) ∙ h) refl in
        inr (contains-is_subset nat_cmp_total s set.empty (λ q h. absurd (none q h)), none)
    split (x ∷ xs) e =
        let h : has s x =
        contains-items s x ∙ ap (list_any _) e
        ∙ ap (λ b. b || list_any (eq_by_cmp nat_cmp x) xs) (unsigned_tied x x ∙ eq-eqb x x refl)
        in
        inl (filled (is_empty s) x refl h, (x, h))
