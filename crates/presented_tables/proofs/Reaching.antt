-- The elements at which options stand, as these are gone through.
use Rattle.std.proofs.Common.{◌≡◌, ℕ, List, [], ◌∷◌, ◌++◌, ◌⊎◌, inl, inr, sym, subst}
use Rattle.std.specs.List.{Contains}
use Rattle.std.specs.Prelude.{IsPermutation}
use Rattle.std.proofs.lemmas.List.Elements.{Contains-push, Contains-append_left, Contains-append_cases}
use Rattle.misere_theory.specs.Games.{HeapOption}
use Rattle.misere_theory.proofs.ListLaws.{only_in}
use Rattle.heap_options.specs.Exact.{heaps_of}
use Rattle.heap_options.specs.declared.left.Left.{Left}
use Rattle.presented_text.specs.Said.{PresentedSaid}
use Rattle.presented_tables.specs.Elements.{ListedElements}
use Rattle.presented_tables.specs.Reached.{StandsAt, AreReached, IsWith}
use Rattle.presented_tables.proofs.Orders.{stands-shuffled}
use Rattle.presented_tables.proofs.Walked.{IsWalked, one_more, ended}

with-kept : (xs zs : List ℕ) (y z : ℕ) → IsWith xs y zs → Contains xs z → Contains zs z
with-kept xs zs y z (inl (same, _)) h = subst (λ l. Contains l z) (sym same) h
with-kept xs zs y z (inr behind) h =
    subst (λ l. Contains l z) (sym behind) (Contains-append_left xs (y ∷ []) z h)

with-there : (xs zs : List ℕ) (y : ℕ) → IsWith xs y zs → Contains zs y
with-there xs zs y (inl (same, there)) = subst (λ l. Contains l y) (sym same) there
with-there xs zs y (inr behind) = subst (λ l. Contains l y) (sym behind) (Contains-push xs y)

with-only : (xs zs : List ℕ) (y z : ℕ) → IsWith xs y zs → Contains zs z → Contains xs z ⊎ (y ≡ z)
with-only xs zs y z (inl (same, _)) h = inl (subst (λ l. Contains l z) same h)
with-only xs zs y z (inr behind) h =
    elim (Contains-append_cases xs (y ∷ []) z (subst (λ l. Contains l z) behind h)) [
      | inl before ↦ inl before
      | inr last ↦ inr (only_in y z last)
    ]

module _ (c : PresentedSaid) (e : ListedElements) (n : ℕ) (options : List Left) where
  -- what is left stands at an element of the list
  abbrev pub StandsIn : List ℕ → Left → Type 0
  StandsIn ys left = (y : ℕ) × Contains ys y × StandsAt c e (heaps_of left) y

  -- an option stands at the element
  abbrev pub IsOfOption : ℕ → Type 0
  IsOfOption y = (H : List ℕ) × HeapOption c.code n H × StandsAt c e H y

  pub record AreSoFar (ys : List ℕ) (walked left : List Left) : Type 0 where
    pub walk : IsWalked (StandsIn ys) walked left options
    pub only : (y : ℕ) → Contains ys y → IsOfOption y

  pub one-more-so-far : (ys zs : List ℕ) (walked left rest : List Left) (at : Left) (y : ℕ)
      → AreSoFar ys walked left → left ≡ at ∷ rest → HeapOption c.code n (heaps_of at)
      → StandsAt c e (heaps_of at) y → IsWith ys y zs → AreSoFar zs (walked ++ at ∷ []) rest
  one-more-so-far ys zs walked left rest at y so first option stands new = record {
    walk =
        one_more (StandsIn zs) walked left options at rest
        (record {
          whole = so.walk.whole;
          all = λ l h. let (z, there, s) = so.walk.all l h in (z, with-kept ys zs y z new there, s);
        }) first
        (y, with-there ys zs y new, stands);
    only = λ z h. elim (with-only ys zs y z new h) [
      | inl before ↦ so.only z before
      | inr same ↦ subst IsOfOption same (heaps_of at, option, stands)
    ];
  }

  pub all-reached : (ys : List ℕ) (walked left : List Left) → AreSoFar ys walked left → left ≡ []
      → ((H : List ℕ) → HeapOption c.code n H
      → (l : Left) × Contains options l × IsPermutation (heaps_of l) H)
      → AreReached c e n ys
  all-reached ys walked left so end exact = record {
    each = λ H o.
        let (l, listed, p) = exact H o in
        let (y, there, s) = ended (StandsIn ys) walked left options so.walk end l listed in
        (y, there, stands-shuffled c e (heaps_of l) H y p s);
    only = so.only;
  }
