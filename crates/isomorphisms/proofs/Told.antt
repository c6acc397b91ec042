-- What tells two quotients apart, and that no map is then an isomorphism.
use Rattle.std.proofs.Common.{◌≡◌, ◌≢◌, ◌∙◌, ℕ, ◌-◌, ◌<◌, List, [], length, sym, ap, subst, arith}
use Rattle.std.specs.Prelude.{slice_index}
use Rattle.misere_theory.specs.Quotients.{Claim, Monoid}
use Rattle.misere_theory.specs.Certificates.{Accepted, Certificate, claim_of}
use Rattle.isomorphisms.specs.declared.TheConstants.{ROUNDS}
use Rattle.isomorphisms.specs.Isomorphism.{AreDifferent}
use Rattle.isomorphisms.specs.Profiles.{colour, AreKept, HasColours}
use Rattle.isomorphisms.specs.Images.{NoneTakes, Searches, lists_of}
use Rattle.isomorphisms.specs.declared.searching.MapSearch.{MapSearch}
use Rattle.isomorphisms.specs.declared.searching.MapSearch.TheVariants.{Nothing, Long}
use Rattle.isomorphisms.specs.Comparisons.{AreMet}
use Rattle.compact_certificates.specs.Rows.{firsts_of}
use Rattle.isomorphisms.proofs.KeyLemmas.{firsts-below}
use Rattle.isomorphisms.proofs.UnitLemmas.{same-lists}
use Rattle.isomorphisms.proofs.Kept.{colours-kept}

module _ (c d : Claim) (m : Monoid c.order c.times) (colours others : List ℕ)
    (are : HasColours c colours) (are_others : HasColours d others) where
  pub kept-lists : AreKept c d (slice_index colours) (slice_index others)
  kept-lists f g i x l =
      are_others (f x) (i.onto x l) ∙ (colours-kept c d f g i m ROUNDS x l ∙ sym (are x l))

  module _ (long : length colours ≡ c.order) (long_others : length others ≡ d.order) where
    pub first-apart : (x : ℕ) → x < length colours
        → ((y : ℕ) → y < length others → slice_index colours x ≢ slice_index others y)
        → ((x < c.order) × ((y : ℕ) → y < d.order → colour c ROUNDS x ≢ colour d ROUNDS y))
        × AreDifferent c d
    first-apart x l none =
        let lt : x < c.order = omega (arith, l, long) in
        let apart : (y : ℕ) → y < d.order → colour c ROUNDS x ≢ colour d ROUNDS y =
        λ y k e. none y (omega (arith, k, long_others)) (are x lt ∙ (e ∙ sym (are_others y k))) in (
          (lt, apart),
          λ f g i. apart (f x) (i.onto x lt) (sym (colours-kept c d f g i m ROUNDS x lt)),
        )

    pub second-apart : (y : ℕ) → y < length others
        → ((x : ℕ) → x < length colours → slice_index others y ≢ slice_index colours x)
        → ((y < d.order) × ((x : ℕ) → x < c.order → colour d ROUNDS y ≢ colour c ROUNDS x))
        × AreDifferent c d
    second-apart y l none =
        let lt : y < d.order = omega (arith, l, long_others) in
        let apart : (x : ℕ) → x < c.order → colour d ROUNDS y ≢ colour c ROUNDS x =
        λ x k e. none x (omega (arith, k, long)) (are_others y lt ∙ (e ∙ sym (are x k))) in (
          (lt, apart),
          λ f g i.
              apart (g y) (i.back y lt)
              (ap (colour d ROUNDS) (sym (i.back_and_there y lt))
              ∙ colours-kept c d f g i m ROUNDS (g y) (i.back y lt)),
        )

-- the lists have the colours, so as many lists keep them
pub lists-told : (c : Certificate) (d : Claim) (colours others : List ℕ) → Accepted c
    → HasColours (claim_of c) colours → HasColours d others
    → lists_of (slice_index colours) (slice_index others) d.order 1 (firsts_of c.words)
    ≡ lists_of (colour (claim_of c) ROUNDS) (colour d ROUNDS) d.order 1 (firsts_of c.words)
lists-told c d colours others a are are_others =
    let few = firsts-below c a in
    same-lists (slice_index colours) (colour (claim_of c) ROUNDS) (slice_index others)
    (colour d ROUNDS) d.order 1 (firsts_of c.words) (λ x l m. are x (omega (arith, m, few)))
    are_others

-- each element of a list of colours is met
pub lists-met : (c d : Claim) (colours others : List ℕ) → HasColours c colours
    → HasColours d others → length colours ≡ c.order → length others ≡ d.order
    → ((x : ℕ) → x < length colours
    → (y : ℕ) × (y < length others) × (slice_index colours x ≡ slice_index others y))
    → AreMet c d
lists-met c d colours others are are_others long long_others met x l =
    let m = met x (omega (arith, l, long)) in
    let k : m.0 < d.order = omega (arith, m.1, long_others) in
    (m.0, k, sym (are x l) ∙ (m.2 ∙ are_others m.0 k))

-- no isomorphism takes no elements anywhere
none-at-all : (c d : Claim) → NoneTakes c d [] → AreDifferent c d
none-at-all c d none f g i = none f g i (λ j l. absurd (omega (arith, l)))

-- what a search from no images says
module _ {A : Type 0} (c d : Claim) (col other : ℕ → ℕ) (count units left : ℕ) (r : MapSearch A)
    (said : Searches c d col other [] count units left r) where
  pub nothing-said : r ≡ Nothing → AreDifferent c d
  nothing-said is =
      none-at-all c d
      (subst (λ (s : MapSearch A). Searches c d col other [] count units left s) is said).0

  pub long-said : r ≡ Long → units < lists_of col other d.order 1 count
  long-said is =
      let all : count - 0 ≡ count = omega arith in
      subst (λ k. units < lists_of col other d.order 1 k) all
      (subst (λ (s : MapSearch A). Searches c d col other [] count units left s) is said)
