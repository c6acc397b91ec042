-- What a comparison says.
use Rattle.std.specs.Prelude.{◌≡◌, ◌≢◌, ℕ, ◌<◌}
use Rattle.misere_theory.specs.Certificates.{Certificate, claim_of}
use Rattle.misere_theory.specs.Quotients.{Claim}
use Rattle.compact_certificates.specs.Rows.{firsts_of}
use Rattle.isomorphisms.specs.declared.TheConstants.{ROUNDS}
use Rattle.isomorphisms.specs.Isomorphism.{AreDifferent, IsMap}
use Rattle.isomorphisms.specs.Profiles.{portion_size, idempotents, colour}
use Rattle.isomorphisms.specs.Images.{lists_of}
use Rattle.isomorphisms.specs.declared.comparing.Comparison.{Comparison}
use Rattle.isomorphisms.specs.declared.comparing.Comparison.TheVariants.{Same, Different, Long}
use Rattle.isomorphisms.specs.declared.comparing.Difference.{Difference}
use Rattle.isomorphisms.specs.declared.comparing.Difference.TheVariants.{Order, Portion, Idempotents, First, Second, Searched}

-- neither order nor portion nor squares tell the two apart
pub record AreCountedAlike (c d : Certificate) : Type 0 where
  pub order : c.order ≡ d.order
  pub portion : portion_size (claim_of c) ≡ portion_size (claim_of d)
  pub idempotents : idempotents (claim_of c) ≡ idempotents (claim_of d)

-- each element of the one has the colour of an element of the other
abbrev pub AreMet : Claim → Claim → Type 0
AreMet c d = (x : ℕ) → x < c.order
    → (y : ℕ) × (y < d.order) × (colour c ROUNDS x ≡ colour d ROUNDS y)

-- What is different. That each map fails is said only where neither counts nor colours tell.
abbrev pub Differs : Certificate → Certificate → Difference → Type 0
Differs c d Order = c.order ≢ d.order
Differs c d Portion = portion_size (claim_of c) ≢ portion_size (claim_of d)
Differs c d Idempotents = idempotents (claim_of c) ≢ idempotents (claim_of d)
Differs c d (First x) = (x < c.order) × ((y : ℕ) → y < d.order
    → colour (claim_of c) ROUNDS x ≢ colour (claim_of d) ROUNDS y)
Differs c d (Second y) = (y < d.order) × ((x : ℕ) → x < c.order
    → colour (claim_of d) ROUNDS y ≢ colour (claim_of c) ROUNDS x)
Differs c d Searched = AreCountedAlike c d × AreMet (claim_of c) (claim_of d) × AreMet (claim_of d) (claim_of c)

-- a difference, and so no map is an isomorphism
abbrev pub Tells : Certificate → Certificate → Difference → Type 0
Tells c d why = Differs c d why × AreDifferent (claim_of c) (claim_of d)

-- there are more lists of images of the first elements, each of its element's colour, than units
abbrev pub HasMoreLists : Certificate → Certificate → ℕ → Type 0
HasMoreLists c d units =
    units
    < lists_of (colour (claim_of c) ROUNDS) (colour (claim_of d) ROUNDS) d.order 1 (firsts_of c.words)

-- an isomorphism, what tells the two apart, or that there are more lists to try than units
abbrev pub Compares : {A : Type 0} → Certificate → Certificate → ℕ → Comparison A → Type 0
Compares c d units (Same map) = IsMap (claim_of c) (claim_of d) map.items
Compares c d units (Different why) = Tells c d why
Compares c d units Long = HasMoreLists c d units
