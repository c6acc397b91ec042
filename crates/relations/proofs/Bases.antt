-- Every word that no left word is in is listed: by induction, one letter more at a time.
use Rattle.std.proofs.Common.{◌≡◌, ◌<◌, ℕ, List, length, inl, inr, arith}
use Rattle.std.specs.Prelude.{slice_index_or}
use Rattle.std.specs.List.{Any}
use Rattle.std.proofs.lemmas.Bool.{cases_eq}
use Rattle.std.proofs.lemmas.List.{get_or_default}
use Rattle.presentations.specs.declared.read.Relation.{Relation}
use Rattle.presentations.specs.Vectors.{zeros, bump}
use Rattle.presentations.proofs.VectorLaws.{by_letters}
use Rattle.relations.specs.Presented.{vector_of}
use Rattle.relations.specs.Bases.{Divides, IsReducible, LeadsOn}
use Rattle.relations.proofs.Letters.{bump-at, bump-other, vector-at}

-- what is in a word is in that word with a letter more
divides-bump : (n : ℕ) (u v : List ℕ) (i : ℕ) → length v ≡ n → i < n → Divides n u v
    → Divides n u (bump v i)
divides-bump n u v i long lt h k k_in = elim (cases_eq k i) [
  | inl same ↦ rw (same, bump-at v i (omega (arith, long)))
      (let here = h i lt in omega (arith, here))
  | inr other ↦ rw (bump-other v i k other) (h k k_in)
]

reducible-bump : (n : ℕ) (relations : List Relation) (v : List ℕ) (i : ℕ) → length v ≡ n → i < n
    → IsReducible n relations v → IsReducible n relations (bump v i)
reducible-bump n relations v i long lt (k, r, k_in, is, h) =
    (k, r, k_in, is, divides-bump n r.left v i long lt h)

-- a word is reducible just where its vector is
pub reducible-vector : (n : ℕ) (relations : List Relation) (word : List ℕ)
    → IsReducible n relations word → IsReducible n relations (vector_of n word)
reducible-vector n relations word (k, r, k_in, is, h) =
    (k, r, k_in, is, λ i lt. rw (vector-at n word i lt) (h i lt))

module _ (n : ℕ) (words : List (List ℕ)) (relations : List Relation) (on : (k : ℕ) (d : List ℕ) → k < length words → (i : ℕ) → i < n
    → LeadsOn n words relations (slice_index_or words k d) i) where
  abbrev IsListed : List ℕ → Type 0
  IsListed v = Any (λ word. vector_of n word ≡ v) words

  led : (w v : List ℕ) (i : ℕ) → vector_of n w ≡ v → (IsReducible n relations (bump v i) → ⊥)
      → LeadsOn n words relations w i → IsListed (bump v i)
  led w v i is free (inl listed) = rw is at listed
  led w v i is free (inr reducible) = absurd (free (rw is at reducible))

  go-on : (v : List ℕ) (i : ℕ) → length v ≡ n → i < n
      → ((IsReducible n relations v → ⊥) → IsListed v)
      → (IsReducible n relations (bump v i) → ⊥) → IsListed (bump v i)
  go-on v i long lt before free =
      let (k, w, k_in, at, is) = before (λ h. free (reducible-bump n relations v i long lt h)) in
      led w v i is free (rw at at (on k w k_in i lt))

  -- a word that no left word is in is listed
  pub all-listed : (d : List ℕ) → 0 < length words → vector_of n (slice_index_or words 0 d) ≡ zeros n
      → (v : List ℕ) → length v ≡ n → (IsReducible n relations v → ⊥) → IsListed v
  all-listed d some none =
      by_letters n (λ v. (IsReducible n relations v → ⊥) → IsListed v)
      (λ free. (0, slice_index_or words 0 d, some, get_or_default words 0 (slice_index_or words 0 d) d some, none))
      go-on
