-- Rewriting a word by a rule gives a word that the rules relate to it.
use Rattle.std.proofs.Common.{◌≡◌, ◌⊎◌, ℕ, zero, suc, ◌+◌, ◌-◌, ◌<◌, List, [], ◌∷◌, ◌++◌, length, map, refl, ◌∙◌, inl, inr, arith}
use Rattle.std.specs.Prelude.{slice_index, slice_index_or, All}
use Rattle.std.proofs.lemmas.List.{length-map, length-append}
use Rattle.std.proofs.lemmas.List.Elements.{All-contains, All-head, All-tail, All-cons, All-nil, All-append, All-map, All-weaker, All-push}
use Rattle.presentations.specs.declared.read.Relation.{Relation}
use Rattle.presentations.specs.Vectors.{plus}
use Rattle.presentations.specs.Congruences.{Related}
use Rattle.presentations.specs.Congruences.Related.{Given, Same, Turned, Chained, Beside}
use Rattle.presentations.specs.Words.{vector_on}
use Rattle.presentations.proofs.VectorLaws.{cons-same}
use Rattle.presentations.proofs.WordLaws.{pair-of}
use Rattle.relations.specs.Presented.{first_letters, vector_of, pairs_of, AreRelatedWords, IsRewritten}

pub length-letters : (n : ℕ) → length (first_letters n) ≡ n
length-letters zero = refl
length-letters (suc n) =
    omega (arith, length-append (first_letters n) (n ∷ []), length-letters n)

pub letters-below : (n : ℕ) → All (λ a. a < n) (first_letters n)
letters-below zero = All-nil (λ a. a < 0)
letters-below (suc n) =
    All-append (λ a. a < suc n) (first_letters n) (n ∷ [])
    (All-weaker (λ a. a < n) (λ a. a < suc n) (λ a h. omega arith) (first_letters n)
    (letters-below n))
    (All-cons (λ a. a < suc n) n [] (omega arith) (All-nil (λ a. a < suc n)))

pub length-vector : (n : ℕ) (word : List ℕ) → length (vector_of n word) ≡ n
length-vector n word = length-map (first_letters n) _ ∙ length-letters n

-- what is left of the word beside the rule's left word
abbrev rest_on : List ℕ → List ℕ → List ℕ → List ℕ
rest_on letters left word = map (λ a. slice_index word a - slice_index left a) letters

-- a word that is the sum of a part and the rest
sum-on : (letters : List ℕ) (n : ℕ) (part left word whole : List ℕ) → All (λ a. a < n) letters
    → ((i : ℕ) → i < n
    → slice_index whole i ≡ slice_index word i - slice_index left i + slice_index part i)
    → plus (vector_on letters part) (rest_on letters left word) ≡ vector_on letters whole
sum-on [] n part left word whole within is = refl
sum-on (a ∷ letters) n part left word whole within is =
    cons-same (omega (arith, is a (All-head (λ a. a < n) a letters within)))
    (sum-on letters n part left word whole (All-tail (λ a. a < n) a letters within) is)

-- a rule relates the word that it rewrites to what it makes of it
pub rewritten-related : (n : ℕ) (rules : List Relation) (k : ℕ) (d : Relation) (word after : List ℕ)
    → k < length rules → IsRewritten n (slice_index_or rules k d) word after
    → AreRelatedWords n rules word after
rewritten-related n rules k d word after lt is =
    let r = slice_index_or rules k d in
    let letters = first_letters n in
    let rest = rest_on letters r.left word in
    let rest_length : length rest ≡ n = length-map letters _ ∙ length-letters n in
    rw (
      sum-on letters n r.left r.left word word (letters-below n)
          (λ i i_in. omega (arith, (is i i_in).0)),
      sum-on letters n r.right r.left word after (letters-below n) (λ i i_in. (is i i_in).1),
    ) at
    (Beside (vector_of n r.left) (vector_of n r.right) rest rest_length
    (Given (vector_of n r.left, vector_of n r.right) (pair-of letters rules k d lt)))

pub same-related : (n : ℕ) (rules : List Relation) (word : List ℕ) → AreRelatedWords n rules word word
same-related n rules word = Same (vector_of n word) (length-vector n word)

-- pairs that are related relate no more
within : (n : ℕ) (pairs others : List (List ℕ × List ℕ)) (u v : List ℕ)
    → All (λ r. Related n others r.0 r.1) pairs → Related n pairs u v → Related n others u v
within n pairs others u v all (Given r at) =
    All-contains (λ r. Related n others r.0 r.1) pairs r all at
within n pairs others u v all (Same w len) = Same w len
within n pairs others u v all (Turned w x r) = Turned w x (within n pairs others w x all r)
within n pairs others u v all (Chained w x y r s) =
    Chained w x y (within n pairs others w x all r) (within n pairs others x y all s)
within n pairs others u v all (Beside x y w len r) =
    Beside x y w len (within n pairs others x y all r)

-- rules that follow from relations relate no more than these do
pub following : (n : ℕ) (relations rules : List Relation) (u v : List ℕ)
    → All (λ r. AreRelatedWords n relations r.left r.right) rules
    → Related n (pairs_of n rules) u v → Related n (pairs_of n relations) u v
following n relations rules u v all r =
    within n (pairs_of n rules) (pairs_of n relations) u v
    (All-map (λ p. Related n (pairs_of n relations) p.0 p.1)
    (λ r. (vector_of n r.left, vector_of n r.right)) rules all) r

-- each relation is one that they give
pub given-related : (n : ℕ) (relations : List Relation) (k : ℕ) (d : Relation) → k < length relations
    → AreRelatedWords n relations (slice_index_or relations k d).left
    (slice_index_or relations k d).right
given-related n relations k d lt =
    Given (
      vector_of n (slice_index_or relations k d).left,
      vector_of n (slice_index_or relations k d).right,
    ) (pair-of (first_letters n) relations k d lt)

-- the rule is between these words, one way or the other
abbrev pub IsBetween : Relation → List ℕ → List ℕ → Type 0
IsBetween r v w = ((r.left ≡ v) × (r.right ≡ w)) ⊎ ((r.left ≡ w) × (r.right ≡ v))

pub oriented-related : (n : ℕ) (rules : List Relation) (r : Relation) (v w : List ℕ)
    → IsBetween r v w → AreRelatedWords n rules v w → AreRelatedWords n rules r.left r.right
oriented-related n rules r v w (inl same) related =
    rw (same.0, same.1) related
oriented-related n rules r v w (inr turned) related =
    rw (turned.0, turned.1) (Turned _ _ related)

-- two words that come from one are related
pub forked-related : (n : ℕ) (rules : List Relation) (both u v x y : List ℕ)
    → AreRelatedWords n rules both u → AreRelatedWords n rules both v → AreRelatedWords n rules u x
    → AreRelatedWords n rules v y
    → AreRelatedWords n rules x y
forked-related n rules both u v x y bu bv ux vy =
    Chained _ _ _ (Turned _ _ ux) (Chained _ _ _ (Turned _ _ bu) (Chained _ _ _ bv vy))

-- each of the rules is one that the relations give
abbrev pub Follow : ℕ → List Relation → List Relation → Type 0
Follow n relations rules = All (λ r. AreRelatedWords n relations r.left r.right) rules

pub follow-self : (n : ℕ) (relations : List Relation) → Follow n relations relations
follow-self n relations k d lt = given-related n relations k d lt

pub follow-push : (n : ℕ) (relations rules : List Relation) (r : Relation) → Follow n relations rules
    → AreRelatedWords n rules r.left r.right → Follow n relations (rules ++ r ∷ [])
follow-push n relations rules r all related =
    All-push (λ r. AreRelatedWords n relations r.left r.right) rules r all
    (following n relations rules (vector_of n r.left) (vector_of n r.right) all related)

pub follow-trans : (n : ℕ) (relations rules others : List Relation) → Follow n relations rules
    → Follow n rules others → Follow n relations others
follow-trans n relations rules others all more =
    All-weaker (λ r. AreRelatedWords n rules r.left r.right)
    (λ r. AreRelatedWords n relations r.left r.right)
    (λ r h. following n relations rules (vector_of n r.left) (vector_of n r.right) all h) others more
