-- Words that show that relations present the monoid of a table.
-- A word with a letter more is related to the product's word, and so each vector to its element's.
use Rattle.std.proofs.Common.{◌≡◌, ℕ, ◌<◌, List, [], length, get_or, sym, subst}
use Rattle.std.specs.Prelude.{slice_index, slice_index_or, All}
use Rattle.std.proofs.lemmas.List.{get_or_default}
use Rattle.std.proofs.lemmas.List.Elements.{All-map, All-weaker}
use Rattle.misere_theory.specs.Quotients.{Monoid}
use Rattle.monoid_table.specs.Grids.{Grid, times_in}
use Rattle.presentations.specs.declared.read.Relation.{Relation}
use Rattle.presentations.specs.Vectors.{bump}
use Rattle.presentations.specs.Congruences.{Related}
use Rattle.presentations.specs.Congruences.Related.{Turned, Chained}
use Rattle.presentations.specs.Words.{letters_of, pairs_on}
use Rattle.presentations.specs.Tables.{product_at}
use Rattle.relations.specs.Presented.{first_letters, vector_of, pairs_of, AreRelatedWords, HoldsIn, PairsHold, Present, AreNamed, StepHolds, ArePresentation}
use Rattle.relations.proofs.Rewritings.{length-vector, following, Follow}
use Rattle.relations.proofs.Letters.{vector-zeros, vector-same}
use Rattle.relations.proofs.WordLaws.{words-present}

pub pairs-hold : (table : Grid) (elements : List ℕ) (relations : List Relation)
    → All (HoldsIn table elements) relations
    → PairsHold table elements (pairs_of (length elements) relations)
pairs-hold table elements relations hold =
    let n = length elements in
    All-map
    (λ r. (length r.0 ≡ n) × (length r.1 ≡ n)
    × (product_at (times_in table) elements r.0 ≡ product_at (times_in table) elements r.1))
    (λ r. (vector_of n r.left, vector_of n r.right)) relations
    (All-weaker (HoldsIn table elements)
    (λ r. (length (vector_of n r.left) ≡ n) × (length (vector_of n r.right) ≡ n)
    × (product_at (times_in table) elements (vector_of n r.left)
    ≡ product_at (times_in table) elements (vector_of n r.right)))
    (λ r h. (length-vector n r.left, length-vector n r.right, h)) relations hold)

pub shown : (table : Grid) (elements : List ℕ) (relations rules : List Relation)
    (words : List (List ℕ))
    → Monoid table.order (times_in table)
    → All (λ e. e < table.order) elements
    → letters_of relations ≡ first_letters (length elements)
    → All (HoldsIn table elements) relations
    → ((i : ℕ) → i < length elements → slice_index (slice_index_or words 0 []) i ≡ 0)
    → AreNamed table elements words
    → Follow (length elements) relations rules
    → ((x i : ℕ) → x < table.order → i < length elements
    → StepHolds table elements rules words x i)
    → ArePresentation table elements relations
shown table elements relations rules words m within letters hold none named follow steps =
    let n = length elements in
    record {
      letters = letters;
      present =
          subst
          (λ ls. Present table elements (pairs_on ls relations))
          (sym letters)
          (words-present table elements (pairs_of n relations) m within
          (λ x. vector_of n (slice_index_or words x []))
          record {
            long = λ x lt. length-vector n (slice_index_or words x []);
            none = vector-zeros n (slice_index_or words 0 []) none;
            value = λ x lt. named.value x [] lt;
            step =
                λ x i lt i_in. following n relations rules _ _ follow (steps x i lt i_in);
          } (pairs-hold table elements relations hold));
    }

-- the rules lead both words to one
pub step-shown : (n : ℕ) (rules : List Relation) (words : List (List ℕ)) (x y z i : ℕ)
    (d e more left right : List ℕ)
    → x < length words → y < length words
    → vector_of n more ≡ bump (vector_of n (get_or words x d)) i
    → AreRelatedWords n rules more left
    → AreRelatedWords n rules (get_or words y e) right
    → ((k : ℕ) → k < n → slice_index left k ≡ slice_index right k)
    → y ≡ z
    → Related n (pairs_of n rules) (bump (vector_of n (slice_index_or words x [])) i)
    (vector_of n (slice_index_or words z []))
step-shown n rules words x y z i d e more left right x_in y_in longer to_left to_right same is =
    rw (get_or_default words x [] d x_in, ← longer, ← is, get_or_default words y [] e y_in)
    (Chained (vector_of n more) (vector_of n left) (vector_of n (get_or words y e)) to_left
    (rw (vector-same n left right same)
    (Turned (vector_of n (get_or words y e)) (vector_of n right) to_right)))
