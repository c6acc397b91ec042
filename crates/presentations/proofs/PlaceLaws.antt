-- The vector of a word, by axes.
use Rattle.std.proofs.Common.{◌≡◌, ℕ, ◌<◌, List, length, get_or, ap, ◌∙◌, arith}
use Rattle.std.specs.Prelude.{slice_index, slice_index_or}
use Rattle.std.proofs.lemmas.List.{length-map, get_or-map}
use Rattle.presentations.specs.declared.axes.Axis.{Axis}
use Rattle.presentations.specs.Words.{vector_on}
use Rattle.presentations.specs.Merging.{letters_in}

pub length-word : (axes : List Axis) (word : List ℕ) → length (vector_on (letters_in axes) word)
    ≡ length axes
length-word axes word = length-map (letters_in axes) _ ∙ length-map axes _

pub word-at : (axes : List Axis) (word : List ℕ) (i : ℕ) (d : Axis) → i < length axes
    → get_or (vector_on (letters_in axes) word) i 0
    ≡ slice_index word (slice_index_or axes i d).letter
word-at axes word i d lt =
    get_or-map (slice_index word) (letters_in axes) i 0 0
    (omega (arith, length-map axes (λ a. a.letter)))
    ∙ ap (slice_index word) (get_or-map (λ a. a.letter) axes i d 0 lt)
