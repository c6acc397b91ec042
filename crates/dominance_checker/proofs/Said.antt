-- The triple of one heap more.
use Rattle.std.proofs.Common.{◌≡◌, ℕ, ◌+◌, ◌<◌, List, [], ◌∷◌, length, get_or, take, ◌∙◌, ap}
use Rattle.std.proofs.lemmas.List.{take_more}
use Rattle.dominance.specs.Triples.{Triple, times, triple_of}
use Rattle.dominance.proofs.Positions.{triple-append, triple_alone}

pub triple_taken : (label : ℕ → Triple) (X : List ℕ) (i : ℕ) → i < length X
    → triple_of label (take (i + 1) X)
    ≡ times (triple_of label (take i X)) (label (get_or X i 0))
triple_taken label X i l =
    ap (triple_of label) (take_more X i 0 l)
    ∙ triple-append label (take i X) (get_or X i 0 ∷ [])
    ∙ ap (times (triple_of label (take i X))) (triple_alone label (get_or X i 0))
