-- The lines of a comparison. This project's own.
use Rattle.std.specs.Prelude.{ℕ, List, ◌++◌, codes, decimal, map}
use Rattle.misere_theory.specs.Certificates.{Certificate, claim_of}
use Rattle.certificate_text.specs.Spelling.{spaced}
use Rattle.isomorphisms.specs.Profiles.{idempotents, portion_size}
use Rattle.isomorphisms.specs.declared.comparing.Difference.{Difference}
use Rattle.isomorphisms.specs.declared.comparing.Difference.TheVariants.{Order, Portion, Idempotents, First, Second, Searched}
use Rattle.description_commands.specs.declared.comparing.TheConstants.{MOST_LISTS}

-- the word, and the image of each element in turn
abbrev pub same_lines : List ℕ → List ℕ
same_lines images = codes "isomorphic\nmap" ++ spaced (map decimal images) ++ codes "\n"

abbrev pub order_lines : ℕ → ℕ → List ℕ
order_lines one other =
    codes "not isomorphic\norders " ++ decimal one ++ codes " and " ++ decimal other ++ codes "\n"

abbrev pub portion_lines : ℕ → ℕ → List ℕ
portion_lines one other =
    codes "not isomorphic\nportions of " ++ decimal one ++ codes " and " ++ decimal other
    ++ codes "\n"

abbrev pub idempotents_lines : ℕ → ℕ → List ℕ
idempotents_lines one other =
    codes "not isomorphic\nidempotents " ++ decimal one ++ codes " and " ++ decimal other
    ++ codes "\n"

-- an element of the one whose colour no element of the other has
abbrev pub matchless_lines : ℕ → List ℕ → List ℕ → List ℕ
matchless_lines element one other =
    codes "not isomorphic\nelement " ++ decimal element ++ codes " of the " ++ one
    ++ codes " like none of the " ++ other ++ codes "\n"

-- that both are infinite, and one isn't presented
abbrev pub endless_line : List ℕ
endless_line = codes "not compared: both are infinite\n"

-- that both are infinite, and presented alike
abbrev pub alike_lines : List ℕ
alike_lines = codes "isomorphic\nby the same relations and portion\n"

-- that both are infinite, and presented otherwise
abbrev pub undecided_line : List ℕ
undecided_line = codes "not decided: both are infinite, and their presentations are different\n"

-- that one alone is infinite
abbrev pub first_endless_lines : List ℕ
first_endless_lines = codes "not isomorphic\nthe first alone is infinite\n"

abbrev pub second_endless_lines : List ℕ
second_endless_lines = codes "not isomorphic\nthe second alone is infinite\n"

-- that no certificate was made of a finite quotient that is presented
abbrev pub unmade_line : List ℕ
unmade_line = codes "not compared: no certificate of a presentation\n"

-- that no map is an isomorphism, and what is different
abbrev pub difference_lines : Certificate → Certificate → Difference → List ℕ
difference_lines c d Order = order_lines c.order d.order
difference_lines c d Portion =
    portion_lines (portion_size (claim_of c)) (portion_size (claim_of d))
difference_lines c d Idempotents =
    idempotents_lines (idempotents (claim_of c)) (idempotents (claim_of d))
difference_lines c d (First x) = matchless_lines x (codes "first") (codes "second")
difference_lines c d (Second y) = matchless_lines y (codes "second") (codes "first")
difference_lines c d Searched = codes "not isomorphic\neach map fails\n"

-- that there are more lists of images than are tried
abbrev pub gave_up_line : List ℕ
gave_up_line = codes "gave up after " ++ decimal MOST_LISTS ++ codes " lists of images\n"
