-- The bytes with which a file begins, and all that it holds.
use Rattle.std.proofs.Common.{◌≡◌, ◌∙◌, ◌≤◌, ◌<◌, ◌+◌, ap, sym, arith, ℕ, List, Option, Some, None, length, take, min}
use Rattle.std.proofs.lemmas.List.{length-take, take_all}
use Rattle.streams.specs.Files.{BeginsWith, Holds, HoldsMore}

-- bytes that are cut have as many as there are, or so many
cut : (most : ℕ) (all bytes : List ℕ) → bytes ≡ take (most + 1) all
    → length bytes ≡ min (most + 1) (length all)
cut most all bytes same = ap length same ∙ length-take (most + 1) all

-- where more bytes are read than so many, the file holds more
pub holds_more : (files : Option (List ℕ → Option (List ℕ))) (name : List ℕ) (most : ℕ)
    (bytes : List ℕ) → BeginsWith files name (most + 1) bytes → most < length bytes
    → HoldsMore files name most
holds_more None name most bytes begins more = tt
holds_more (Some files) name most bytes begins more =
    let long = cut most begins.0 bytes begins.2 in (begins.0, begins.1, grind (arith, long, more))

-- where no more bytes are read than so many, they are all that the file holds
pub holds_all : (files : Option (List ℕ → Option (List ℕ))) (name : List ℕ) (most : ℕ)
    (bytes : List ℕ) → BeginsWith files name (most + 1) bytes → length bytes ≤ most
    → Holds files name bytes
holds_all None name most bytes begins few = tt
holds_all (Some files) name most bytes begins few =
    let short = cut most begins.0 bytes begins.2 in
    let within : length begins.0 ≤ most + 1 = grind (arith, short, few) in
    begins.1 ∙ ap Some (sym (begins.2 ∙ take_all (most + 1) begins.0 within))
