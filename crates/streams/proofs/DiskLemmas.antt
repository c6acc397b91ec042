-- What the calls by which a file is replaced do one after another.
use Rattle.std.proofs.Common.{◌≡◌, sym, refl, subst, Bool, true, false, ℕ, List, Option, Some, None}
use Rattle.streams.specs.Files.{Replaces}
use Rattle.streams.specs.Disks.{Spares}

pub spares_itself : (files : Option (List ℕ → Option (List ℕ))) (name : List ℕ) → Spares files files name
spares_itself None name = tt
spares_itself (Some files) name = λ other differs. refl

-- what makes one file spares the others
pub spares_others : (before after : Option (List ℕ → Option (List ℕ))) (name bytes : List ℕ)
    → Replaces before after name bytes → Spares before after name
spares_others None after name bytes made = tt
spares_others (Some before) None name bytes made = made
spares_others (Some before) (Some after) name bytes made = made.1

-- a call that puts the bytes there or doesn't spares the others
pub either_spares : (before after : Option (List ℕ → Option (List ℕ))) (puts : Bool) (name bytes : List ℕ)
    → (puts ≡ true → Replaces before after name bytes) → (puts ≡ false → after ≡ before)
    → Spares before after name
either_spares before after true name bytes put kept = spares_others before after name bytes (put refl)
either_spares before after false name bytes put kept =
    subst (λ f. Spares before f name) (sym (kept refl)) (spares_itself before name)
