-- Lines of a monoid, one word or line more each time.
use Rattle.std.proofs.Common.{◌≡◌, ◌∙◌, ◌<◌, ℕ, ◌+◌, List, [], ◌∷◌, ◌++◌, get_or, length, append_assoc, append-nil, ap, arith, refl, suc, sym, take}
use Rattle.std.proofs.Math.Seq.{take-suc}
use Rattle.presentations.specs.declared.named.NamedElement.{NamedElement}
use Rattle.description_commands.specs.Presented.{generator_word, generator_words}

words_joined : (gs hs : List NamedElement) → generator_words (gs ++ hs) ≡ generator_words gs
    ++ generator_words hs
words_joined [] hs = refl
words_joined (g ∷ gs) hs = ap (λ (t : List ℕ). generator_word g ++ t) (words_joined gs hs)
    ∙ sym (append_assoc (generator_word g) (generator_words gs) (generator_words hs))

one_more : (i : ℕ) → i + 1 ≡ suc i
one_more i = omega arith

-- the words of one generator more
pub next_generator : (gs : List NamedElement) (i : ℕ) (g : NamedElement) → i < length gs
    → get_or gs i g ≡ g
    → generator_words (take (i + 1) gs) ≡ generator_words (take i gs) ++ generator_word g
next_generator gs i g lt is =
    ap generator_words (ap (λ (k : ℕ). take k gs) (one_more i) ∙ take-suc gs i g lt
    ∙ ap (λ (h : NamedElement). take i gs ++ h ∷ []) is)
    ∙ words_joined (take i gs) (g ∷ []) ∙ ap (λ (t : List ℕ). generator_words (take i gs) ++ t)
    (append-nil (generator_word g))
