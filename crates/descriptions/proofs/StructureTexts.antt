-- The lines of one idempotent more, what all elements are that were chosen, and texts of equal parts.
use Rattle.std.proofs.Common.{◌≡◌, ◌∙◌, ℕ, ◌+◌, ◌<◌, List, ◌++◌, ap, ap₂, length, get_or, take}
use Rattle.std.specs.Prelude.{All}
use Rattle.std.proofs.lemmas.List.{take_more}
use Rattle.std.proofs.lemmas.List.Elements.{All-nil, All-push}
use Rattle.misere_theory.specs.Certificates.{Certificate}
use Rattle.monoid_table.specs.Grids.{Grid}
use Rattle.descriptions.specs.Invariants.{AreThose}
use Rattle.descriptions.specs.Invariants.AreThose.{NoElement, Taken, LeftOut}
use Rattle.descriptions.specs.Structure.{AreLines, AreLinesOf, structure_head}
use Rattle.descriptions.specs.Structure.AreLines.{Next}

pub lines-next : (t : Grid) (n : ℕ) (words : List (List ℕ)) (listing all text more new : List ℕ)
    (i d : ℕ) → i < length all → AreLines t n words listing (take i all) text
    → AreLinesOf t n words listing (get_or all i d) more → new ≡ text ++ more
    → AreLines t n words listing (take (i + 1) all) new
lines-next t n words listing all text more new i d lt are of e =
    rw (e, take_more all i d lt) (Next (get_or all i d) more are of)

-- the elements that are chosen are so
pub All-those : (P : ℕ → Type 0) (all those : List ℕ) → AreThose P all those → All P those
All-those P _ _ NoElement = All-nil P
All-those P _ _ (Taken {all} {those} e are is) = All-push P those e (All-those P all those are) is
All-those P _ _ (LeftOut {all} {those} e are isnt) = All-those P all those are

-- the same lines, of what is equal
pub lines-along : (t u : Grid) (n k : ℕ) (words others : List (List ℕ)) (listing list these those
    : List ℕ) (text : List ℕ) → t ≡ u → n ≡ k → words ≡ others → listing ≡ list → these ≡ those
    → AreLines t n words listing these text → AreLines u k others list those text
lines-along t u n k words others listing list these those text e f g h i are =
    rw (← e, ← f, ← g, ← h, ← i) are

-- the same head, of what is equal
pub head-along : (c d : Certificate) (n k : ℕ) (words others : List (List ℕ)) (these those low least
    : List ℕ) → c ≡ d → n ≡ k → words ≡ others → these ≡ those → low ≡ least
    → structure_head c n words these low ≡ structure_head d k others those least
head-along c d n k words others these those low least e f g h i =
    ap (λ (x : Certificate). structure_head x n words these low) e
    ∙ ap (λ (x : ℕ). structure_head d x words these low) f
    ∙ ap (λ (x : List (List ℕ)). structure_head d k x these low) g
    ∙ ap (λ (x : List ℕ). structure_head d k others x low) h
    ∙ ap (λ (x : List ℕ). structure_head d k others those x) i

-- three texts one behind the other, of equal ones
pub three-along : (x y z a b c : List ℕ) → x ≡ a → y ≡ b → z ≡ c → x ++ y ++ z ≡ a ++ b ++ c
three-along x y z a b c e f g =
    ap₂ (λ (s t : List ℕ). s ++ t) (ap₂ (λ (s t : List ℕ). s ++ t) e f) g
