-- The positions that keys spell.
use Rattle.std.proofs.Common.{◌≡◌, ℕ, ◌+◌, ◌-◌, ◌<◌, ◌≤◌, List, [], ◌∷◌, ◌++◌, length, get_or, append_assoc, sym, ◌∙◌, ap, subst, arith}
use Rattle.std.proofs.lemmas.List.{get_or_default}
use Rattle.misere_theory.specs.Games.{IsPosition}
use Rattle.misere_theory.specs.Quotients.{Monoid, value}
use Rattle.misere_theory.specs.Certificates.{Certificate, IsHeapOf, Canonical, InRanges, IsSpelled, claim_of, times_of}
use Rattle.misere_theory.specs.Certificates.IsSpelled.{Zero, Key}
use Rattle.misere_theory.proofs.Written.{phi_in}
use Rattle.misere_theory.proofs.Spelled.{spelled_value}
use Rattle.misere_theory.proofs.Shuffles.{from_permutation, position_shuffled, value_shuffled}
use Rattle.answers.specs.Spelled.{AreSpelled, GoDown, key_in}

-- a position that the keys of an element spell, and its value
pub sizes_spelled : (c : Certificate) (e : ℕ) (sizes : List ℕ) → InRanges c
    → Monoid c.order (times_of c) → Canonical c → e < c.order → AreSpelled c e sizes
    → IsPosition (IsHeapOf c) sizes × (value (claim_of c) sizes ≡ e)
sizes_spelled c e sizes ranges monoid k b a =
    let (p, v) = spelled_value c e a.X ranges monoid k b a.spelled in
    let s = from_permutation a.X sizes a.same in (
      position_shuffled (IsHeapOf c) s p,
      sym (value_shuffled (IsHeapOf c) (claim_of c) monoid (λ n _. phi_in c ranges n) s p) ∙ v,
    )

-- the keys of a canonical certificate go down
pub go_down : (c : Certificate) (words : List (ℕ × ℕ)) → words ≡ c.words → InRanges c → Canonical c
    → GoDown words
go_down c words e r k =
    let n = r.words.0 in
    subst GoDown (sym e) (record {
      parent = λ x p l. k.numbered.parent x p (omega arith);
      heap = λ x p l. (k.numbered.heap x p (omega arith)).0;
    })

-- a key read out of the list, by its parts
pub key_is : (ws : List (ℕ × ℕ)) (r x h : ℕ) (k : ℕ × ℕ) → 0 < r → r ≤ length ws → (x, h) ≡ k
    → k ≡ get_or ws (r - 1) k → (x ≡ (key_in ws r).0) × (h ≡ (key_in ws r).1)
key_is ws r x h k some within parts is =
    let all : (x, h) ≡ key_in ws r = parts ∙ is ∙ get_or_default ws (r - 1) k (0, 0) (omega arith) in
    (ap (λ (p : ℕ × ℕ). p.0) all, ap (λ (p : ℕ × ℕ). p.1) all)

-- a key further
pub key_more : (c : Certificate) (ws : List (ℕ × ℕ)) → c.words ≡ ws → (e r : ℕ) (path : List ℕ)
    → 0 < r → ((Y : List ℕ) → IsSpelled c r Y → IsSpelled c e (path ++ Y))
    → (Y : List ℕ) → IsSpelled c (key_in ws r).0 Y
    → IsSpelled c e ((path ++ (key_in ws r).1 ∷ []) ++ Y)
key_more c ws same e r path some h Y s =
    let t = subst (λ (xs : List (ℕ × ℕ)). IsSpelled c (key_in xs r).0 Y) (sym same) s in
    rw (← same, append_assoc) (h ((key_in c.words r).1 ∷ Y) (Key r some t))

-- what an element's key spells is one heap more than what is spelled of the key's element
pub key_less : (c : Certificate) (ws : List (ℕ × ℕ)) → c.words ≡ ws → (r : ℕ) (Y : List ℕ) → 0 < r
    → IsSpelled c r Y
    → (Z : List ℕ) × IsSpelled c (key_in ws r).0 Z × (length Y ≡ length Z + 1)
key_less c ws same _ _ some Zero = absurd (omega arith)
key_less c ws same _ _ some (Key {X} e pos w) = (X, rw (← same) w, omega arith)
