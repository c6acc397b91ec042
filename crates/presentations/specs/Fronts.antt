-- What stands at the front of bytes, and the bytes behind it.
use Rattle.std.specs.Prelude.{◌≡◌, ◌≢◌, ℕ, ◌<◌, ◌⊎◌, List, [], ◌∷◌, ◌++◌}

-- no factor goes on here: neither a digit nor ^ comes
abbrev pub EndsFactor : List ℕ → Type 0
EndsFactor [] = Unit {0}
EndsFactor (b ∷ bytes) = ((b < 48) ⊎ (57 < b)) × (b ≢ 94)

-- a word ends here: nothing, = or a space comes
abbrev pub EndsWord : List ℕ → Type 0
EndsWord [] = Unit {0}
EndsWord (b ∷ bytes) = (b ≡ 61) ⊎ (b ≡ 32)

-- a relation ends here: nothing or a space comes
abbrev pub EndsRelation : List ℕ → Type 0
EndsRelation [] = Unit {0}
EndsRelation (b ∷ bytes) = b ≡ 32

-- x stands at the front, then come these bytes, and no other way ends where it may
pub record IsFront {X : Type 0} (Is : List ℕ → X → Type 0) (Ends : List ℕ → Type 0) (bytes : List ℕ)
    (x : X) (behind : List ℕ) : Type 0 where
  pub word : List ℕ
  pub is : Is word x
  pub joined : bytes ≡ word ++ behind
  pub only : (other : List ℕ) (y : X) (tail : List ℕ) → Is other y → Ends tail
      → bytes ≡ other ++ tail → (y ≡ x) × (tail ≡ behind)

-- nothing of this kind stands at the front and ends where it may
abbrev pub IsNoFront : {X : Type 0} → (List ℕ → X → Type 0) → (List ℕ → Type 0) → List ℕ → Type 0
IsNoFront {X = X} Is Ends bytes = (other : List ℕ) (y : X) (tail : List ℕ) → Is other y → Ends tail
    → bytes ≡ other ++ tail → ⊥

-- the bytes begin with this one
abbrev pub StartsWith : ℕ → List ℕ → Type 0
StartsWith byte [] = ⊥
StartsWith byte (b ∷ bytes) = b ≡ byte

-- no digit comes
abbrev pub EndsDigits : List ℕ → Type 0
EndsDigits [] = Unit {0}
EndsDigits (b ∷ bytes) = (b < 48) ⊎ (57 < b)
