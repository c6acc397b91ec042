-- Relations at the front of bytes, and all of them.
-- What was read and what is left are the text: each relation more keeps this.
use Rattle.std.proofs.Common.{◌≡◌, ◌⊎◌, ℕ, ◌<◌, List, [], ◌∷◌, ◌++◌, length, refl, sym, ap, ap₂, ◌∙◌, inl, inr, arith, subst, append_assoc, length-append}
use Rattle.std.specs.Prelude.{◌↔◌}
use Rattle.std.proofs.lemmas.List.{append-nil}
use Rattle.presentations.specs.declared.TheConstants.{MOST_RELATIONS}
use Rattle.presentations.specs.declared.read.Relation.{Relation}
use Rattle.presentations.specs.Text.{IsWord, IsRelation, AreRelations, SpellsPresentation}
use Rattle.presentations.specs.Text.IsRelation.{Equal}
use Rattle.presentations.specs.Text.AreRelations.{Last, Next}
use Rattle.presentations.specs.Fronts.{EndsWord, EndsRelation, StartsWith, IsFront, IsNoFront}
use Rattle.presentations.proofs.Reading.{tail-same, nothing-there}

ends : (tail : List ℕ) → EndsRelation tail → EndsWord tail
ends [] ok = tt
ends (t ∷ tail) ok = inr ok

pub no-left : (bytes : List ℕ) → IsNoFront IsWord EndsWord bytes
    → IsNoFront IsRelation EndsRelation bytes
no-left bytes none other y tail (Equal left right r l k) ok e =
    none left r.left (61 ∷ (right ++ tail)) l (inl refl) (e ∙ append_assoc left (61 ∷ right) tail)

pub no-equals : (bytes middle v : List ℕ) → IsFront IsWord EndsWord bytes v middle
    → (StartsWith 61 middle → ⊥) → IsNoFront IsRelation EndsRelation bytes
no-equals bytes middle v f bare other y tail (Equal left right r l k) ok e =
    let s = f.only left r.left (61 ∷ (right ++ tail)) l (inl refl) (e ∙ append_assoc left (61 ∷ right) tail)
    in
    bare (rw (← s.1) refl)

pub no-right : (bytes middle v rest : List ℕ) → IsFront IsWord EndsWord bytes v middle
    → middle ≡ 61 ∷ rest → IsNoFront IsWord EndsWord rest → IsNoFront IsRelation EndsRelation bytes
no-right bytes middle v rest f is none other y tail (Equal left right r l k) ok e =
    let s = f.only left r.left (61 ∷ (right ++ tail)) l (inl refl) (e ∙ append_assoc left (61 ∷ right) tail)
    in
    none right r.right tail k (ends tail ok) (sym (tail-same (s.1 ∙ is)))

pub both-sides : (bytes middle rest behind : List ℕ) (r : Relation)
    → IsFront IsWord EndsWord bytes r.left middle → middle ≡ 61 ∷ rest
    → IsFront IsWord EndsWord rest r.right behind
    → IsFront IsRelation EndsRelation bytes r behind
both-sides bytes middle rest behind r f is g = record {
  word = f.word ++ 61 ∷ g.word;
  is = Equal f.word g.word r f.is g.is;
  joined = f.joined ∙ ap (λ t. f.word ++ t) (is ∙ ap (λ t. 61 ∷ t) g.joined)
      ∙ sym (append_assoc f.word (61 ∷ g.word) behind);
  only = same;
}
  where
    same : (other : List ℕ) (y : Relation) (tail : List ℕ) → IsRelation other y → EndsRelation tail
        → bytes ≡ other ++ tail → (y ≡ r) × (tail ≡ behind)
    same other y tail (Equal left right q l k) ok e =
        let s =
        f.only left q.left (61 ∷ (right ++ tail)) l (inl refl) (e ∙ append_assoc left (61 ∷ right) tail)
        in
        let t = g.only right q.right tail k (ends tail ok) (sym (tail-same (s.1 ∙ is))) in
        (ap₂ (λ a b. record { left = a; right = b }) s.0 t.0, t.1)

-- Relations were read from the start on, and the rest is still to be read.
pub record AreReadSoFar (text rest : List ℕ) (relations : List Relation) : Type 0 where
  pub sound : (bytes : List ℕ) (more : List Relation) → rest ≡ bytes → AreRelations bytes more
      → AreRelations text (relations ++ more)
  pub whole : (all : List Relation) → AreRelations text all → (more : List Relation)
      × AreRelations rest more × (all ≡ relations ++ more)

pub start : (text rest : List ℕ) (relations : List Relation) → rest ≡ text → relations ≡ []
    → AreReadSoFar text rest relations
start text rest relations e none = record {
  sound = λ bytes more is are. rw (none, ← e, is) are;
  whole = λ all are. (all, rw e are, rw none refl);
}

-- what the first relation is, and what comes then
first-of : (rest behind : List ℕ) (r : Relation) (more : List Relation)
    → IsFront IsRelation EndsRelation rest r behind → AreRelations rest more
    → ((behind ≡ []) × (more ≡ r ∷ []))
    ⊎ ((later : List ℕ) × (others : List Relation) × (behind ≡ 32 ∷ later)
    × AreRelations later others × (more ≡ r ∷ others))
first-of rest behind r more f (Last bytes q is) =
    let s = f.only bytes q [] is tt (sym (append-nil bytes)) in
    inl (sym s.1, ap (λ p. p ∷ []) s.0)
first-of rest behind r more f (Next first later q others is are) =
    let s = f.only first q (32 ∷ later) is refl refl in
    inr (later, others, sym s.1, are, ap (λ p. p ∷ others) s.0)

pub one-more : (text rest behind later : List ℕ) (relations : List Relation) (r : Relation)
    → AreReadSoFar text rest relations → IsFront IsRelation EndsRelation rest r behind
    → behind ≡ 32 ∷ later → AreReadSoFar text later (relations ++ r ∷ [])
one-more text rest behind later relations r so f space = record {
  sound = λ bytes more is are.
      let next : AreRelations (f.word ++ 32 ∷ bytes) (r ∷ more) = Next f.word bytes r more f.is are
      in
      rw (append_assoc relations (r ∷ []) more)
      (so.sound (f.word ++ 32 ∷ bytes) (r ∷ more)
      (f.joined ∙ ap (λ t. f.word ++ t) (space ∙ ap (λ t. 32 ∷ t) is)) next);
  whole = λ all are.
      let w = so.whole all are in
      elim (first-of rest behind r w.0 f w.1) [
        | inl last ↦ absurd (nothing-there (sym last.0 ∙ space))
        | inr next ↦ (
          next.1,
          rw (tail-same (sym next.2 ∙ space)) at next.3,
          w.2 ∙ ap (λ m. relations ++ m) next.4 ∙ sym (append_assoc relations (r ∷ []) next.1),
        )
      ];
}

-- all relations were read
pub all-read : (text rest behind : List ℕ) (relations all : List Relation) (r : Relation)
    → AreReadSoFar text rest relations → IsFront IsRelation EndsRelation rest r behind
    → behind ≡ [] → length relations < MOST_RELATIONS → all ≡ relations ++ r ∷ [] → (q : List Relation)
    → SpellsPresentation text q ↔ (all ≡ q)
all-read text rest behind relations all r so f end few is q = (
  λ spells.
      let w = so.whole q spells.are in
      elim (first-of rest behind r w.0 f w.1) [
        | inl last ↦ is ∙ ap (λ m. relations ++ m) (sym last.1) ∙ sym w.2
        | inr next ↦ absurd (nothing-there (sym end ∙ next.2))
      ],
  λ same. rw (← same, is) (record {
    are = so.sound f.word (r ∷ []) (f.joined ∙ ap (λ t. f.word ++ t) end ∙ append-nil f.word)
        (Last f.word r f.is);
    most = omega (arith, length-append relations (r ∷ []));
  }),
)

pub no-relation : (text rest : List ℕ) (relations : List Relation)
    → AreReadSoFar text rest relations → IsNoFront IsRelation EndsRelation rest
    → (q : List Relation) → SpellsPresentation text q → ⊥
no-relation text rest relations so none q spells = let w = so.whole q spells.are in
    nothing rest w.0 none w.1
  where
    nothing : (rest : List ℕ) (more : List Relation) → IsNoFront IsRelation EndsRelation rest
        → AreRelations rest more → ⊥
    nothing rest more none (Last bytes r is) = none bytes r [] is tt (sym (append-nil bytes))
    nothing rest more none (Next first later r others is are) =
        none first r (32 ∷ later) is refl refl

pub no-space : (text rest behind : List ℕ) (relations : List Relation) (r : Relation)
    → AreReadSoFar text rest relations → IsFront IsRelation EndsRelation rest r behind
    → 0 < length behind → (StartsWith 32 behind → ⊥) → (q : List Relation)
    → SpellsPresentation text q → ⊥
no-space text rest behind relations r so f some bare q spells =
    let w = so.whole q spells.are in
    elim (first-of rest behind r w.0 f w.1) [
      | inl last ↦ absurd (omega (arith, ap length last.0))
      | inr next ↦ bare (rw next.2 refl)
    ]

pub too-many : (text rest : List ℕ) (relations : List Relation) → AreReadSoFar text rest relations
    → length relations ≡ MOST_RELATIONS → (q : List Relation) → SpellsPresentation text q → ⊥
too-many text rest relations so full q spells =
    let w = so.whole q spells.are in
    absurd
    (omega (arith, spells.most, ap length w.2, length-append relations w.0, some rest w.0 w.1))
  where
    some : (rest : List ℕ) (more : List Relation) → AreRelations rest more → 0 < length more
    some rest more (Last bytes r is) = omega arith
    some rest more (Next first later r others is are) = omega arith
