-- A reduced basis is determined by its congruence and the order of words. Its standard words are the least ones of their
-- classes, its left words the least words that aren't standard, and its right words the normal forms of these.
use Rattle.std.proofs.Common.{◌≡◌, ◌⊎◌, ℕ, ◌<◌, List, length, get_or, refl, sym, ap, ap₂, subst, ◌∙◌, inl, inr, arith}
use Rattle.std.specs.Prelude.{All, Contains}
use Rattle.std.proofs.lemmas.Bool.{cases_eq}
use Rattle.std.proofs.lemmas.List.{get_or_default}
use Rattle.std.proofs.lemmas.List.Elements.{All-contains}
use Rattle.presentations.specs.declared.TheConstants.{LETTERS}
use Rattle.presentations.specs.Congruences.{Related}
use Rattle.presentations.specs.Congruences.Related.{Given, Same}
use Rattle.relations.specs.Bases.{Divides}
use Rattle.normal_forms.specs.Reductions.{ReducesTo, AreConvergent}
use Rattle.normal_forms.specs.Reductions.ReducesTo.{Stays, Goes}
use Rattle.normal_forms.specs.Forms.{IsStandard, NormalForms, IsIn, AreIn, IsElementWord}
use Rattle.normal_forms.proofs.Words.{same-word}
use Rattle.normal_forms.proofs.Ranks.{rank}
use Rattle.normal_forms.proofs.Steps.{left-long, step-falls, reduces-related, reduced, decide}
use Rattle.normal_forms.proofs.Confluence.{one-form, same-forms}
use Rattle.normal_forms.proofs.Products.{form-element}
use Rattle.presented_forms.specs.Form.{AreReduced, AreInOrder, ComesEarlier}
use Rattle.presented_forms.proofs.Lists.{same}
use Rattle.presented_forms.proofs.Orders.{HasLast, has-last, earlier-never, earlier-trans}

abbrev Relations : Type 0
Relations = List (List ℕ × List ℕ)

-- ---- one basis

module _ (n : ℕ) (R : Relations) (are : AreConvergent n R) (F : NormalForms n R) where
  reduces-falls : (w u : List ℕ) → ReducesTo n R w u → (w ≡ u) ⊎ (rank n u < rank n w)
  reduces-falls w u (Stays x) = inl refl
  reduces-falls w u (Goes r x y z at step more) =
      let less = step-falls n R are.oriented r x y at step in
      elim (reduces-falls y u more) [
        | inl e ↦ inr (rw (← e) less)
        | inr further ↦ inr (omega (arith, less, further))
      ]

  -- a word is its normal form, or comes after it
  form-falls : (w : List ℕ) → length w ≡ n → (w ≡ F.form w) ⊎ (rank n (F.form w) < rank n w)
  form-falls w long =
      let r = reduced n R are.oriented w long in
      let e : r.word ≡ F.form w =
      one-form n R are w r.word (F.form w) long
      (record { standard = r.standard; related = reduces-related n R w r.word r.standard.long r.reduces })
      (F.is w long) in
      subst (λ t. (w ≡ t) ⊎ (rank n t < rank n w)) e (reduces-falls w r.word r.reduces)

  pub form-standard : (w : List ℕ) → IsStandard n R w → F.form w ≡ w
  form-standard w standard =
      one-form n R are w (F.form w) w standard.long (F.is w standard.long)
      (record { standard = standard; related = Same w standard.long })

  pub form-related : (u v : List ℕ) → length u ≡ n → length v ≡ n → Related n R u v → F.form u ≡ F.form v
  form-related u v long_u long_v related =
      same-forms n R are u v (F.form u) (F.form v) related (F.is u long_u) (F.is v long_v)

  -- a left word isn't standard
  left-reducible : (r : List ℕ × List ℕ) → Contains R r → IsStandard n R r.0 → ⊥
  left-reducible r at standard =
      All-contains (λ s. Divides n s.0 r.0 → ⊥) R r standard.free at (λ i lt. omega arith)

-- ---- two bases of one congruence

-- what the one congruence relates in the first letters, the other one does
abbrev pub Carries : ℕ → ℕ → Relations → Relations → Type 0
Carries n letters R S = (u v : List ℕ) → length u ≡ n → length v ≡ n → IsIn letters u → IsIn letters v
    → Related n R u v → Related n S u v

module _
    (n letters : ℕ) (R S : Relations) (are : AreConvergent n R) (too : AreConvergent n S)
    (F : NormalForms n R) (G : NormalForms n S)
    (in_R : AreIn letters R) (in_S : AreIn letters S)
    (to : Carries n letters R S) (back : Carries n letters S R) where
  -- normal forms are the same
  pub one-normal : (w : List ℕ) → length w ≡ n → IsIn letters w → F.form w ≡ G.form w
  one-normal w long within =
      let u = F.form w in
      let v = G.form w in
      let eu : IsElementWord n letters R u = form-element n letters R in_R F w long within in
      let ev : IsElementWord n letters S v = form-element n letters S in_S G w long within in
      let a : G.form w ≡ G.form u =
      form-related n S too G w u long eu.standard.long (to w u long eu.standard.long within eu.within (F.is w long).related) in
      let b : F.form w ≡ F.form v =
      form-related n R are F w v long ev.standard.long (back w v long ev.standard.long within ev.within (G.is w long).related) in
      elim (form-falls n S too G u eu.standard.long) [
        | inl e ↦ e ∙ sym a
        | inr less ↦
            elim (form-falls n R are F v ev.standard.long) [
              | inl e ↦ b ∙ sym e
              | inr more ↦
                  (let less_ : rank n (G.form w) < rank n (F.form w) = rw (← a) at less in
                  let more_ : rank n (F.form w) < rank n (G.form w) = rw (← b) at more in
                  absurd (omega (arith, less_, more_)))
            ]
      ]

  -- a word that isn't standard has a left word of the other basis in it
  some-left : (w : List ℕ) → length w ≡ n → IsIn letters w → (IsStandard n R w → ⊥)
      → (s : List ℕ × List ℕ) × Contains S s × Divides n s.0 w
  some-left w long within not = elim (decide n S S w) [
    | inl found ↦ found
    | inr free ↦
        absurd (not
        (let e : F.form w ≡ w = one-normal w long within ∙ form-standard n S too G w (record { long = long; free = free }) in
        subst (IsStandard n R) e (F.is w long).standard))
  ]

-- ---- two reduced ones

-- a left word in another one is that one
one-left : (R : Relations) → AreReduced R → (r s : List ℕ × List ℕ) → Contains R r → Contains R s
    → Divides LETTERS s.0 r.0 → s ≡ r
one-left R reduced_ r s (i, i_in, r_is) (j, j_in, s_is) divides = elim (cases_eq j i) [
  | inl e ↦ sym s_is ∙ ap (λ k. get_or R k s) e ∙ get_or_default R i s r i_in ∙ r_is
  | inr other ↦
      absurd (reduced_.lefts j i r j_in i_in other
      (subst (λ t. Divides LETTERS t.0 (get_or R i r).0) (sym s_is ∙ get_or_default R j s r j_in)
      (subst (λ t. Divides LETTERS s.0 t.0) (sym r_is) divides)))
]

module _
    (letters : ℕ) (R S : Relations) (are : AreConvergent LETTERS R) (too : AreConvergent LETTERS S)
    (F : NormalForms LETTERS R) (G : NormalForms LETTERS S)
    (in_R : AreIn letters R) (in_S : AreIn letters S) (red_R : AreReduced R) (red_S : AreReduced S)
    (to : Carries LETTERS letters R S) (back : Carries LETTERS letters S R) where
  -- each relation of the one basis is one of the other
  pub member : (r : List ℕ × List ℕ) → Contains R r → Contains S r
  member r at =
      let long_r = left-long LETTERS R are.oriented r at in
      let within_r = (All-contains (λ t. IsIn letters t.0 × IsIn letters t.1) R r in_R at).0 in
      let (s, s_at, s_in) =
      some-left LETTERS letters R S are too F G in_R in_S to back r.0 long_r within_r
      (left-reducible LETTERS R are F r at) in
      let long_s = left-long LETTERS S too.oriented s s_at in
      let within_s = (All-contains (λ t. IsIn letters t.0 × IsIn letters t.1) S s in_S s_at).0 in
      let (q, q_at, q_in) =
      some-left LETTERS letters S R too are G F in_S in_R back to s.0 long_s within_s
      (left-reducible LETTERS S too G s s_at) in
      let e : q ≡ r = one-left R red_R r q at q_at (λ i lt. (let a = q_in i lt in let b = s_in i lt in omega (arith, a, b))) in
      let r_in : Divides LETTERS r.0 s.0 = subst (λ t. Divides LETTERS t.0 s.0) e q_in in
      let lefts : r.0 ≡ s.0 =
      same-word LETTERS r.0 s.0 long_r long_s (λ i lt. (let a = r_in i lt in let b = s_in i lt in omega (arith, a, b))) in
      let right_r : IsStandard LETTERS R r.1 = All-contains (λ t. IsStandard LETTERS R t.1) R r red_R.rights at in
      let right_s : IsStandard LETTERS S s.1 = All-contains (λ t. IsStandard LETTERS S t.1) S s red_S.rights s_at in
      let one : F.form r.0 ≡ r.1 =
      form-related LETTERS R are F r.0 r.1 long_r right_r.long (Given r at) ∙ form-standard LETTERS R are F r.1 right_r in
      let two : G.form s.0 ≡ s.1 =
      form-related LETTERS S too G s.0 s.1 long_s right_s.long (Given s s_at) ∙ form-standard LETTERS S too G s.1 right_s in
      let rights : r.1 ≡ s.1 =
      sym one ∙ one-normal LETTERS letters R S are too F G in_R in_S to back r.0 long_r within_r ∙ ap G.form lefts ∙ two in
      let whole : s ≡ r = ap₂ (λ a b. (a, b)) (sym lefts) (sym rights) in
      subst (Contains S) whole s_at

all-last : (R : Relations) → AreConvergent LETTERS R → All (λ r. HasLast r.0) R
all-last R are k d lt = has-last (get_or R k d).1 (get_or R k d).0 (are.oriented.falls k d lt)

pub one-basis : (letters : ℕ) (R S : Relations) → AreConvergent LETTERS R → AreConvergent LETTERS S
    → NormalForms LETTERS R → NormalForms LETTERS S → AreIn letters R → AreIn letters S
    → AreReduced R → AreReduced S → AreInOrder R → AreInOrder S
    → Carries LETTERS letters R S → Carries LETTERS letters S R → R ≡ S
one-basis letters R S are too F G in_R in_S red_R red_S ord_R ord_S to back =
    same (λ r. HasLast r.0) (λ r s. ComesEarlier r.0 s.0)
    (λ r s t one two three. earlier-trans r.0 s.0 t.0 two)
    (λ r last. earlier-never r.0 last) R S (all-last R are) (all-last S too) ord_R ord_S
    (member letters R S are too F G in_R in_S red_R red_S to back)
    (member letters S R too are G F in_S in_R red_S red_R back to)
