use Rattle.std.proofs.Common.{◌≡◌, ◌≤◌, ◌<◌, suc, ◌+◌, ◌-◌, List, [], ◌∷◌, ℕ, length, drop, get_or, refl, sym, ◌∙◌, ap, subst, arith}
use Rattle.std.specs.Prelude.{slice_index}
use Rattle.std.proofs.Math.Seq.{drop-cons}
use Rattle.std.proofs.lemmas.List.Elements.{All-from_recursion}
use Rattle.presentations.specs.declared.TheConstants.{LETTERS}
use Rattle.presentations.specs.Vectors.{plus, zeros}
use Rattle.relations.specs.Bases.{letter_count}
use Rattle.normal_forms.specs.Forms.{IsNormalForm}
use Rattle.presented_text.specs.Said.{PresentedSaid}
use Rattle.presented_claims.specs.Claims.{heap_word}
use Rattle.presented_tables.specs.Tested.{HasWord}
use Rattle.label_players.specs.Forms.{IsFormIfShort}
use Rattle.label_players.specs.Wide.{AreSmall}
use Rattle.label_players.proofs.Labels.{none-label, heap-label, word-of-heap}
use Rattle.label_players.proofs.forms.form_of.Goals as goal

drop-all : (X : List ℕ) → drop (length X) X ≡ []
drop-all [] = refl
drop-all (x ∷ X) = drop-all X

pub loop-i-init : goal.loop-i-init
loop-i-init g c =
    let k = c.args.quotient.now in
    let X = c.args.heaps.now in
    let right = c.said-said.ensures.right in
    let all : length X - 0 ≡ length X = omega arith in
    subst (λ (Z : List ℕ). IsFormIfShort k.said Z (zeros LETTERS)) (sym (ap (λ j. drop j X) all ∙ drop-all X))
    (none-label k.said right.accepted.presents.converges (word-of-heap k right))

pub loop-i-preserved : goal.loop-i-preserved
loop-i-preserved g c =
    let k = c.args.quotient.now in
    let X = c.args.heaps.now in
    let right = c.said-said.ensures.right in
    let i = c.loop-i.i in
    let l = c.loop-i-test.true in
    let h = get_or X (length X - 1 - i) 0 in
    let one : length X - 1 - i ≡ length X - (i + 1) = omega arith in
    let next : suc (length X - 1 - i) ≡ length X - i = omega arith in
    let e : drop (length X - (i + 1)) X ≡ h ∷ drop (length X - i) X =
    ap (λ j. drop j X) (sym one)
    ∙ (drop-cons X (length X - 1 - i) 0 (omega arith)
    ∙ ap (λ j. h ∷ drop j X) next) in
    let word = c.heap_word-word.result in
    let all = c.loop-i.all in
    let r = c.times-all.result in
    let is : word ≡ heap_word k.said h =
    c.heap_word-word.ensures.same ∙ ap (λ (p : PresentedSaid). heap_word p h) c.said-said.ensures.value in
    let form =
    subst (λ (p : PresentedSaid). AreSmall word → AreSmall all → IsNormalForm LETTERS p.relations (plus word all) r)
    c.said-said.ensures.value c.times-all.ensures.form in
    subst (λ (Z : List ℕ). IsFormIfShort k.said Z r) (sym e)
    (heap-label k.said right.accepted.presents.converges (word-of-heap k right) h (drop (length X - i) X) all r
    (All-from_recursion (HasWord k.said) X c.requires (length X - 1 - i) 0 (omega arith))
    (subst (λ (w : List ℕ). (j : ℕ) → j < LETTERS → slice_index w j ≤ 65535) is c.heap_word-word.ensures.small)
    (subst (λ (w : List ℕ). AreSmall w → AreSmall all → IsNormalForm LETTERS k.said.relations (plus w all) r) is form)
    (subst (λ (w : List ℕ). AreSmall w → AreSmall all
    → letter_count LETTERS r ≤ letter_count LETTERS w + letter_count LETTERS all) is c.times-all.ensures.few)
    c.loop-i.invariant)

pub returns : goal.returns
returns g c =
    let X = c.args.heaps.now in
    let ended = c.loop-i-test.false in
    let none : length X - c.loop-i.i ≡ 0 = omega arith in
    subst (λ j. IsFormIfShort c.args.quotient.now.said (drop j X) c.loop-i.all) none c.loop-i.invariant
