use Rattle.std.proofs.Common.{◌≡◌, true≢false, ℕ, List, [], ◌∷◌, ◌++◌, IsPermutation, append-nil, subst, sym, arith}
use Rattle.std.proofs.lemmas.List.Sorted.{length_permutation, IsPermutation-push_more}
use Rattle.misere_theory.specs.Certificates.{IsSpelled}
use Rattle.misere_theory.specs.Certificates.IsSpelled.{Zero}
use Rattle.answers.specs.Spelled.{key_in}
use Rattle.answers.proofs.SpellLemmas.{key_is, key_less, key_more}
use Rattle.answers.proofs.spelling.position_of.Goals as goal

pub loop-reached-preserved : goal.loop-reached-preserved
loop-reached-preserved g c =
    let ws = c.args.words.now in
    let r = c.loop-reached.reached in
    let i = c.loop-reached.invariant in
    let (e, h) =
    key_is ws r c.key.inside.element c.key.inside.heap c.index-words-reached.result
    c.loop-reached-test.true i.0 c.key.view_is c.index-words-reached.is in
    let down = c.requires.down.parent r c.loop-reached-test.true i.0 in
    let path : List ℕ = i.1.0 in (
      omega (arith, e, down, i.0),
      (
        path ++ (key_in ws r).1 ∷ [],
        IsPermutation-push_more path c.loop-reached.position c.push.new.self (key_in ws r).1 i.1.1
            (subst (λ (x : ℕ). IsPermutation (x ∷ c.loop-reached.position) c.push.new.self) h
            c.in_ok-push.ensures.ok),
        λ d same Y s. key_more d ws same c.args.element r path c.loop-reached-test.true
            (i.1.2 d same) Y (subst (λ (x : ℕ). IsSpelled d x Y) e s),
      ),
      λ d same X s.
          let (Y, t, l) = i.2 d same X s in
          let (Z, u, m) = key_less d ws same r Y c.loop-reached-test.true t in
          let n = length_permutation _ _ c.in_ok-push.ensures.ok in
          (Z, subst (λ (x : ℕ). IsSpelled d x Z) (sym e) u, omega arith),
    )

pub returns-in_err-push-clause-inline : goal.returns-in_err-push-clause-inline
returns-in_err-push-clause-inline g c = λ d same X s few.
    let (Y, t, l) = c.loop-reached.invariant.2 d same X s in
    let (Z, u, m) =
    key_less d c.args.words.now same c.loop-reached.reached Y c.loop-reached-test.true t in
    absurd (true≢false (sym (c.in_err-push.ensures.inline (omega arith))))

pub returns-clause-spelled : goal.returns-clause-spelled
returns-clause-spelled g c = λ d same.
    let i = c.loop-reached.invariant in
    let z : c.loop-reached.reached ≡ 0 = omega (arith, c.loop-reached-test.false) in
    let path : List ℕ = i.1.0 in
    record {
      X = path;
      spelled = subst (λ (t : List ℕ). IsSpelled d c.args.element t) (append-nil path)
          (i.1.2 d same [] (subst (λ (x : ℕ). IsSpelled d x []) (sym z) Zero));
      same = i.1.1;
      rising = c.heaps.ensures.rising;
    }
