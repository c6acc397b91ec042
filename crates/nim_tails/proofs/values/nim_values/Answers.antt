use Rattle.std.proofs.Common.{◌≡◌, ◌+◌, ◌≤◌, ◌<◌, ℕ, suc, ◌++◌, ◌∷◌, [], length, subst, sym, ap, ◌∙◌, arith, All}
use Rattle.std.specs.Prelude.{slice_index}
use Rattle.std.proofs.lemmas.List.Elements.{All-push}
use Rattle.std.proofs.lemmas.List.{length-append}
use Rattle.nim_tails.specs.Normal.{IsMex, IsNimOption}
use Rattle.nim_tails.specs.declared.TheConstants.{NIM_BOUND}
use Rattle.nim_tails.proofs.Sequences.{IsRightAt, large, one_value_more}
use Rattle.nim_tails.proofs.values.nim_values.Goals as goal

pub returns-in-None-clause-fault : goal.returns-in-None-clause-fault
returns-in-None-clause-fault c = (
  omega arith,
  omega arith,
  λ G whole.
      let vs = c.loop-before.values.items in
      let m = c.loop-before.before in
      let e : suc m ≡ m + 1 = omega arith in
      subst (λ n. NIM_BOUND ≤ G n) e
      (large c.args.code.now (slice_index vs) G whole m NIM_BOUND c.loop-before.invariant.mex
      (λ k l. subst (λ n. IsNimOption c.args.code.now (slice_index vs) n k) (sym e)
      (subst (λ ws. IsNimOption c.args.code.now (slice_index ws) (m + 1) k) c.as_slice.ensures.value
      (c.in-None.ensures k l)))),
)

pub loop-before-preserved : goal.loop-before-preserved
loop-before-preserved c =
    let code = c.args.code.now in
    let vs = c.loop-before.values.items in
    let m = c.loop-before.before in
    let v = c.in-Some.value in
    let w = c.loop-before.invariant in
    let e : vs ++ v ∷ [] ≡ c.push-in-Some.new.self.items = sym c.in_ok-push-in-Some.ensures.items in
    let mex : IsMex (IsNimOption code (slice_index vs) (m + 1)) v =
    subst (λ ws. IsMex (IsNimOption code (slice_index ws) (m + 1)) v) c.as_slice.ensures.value
    c.in-Some.ensures.1 in record {
      long = ap length (sym e) ∙ length-append vs (v ∷ []) ∙ ap (λ n. n + 1) w.long;
      low = subst (All (λ x. x < NIM_BOUND)) e
          (All-push (λ x. x < NIM_BOUND) vs v w.low c.in-Some.ensures.0);
      mex = subst (λ ws. (n : ℕ) → 1 ≤ n → n ≤ m + 1 → IsRightAt code vs m v w.long ws n) e
          (one_value_more code vs m v w.long mex w.mex);
    }

pub returns-clause-values : goal.returns-clause-values
returns-clause-values c = λ M s l n h.
    let top : n ≤ M = h.1 s in
    c.loop-before.invariant.mex n h.0 (omega arith)
