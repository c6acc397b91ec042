use Rattle.std.proofs.Common.{◌≡◌, List, String, Global, Vec, sym, subst, refl, length, false, true}
use Rattle.std.specs.Prelude.{IfOk, MatchResult, vec_len}
use Rattle.std.specs.Vec.Iter.{into_iter_items}
use Rattle.std.proofs.lemmas.Iterator.Adapters.{YieldsList-from_vec, fact_from_collect}
use Rattle.command_results.proofs.starting.words_of.Goals as goal

pub returns-in_ok-collect-in-Ok-clause-words : goal.returns-in_ok-collect-in-Ok-clause-words
returns-in_ok-collect-in-Ok-clause-words c =
    let given = c.in-Ok.given in
    let words = c.in_ok-collect-in-Ok.field-0 in
    let all = YieldsList-from_vec (into_iter_items given) refl given.rest.ok.0 in
    let got = fact_from_collect
    (λ (xs : List (String Global)) (v : Vec (String Global) Global). (v.items ≡ xs) × (vec_len v ≡ length xs))
    c.collect.result c.collect.ensures.ran all in
    let same : words.items ≡ into_iter_items given =
    (subst (λ r. IfOk r (λ v. (v.items ≡ into_iter_items given) × (vec_len v ≡ length (into_iter_items given))))
    c.in_ok-collect-in-Ok.was got).0 in
    subst (λ r. MatchResult r (λ all. words.items ≡ into_iter_items all) (λ e. false ≡ true)) (sym c.in-Ok.is) same
