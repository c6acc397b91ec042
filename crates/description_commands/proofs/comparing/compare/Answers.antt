use Rattle.std.proofs.Common.{◌∙◌, ◌++◌, ℕ, List, Bor, ap, codes, inr, subst}
use Rattle.std.specs.Prelude.{option_map}
use Rattle.std.proofs.lemmas.Result.{IfOk-weaker}
use Rattle.given_quotients.specs.Checks.{AreGiven}
use Rattle.command_results.specs.declared.said.Said.{Said}
use Rattle.description_commands.specs.Compared.{Compares, ComparesBeside, left_behind}
use Rattle.description_commands.proofs.FoundIsomorphism.{compares_beside, compares_no, found_accepted, of_each_error}
use Rattle.description_commands.proofs.comparing.compare.Goals as goal

pub returns-in_ok-a-in-Ok-clause-compares : goal.returns-in_ok-a-in-Ok-clause-compares
returns-in_ok-a-in-Ok-clause-compares g c =
    let one = option_map (λ (f : Bor (List ℕ)). f.now) c.args.first in
    let other = option_map (λ (f : Bor (List ℕ)). f.now) c.args.second in
    let left = g.S.Source.left c.args.input.now in
    let mid = g.S.Source.left c.quotient_of.new.input in
    let files = g.F.Folder.files c.args.folder.now in
    let side = c.in_ok-a-in-Ok.a in
    IfOk-weaker c.compare_beside.result
    (λ (s : Said). ComparesBeside side
    (AreGiven mid (g.F.Folder.files c.quotient_of.new.folder) other) c.args.limit s.text.items
    s.succeeds)
    (λ (s : Said). Compares (AreGiven left files one) (AreGiven (left_behind one left) files other)
    c.args.limit s.text.items s.succeeds)
    (λ s h. compares_beside left mid files one other c.args.limit c.in_ok-quotient.field-0 c.in-Ok.quotient side
    s.text.items s.succeeds c.in_ok-quotient.ensures.found c.in-Ok.is c.in_ok-a-in-Ok.ensures
    (λ e. ap g.S.Source.left (c.in_ok-quotient.ensures.input e))
    (subst (λ f. ComparesBeside side (AreGiven mid f other) c.args.limit s.text.items s.succeeds)
    c.in_ok-quotient.ensures.kept h))
    c.compare_beside.ensures.compares

pub returns-in_ok-no_of-in-Err-clause-compares : goal.returns-in_ok-no_of-in-Err-clause-compares
returns-in_ok-no_of-in-Err-clause-compares g c =
    let one = option_map (λ (f : Bor (List ℕ)). f.now) c.args.first in
    let other = option_map (λ (f : Bor (List ℕ)). f.now) c.args.second in
    let left = g.S.Source.left c.args.input.now in
    let files = g.F.Folder.files c.args.folder.now in
    compares_no (AreGiven left files one) (AreGiven (left_behind one left) files other) c.args.limit
    c.in_ok-quotient.field-0 c.in-Err.no c.in_ok-no_of-in-Err.field-0.text.items
    c.in_ok-no_of-in-Err.field-0.succeeds c.in_ok-quotient.ensures.found c.in-Err.is
    (c.in_ok-no_of-in-Err.ensures.text
    ∙ ap (λ (t : List ℕ). codes "first: " ++ t) c.deref.ensures.value)
    c.in_ok-no_of-in-Err.ensures.succeeds

pub returns-in_ok-a-in-Ok-clause-order : goal.returns-in_ok-a-in-Ok-clause-order
returns-in_ok-a-in-Ok-clause-order g c =
    let one = option_map (λ (f : Bor (List ℕ)). f.now) c.args.first in
    let left = g.S.Source.left c.args.input.now in
    let files = g.F.Folder.files c.args.folder.now in
    of_each_error c.compare_beside.result _
    (λ stop. inr (found_accepted (AreGiven left files one) c.args.limit c.in_ok-quotient.field-0 c.in-Ok.quotient
    c.in_ok-quotient.ensures.found c.in-Ok.is))
