use Rattle.std.proofs.Common.{rules, ◌≤◌, List, ℕ, subst, sym, arith}
use Rattle.presentations.specs.declared.TheConstants.{LETTERS}
use Rattle.presentations.specs.Vectors.{plus}
use Rattle.relations.specs.Bases.{letter_count}
use Rattle.normal_forms.specs.Forms.{IsNormalForm}
use Rattle.normal_forms.specs.Reductions.{AreOriented}
use Rattle.normal_forms.proofs.Ranks.{count-plus}
use Rattle.normal_forms.proofs.Steps.{reduces-related}
use Rattle.presented_text.specs.Said.{PresentedSaid}
use Rattle.label_players.specs.Wide.{AreSmall}
use Rattle.label_players.specs.declared.reducing.TheConstants.{MOST_LETTERS}
use Rattle.label_players.specs.declared.wide.TheConstants.{LARGEST_EXPONENT}
use Rattle.label_players.proofs.Counts.{count-most, reduces-few}
use Rattle.label_players.proofs.forms.times.Goals as goal

pub reduced-requires-clause-few : goal.reduced-requires-clause-few
reduced-requires-clause-few g c =
    let x = c.args.x.now in
    let y = c.args.y.now in
    let small_x : AreSmall x = search rules in
    let small_y : AreSmall y = search rules in
    subst (λ (w : List ℕ). letter_count LETTERS w ≤ MOST_LETTERS) (sym {b = plus x y} c.product.ensures)
    (omega (
      arith,
      count-plus LETTERS x y,
      count-most LETTERS LARGEST_EXPONENT x small_x,
      count-most LETTERS LARGEST_EXPONENT y small_y,
    ))

pub returns-clause-form : goal.returns-clause-form
returns-clause-form g c = λ small_x small_y.
    let w = plus c.args.x.now c.args.y.now in
    subst (λ (p : PresentedSaid). IsNormalForm LETTERS p.relations w c.reduced.result) c.p.view_is
    (subst (λ rs. IsNormalForm LETTERS rs w c.reduced.result) c.rules.ensures.value
    (subst (λ (v : List ℕ). IsNormalForm LETTERS c.rules.result.now v c.reduced.result) c.product.ensures
    (record {
      standard = c.reduced.ensures.standard;
      related =
          reduces-related LETTERS c.rules.result.now c.product.result c.reduced.result
          c.reduced.ensures.standard.long c.reduced.ensures.reduces;
    })))

pub returns-clause-few : goal.returns-clause-few
returns-clause-few g c = λ small_x small_y.
    let oriented =
    subst (AreOriented LETTERS) (sym c.rules.ensures.value) c.rules.ensures.convergent.oriented in
    let fewer =
    subst (λ (w : List ℕ). letter_count LETTERS c.reduced.result ≤ letter_count LETTERS w) c.product.ensures
    (reduces-few LETTERS c.rules.result.now oriented c.product.result c.reduced.result c.reduced.ensures.reduces) in
    omega (arith, fewer, count-plus LETTERS c.args.x.now c.args.y.now)
