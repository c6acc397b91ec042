use Rattle.std.proofs.Common.{◌≤◌, ap, sym, subst, arith}
use Rattle.relations.specs.Bases.{letter_count}
use Rattle.normal_forms.specs.declared.TheConstants.{MOST_LEFT_LETTERS}
use Rattle.presentations.specs.declared.TheConstants.{LETTERS}
use Rattle.normal_forms.specs.Reductions.{ReducesTo, side_of}
use Rattle.std.proofs.lemmas.List.Elements.{All-contains}
use Rattle.normal_forms.proofs.Steps.{rule-falls, left-long, right-long}
use Rattle.normal_forms.proofs.Sides.{AreCoprime, coprime-join, joins-at}
use Rattle.normal_forms.proofs.Confluence.{sides-agree}
use Rattle.normal_forms.proofs.pairs.pair_joins.Goals as goal

pub returns-then-are_coprime-clause-joins : goal.returns-then-are_coprime-clause-joins
returns-then-are_coprime-clause-joins g c =
    let rules = c.args.rules.now in
    let r = c.index-rules-i.result in
    let s = c.index-rules-k.result in
    let apart : AreCoprime LETTERS r.0 s.0 =
    subst (λ t. AreCoprime LETTERS t s.0) (ap (λ p. p.0) c.one.view_is)
    (subst (λ t. AreCoprime LETTERS c.one.inside.left t) (ap (λ p. p.0) c.other.view_is)
    (c.are_coprime.ensures c.if-are_coprime.true))
    in
    λ t. joins-at LETTERS rules c.args.i c.args.k r s c.requires.i_in c.requires.k_in c.index-rules-i.is
    c.index-rules-k.is
    (coprime-join LETTERS rules r s (c.args.i, c.requires.i_in, sym c.index-rules-i.is)
    (c.args.k, c.requires.k_in, sym c.index-rules-k.is) (
      left-long LETTERS rules c.requires.oriented r (c.args.i, c.requires.i_in, sym c.index-rules-i.is),
      right-long LETTERS rules c.requires.oriented r (c.args.i, c.requires.i_in, sym c.index-rules-i.is),
    ) (
      left-long LETTERS rules c.requires.oriented s (c.args.k, c.requires.k_in, sym c.index-rules-k.is),
      right-long LETTERS rules c.requires.oriented s (c.args.k, c.requires.k_in, sym c.index-rules-k.is),
    ) apart)

pub side-requires-clause-falls : goal.side-requires-clause-falls
side-requires-clause-falls g c =
    rule-falls LETTERS c.args.rules.now c.requires.oriented c.index-rules-i.result
    (c.args.i, c.requires.i_in, sym c.index-rules-i.is)

pub side-requires-2-clause-falls : goal.side-requires-2-clause-falls
side-requires-2-clause-falls g c =
    rule-falls LETTERS c.args.rules.now c.requires.oriented c.index-rules-k.result
    (c.args.k, c.requires.k_in, sym c.index-rules-k.is)

pub side-requires-clause-few : goal.side-requires-clause-few
side-requires-clause-few g c =
    let one =
    All-contains (λ r. letter_count LETTERS r.0 ≤ MOST_LEFT_LETTERS) c.args.rules.now c.index-rules-i.result
    c.requires.short (c.args.i, c.requires.i_in, sym c.index-rules-i.is)
    in
    let other =
    All-contains (λ r. letter_count LETTERS r.0 ≤ MOST_LEFT_LETTERS) c.args.rules.now c.index-rules-k.result
    c.requires.short (c.args.k, c.requires.k_in, sym c.index-rules-k.is)
    in
    omega (arith, one, other)

pub side-requires-2-clause-few : goal.side-requires-2-clause-few
side-requires-2-clause-few g c =
    let one =
    All-contains (λ r. letter_count LETTERS r.0 ≤ MOST_LEFT_LETTERS) c.args.rules.now c.index-rules-i.result
    c.requires.short (c.args.i, c.requires.i_in, sym c.index-rules-i.is)
    in
    let other =
    All-contains (λ r. letter_count LETTERS r.0 ≤ MOST_LEFT_LETTERS) c.args.rules.now c.index-rules-k.result
    c.requires.short (c.args.k, c.requires.k_in, sym c.index-rules-k.is)
    in
    omega (arith, one, other)

pub returns-clause-joins : goal.returns-clause-joins
returns-clause-joins g c =
    let rules = c.args.rules.now in
    let r = c.index-rules-i.result in
    let s = c.index-rules-k.result in
    λ t. joins-at LETTERS rules c.args.i c.args.k r s c.requires.i_in c.requires.k_in c.index-rules-i.is
    c.index-rules-k.is
    (record {
      word = c.reduced-first.result;
      left =
          subst (λ u. ReducesTo LETTERS rules u c.reduced-first.result) c.side.ensures.value
          c.reduced-first.ensures.reduces;
      right =
          subst (λ u. ReducesTo LETTERS rules (side_of s r) u) (sym (c.is_word.ensures.0 t))
          (subst (λ u. ReducesTo LETTERS rules u c.reduced-second.result) c.side-2.ensures.value
          c.reduced-second.ensures.reduces);
    })

pub returns-clause-fails : goal.returns-clause-fails
returns-clause-fails g c =
    let rules = c.args.rules.now in
    let r = c.index-rules-i.result in
    let s = c.index-rules-k.result in
    λ are. c.is_word.ensures.1
    (sides-agree LETTERS rules are r s (c.args.i, c.requires.i_in, sym c.index-rules-i.is)
    (c.args.k, c.requires.k_in, sym c.index-rules-k.is) c.reduced-first.result c.reduced-second.result
    (subst (λ u. ReducesTo LETTERS rules u c.reduced-first.result) c.side.ensures.value
    c.reduced-first.ensures.reduces) c.reduced-first.ensures.standard
    (subst (λ u. ReducesTo LETTERS rules u c.reduced-second.result) c.side-2.ensures.value
    c.reduced-second.ensures.reduces) c.reduced-second.ensures.standard)
