use Rattle.std.proofs.Common.{◌∙◌, ap, codes}
use Rattle.descriptions.specs.Structure.{below_line, share_line}
use Rattle.descriptions.proofs.StructureTexts.{three-along}
use Rattle.descriptions.proofs.structure.lines_of.Goals as goal

pub returns : goal.returns
returns c =
    let n = c.args.letters in
    let words = c.args.words.now in
    let e = c.args.e in
    record {
      component = c.in_ok-members.members.items;
      are_component = c.in_ok-members.ensures.those;
      group = c.in_ok-group.group.items;
      are_group = c.in_ok-group.ensures.those;
      below = c.in_ok-below.below.items;
      are_below = c.in_ok-below.ensures.those;
      lines =
          c.in_ok-text.ensures
          ∙ three-along c.as_str.result.now c.as_str-2.result.now c.as_str-3.result.now
          (share_line (codes "component") n words e c.in_ok-members.members.items)
          (share_line (codes "group") n words e c.in_ok-group.group.items)
          (below_line n words e c.in_ok-below.below.items)
          (c.as_str.ensures.value ∙ c.in_ok-component.ensures
          ∙ ap (share_line (codes "component") n words e) c.deref.ensures.value)
          (c.as_str-2.ensures.value ∙ c.in_ok-group-2.ensures
          ∙ ap (share_line (codes "group") n words e) c.deref-2.ensures.value)
          (c.as_str-3.ensures.value ∙ c.in_ok-below-2.ensures
          ∙ ap (below_line n words e) c.deref-3.ensures.value);
    }
