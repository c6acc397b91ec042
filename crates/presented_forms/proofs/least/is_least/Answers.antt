use Rattle.presented_forms.proofs.least.is_least.Goals as goal

pub returns : goal.returns
returns g c = λ t. record {
  within = record {
    relations = c.are_relations_within.ensures c.if-not-are_relations_within.false;
    portion = c.is_portion_within.ensures c.if-not-is_portion_within.false;
  };
  cycles = c.have_least_cycles.ensures c.if-not-have_least_cycles.false;
  list = c.is_least_list.ensures t;
}
