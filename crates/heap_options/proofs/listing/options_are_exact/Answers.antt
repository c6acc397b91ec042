use Rattle.heap_options.proofs.OptionLaws.{listed_as, only, cut}
use Rattle.heap_options.proofs.Exact.{each, once}
use Rattle.heap_options.proofs.Rising.{rising}
use Rattle.heap_options.proofs.listing.options_are_exact.Goals as goal

pub returns : goal.returns
returns g = record {
  each = each;
  only = only;
  listed = listed_as;
  cut = cut;
  once = once;
  order = rising;
}
