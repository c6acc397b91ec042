use Rattle.class_tables.proofs.separating.has_own.Goals as goal

pub returns-then-is_own : goal.returns-then-is_own
returns-then-is_own c = λ _ few. record {
  own = c.loop-i.i;
  some = c.is_own.ensures.some c.if-is_own.true;
  alone = c.is_own.ensures.alone c.if-is_own.true few;
}
