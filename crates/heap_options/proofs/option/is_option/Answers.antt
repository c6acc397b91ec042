use Rattle.heap_options.proofs.Allowed.{nothing_allowed, one_allowed, two_allowed, two_refused, three_allowed, three_refused}
use Rattle.heap_options.proofs.option.is_option.Goals as goal

pub returns-in-Nothing : goal.returns-in-Nothing
returns-in-Nothing c =
    rw (c.in-Nothing.is, c.takes_all.ensures.value) (nothing_allowed c.args.code.now c.args.n)

pub returns-in-One : goal.returns-in-One
returns-in-One c =
    rw (c.in-One.is, c.leaves_one.ensures.value, c.saturating_sub.ensures)
    (one_allowed c.args.code.now c.args.n c.in-One.a)

pub returns-then-are_parts : goal.returns-then-are_parts
returns-then-are_parts c =
    let (p, o, l) = c.are_parts.ensures.0 c.if-are_parts.true in
    rw (c.in-Two.is, c.allows.ensures.value)
    (two_allowed c.args.code.now c.args.n c.in-Two.a c.in-Two.b p o l)

pub returns-else-are_parts : goal.returns-else-are_parts
returns-else-are_parts c = rw c.in-Two.is (
  λ h. absurd (cc),
  λ h. let t = c.are_parts.ensures.1 (two_refused c.args.code.now c.args.n c.in-Two.a c.in-Two.b h)
      in absurd (cc),
)

pub returns-then-are_three_parts : goal.returns-then-are_three_parts
returns-then-are_three_parts c =
    let (p, o, q, l) = c.are_three_parts.ensures.0 c.if-are_three_parts.true in
    rw (c.in-Three.is, c.allows-then-are_three_parts.ensures.value)
    (three_allowed c.args.code.now c.args.n c.in-Three.a c.in-Three.b c.in-Three.c p o q l)

pub returns-else-are_three_parts : goal.returns-else-are_three_parts
returns-else-are_three_parts c = rw c.in-Three.is (
  λ h. absurd (cc),
  λ h.
      let t = c.are_three_parts.ensures.1
      (three_refused c.args.code.now c.args.n c.in-Three.a c.in-Three.b c.in-Three.c h) in
      absurd (cc),
)
