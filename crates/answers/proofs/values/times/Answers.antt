use Rattle.std.proofs.Common.{◌≡◌, ◌*◌, length, sym, ap, arith}
use Rattle.answers.proofs.ValueLemmas.{place_below}
use Rattle.answers.proofs.values.times.Goals as goal

pub bounds-rows-x : goal.bounds-rows-x
bounds-rows-x g c =
    let q = c.args.cert.now.order in
    let e = ap length c.rows.ensures in
    let s = (c.claims_agree.ensures.shaped c.args.cert.now c.requires.accepted.in_ranges).length_is
    in
    let p = place_below q c.args.x c.args.y c.requires.x_in c.requires.y_in in
    let o : c.args.x * c.order.result ≡ c.args.x * q = ap (λ v. c.args.x * v) c.order.ensures.value
    in
    omega arith

pub returns : goal.returns
returns g c =
    let is =
    (c.claims_agree.ensures.agrees c.args.cert.now c.requires.accepted.in_ranges).times_is c.args.x
    c.args.y c.requires.x_in c.requires.y_in in
    record {
      value = rw (c.rows.ensures, c.order.ensures.value) (sym is);
      within = rw (c.rows.ensures, c.order.ensures.value, ← is)
          (c.requires.accepted.represents.monoid.closed c.args.x c.args.y c.requires.x_in
          c.requires.y_in);
    }
