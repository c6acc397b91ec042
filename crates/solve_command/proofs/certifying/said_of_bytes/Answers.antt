use Rattle.std.proofs.lemmas.Result.{IfOk-weaker}
use Rattle.given_quotients.specs.Told.{BeginsPresented}
use Rattle.solve_command.proofs.certifying.said_of_bytes.Goals as goal

pub returns-then-begins_presented : goal.returns-then-begins_presented
returns-then-begins_presented c =
    let begins : BeginsPresented c.args.bytes.now = c.begins_presented.ensures.0 c.if-begins_presented.true in
    IfOk-weaker c.presented_said.result _ _
    (λ s says. record { presented = λ _. says; table = λ other. absurd (other begins) })
    c.presented_said.ensures

pub returns : goal.returns
returns c =
    let other : BeginsPresented c.args.bytes.now → ⊥ = λ begins. (let t = c.begins_presented.ensures.1 begins in let f = c.if-begins_presented.false in cc) in
    record {
      presented = λ begins. absurd (other begins);
      table = λ _. c.said.ensures c.args.bytes.now c.args.limit c.in_ok-told.ensures.tells;
    }
