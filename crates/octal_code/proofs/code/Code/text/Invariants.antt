use Rattle.std.proofs.Common.{◌≡◌, ◌+◌, take, string_bytes}
use Rattle.octal_code.specs.Text.{code_text}
use Rattle.octal_code.proofs.code.Code.text.Given as goal

abbrev pub invariant-loop-j : goal.invariant-loop-j
invariant-loop-j g l = string_bytes l.text ≡ take (l.j + 1) (code_text l.self)
