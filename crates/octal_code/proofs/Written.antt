-- The text of a code, written digit by digit.
use Rattle.std.proofs.Common.{◌≡◌, ℕ, zero, suc, ◌+◌, ◌<◌, ◌≤◌, List, [], ◌∷◌, ◌++◌, length, get_or, take, sym, ap, ◌∙◌, arith}
use Rattle.std.proofs.lemmas.List.{length-map, get_or-map, take_more}
use Rattle.octal_code.specs.Text.{digit_byte, code_text}

pub text_length : (code : List ℕ) → 1 ≤ length code → length (code_text code) ≡ length code + 1
text_length [] l = absurd (omega arith)
text_length (d ∷ ds) l = let n = length-map ds digit_byte in omega arith

text_at : (code : List ℕ) (j : ℕ) → 1 ≤ j → j < length code
    → get_or (code_text code) (j + 1) 0 ≡ digit_byte (get_or code j 0)
text_at [] j l h = absurd (omega arith)
text_at (d ∷ ds) zero l h = absurd (omega arith)
text_at (d ∷ ds) (suc j) l h =
    ap (λ k. get_or (code_text (d ∷ ds)) k 0) (let e : suc j + 1 ≡ suc (suc j) = omega arith in e)
    ∙ get_or-map digit_byte ds j 0 0 (omega arith)

pub text_more : (code : List ℕ) (j : ℕ) → 1 ≤ j → j < length code
    → take (j + 1) (code_text code) ++ digit_byte (get_or code j 0) ∷ []
    ≡ take (j + 1 + 1) (code_text code)
text_more code j l h =
    sym (take_more (code_text code) (j + 1) 0 (let n = text_length code (omega arith) in
    omega arith) ∙ ap (λ b. take (j + 1) (code_text code) ++ b ∷ []) (text_at code j l h))
