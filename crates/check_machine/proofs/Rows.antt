-- Rows that lie one behind the other.
use Rattle.std.proofs.Common.{◌≡◌, ℕ, suc, zero, ◌+◌, ◌*◌, ◌<◌, List, [], ◌∙◌, ap, drop, get_or, arith}
use Rattle.std.proofs.lemmas.List.{get_or-take, get_or-drop}
use Rattle.certificate_text.specs.Reading.{rows_of}

-- entry y of row x
pub rows_of-entry : (q n : ℕ) (xs : List ℕ) (x y : ℕ) → x < n → y < q
    → get_or (get_or (rows_of q n xs) x []) y 0 ≡ get_or xs (x * q + y) 0
rows_of-entry q zero xs x y h l = absurd (omega arith)
rows_of-entry q (suc n) xs zero y h l =
    get_or-take q xs y 0 l ∙ (let e : y ≡ 0 * q + y = omega arith in ap (λ i. get_or xs i 0) e)
rows_of-entry q (suc n) xs (suc x) y h l =
    rows_of-entry q n (drop q xs) x y (omega arith) l
    ∙ get_or-drop q xs (x * q + y) 0
    ∙ (let e : q + (x * q + y) ≡ suc x * q + y = grind arith in ap (λ i. get_or xs i 0) e)
