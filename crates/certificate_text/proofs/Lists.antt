-- The lines before the table's, read and written: the front, phi, the portion and the keys.
-- Line by line: what is read is their text, and their text is read.
use Rattle.std.proofs.Common.{◌≡◌, ℕ, ◌+◌, ◌-◌, ◌^◌, ◌<◌, ◌≤◌, List, [], ◌∷◌, ◌++◌, map, length, Some, refl, ap, ◌∙◌, arith, codes}
use Rattle.std.specs.Fmt.{decimal}
use Rattle.std.specs.List.{AllByRecursion}
use Rattle.std.proofs.lemmas.Option.{some_pair_parts}
use Rattle.misere_theory.specs.Certificates.{Certificate}
use Rattle.certificate_text.specs.Spelling.{spaced, key_word}
use Rattle.certificate_text.specs.Reading.{lists_at}
use Rattle.certificate_text.proofs.Numbers.{bind_some}
use Rattle.certificate_text.proofs.Words.{numbers_reader, keys_reader, KeyFits, line_takes, line_again}
use Rattle.certificate_text.proofs.Fields.{RisesFrom, portion_takes, portion_again}
use Rattle.certificate_text.proofs.Front.{front_text, FrontFits, front_takes, front_again}

abbrev pub line_text : List ℕ → List (List ℕ) → List ℕ → List ℕ
line_text name words rest = name ++ (spaced words ++ 10 ∷ rest)

-- phi, the portion and the keys
abbrev pub behind_front : Certificate → List ℕ → List ℕ
behind_front c rest =
    line_text (codes "phi") (map decimal c.phi)
    (line_text (codes "portion") (map decimal c.portion)
    (line_text (codes "words") (map key_word c.words) rest))

abbrev pub lists_text : Certificate → List ℕ → List ℕ
lists_text c rest = front_text c.code c.order c.start c.period (behind_front c rest)

-- the certificate without its rows and its separators
abbrev pub bare : Certificate → Certificate
bare c = record c { rows = []; apart = [] }

pub record ListsFit (c : Certificate) : Type 0 where
  pub front : FrontFits c.code c.order c.start c.period
  pub phi : (length c.phi ≡ c.start + c.period - 1) × AllByRecursion (λ x. x < c.order) c.phi
  pub portion : (1 ≤ length c.portion) × RisesFrom 0 c.order c.portion
  pub words : (length c.words ≡ c.order - 1)
      × AllByRecursion (KeyFits c.order (c.start + c.period)) c.words

-- an order and a number of heaps as the readers of numbers take them
pub record HasLimits (order start period : ℕ) : Type 0 where
  pub low : 0 < order
  pub small : order ≤ 2 ^ 16
  pub some_heaps : 0 < start + period
  pub few_heaps : start + period ≤ 2 ^ 16

pub limits_of : (code : List ℕ) (order start period : ℕ) → FrontFits code order start period
    → HasLimits order start period
limits_of code order start period f = record {
  low = omega (arith, f.order_from);
  small = omega (arith, f.order_below);
  some_heaps = omega (arith, f.start_from);
  few_heaps = omega (arith, f.start_below, f.period_below);
}

pub lists_take : (bytes : List ℕ) (c : Certificate) (rest : List ℕ)
    → lists_at bytes ≡ Some (c, rest)
    → (bytes ≡ lists_text c rest) × ListsFit c × (c.apart ≡ [])
unfolding lists_at
lists_take bytes c rest e =
    let front = bind_some e in
    let ft = front_takes _ _ _ front.1 in
    let phi = bind_some front.2 in
    let portion = bind_some phi.2 in
    let words = bind_some portion.2 in
    let p = some_pair_parts _ _ _ _ words.2 in
    let l = limits_of _ _ _ _ ft.1 in
    let phi_t = line_takes (numbers_reader _ l.low l.small) _ _ _ _ _ phi.1 in
    let portion_t = portion_takes _ _ _ _ l.low l.small portion.1 in
    let words_t =
    line_takes (keys_reader _ _ l.low l.small l.some_heaps l.few_heaps) _ _ _ _ _ words.1 in
    rw (← p.0) (
      ft.0 ∙ ap (front_text front.0.0.0 front.0.0.1 front.0.0.2 front.0.0.3)
          (phi_t.0 ∙ ap (line_text (codes "phi") (map decimal phi.0.0))
          (portion_t.0 ∙ ap (line_text (codes "portion") (map decimal portion.0.0))
          (words_t.0 ∙ ap (line_text (codes "words") (map key_word words.0.0)) p.1))),
      record {
        front = ft.1;
        phi = (phi_t.1, phi_t.2);
        portion = (portion_t.1, portion_t.2);
        words = (words_t.1, words_t.2);
      },
      refl,
    )

pub lists_again : (c : Certificate) (rest : List ℕ) → ListsFit c
    → lists_at (lists_text c rest) ≡ Some (bare c, rest)
unfolding lists_at
lists_again c rest fits =
    let l = limits_of c.code c.order c.start c.period fits.front in
    let numbers = numbers_reader c.order l.low l.small in
    let keys = keys_reader c.order (c.start + c.period) l.low l.small l.some_heaps l.few_heaps in
    let words_ : List ℕ = line_text (codes "words") (map key_word c.words) rest in
    let portion_ : List ℕ = line_text (codes "portion") (map decimal c.portion) words_ in
    let phi_ : List ℕ = line_text (codes "phi") (map decimal c.phi) portion_ in
    rw (
      front_again c.code c.order c.start c.period phi_ fits.front,
      line_again numbers (codes "phi") (c.start + c.period - 1) c.phi portion_ fits.phi.0 fits.phi.1,
      portion_again c.order c.portion words_ l.small fits.portion.0 fits.portion.1,
      line_again keys (codes "words") (c.order - 1) c.words rest fits.words.0 fits.words.1,
    ) refl
