-- A move is allowed where its option is in the list.
use Rattle.std.proofs.Common.{◌≡◌, ℕ, ◌+◌, ◌-◌, ◌≤◌, ◌↔◌, true, List, refl, sym, subst, arith}
use Rattle.std.specs.List.{Contains}
use Rattle.misere_theory.specs.Games.{digit}
use Rattle.octal_code.specs.Bits.{allows, leaves_one, takes_all}
use Rattle.octal_code.specs.declared.leaving.Leaving.TheVariants.{NoHeap, OneHeap, TwoHeaps, ThreeHeaps}
use Rattle.octal_code.proofs.BitLaws.{bit_says, bit_is, all_says, all_is, one_says, one_is}
use Rattle.heap_options.specs.Options.{options_of}
use Rattle.heap_options.specs.Exact.{IsLeftAt}
use Rattle.heap_options.specs.declared.left.Left.TheVariants.{Nothing, One, Two, Three}
use Rattle.heap_options.proofs.OptionLaws.{in_all, of_options}

pub nothing_allowed : (code : List ℕ) (n : ℕ) → (takes_all code n n ≡ true)
    ↔ Contains (options_of code n) Nothing
nothing_allowed code n = (
  λ e. let (b, l, h) = all_says (allows code n NoHeap) n n e in
      in_all code n n Nothing (l, refl, bit_says (digit code n) 1 b),
  λ c.
      let (j, m) = of_options code n n Nothing c in
      let (l, h, b) = subst (λ i. IsLeftAt code n i Nothing) (sym m.1) m in
      all_is (allows code n NoHeap) n n (bit_is (digit code n) 1 b) l refl,
)

pub one_allowed : (code : List ℕ) (n a : ℕ) → (leaves_one code n (n - a) ≡ true)
    ↔ Contains (options_of code n) (One a)
one_allowed code n a = (
  λ e. let (b, l, h) = one_says (allows code (n - a) OneHeap) n (n - a) e in
      in_all code n (n - a) (One a)
      (l, omega arith, omega arith, bit_says (digit code (n - a)) 2 b),
  λ c.
      let (j, m) = of_options code n n (One a) c in
      let e : j ≡ n - a = let s = m.2 in omega arith in
      let (l, p, h, b) = subst (λ i. IsLeftAt code n i (One a)) e m in
      one_is (allows code (n - a) OneHeap) n (n - a) (bit_is (digit code (n - a)) 2 b) l
      (omega arith),
)

pub two_allowed : (code : List ℕ) (n a b : ℕ) → 1 ≤ a → a ≤ b → a + b ≤ n
    → (allows code (n - b - a) TwoHeaps ≡ true) ↔ Contains (options_of code n) (Two a b)
two_allowed code n a b p o l = (
  λ e. in_all code n (n - b - a) (Two a b)
      (p, o, omega arith, bit_says (digit code (n - b - a)) 4 e),
  λ c.
      let (j, m) = of_options code n n (Two a b) c in
      let e : j ≡ n - b - a = let s = m.2 in omega arith in
      let (q, r, h, s) = subst (λ i. IsLeftAt code n i (Two a b)) e m in
      bit_is (digit code (n - b - a)) 4 s,
)

pub two_refused : (code : List ℕ) (n a b : ℕ) → Contains (options_of code n) (Two a b)
    → (1 ≤ a) × (a ≤ b) × (a + b ≤ n)
two_refused code n a b c = let (j, m) = of_options code n n (Two a b) c in let (q, r, h, s) = m in
    (q, r, omega arith)

pub three_allowed : (code : List ℕ) (n a b c : ℕ) → 1 ≤ a → a ≤ b → b ≤ c → a + b + c ≤ n
    → (allows code (n - c - b - a) ThreeHeaps ≡ true) ↔ Contains (options_of code n) (Three a b c)
three_allowed code n a b c p o q l = (
  λ e. in_all code n (n - c - b - a) (Three a b c)
      (p, o, q, omega arith, bit_says (digit code (n - c - b - a)) 8 e),
  λ i.
      let (j, m) = of_options code n n (Three a b c) i in
      let e : j ≡ n - c - b - a = let s = m.3 in omega arith in
      let (_, _, _, _, s) = subst (λ v. IsLeftAt code n v (Three a b c)) e m in
      bit_is (digit code (n - c - b - a)) 8 s,
)

pub three_refused : (code : List ℕ) (n a b c : ℕ) → Contains (options_of code n) (Three a b c)
    → (1 ≤ a) × (a ≤ b) × (b ≤ c) × (a + b + c ≤ n)
three_refused code n a b c i =
    let (j, m) = of_options code n n (Three a b c) i in
    let (p, o, q, h, s) = m in
    (p, o, q, omega arith)
