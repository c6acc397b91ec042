-- How many elements are first ones, and the test whether rows can be made.
use Rattle.std.proofs.Common.{◌≡◌, ℕ, zero, suc, ◌+◌, ◌-◌, ◌<◌, ◌≤◌, ◌==◌, nat_lt, nat_le, true, List, [], ◌∷◌, refl, ◌∙◌, sym, ap, arith, length, drop, get_or}
use Rattle.std.specs.List.{list_all}
use Rattle.std.proofs.lemmas.Bool.{true≢false, and_parts, eq-eqb, eqb-true, lt-ltb, ltb-true, le-leb, leb-true}
use Rattle.std.specs.Cmp.Derive.{both_true}
use Rattle.std.proofs.lemmas.List.{get_or-drop, length-drop}
use Rattle.std.proofs.lemmas.List.Sums.{prefix_len-le-length, prefix_len_passes, prefix_len_stops, AllPass-from_list_all, list_all-from_AllPass}
use native.Mathlib.Decide.{dec_lt}
use Rattle.misere_theory.specs.Certificates.{Certificate, key_of}
use Rattle.compact_certificates.specs.Rows.{firsts_of, keys_fall}
use Rattle.compact_certificates.specs.Compact.{IsExpandable, is_expandable}

pub firsts_within : (keys : List (ℕ × ℕ)) → firsts_of keys ≤ length keys
firsts_within keys = prefix_len-le-length (λ k. k.0 == 0) keys

-- where the first keys have the element 0, so many elements are first ones
pub firsts_from : (keys : List (ℕ × ℕ)) (n : ℕ) → n ≤ length keys
    → ((i : ℕ) → i < n → (get_or keys i (0, 0)).0 ≡ 0)
    → n ≤ firsts_of keys
firsts_from keys n l h = elim (dec_lt (firsts_of keys) n) [
  | no f ↦ omega arith
  | yes b ↦
      let stops = prefix_len_stops (λ (k : ℕ × ℕ). k.0 == 0) keys (0, 0) (omega arith) in
      absurd (true≢false (sym (eq-eqb _ _ (h (firsts_of keys) b)) ∙ stops))
]

-- the keys of first elements have the element 0
pub firsts_key : (keys : List (ℕ × ℕ)) (i : ℕ) → i < firsts_of keys
    → (get_or keys i (0, 0)).0 ≡ 0
firsts_key keys i l =
    eqb-true _ _ (prefix_len_passes (λ (k : ℕ × ℕ). k.0 == 0) keys i (0, 0) l)

fall_by_test : (e : ℕ) (ks : List (ℕ × ℕ)) → keys_fall e ks ≡ true → (i : ℕ) → i < length ks
    → (get_or ks i (0, 0)).0 < e + i
fall_by_test e [] h i l = absurd (omega arith)
fall_by_test e (k ∷ ks) h zero l =
    let b = ltb-true k.0 e (and_parts (nat_lt k.0 e) (keys_fall (e + 1) ks) h).0 in omega arith
fall_by_test e (k ∷ ks) h (suc i) l =
    let b =
    fall_by_test (e + 1) ks (and_parts (nat_lt k.0 e) (keys_fall (e + 1) ks) h).1 i (omega arith) in
    omega arith

test_by_fall : (e : ℕ) (ks : List (ℕ × ℕ))
    → ((i : ℕ) → i < length ks → (get_or ks i (0, 0)).0 < e + i) → keys_fall e ks ≡ true
test_by_fall e [] h = refl
test_by_fall e (k ∷ ks) h =
    let b : k.0 < e = let here = h 0 (omega arith) in omega arith in
    both_true (lt-ltb k.0 e b)
    (test_by_fall (e + 1) ks (λ i l. let later = h (suc i) (omega arith) in omega arith))

-- the key behind the first ones that stands at i is that of an element
pub key_behind : (c : Certificate) (i e : ℕ) → firsts_of c.words + 1 + i ≡ e
    → get_or (drop (firsts_of c.words) c.words) i (0, 0) ≡ key_of c e
key_behind c i e eq =
    get_or-drop (firsts_of c.words) c.words i (0, 0)
    ∙ (let place : firsts_of c.words + i ≡ e - 1 = omega arith in
    ap (λ j. get_or c.words j (0, 0)) place)

module _ (c : Certificate) (count : length c.words + 1 ≡ c.order) where
  keys_behind : length (drop (firsts_of c.words) c.words) ≡ length c.words - firsts_of c.words
  keys_behind = length-drop (firsts_of c.words) c.words

  pub told_by_test : is_expandable c ≡ true → IsExpandable c
  told_by_test h =
      let p =
      and_parts (list_all (λ x. nat_le x (firsts_of c.words)) c.phi)
      (keys_fall (firsts_of c.words + 1) (drop (firsts_of c.words) c.words)) h in
      record {
        heaps =
            λ k d l. leb-true _ _
            (AllPass-from_list_all (λ x. nat_le x (firsts_of c.words)) c.phi p.0 k d l);
        falls =
            λ e low high.
            let n = keys_behind in
            let i = e - (firsts_of c.words + 1) in
            let place : firsts_of c.words + 1 + i ≡ e = omega arith in
            let b =
            fall_by_test (firsts_of c.words + 1) (drop (firsts_of c.words) c.words) p.1 i
            (omega arith) in
            rw (place, key_behind c i e place) at b;
      }

  pub test_told : IsExpandable c → is_expandable c ≡ true
  test_told h =
      both_true
      (list_all-from_AllPass (λ x. nat_le x (firsts_of c.words)) c.phi
      (λ k d l. le-leb _ _ (h.heaps k d l)))
      (test_by_fall (firsts_of c.words + 1) (drop (firsts_of c.words) c.words) (λ i l.
      let n = keys_behind in
      let e = firsts_of c.words + 1 + i in
      rw (key_behind c i e refl) (h.falls e (omega arith) (omega arith))))
