-- Marks that products with heaps don't leave are on all elements that positions have.
use Rattle.std.proofs.Common.{◌≡◌, ◌*◌, ◌+◌, ◌<◌, ℕ, Bool, true, false, List, length, subst, sym}
use Rattle.std.specs.Prelude.{IfSome, Option, Some, None, slice_index, slice_index_or}
use Rattle.std.proofs.lemmas.List.Elements.{All-get_or}
use Rattle.std.proofs.lemmas.Nat.{mul-add-lt}
use Rattle.monoid_table.specs.Grids.{entry}
use Rattle.own_quotients.specs.Tables.{Own, IsOwn, IsReached}
use Rattle.own_quotients.specs.Tables.IsReached.{Empty, Heap}
use Rattle.own_quotients.specs.Marked.{AreClosed}

module _ (o : Own) (h : IsOwn o) (e : ℕ) (e_in : e < o.order) (marks : List Bool)
    (closed : AreClosed o e marks) where
  entry_below : (x y : ℕ) → x < o.order → y < o.order → entry o.order o.rows x y < o.order
  entry_below x y lx ly =
      let place : x * o.order + y < length o.rows =
      subst (λ (n : ℕ). x * o.order + y < n) (sym h.rows.0) (mul-add-lt x o.order y o.order lx ly) in
      All-get_or (λ z. z < o.order) o.rows (x * o.order + y) 0 place h.rows.1

  pub reached_marked : {x : ℕ} → IsReached o e x
      → (x < o.order) × (slice_index_or marks x false ≡ true)
  reached_marked Empty = (e_in, closed.begins)
  reached_marked (Heap {x} i lt r) =
      let p = reached_marked r in (
        entry_below x (slice_index o.heaps i) p.0
            (All-get_or (λ z. z < o.order) o.heaps i 0 lt h.heaps.1),
        closed.goes_on x p.0 p.1 i lt,
      )

  pub not_reached : (x : ℕ) → slice_index_or marks x false ≡ false → IsReached o e x → ⊥
  not_reached x none r = let p = (reached_marked r).1 in absurd cc

  pub found_unreached : (r : Option ℕ)
      → IfSome r (λ x. (x < o.order) × (slice_index_or marks x false ≡ false))
      → IfSome r (λ x. (x < o.order) × (IsReached o e x → ⊥))
  found_unreached (Some x) h = (h.0, not_reached x h.1)
  found_unreached None h = tt
