-- Handles: structs of a pointer and an allocator, which own what a box at the pointer owns, or nothing. The
-- walks of their functions, for each kept type. Assumes `Logic`.
use Rattle.std.proofs.Common.{◌≡◌, true, ℕ, List, [], ◌∷◌, ◌++◌, refl, sym, ap, subst, lit<}
use seplogic.Ra.Ura.{Ura}
use mir.Syntax.{Sym, Fn, Callee, local, value_local, ty_ptr, assign, place, aggregate, int, copy, field, rv_opd, seq, return, w64}
use mir.Raw.{raw as bare}
use mir.Val.{Val, vptr, vstruct, of_list, has_ty}
use base.Logic.{SProp, ent, emp, id⊢, never, fst∗}
use base.Fml.{Fml, Lft, ftrue, fsep, fex}
use base.Shift.{Keyless}
use base.Stored.{Coded}
use prog.Wp.{WpFn, Closed}
use prog.Model.{Model}
use types.Logic.{Logic, sem}
use types.Kit.{Item, Goal, Seq, Step, step, ‵, raw, ◌⊛◌, ◌$◌, ◌∵◌, !, qed, by, move, keep, drop, split, fsplit, fjoin, fpick, fpack, feq_i, feq_l, suffices, use0, rewrite}
use types.Run.{lit, stop, fld, of_opd, no_more, and_then, returns, enter}
use types.ByLocal.{alloc_all, pass_all, free_all, look_at, get, get_in, sets}
use types.Part.{agg, sub, whole}
use contract.Monad.{fact, fact_i}
use contract.Running.{Running, MachineTables, tables}
use denote.Builtin.{RawPtr}
use denote.Exit.{yes, hidden, under}
use denote.Memory.{lone}
use denote.Param.{layout}
use denote.Param.Send.{IsSend, owning_send, struct_send, sendable}
use denote.RattleType.{RattleType, Valss, owns}
use denote.RawPtr.{Ptr, block_ptr, null_ptr, ptr_val, in_a_block}
use denote.Signature.{types_at, plain}
use denote.Steps.{nothing, heard}
use denote.Struct.Field.{RawPtr-field, rows}
use denote.Struct.Owning.{Owning, row, shape, fields, to}
use denote.Struct.Struct.{within, exits_of}
use denote.Struct.Values.{intos}
use denote.Triple.Clauses.{Ended, Clauses, closing}
use denote.Triple.Spec.{Meets}
use denote.Triple.Walked.{Stays, stay_dropped, walk_of, Goes-dropped}
use Rattle.core.proofs.alloc.Calls.{Goes-blank, handle_tells}
use Rattle.core.proofs.cell.Inside.{Good, one}
use Rattle.std.specs.declared.alloc.Global.{Global}
use Rattle.std.specs.declared.option.Option.{Option}
use Rattle.std.specs.declared.option.Option.TheVariants.{None, Some}
use Rattle.std.specs.contracts.alloc.Global as heap
use Rattle.std.specs.contracts.impls.GlobalAllocator.TheImpl.{ghosts}
use Rattle.std.proofs.alloc.Global.TheLaws as heap_laws
use Rattle.std.proofs.alloc.Global.TheSendSync as heap_sends
use Rattle.std.proofs.Crossing.{frees}
use Rattle.std.proofs.raw_atomic.Walks.{proved_at, leaves}
use Rattle.std_alloc.specs.Box.Ownership.{box_owns}
use Rattle.std_alloc.proofs.SendSync.{quiet, lies}
use Rattle.opened.specs.Handing.{handle_owns}
use Rattle.opened.proofs.Values.{both, both_tt, al, Loose, loose_good, loose_out, loose_in}

abbrev pub Z : RattleType
Z = heap.the_row

-- a pointer, an allocator, and the value in the box, if there is one
abbrev pub Parts : RattleType → Type 0
Parts R = Ptr × (Global × Option R.Denot)

-- What is a handle's own: its name, its record, and how this is lent.
pub record Form (R : RattleType) : Type 1 where
  pub name : Sym
  pub D : Type 0
  pub parts : D → Parts R
  pub made : Parts R → D
  pub parts_made : (x : Parts R) → parts (made x) ≡ x
  pub coded : Coded D
  pub shr_at : D → ℕ → ℕ → Lft → Fml

module _ (R : RattleType) (F : Form R) where
  abbrev pub own : Owning
  own = record {
    name = F.name;
    args = [];
    types = [];
    parts = RawPtr-field ∷ heap.the_field ∷ [];
    D = F.D;
    as_values = λ d. ((F.parts d).0, ((F.parts d).1.0, tt));
    coded = F.coded;
    heap = λ d. handle_owns R (F.parts d).1.0 (F.parts d).0 (F.parts d).1.1;
    exit = λ k. hidden (under (λ d. intos (RawPtr-field ∷ heap.the_field ∷ []) ((F.parts d).0, ((F.parts d).1.0, tt))) (exits_of k (rows (RawPtr-field ∷ heap.the_field ∷ []))));
    shr_at = F.shr_at;
  }

  abbrev pub H : RattleType
  H = row own

  abbrev pub L : RattleType
  L = Loose R Z heap_laws.the_row_laws ghosts

  -- what the fields of a handle of these parts own, at these machine values
  abbrev fields_own : Parts R → List Val → Valss (rows own.parts) → Fml
  fields_own x vs = within (shape own) (intos own.parts (x.0, (x.1.0, tt))) vs

  abbrev owned : Parts R → List Val → Fml
  owned x vs = fsep (fex (Valss (rows own.parts)) (fields_own x vs)) (handle_owns R x.1.0 x.0 x.1.1)

  module _ {M : Type 1} {𝓤 : Ura M} {𝓛 : Logic 𝓤} {K : Type 0} {Γ : List (Item 𝓤)} {G : Goal 𝓤 𝓛.H} where
    handle_out : K → (d : H.Denot) (vs : List Val)
        → ((h : Val) → vs ≡ both (ptr_val (F.parts d).0) h ∷ [] → Good (layout Z) h → Seq K 𝓛 (‵ (handle_owns R (F.parts d).1.0 (F.parts d).0 (F.parts d).1.1) ∷ ‵ (Z.own_val (F.parts d).1.0 (h ∷ [])) ∷ Γ) G)
        → Seq K 𝓛 (‵ (H.own_val d vs) ∷ Γ) G
    handle_out t d vs k = let p = (F.parts d).0 in
        fsplit t $ fpick t (λ vss. fsplit t $ feq_l t (λ ev. fsplit t $ feq_l t (λ ep. fsplit t $ handle_tells (al R Z heap_laws.the_row_laws ghosts) t (F.parts d).1.0 vss.1.0 (λ h ea fits. move t (1 ∷ []) $ drop t $ move t (1 ∷ []) $ k h
        (subst (λ (ws : List Val). vs ≡ vstruct (of_list (ptr_val p ∷ (ws ++ []))) ∷ []) ea (subst (λ (ps : List Val). vs ≡ vstruct (of_list (ps ++ (vss.1.0 ++ []))) ∷ []) ep ev)) fits))))

    handle_in : K → (x : Parts R) (h : Val)
        → Step K 𝓛 (‵ (H.own_val (F.made x) (both (ptr_val x.0) h ∷ [])) ∷ Γ) G (‵ (handle_owns R x.1.0 x.0 x.1.1) ∷ ‵ (Z.own_val x.1.0 (h ∷ [])) ∷ Γ) G
    handle_in t x h = step (λ s. let v : Val = both (ptr_val x.0) h in
        nothing t $ move t (2 ∷ 0 ∷ []) $ fjoin t $ feq_i t (List Val) (ptr_val x.0 ∷ []) (ptr_val x.0 ∷ []) refl $ fjoin t $ feq_i t (List Val) (v ∷ []) (v ∷ []) refl $ fjoin t $
        fpack t (Valss (rows own.parts)) (fields_own x (v ∷ [])) (ptr_val x.0 ∷ [], (h ∷ [], tt)) $ fjoin t $
        rewrite t 0 (λ (y : Parts R). ‵ (owned y (v ∷ []))) (sym (F.parts_made x)) refl $ s)

  -- ---- `none` keeps the allocator, beside the null pointer
  abbrev pub none_fn : Fn
  none_fn = record {
    lifetimes = 0;
    outlives = [];
    ty_params = [];
    givens = 0;
    params = 1;
    locals = local (layout H) value_local ∷ local (layout Z) value_local ∷ [];
    body = seq (assign (place 0 []) (aggregate (int w64 0 ∷ copy (place 1 []) ∷ []))) return;
  }

  abbrev pub none_ended : Ended
  none_ended = record {
    signature = record { lifetimes = 0; outlives = []; params = plain (λ _. Z) ∷ []; result = plain (λ _. H) };
    kept = (yes, tt);
  }

  abbrev pub none_clauses : {M : Type 1} (𝓤 : Ura M) → Clauses 𝓤 none_ended
  none_clauses 𝓤 κs a = record {
    ghost = Unit {0};
    requires = λ _. emp 𝓤;
    ensures = λ _ r _. fact 𝓤 ((F.parts r).1.1 ≡ None);
  }

  -- ---- `of_loose` and `into_loose` keep the pointer and the allocator
  abbrev moves : RattleType → RattleType → Fn
  moves A B = record {
    lifetimes = 0;
    outlives = [];
    ty_params = [];
    givens = 0;
    params = 1;
    locals = local (layout B) value_local ∷ local (layout A) value_local ∷ local ty_ptr value_local ∷ local (layout Z) value_local ∷ [];
    body = seq (assign (place 2 []) (rv_opd (copy (place 1 (field 0 ∷ []))))) (seq (assign (place 3 []) (rv_opd (copy (place 1 (field 1 ∷ [])))))
        (seq (assign (place 0 []) (aggregate (copy (place 2 []) ∷ copy (place 3 []) ∷ []))) return));
  }

  abbrev moves_ended : RattleType → RattleType → Ended
  moves_ended A B = record {
    signature = record { lifetimes = 0; outlives = []; params = plain (λ _. A) ∷ []; result = plain (λ _. B) };
    kept = (yes, tt);
  }

  abbrev of_loose_clauses : {M : Type 1} (𝓤 : Ura M) → Clauses 𝓤 (moves_ended L H)
  of_loose_clauses 𝓤 κs a = record {
    ghost = Unit {0};
    requires = λ _. emp 𝓤;
    ensures = λ _ r _. fact 𝓤 ((F.parts r).1.1 ≡ Some a.0.value);
  }

  abbrev into_loose_clauses : {M : Type 1} (𝓤 : Ura M) → Clauses 𝓤 (moves_ended H L)
  into_loose_clauses 𝓤 κs a = record {
    ghost = Unit {0};
    requires = λ _. fact 𝓤 ((x : R.Denot) × ((F.parts a.0).1.1 ≡ Some x));
    ensures = λ _ r _. fact 𝓤 ((F.parts a.0).1.1 ≡ Some r.value);
  }

  module _ {M : Type 1} (𝓤 : Ura M) (𝓛 : Logic 𝓤) (𝓜 : Model 𝓤 𝓛.H) (𝓡 : Running 𝓤 𝓛.H 𝓜) (self : Callee) where
    abbrev 𝓣 : MachineTables 𝓤 𝓛.H 𝓜
    𝓣 = tables 𝓤 𝓛.H 𝓜 𝓡 𝓡.env

    pub none_meets : Closed 𝓤 𝓛.H 𝓣.C 𝓣.Λ self none_fn → Meets 𝓛 none_ended.signature (𝓣.C self) (closing 𝓛 none_ended (none_clauses 𝓤))
    none_meets closed = let ended = none_ended in let c = none_clauses 𝓤 in let fn = none_fn in
        let hs : Stays ended.signature.params ended.kept = (stay_dropped (plain (λ _. Z)) yes, tt) in
        proved_at 𝓛 ended hs c 𝓜 𝓡 (Goes-dropped 𝓛 0 (plain (λ _. Z)) yes (λ κs x f. refl), tt) self fn closed (λ z are.
        let κs = z.0.0 in let a = z.0.3.0 in let Post : Val → SProp 𝓤 = (walk_of 𝓛 ended hs c).post z in let Run : List Val → SProp 𝓤 = λ ws. WpFn 𝓤 𝓛.H 𝓣.C 𝓣.Λ fn ws Post in
        let h = one (layout Z) z.0.4.0 ((heap_laws.the_row_laws.lawful 𝓛).typed a z.0.4.0 are.0) in let w : Val = both (ptr_val null_ptr) h.0 in
        let typed : Good (layout H) w = (both_tt true (has_ty (layout Z) h.0) tt h.2.0, (record { fits = lit< tt }, (h.2.1, tt))) in
        let x : Parts R = (null_ptr, (a, None)) in let d = F.made x in
        let told : (F.parts d).1.1 ≡ None = ap (λ (y : Parts R). y.1.1) (F.parts_made x) in
        qed 𝓛 ((‵ ftrue ⊛ ‵ (owns (types_at ended.signature.params κs) z.0.3 z.0.4)) ∷ raw ((c κs z.0.3).requires z.1) ∷ []) ∵
        split ! $ move ! (1 ∷ []) $ fsplit ! $ rewrite ! 0 (λ (us : List Val). ‵ (Z.own_val a us)) h.1 refl $
        suffices ! (Run (h.0 ∷ [])) (subst (λ (us : List Val). ent 𝓤 (Run (h.0 ∷ [])) (Run us)) (sym (λ i. h.1 i ++ [])) (id⊢ 𝓤 (Run (h.0 ∷ [])))) $
        enter ! 𝓣.C 𝓣.Λ fn (h.0 ∷ []) Post $ alloc_all ! (λ l. pass_all ! refl (h.2, tt) $
        sets ! (agg ! (and_then ! (lit ! tt) (and_then ! (get ! refl) (no_more !)))) refl typed $
        nothing ! $ handle_in ! x h.0 $ use0 𝓛 (raw (fact 𝓤 ((F.parts d).1.1 ≡ None))) (fact_i 𝓤 ((F.parts d).1.1 ≡ None) (emp 𝓤) told) $ nothing ! $ nothing ! $ fjoin ! $
        returns ! (look_at ! 0 refl) $ free_all ! refl $ keep ! (4 ∷ 0 ∷ 2 ∷ 1 ∷ []) $ by ! (leaves 𝓛 ended hs c z w d (tt, tt) (tt, tt))))

    pub of_loose_meets : Closed 𝓤 𝓛.H 𝓣.C 𝓣.Λ self (moves L H)
        → Meets 𝓛 (moves_ended L H).signature (𝓣.C self) (closing 𝓛 (moves_ended L H) (of_loose_clauses 𝓤))
    of_loose_meets closed = let ended = moves_ended L H in let c = of_loose_clauses 𝓤 in let fn = moves L H in
        let hs : Stays ended.signature.params ended.kept = (stay_dropped (plain (λ _. L)) yes, tt) in
        proved_at 𝓛 ended hs c 𝓜 𝓡 (Goes-blank 𝓛 0 (plain (λ _. L)) yes (λ κs x f. tt), tt) self fn closed (λ z are.
        let κs = z.0.0 in let v = z.0.3.0 in let Post : Val → SProp 𝓤 = (walk_of 𝓛 ended hs c).post z in let Run : List Val → SProp 𝓤 = λ ws. WpFn 𝓤 𝓛.H 𝓣.C 𝓣.Λ fn ws Post in
        qed 𝓛 ((‵ ftrue ⊛ ‵ (owns (types_at ended.signature.params κs) z.0.3 z.0.4)) ∷ raw ((c κs z.0.3).requires z.1) ∷ []) ∵
        split ! $ move ! (1 ∷ []) $ fsplit ! $ loose_out R Z heap_laws.the_row_laws ghosts ! v z.0.4.0 (λ b o h e ws fits.
        let w : Val = both (vptr b o) h in let typed = loose_good R Z heap_laws.the_row_laws ghosts b o h fits in
        let x : Parts R = (block_ptr b o, (v.alloc, Some v.value)) in let d = F.made x in
        let told : (F.parts d).1.1 ≡ Some v.value = ap (λ (y : Parts R). y.1.1) (F.parts_made x) in
        suffices ! (Run (w ∷ [])) (subst (λ (us : List Val). ent 𝓤 (Run (w ∷ [])) (Run us)) (sym (λ i. ws i ++ [])) (id⊢ 𝓤 (Run (w ∷ [])))) $
        enter ! 𝓣.C 𝓣.Λ fn (w ∷ []) Post $ alloc_all ! (λ l. pass_all ! refl (typed, tt) $
        sets ! (of_opd ! (get_in ! (fld ! refl (stop !)) (sub ! 0 refl (whole !)))) refl (tt, tt) $ sets ! (of_opd ! (get_in ! (fld ! refl (stop !)) (sub ! 1 refl (whole !)))) refl fits $
        sets ! (agg ! (and_then ! (get ! refl) (and_then ! (get ! refl) (no_more !)))) refl typed $
        handle_in ! x h $ use0 𝓛 (raw (fact 𝓤 ((F.parts d).1.1 ≡ Some v.value))) (fact_i 𝓤 ((F.parts d).1.1 ≡ Some v.value) (emp 𝓤) told) $ nothing ! $ nothing ! $ fjoin ! $
        returns ! (look_at ! 0 refl) $ free_all ! refl $ keep ! (4 ∷ 0 ∷ 2 ∷ 1 ∷ []) $ by ! (leaves 𝓛 ended hs c z w d (tt, tt) (tt, tt)))))

    pub into_loose_meets : Closed 𝓤 𝓛.H 𝓣.C 𝓣.Λ self (moves H L)
        → Meets 𝓛 (moves_ended H L).signature (𝓣.C self) (closing 𝓛 (moves_ended H L) (into_loose_clauses 𝓤))
    into_loose_meets closed = let ended = moves_ended H L in let c = into_loose_clauses 𝓤 in let fn = moves H L in
        let hs : Stays ended.signature.params ended.kept = (stay_dropped (plain (λ _. H)) yes, tt) in
        proved_at 𝓛 ended hs c 𝓜 𝓡 (Goes-blank 𝓛 0 (plain (λ _. H)) yes (λ κs x f. tt), tt) self fn closed (λ z are.
        let κs = z.0.0 in let v = F.parts z.0.3.0 in let a = v.1.0 in let Post : Val → SProp 𝓤 = (walk_of 𝓛 ended hs c).post z in let Run : List Val → SProp 𝓤 = λ ws. WpFn 𝓤 𝓛.H 𝓣.C 𝓣.Λ fn ws Post in
        let Asked : Type 0 = (x : R.Denot) × (v.1.1 ≡ Some x) in
        qed 𝓛 ((‵ ftrue ⊛ ‵ (owns (types_at ended.signature.params κs) z.0.3 z.0.4)) ∷ raw (fact 𝓤 Asked) ∷ []) ∵
        move ! (1 ∷ []) $ heard ! Asked (λ asked. let x = asked.0 in split ! $ move ! (1 ∷ []) $ fsplit ! $ handle_out ! z.0.3.0 z.0.4.0 (λ h ws fits.
        rewrite ! 0 (λ (k : Option R.Denot). ‵ (handle_owns R a v.0 k)) asked.1 refl $
        in_a_block ! v.0 (λ p. box_owns (ghosts.dealloc_token a) R p x) (fst∗ 𝓤 (never 𝓤) (sem 𝓛 (ghosts.dealloc_token a (bare (lone R.mir)) null_ptr))) (λ b o e.
        let w : Val = both (vptr b o) h in let typed = loose_good R Z heap_laws.the_row_laws ghosts b o h fits in let d : L.Denot = record { at = block_ptr b o; alloc = a; value = x } in
        let told : z.0.4.0 ≡ w ∷ [] = subst (λ (p : Ptr). z.0.4.0 ≡ both (ptr_val p) h ∷ []) e ws in
        suffices ! (Run (w ∷ [])) (subst (λ (us : List Val). ent 𝓤 (Run (w ∷ [])) (Run us)) (sym (λ i. told i ++ [])) (id⊢ 𝓤 (Run (w ∷ [])))) $
        enter ! 𝓣.C 𝓣.Λ fn (w ∷ []) Post $ alloc_all ! (λ l. pass_all ! refl (typed, tt) $
        sets ! (of_opd ! (get_in ! (fld ! refl (stop !)) (sub ! 0 refl (whole !)))) refl (tt, tt) $ sets ! (of_opd ! (get_in ! (fld ! refl (stop !)) (sub ! 1 refl (whole !)))) refl fits $
        sets ! (agg ! (and_then ! (get ! refl) (and_then ! (get ! refl) (no_more !)))) refl typed $
        loose_in R Z heap_laws.the_row_laws ghosts ! b o h a x $ use0 𝓛 (raw (fact 𝓤 (v.1.1 ≡ Some x))) (fact_i 𝓤 (v.1.1 ≡ Some x) (emp 𝓤) asked.1) $ nothing ! $ nothing ! $ fjoin ! $
        returns ! (look_at ! 0 refl) $ free_all ! refl $ keep ! (4 ∷ 0 ∷ 2 ∷ 1 ∷ []) $ by ! (leaves 𝓛 ended hs c z w d (tt, tt) (tt, tt)))))))

  -- ---- the box goes with the handle
  owned_keyless : IsSend R → (a : Global) (p : Ptr) (x : Option R.Denot) → Keyless (handle_owns R a p x)
  owned_keyless kept a p None = tt
  owned_keyless kept a p (Some x) = (lies R kept p x, frees.frees a (bare (lone R.mir)) p)

  pub handle_sends : IsSend R → IsSend H
  handle_sends kept = let ps : IsSend RawPtr = search sendable in
      owning_send own (ps, (heap_sends.the_field_send, tt)) (λ d. owned_keyless kept (F.parts d).1.0 (F.parts d).0 (F.parts d).1.1)
      (λ k. quiet (to own) (exits_of k (fields own)) ((struct_send (shape own) (ps, (heap_sends.the_field_send, tt))).leaving k))
