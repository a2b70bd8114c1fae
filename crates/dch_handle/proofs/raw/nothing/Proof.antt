-- Nothing lies behind a handle at null.
use Rattle.dch_handle.proofs.RawSteps.{refl, sym, subst, List, [], ◌∷◌, ◌++◌, lit<, Ura, Val, vint, vstruct, vnil, vcons, w64, SProp, ent, emp, id⊢, ftrue, fsep, Fun, tables, tables_of, Memory, Routine, WpFn, Tables, WpFn-mono, Logic, Item, ‵, raw, ⋆, ◌⊛◌, ◌$◌, ◌∵◌, !, qed, by, move, drop, use1, join, split, fsplit, fjoin, fpack, feq_i, suffices, done, agg, no_more, and_then, lit, returns, enter, alloc_all, pass_all, free_all, look_at, get, sets, yes, Valss, null_ptr, ptr_val, type_at, nothing, shape, fields, to, within, triple_of, entered, says, Stays, stay_dropped, walk_of, ends_at, Goes-dropped, walk_Meets, handle_tells, α, and_tt}
use Rattle.dch_handle.proofs.AsBox.{E, FromHeap}
use Rattle.dch_handle.specs.contracts.raw.Raw as Raw
use Rattle.std_heap.specs.contracts.Global as Heap
use mir.Val.{has_ty}
use Rattle.std.specs.Prelude.{None}
use Rattle.dch_handle.specs.contracts.raw.nothing as f
use Rattle.dch_handle.proofs.raw.nothing.Statement.{statement}
use Rattle.dch_handle.proofs.raw.nothing.Code as code

abbrev stayed : Stays (f.ended).signature.params (f.ended).kept
stayed = (stay_dropped FromHeap yes, tt)

module _ {M : Type 1} {𝓤 : Ura M} (𝓛 : Logic 𝓤) (mem : Memory → SProp 𝓤) (runs : Routine → Fun 𝓤) (𝓣 : Tables 𝓤 𝓛.H) where
  open 𝓛 use {H}

  walk : (z : (walk_of 𝓛 f.ended stayed (f.clauses 𝓛 mem runs)).Ghost)
      → ent 𝓤 ((walk_of 𝓛 f.ended stayed (f.clauses 𝓛 mem runs)).pre z) (WpFn 𝓤 H 𝓣.C 𝓣.Λ code.function (z.0.4.0 ++ []) ((walk_of 𝓛 f.ended stayed (f.clauses 𝓛 mem runs)).post z))
  walk z =
      let given = z.0.3.0 in let stored = z.0.4.0 in
      let After = (walk_of 𝓛 f.ended stayed (f.clauses 𝓛 mem runs)).post z in
      let Made = type_at (f.signature).result tt in
      let made : Made.Denot = record { at = null_ptr; alloc = given; value = None } in
      qed 𝓛 ((‵ ftrue ⊛ ‵ (fsep (Heap.the_row.own_val given stored) ftrue)) ∷ raw (emp 𝓤) ∷ []) ∵ split ! $ drop ! $ fsplit ! $
      handle_tells E.al ! given stored (λ hv is fits.
      let w = vstruct (vcons (vint w64 0) (vcons hv vnil)) in
      -- [the handle; true; nothing]
      nothing ! $ move ! (1 ∷ 0 ∷ []) $ fjoin ! $ feq_i ! (List Val) (vint w64 0 ∷ []) (ptr_val null_ptr ∷ []) refl $ fjoin ! $
      feq_i ! (List Val) (w ∷ []) (w ∷ []) refl $ fjoin ! $
      fpack ! (Valss (fields Raw.the_type)) (within (shape Raw.the_type) (to Raw.the_type made) (w ∷ [])) (vint w64 0 ∷ [], (hv ∷ [], tt)) $ fjoin ! $
      use1 𝓛 (‵ (Made.own_val made (w ∷ []))) (id⊢ 𝓤 _) $ move ! (1 ∷ []) $ drop ! $
      let Γ : List (Item 𝓤) = ‵ (Made.own_val made (w ∷ [])) ∷ [] in
      by ! (subst (λ (us : List Val). ent 𝓤 (⋆ 𝓛 Γ) (WpFn 𝓤 H 𝓣.C 𝓣.Λ code.function (us ++ []) After)) (sym is)
      (qed 𝓛 Γ ∵ enter ! 𝓣.C 𝓣.Λ code.function (hv ∷ []) _ $ alloc_all ! (λ locals. pass_all ! refl (fits, tt) $
      sets ! (agg ! (and_then ! (lit ! tt) (and_then ! (get ! refl) (no_more !)))) refl (and_tt (has_ty (α E.al) hv) fits.0, (record { fits = lit< tt }, (fits.1, tt))) $ returns ! (look_at ! 0 refl) $ free_all ! refl $
      suffices ! _ (ends_at 𝓛 f.ended stayed (f.clauses 𝓛 mem runs) z w made (tt, tt) (tt, tt)) $ says ! refl $
      nothing ! $ nothing ! $ fjoin ! $ join ! $ nothing ! $ join ! $ done !))))

pub nothing_spec : {M : Type 1} → statement M
unfolding tables_of
nothing_spec 𝓤 𝓛 𝓜 𝓡 wired =
    let 𝓣 : Tables 𝓤 𝓛.H = tables_of 𝓤 𝓛.H 𝓜 (tables 𝓤 𝓛.H 𝓜 𝓡 𝓡.env) in
    entered 𝓤 𝓛.H (triple_of 𝓛 f.signature (f.spec 𝓛 𝓜.mem 𝓡.returns)) 𝓣.C 𝓣.Λ f.Key.name code.function (code.unfolded 𝓤 𝓛.H 𝓜 𝓡 wired)
    (walk_Meets 𝓛 f.ended stayed (Goes-dropped 𝓛 0 FromHeap yes (λ κs x was. refl), tt) (f.clauses 𝓛 𝓜.mem 𝓡.returns) (WpFn 𝓤 𝓛.H 𝓣.C 𝓣.Λ code.function) (WpFn-mono 𝓤 𝓛.H 𝓛.laws 𝓣 code.function)
    (walk 𝓛 𝓜.mem 𝓡.returns 𝓣))
