-- The parts as a box again: `from_raw` is given what they own.
use Rattle.dch_handle.proofs.Steps.{◌≡◌, refl, sym, subst, ap, List, [], ◌∷◌, ◌++◌, T, Ura, Fn, Body, place, copy, assign, rv_opd, seq, return, inst_fn, Val, vptr, has_ty, WT, SProp, ent, id⊢, ftrue, fsep, flft, ◌⊑◌, Fun, fact, tables, tables_of, Memory, Routine, WpFn, Tables, fm_of, WpFn-mono, Logic, Item, at_ret, ‵, raw, ⋆, ◌⊛◌, some, later, ◌$◌, ◌∵◌, !, qed, by, move, drop, use1, join, split, split3, pick, rewrite, fsplit, fjoin, feq_i, suffices, await, done, whole, sub, stop, fld, no_more, and_then, of_opd, returns, enter, first, blocks, exec, alloc_all, pass_all, free_all, look_at, get, get_in, sets, lands_last, env, RattleType, no, block_ptr, plain, heard, nothing, only, calls_at_last, Ended, Clauses, triple_of, Triple, Contract, entered, says, Stays, stay_dropped, walk_of, ends_at, walk_Meets, token, Goes-blank, box_owns, Bx, D, R, P, B, args, box_ty, word, box_typed, box_out, box_in}
use Rattle.dch_handle.specs.contracts.parts.Parts as parts
use Rattle.std_alloc.specs.contracts.boxed.Box.from_raw as callee
use Rattle.std_alloc.proofs.boxed.Box.from_raw.Symbol as callee_symbol
use Rattle.std_alloc.proofs.boxed.Box.from_raw.Met as callee_met
use Rattle.dch_handle.specs.contracts.parts.Parts.into_box as f
use Rattle.dch_handle.proofs.parts.Parts.into_box.Statement.{statement}
use Rattle.dch_handle.proofs.parts.Parts.into_box.Code as code

abbrev last : Body
last = seq (assign (place 0 []) (rv_opd (copy (place 4 [])))) return

module _ (E : Bx) where
  abbrev body : Fn
  body = inst_fn (args E) code.function

  abbrev ended : Ended
  ended = f.ended E.row E.al.row E.al.g E.al.d E.al.drops

  abbrev PartsOf : RattleType
  PartsOf = parts.the_row (R E) (P E) E.al.g

  abbrev stayed : Stays ended.signature.params ended.kept
  stayed = (stay_dropped (plain (λ _. PartsOf)) no, tt)

  module _ {M : Type 1} {𝓤 : Ura M} (𝓛 : Logic 𝓤) (mem : Memory → SProp 𝓤) (runs : Routine → Fun 𝓤) (𝓣 : Tables 𝓤 𝓛.H) where
    open 𝓛 use {H}

    abbrev c : Clauses 𝓤 ended
    c = f.clauses E.row E.al.row E.al.g E.al.d E.al.drops 𝓛 mem runs

    abbrev Callee : Contract 𝓤
    Callee = triple_of 𝓛 (callee.signature E.row E.al.row E.al.g E.al.d E.al.drops) (callee.spec E.row E.al.row E.al.g E.al.d E.al.drops 𝓛 mem runs)

    -- the callee is given the address, the allocator, and what the box at that address owns
    walk : Triple 𝓤 (𝓣.C (callee_symbol.name (args E))) Callee → (z : (walk_of 𝓛 ended stayed c).Ghost)
        → ent 𝓤 ((walk_of 𝓛 ended stayed c).pre z) (WpFn 𝓤 H 𝓣.C 𝓣.Λ body (z.0.4.0 ++ []) ((walk_of 𝓛 ended stayed c).post z))
    walk known z =
        let κs = z.0.0 in let qs = z.0.1 in let given = z.0.3.0 in let stored = z.0.4.0 in
        let After = (walk_of 𝓛 ended stayed c).post z in
        let box : D E = record { ptr = given.ptr; alloc = given.alloc; value = given.value } in
        let alive : Item 𝓤 = ‵ (flft κs.0 qs.0) ⊛ ‵ (flft κs.1.0 qs.1.0) ⊛ ‵ ftrue in
        let value_lives : Item 𝓤 = raw (fact 𝓤 (κs.0 ⊑ E.row.lives)) in
        let handle_lives : Item 𝓤 = raw (fact 𝓤 (κs.1.0 ⊑ E.al.row.lives)) in
        qed 𝓛 ((alive ⊛ ‵ (fsep ((B E).own_val box stored) ftrue)) ∷ (value_lives ⊛ handle_lives ⊛ ‵ ftrue) ∷ []) ∵
        split ! $ move ! (1 ∷ []) $ fsplit ! $
        box_out E ! box stored (λ b o hv at_b is fits. fjoin ! $
        let w = word E hv b o in
        let y : Callee.Ghost = ((κs, qs, tt, (given.alloc, (block_ptr b o, tt)), (hv ∷ [], (vptr b o ∷ [], tt))), given.value) in
        let Γ : List (Item 𝓤) = ‵ (box_owns (token E.al given.alloc) (R E) (block_ptr b o) given.value) ∷ ‵ ((P E).own_val given.alloc (hv ∷ [])) ∷ ‵ ftrue ∷ alive ∷ (value_lives ⊛ handle_lives ⊛ ‵ ftrue) ∷ [] in
        by ! (subst (λ (us : List Val). ent 𝓤 (⋆ 𝓛 Γ) (WpFn 𝓤 H 𝓣.C 𝓣.Λ body (us ++ []) After)) (sym is)
        (qed 𝓛 Γ ∵ enter ! 𝓣.C 𝓣.Λ body (w ∷ []) _ $
        alloc_all ! (λ locals. pass_all ! refl (box_typed E hv b o fits, tt) $
        -- the address and the allocator out of their fields
        sets ! (of_opd ! (get_in ! (fld ! refl (stop !)) (sub ! 0 refl (whole !)))) refl (tt, tt) $
        sets ! (of_opd ! (get_in ! (fld ! refl (stop !)) (sub ! 1 refl (whole !)))) refl fits $
        first ! $ blocks ! $ sets ! (of_opd ! (get ! refl)) refl fits $
        -- [the facts on lifetimes; what the box owns; the handle; true; the tokens]
        move ! (4 ∷ []) $ split3 ! $ move ! (2 ∷ []) $ drop ! $ move ! (1 ∷ 2 ∷ []) $ join ! $ move ! (1 ∷ 0 ∷ []) $ join ! $
        move ! (2 ∷ []) $ feq_i ! (List Val) (vptr b o ∷ []) (vptr b o ∷ []) refl $ fjoin ! $
        move ! (2 ∷ 0 ∷ []) $ fjoin ! $ move ! (2 ∷ 0 ∷ []) $ join ! $ join ! $ use1 𝓛 (raw (Callee.pre y)) (id⊢ 𝓤 _) $
        calls_at_last ! (fm_of 𝓤 H 𝓛.laws 𝓣) Callee known y (and_then ! (get ! refl) (and_then ! (get ! refl) (no_more !))) (λ v.
        use1 𝓛 (later (some (λ (r : D E). (alive ⊛ ‵ ((B E).own_val r (v ∷ []))) ⊛
        some (λ (_ : Unit {0} × (Unit {0} × Unit {0})). ‵ (fsep ftrue (fsep ftrue ftrue)) ⊛ (raw (fact 𝓤 (r.value ≡ given.value)) ⊛ raw (fact 𝓤 (r.alloc ≡ given.alloc))))))) (id⊢ 𝓤 _) $
        await ! tt $ pick ! (λ r. split ! $ move ! (1 ∷ []) $ pick ! (λ _. split3 ! $ drop ! $ heard ! (r.value ≡ given.value) (λ same. drop ! $
        split ! $ move ! (1 ∷ []) $
        box_out E ! r (v ∷ []) (λ b' o' hv' at_b' is' fits'. box_in E ! r b' o' r.value at_b' refl $ rewrite ! 0 (λ (us : List Val). ‵ ((B E).own_val r us)) (sym is') refl $
        let typed : T (has_ty (box_ty E) v) × WT v = subst (λ (u : Val). T (has_ty (box_ty E) u) × WT u) (sym (ap only is')) (box_typed E hv' b' o' fits') in
        lands_last ! refl typed $ exec ! 𝓣.C 𝓣.Λ (env body.locals locals) last (at_ret (env body.locals locals) After) $
        sets ! (of_opd ! (get ! refl)) refl typed $ returns ! (look_at ! 0 refl) $ free_all ! refl $
        suffices ! _ (ends_at 𝓛 ended stayed c z v r ((tt, (tt, tt)), tt) (tt, tt)) $ says ! same $
        nothing ! $ nothing ! $ fjoin ! $ join ! $ move ! (1 ∷ 0 ∷ []) $ join ! $ done !)))))))))

pub into_box_spec : {M : Type 1} → statement M
unfolding tables_of
into_box_spec 𝓤 𝓛 𝓜 𝓡 wired X A X-laws A-laws g d drops allocator glue =
    let E : Bx = record { row = X; laws = X-laws; al = record { row = A; laws = A-laws; g = g; d = d; drops = drops } } in
    let 𝓣 : Tables 𝓤 𝓛.H = tables_of 𝓤 𝓛.H 𝓜 (tables 𝓤 𝓛.H 𝓜 𝓡 𝓡.env) in
    entered 𝓤 𝓛.H (triple_of 𝓛 (ended E).signature (f.spec X A g d drops 𝓛 𝓜.mem 𝓡.returns)) 𝓣.C 𝓣.Λ (f.Key.name (args E)) (body E) (code.unfolded 𝓤 𝓛.H 𝓜 𝓡 wired (X, (A, tt)) d drops)
    (walk_Meets 𝓛 (ended E) (stayed E) (Goes-blank 𝓛 2 (plain (λ _. PartsOf E)) no (λ κs x was. tt), tt) (c E 𝓛 𝓜.mem 𝓡.returns 𝓣) (WpFn 𝓤 𝓛.H 𝓣.C 𝓣.Λ (body E)) (WpFn-mono 𝓤 𝓛.H 𝓛.laws 𝓣 (body E))
    (walk E 𝓛 𝓜.mem 𝓡.returns 𝓣 (callee_met.met 𝓤 𝓛 𝓜 𝓡 (code.calls-std_alloc::boxed::Box::from_raw 𝓡.env wired) X A X-laws A-laws g d drops allocator glue)))
