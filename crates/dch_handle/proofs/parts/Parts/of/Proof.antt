-- A box taken apart: what it owned, the parts own.
use Rattle.dch_handle.proofs.Steps.{◌≡◌, refl, sym, subst, ap, ◌∙◌, List, [], ◌∷◌, ◌++◌, Ura, Fn, Args, Dict, a_type, dcons, dnil, inst_fn, bare, Val, vstruct, of_list, SProp, ent, id⊢, never, fst∗, ftrue, fsep, flft, ◌⊑◌, Fun, fact, tables, tables_of, Memory, Routine, WpFn, Tables, fm_of, WpFn-mono, Logic, sem, Item, ‵, raw, ⋆, ◌⊛◌, some, later, ◌$◌, ◌∵◌, !, qed, by, move, drop, use1, join, split, split3, pick, rewrite, fsplit, fjoin, fpick, feq_l, suffices, await, done, whole, sub, agg, stop, fld, no_more, and_then, of_opd, returns, enter, alloc_all, pass_all, free_all, look_at, get, get_in, sets, lands_as, RattleType, no, bounded, Ptr, RawPtr, block_ptr, null_ptr, ptr_val, in_a_block, plain, heard, nothing, only, Tuple, calls_at, Ended, Clauses, triple_of, Triple, Contract, entered, says, Stays, stay_dropped, walk_of, ends_at, walk_Meets, token, handle_tells, Goes-blank, box_owns, Bx, D, τ, R, P, B, word, box_typed, box_out, box_in}
use Rattle.dch_handle.specs.contracts.parts.Parts as parts
use Rattle.std_alloc.specs.contracts.boxed.Box.into_raw_with_allocator as callee
use Rattle.std_alloc.proofs.boxed.Box.into_raw_with_allocator.Symbol as callee_symbol
use Rattle.std_alloc.proofs.boxed.Box.into_raw_with_allocator.Met as callee_met
use Rattle.dch_handle.specs.contracts.parts.Parts.of as f
use Rattle.dch_handle.proofs.parts.Parts.of.Statement.{statement}
use Rattle.dch_handle.proofs.parts.Parts.of.Code as code

module _ (E : Bx) (drop_value : Dict) where
  abbrev passed : Args
  passed = bounded (a_type ∷ a_type ∷ []) (E.row, (E.al.row, tt)) (dcons E.al.d (dcons E.al.drops (dcons drop_value dnil)))

  abbrev body : Fn
  body = inst_fn passed code.function

  abbrev ended : Ended
  ended = f.ended E.row E.al.row E.al.g E.al.d E.al.drops drop_value

  abbrev stayed : Stays ended.signature.params ended.kept
  stayed = (stay_dropped (plain (λ _. B E)) no, tt)

  abbrev PartsOf : RattleType
  PartsOf = parts.the_row (R E) (P E) E.al.g

  module _ {M : Type 1} {𝓤 : Ura M} (𝓛 : Logic 𝓤) (mem : Memory → SProp 𝓤) (runs : Routine → Fun 𝓤) (𝓣 : Tables 𝓤 𝓛.H) where
    open 𝓛 use {H}

    abbrev c : Clauses 𝓤 ended
    c = f.clauses E.row E.al.row E.al.g E.al.d E.al.drops drop_value 𝓛 mem runs

    abbrev Callee : Contract 𝓤
    Callee = triple_of 𝓛 (callee.signature E.row E.al.row E.al.g E.al.d E.al.drops drop_value) (callee.spec E.row E.al.row E.al.g E.al.d E.al.drops drop_value 𝓛 mem runs)

    -- the callee takes the box whole, and what it owned comes back at the address
    walk : Triple 𝓤 (𝓣.C (callee_symbol.name passed)) Callee → (z : (walk_of 𝓛 ended stayed c).Ghost)
        → ent 𝓤 ((walk_of 𝓛 ended stayed c).pre z) (WpFn 𝓤 H 𝓣.C 𝓣.Λ body (z.0.4.0 ++ []) ((walk_of 𝓛 ended stayed c).post z))
    walk known z =
        let κs = z.0.0 in let qs = z.0.1 in let box = z.0.3.0 in let stored = z.0.4.0 in
        let After = (walk_of 𝓛 ended stayed c).post z in
        let alive : Item 𝓤 = ‵ (flft κs.0 qs.0) ⊛ ‵ (flft κs.1.0 qs.1.0) ⊛ ‵ ftrue in
        let lives : Item 𝓤 = raw (fact 𝓤 (κs.0 ⊑ E.row.lives)) ⊛ raw (fact 𝓤 (κs.1.0 ⊑ E.al.row.lives)) ⊛ ‵ ftrue in
        qed 𝓛 ((alive ⊛ ‵ (fsep ((B E).own_val box stored) ftrue)) ∷ lives ∷ []) ∵ split ! $ move ! (1 ∷ []) $ fsplit ! $
        box_out E ! box stored (λ b o hv at_b is fits. box_in E ! box b o box.value at_b refl $
        let w = word E hv b o in
        let y : Callee.Ghost = ((κs, qs, tt, (box, tt), (w ∷ [], tt)), tt) in
        let Γ : List (Item 𝓤) = ‵ ((B E).own_val box (w ∷ [])) ∷ ‵ ftrue ∷ alive ∷ lives ∷ [] in
        by ! (subst (λ (us : List Val). ent 𝓤 (⋆ 𝓛 Γ) (WpFn 𝓤 H 𝓣.C 𝓣.Λ body (us ++ []) After)) (sym is)
        (qed 𝓛 Γ ∵ enter ! 𝓣.C 𝓣.Λ body (w ∷ []) _ $
        alloc_all ! (λ locals. pass_all ! refl (box_typed E hv b o fits, tt) $
        sets ! (of_opd ! (get ! refl)) refl (box_typed E hv b o fits) $
        fjoin ! $ move ! (1 ∷ 0 ∷ []) $ join ! $ join ! $ use1 𝓛 (raw (Callee.pre y)) (id⊢ 𝓤 _) $
        calls_at ! (fm_of 𝓤 H 𝓛.laws 𝓣) Callee known y (and_then ! (get ! refl) (no_more !)) (λ v.
        use1 𝓛 (later (some (λ (r : Ptr × E.al.row.Denot). (alive ⊛ ‵ ((Tuple (RawPtr ∷ P E ∷ [])).own_val r (v ∷ []))) ⊛
        some (λ (_ : (Unit {0} × (Unit {0} × Unit {0})) × Unit {0}). ‵ (fsep (fsep ftrue (fsep ftrue ftrue)) ftrue) ⊛ (raw (fact 𝓤 (r.1 ≡ box.alloc)) ⊛ ‵ (box_owns (token E.al box.alloc) (R E) r.0 box.value)))))) (id⊢ 𝓤 _) $
        await ! tt $ pick ! (λ r. split ! $ move ! (1 ∷ []) $ pick ! (λ _. split3 ! $ drop ! $ heard ! (r.1 ≡ box.alloc) (λ same.
        -- nothing lies at null; the pair that came is its two values
        in_a_block ! r.0 (λ p. box_owns (token E.al box.alloc) (R E) p box.value) (fst∗ 𝓤 (never 𝓤) (sem 𝓛 (token E.al box.alloc (bare (τ E)) null_ptr))) (λ b' o' at_b'.
        move ! (1 ∷ []) $ split ! $ move ! (1 ∷ []) $ fpick ! (λ vss. fsplit ! $ feq_l ! (λ is_pair. fsplit ! $ feq_l ! (λ is_ptr. fsplit ! $
        rewrite ! 0 (λ (a : E.al.row.Denot). ‵ (E.al.row.own_val a vss.1.0)) same refl $ handle_tells E.al ! box.alloc vss.1.0 (λ hv' is_handle fits'.
        let again : D E = record { ptr = block_ptr b' o'; alloc = box.alloc; value = box.value } in
        let made : PartsOf.Denot = record { ptr = block_ptr b' o'; alloc = box.alloc; value = box.value } in
        let typed = box_typed E hv' b' o' fits' in
        lands_as ! (ap only (is_pair ∙ (λ j. vstruct (of_list ((is_ptr ∙ ap (λ (p : Ptr). ptr_val p ∷ []) at_b') j ++ (is_handle j ++ []))) ∷ []))) refl typed $
        sets ! (of_opd ! (get_in ! (fld ! refl (stop !)) (sub ! 0 refl (whole !)))) refl (tt, tt) $
        sets ! (of_opd ! (get_in ! (fld ! refl (stop !)) (sub ! 1 refl (whole !)))) refl fits' $ sets ! (of_opd ! (get ! refl)) refl fits' $
        sets ! (agg ! (and_then ! (get ! refl) (and_then ! (get ! refl) (no_more !)))) refl typed $ returns ! (look_at ! 0 refl) $ free_all ! refl $
        -- [the handle; true; the tokens; what the box owned]
        move ! (3 ∷ []) $ fsplit ! $ box_in E ! again b' o' box.value refl refl $ use1 𝓛 (‵ (PartsOf.own_val made (word E hv' b' o' ∷ []))) (id⊢ 𝓤 _) $ move ! (1 ∷ []) $ drop ! $
        suffices ! _ (ends_at 𝓛 ended stayed c z (word E hv' b' o') made ((tt, (tt, tt)), tt) (tt, tt)) $ says ! refl $
        nothing ! $ nothing ! $ fjoin ! $ join ! $ move ! (1 ∷ 0 ∷ []) $ join ! $ done !)))))))))))))

pub of_spec : {M : Type 1} → statement M
unfolding tables_of
of_spec 𝓤 𝓛 𝓜 𝓡 wired X A X-laws A-laws g d drops drop_value allocator glue drop_glue =
    let E : Bx = record { row = X; laws = X-laws; al = record { row = A; laws = A-laws; g = g; d = d; drops = drops } } in
    let 𝓣 : Tables 𝓤 𝓛.H = tables_of 𝓤 𝓛.H 𝓜 (tables 𝓤 𝓛.H 𝓜 𝓡 𝓡.env) in
    entered 𝓤 𝓛.H (triple_of 𝓛 (ended E drop_value).signature (f.spec X A g d drops drop_value 𝓛 𝓜.mem 𝓡.returns)) 𝓣.C 𝓣.Λ (f.Key.name (passed E drop_value)) (body E drop_value) (code.unfolded 𝓤 𝓛.H 𝓜 𝓡 wired (X, (A, tt)) d drops drop_value)
    (walk_Meets 𝓛 (ended E drop_value) (stayed E drop_value) (Goes-blank 𝓛 2 (plain (λ _. B E)) no (λ κs x was. tt), tt) (c E drop_value 𝓛 𝓜.mem 𝓡.returns 𝓣) (WpFn 𝓤 𝓛.H 𝓣.C 𝓣.Λ (body E drop_value)) (WpFn-mono 𝓤 𝓛.H 𝓛.laws 𝓣 (body E drop_value))
    (walk E drop_value 𝓛 𝓜.mem 𝓡.returns 𝓣 (callee_met.met 𝓤 𝓛 𝓜 𝓡 (code.calls-std_alloc::boxed::Box::into_raw_with_allocator 𝓡.env wired) X A X-laws A-laws g d drops drop_value allocator glue drop_glue)))
