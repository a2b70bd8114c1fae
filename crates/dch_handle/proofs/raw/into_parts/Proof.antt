-- The address and the allocator of what lies behind a handle are those of a box.
use Rattle.dch_handle.proofs.RawSteps.{◌≡◌, refl, sym, subst, List, [], ◌∷◌, ◌++◌, Ura, Val, SProp, ent, id⊢, ftrue, fsep, Fun, fact, tables, tables_of, Memory, Routine, WpFn, Tables, WpFn-mono, Logic, Item, ‵, raw, ⋆, ◌⊛◌, ◌$◌, ◌∵◌, !, qed, by, move, drop, use1, join, split, rewrite, fsplit, fjoin, suffices, done, whole, sub, agg, stop, fld, no_more, and_then, of_opd, returns, enter, alloc_all, pass_all, free_all, look_at, get, get_in, sets, yes, type_at, heard, nothing, triple_of, entered, says, Stays, stay_dropped, walk_of, ends_at, Goes-dropped, walk_Meets, D, B, word, box_typed, box_out, box_in}
use Rattle.dch_handle.proofs.AsBox.{E, FromRaw}
use Rattle.dch_handle.proofs.Content.{content}
use Rattle.dch_handle.specs.Filled.{filled}
use Rattle.dch_handle.specs.contracts.raw.Raw as Raw
use Rattle.dch_handle.specs.declared.held.Held as Held
use Rattle.std.specs.Prelude.{Option, true}
use Rattle.dch_handle.specs.contracts.raw.into_parts as f
use Rattle.dch_handle.proofs.raw.into_parts.Statement.{statement}
use Rattle.dch_handle.proofs.raw.into_parts.Code as code

abbrev stayed : Stays (f.ended).signature.params (f.ended).kept
stayed = (stay_dropped FromRaw yes, tt)

module _ {M : Type 1} {𝓤 : Ura M} (𝓛 : Logic 𝓤) (mem : Memory → SProp 𝓤) (runs : Routine → Fun 𝓤) (𝓣 : Tables 𝓤 𝓛.H) where
  open 𝓛 use {H}

  walk : (z : (walk_of 𝓛 f.ended stayed (f.clauses 𝓛 mem runs)).Ghost)
      → ent 𝓤 ((walk_of 𝓛 f.ended stayed (f.clauses 𝓛 mem runs)).pre z) (WpFn 𝓤 H 𝓣.C 𝓣.Λ code.function (z.0.4.0 ++ []) ((walk_of 𝓛 f.ended stayed (f.clauses 𝓛 mem runs)).post z))
  walk z =
      let given = z.0.3.0 in let stored = z.0.4.0 in
      let After = (walk_of 𝓛 f.ended stayed (f.clauses 𝓛 mem runs)).post z in
      let Made = type_at (f.signature).result tt in
      qed 𝓛 ((‵ ftrue ⊛ ‵ (fsep (Raw.the_row.own_val given stored) ftrue)) ∷ raw (fact 𝓤 (filled given.value ≡ true)) ∷ []) ∵
      move ! (1 ∷ []) $ heard ! (filled given.value ≡ true) (λ is_filled.
      let found = content given.value is_filled in
      let box : D E = record { ptr = given.at; alloc = given.alloc; value = found.0 } in
      let made : Made.Denot = record { ptr = given.at; alloc = given.alloc; value = found.0 } in
      split ! $ drop ! $ fsplit ! $ rewrite ! 0 (λ (held : Option Held.Held). ‵ (Raw.the_row.own_val (record given { value = held }) stored)) found.1 refl $
      use1 𝓛 (‵ ((B E).own_val box stored)) (id⊢ 𝓤 _) $
      -- its two values move, and what they own goes with them
      box_out E ! box stored (λ b o hv at_b is fits. box_in E ! box b o box.value at_b refl $ use1 𝓛 (‵ (Made.own_val made (word E hv b o ∷ []))) (id⊢ 𝓤 _) $ move ! (1 ∷ []) $ drop ! $
      let w = word E hv b o in
      let Γ : List (Item 𝓤) = ‵ (Made.own_val made (w ∷ [])) ∷ [] in
      by ! (subst (λ (us : List Val). ent 𝓤 (⋆ 𝓛 Γ) (WpFn 𝓤 H 𝓣.C 𝓣.Λ code.function (us ++ []) After)) (sym is)
      (qed 𝓛 Γ ∵ enter ! 𝓣.C 𝓣.Λ code.function (w ∷ []) _ $ alloc_all ! (λ locals. pass_all ! refl (box_typed E hv b o fits, tt) $
      sets ! (of_opd ! (get_in ! (fld ! refl (stop !)) (sub ! 0 refl (whole !)))) refl (tt, tt) $
      sets ! (of_opd ! (get_in ! (fld ! refl (stop !)) (sub ! 1 refl (whole !)))) refl fits $
      sets ! (of_opd ! (get ! refl)) refl (tt, tt) $
      sets ! (agg ! (and_then ! (get ! refl) (and_then ! (get ! refl) (no_more !)))) refl (box_typed E hv b o fits) $ returns ! (look_at ! 0 refl) $ free_all ! refl $
      suffices ! _ (ends_at 𝓛 f.ended stayed (f.clauses 𝓛 mem runs) z w made (tt, tt) (tt, tt)) $ says ! found.1 $
      nothing ! $ nothing ! $ fjoin ! $ join ! $ nothing ! $ join ! $ done !)))))

pub into_parts_spec : {M : Type 1} → statement M
unfolding tables_of
into_parts_spec 𝓤 𝓛 𝓜 𝓡 wired =
    let 𝓣 : Tables 𝓤 𝓛.H = tables_of 𝓤 𝓛.H 𝓜 (tables 𝓤 𝓛.H 𝓜 𝓡 𝓡.env) in
    entered 𝓤 𝓛.H (triple_of 𝓛 f.signature (f.spec 𝓛 𝓜.mem 𝓡.returns)) 𝓣.C 𝓣.Λ f.Key.name code.function (code.unfolded 𝓤 𝓛.H 𝓜 𝓡 wired)
    (walk_Meets 𝓛 f.ended stayed (Goes-dropped 𝓛 0 FromRaw yes (λ κs x was. refl), tt) (f.clauses 𝓛 𝓜.mem 𝓡.returns) (WpFn 𝓤 𝓛.H 𝓣.C 𝓣.Λ code.function) (WpFn-mono 𝓤 𝓛.H 𝓛.laws 𝓣 code.function)
    (walk 𝓛 𝓜.mem 𝓡.returns 𝓣))
