-- What the walks of what lies behind a handle cite.
pub use mathlib.Core.Path.{◌≡◌, refl, sym, subst}
pub use mathlib.Core.List.{List, [], ◌∷◌, ◌++◌}
pub use lib.Dec.{lit<}
pub use seplogic.Ra.Ura.{Ura}
pub use mir.Val.{Val, vint, vstruct, vnil, vcons}
pub use mir.Syntax.{w64}
pub use base.Logic.{SProp, ent, emp, id⊢}
pub use base.Fml.{ftrue, fsep}
pub use contract.Monad.{Fun, fact}
pub use contract.Running.{tables}
unfoldable pub use contract.Running.{tables_of}
pub use prog.Memory.{Memory}
pub use prog.Routine.{Routine}
pub use prog.Wp.{WpFn, Tables}
pub use sound.WpLaws.{WpFn-mono}
pub use types.Logic.{Logic}
pub use types.Kit.{Item, ‵, raw, ⋆, ◌⊛◌, ◌$◌, ◌∵◌, !, qed, by, move, drop, use1, join, split, rewrite, fsplit, fjoin, fpack, feq_i, suffices, done}
pub use types.Part.{whole, sub, agg}
pub use types.Run.{stop, fld, no_more, and_then, of_opd, lit, returns, enter}
pub use types.ByLocal.{alloc_all, pass_all, free_all, look_at, get, get_in, sets}
pub use denote.Exit.{yes}
pub use denote.RattleType.{Valss}
pub use denote.RawPtr.{RawPtr, null_ptr, ptr_val}
pub use denote.Signature.{Slot, type_at}
pub use denote.Steps.{heard, nothing}
pub use denote.Struct.Owning.{shape, fields, to}
pub use denote.Struct.Struct.{within}
pub use denote.Triple.Spec.{triple_of}
pub use denote.Triple.Table.{entered}
pub use denote.Triple.Walked.{says, Stays, stay_dropped, walk_of, ends_at, Goes-dropped, walk_Meets}
pub use Rattle.core.proofs.alloc.Calls.{handle_tells, α}
pub use Rattle.std_alloc.proofs.ResultValues.{and_tt}
pub use Rattle.std_alloc.proofs.BoxSteps.Form.{D, P, B, word, box_typed}
pub use Rattle.std_alloc.proofs.BoxSteps.Steps.{box_out, box_in}
