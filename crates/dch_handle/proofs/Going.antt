-- A step that is told to a queue with room for it.
use Rattle.std.proofs.Common.{◌≡◌, ℕ, List, subst}
use Rattle.dch_accept.specs.Plans.{Planned}
use Rattle.dch_indication.specs.Lines.{Line}
use Rattle.dch_node.specs.Standing.{Tells}
use Rattle.dch_steptext.specs.Reports.{TellsFew}
use Rattle.dch_handle.specs.NodeRules.{Goes, NodeRules}
use Rattle.dch_handle.specs.Runs.{AreAwaited}
use Rattle.dch_handle.specs.Telling.{Enters, HasRoomFor, IsToldAnew, Wait, Waiting, emptied}
use Rattle.dch_handle.proofs.Fits.{all_wait, told_all}

pub told_anew : (bytes : ℕ) (queue cleared told : Waiting) → cleared ≡ emptied queue → HasRoomFor bytes queue → TellsFew Enters bytes cleared told → IsToldAnew queue told
told_anew bytes queue cleared told empty room few = told_all bytes queue told room (subst (λ (q : Waiting). TellsFew Enters bytes q told) empty few)

wait : (bytes : ℕ) (queue cleared told : Waiting) → cleared ≡ emptied queue → HasRoomFor bytes queue → TellsFew Enters bytes cleared told → (lines : List Line) → Tells Enters cleared told lines → Wait lines told
wait bytes queue cleared told empty room few lines is =
    all_wait bytes queue told room (subst (λ (q : Waiting). TellsFew Enters bytes q told) empty few) lines (subst (λ (q : Waiting). Tells Enters q told lines) empty is)

pub goes : {S E V : Type 0} (rules : NodeRules S E V) (event : E) (before planned : Planned) (old new : V) (bytes : ℕ) (queue cleared told : Waiting)
    → cleared ≡ emptied queue → HasRoomFor bytes queue → TellsFew Enters bytes cleared told
    → Goes rules event before planned old new (Tells Enters cleared told) → Goes rules event before planned old new (AreAwaited told)
goes rules event before planned old new bytes queue cleared told empty room few went = record {
  step = λ state stands.
      let is = went.step state stands in
      record {
        next = is.next;
        output = is.output;
        step = is.step;
        stands = is.stands;
        shows = is.shows;
        tells = wait bytes queue cleared told empty room few is.output.lines is.tells;
      };
  history = λ began first events lines was.
      let is = went.history began first events lines was in
      record { own = is.own; stands = is.stands; tells = wait bytes queue cleared told empty room few is.own is.tells };
}
