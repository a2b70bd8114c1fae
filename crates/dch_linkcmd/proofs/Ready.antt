-- What a handler keeps.
use Rattle.std.proofs.Common.{◌≡◌, ◌≤◌, ◌+◌, ◌*◌, ◌%◌, ◌∙◌, ℕ, Bool, arith, refl, ap}
use Rattle.std.specs.Prelude.{IfSome, Option, Some, None}
use Rattle.dch_accept.specs.Plans.{Planned}
use Rattle.dch_io.specs.Pieces.{LIMIT}
use Rattle.dch_link.specs.Passing.{IsStage}
use Rattle.dch_link.specs.Link.{opened_link}
use Rattle.dch_link.specs.LinkNodes.{HasNext, IsLinkOf, Represents}
use Rattle.dch_link.specs.Values.{Nodes}
use Rattle.dch_link.specs.declared.stage.Stage.{Stage}
use Rattle.dch_link.specs.declared.stage.Stage.TheVariants.{RncTick}
use Rattle.dch_linkcmd.specs.Run.{opened_run}
use Rattle.dch_linkcmd.specs.Handlers.{Handler, IsPrepared, IsReady, StandsBetween, ticked}
use Rattle.dch_lines.specs.declared.later.Later.{Later}

-- the nodes stay prepared for the second configuration
prepared_on : (later : Option Later) (accepted : Planned) (old new : Nodes) → ((second : Planned) → HasNext accepted second old → HasNext accepted second new) → IfSome later (IsPrepared accepted old) → IfSome later (IsPrepared accepted new)
prepared_on None accepted old new keeps was = tt
prepared_on (Some later) accepted old new keeps was = record { next = keeps later.accepted was.next; whole = was.whole }

-- a handler whose configuration stays is still ready
pub ready_on : (old : Handler) (nodes : Nodes) (stage : Stage) (left frames lines : ℕ) → IsReady old → IsLinkOf old.accepted nodes → ((second : Planned) → HasNext old.accepted second old.link → HasNext old.accepted second nodes)
    → IsStage stage → nodes.ue.cfn % 8 ≡ (frames + ticked stage) % 8 → left ≤ 100000 → lines ≤ LIMIT → frames + left ≤ 100000 * lines → IsReady (record old { link = nodes; stage = stage; left = left; frames = frames; lines = lines })
ready_on old nodes stage left frames lines ready opened keeps at cfn few_left few_lines few = record {
  opened = opened;
  next = prepared_on old.later old.accepted old.link nodes keeps ready.next;
  stage = at;
  cfn = cfn;
  left = few_left;
  lines = few_lines;
  few = few;
}

-- before the first line
pub opened_between : (accepted : Planned) (later : Option Later) (link : Nodes) (first : ℕ) (quiet : Bool) → first % 8 ≡ 0 → IsLinkOf accepted link → IfSome later (IsPrepared accepted link) → Represents accepted accepted first (opened_link accepted first) link
    → StandsBetween (record { accepted = accepted; later = later; link = link; quiet = quiet; stage = RncTick; left = 0; frames = 0; lines = 0 })
opened_between accepted later link first quiet whole opened next stands = record {
  ready = record {
    opened = opened;
    next = next;
    stage = tt;
    cfn = ap (λ n. n % 8) stands.ue.stands.at.cfn ∙ whole;
    left = omega arith;
    lines = omega arith;
    few = omega arith;
  };
  first = refl;
  left = refl;
  run = opened_run accepted later first quiet;
  stands = record { second = refl; quiet = refl; stage = refl; left = refl; frames = refl; stands = stands };
}
