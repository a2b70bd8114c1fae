use Rattle.std.proofs.Common.{Option, Some, true, ◌≡◌, ◌∙◌, subst, sym}
use Rattle.std.specs.Prelude.{IfSome}
use Rattle.dch_check.specs.declared.both.Second.{Second}
use Rattle.dch_handle.specs.Runs.{IsRun, Run, is_due}
use Rattle.dch_handle.proofs.Running.{can_change, run_changed}
use Rattle.dch_handle.proofs.node_run.NodeRun.change.Goals as goal

pub change-requires-clause-ready : goal.change-requires-clause-ready
change-requires-clause-ready g c =
    let was = c.self.inside in
    let old : Run g.row.N.Denot = record { planned = was.accepted; later = was.later; frames = was.frames; node = was.node; waiting = was.queue } in
    let later : was.later ≡ Some c.in-Some.second = sym c.take.ensures.value ∙ c.in-Some.is in
    let due : is_due was.later was.frames ≡ true = subst (λ (run : Run g.row.N.Denot). is_due run.later run.frames ≡ true) (sym c.self.view_is) c.requires in
    can_change g.N.SessionNode.rules old c.in-Some.second later due c.self.invariant

pub invariant_of-self : goal.invariant_of-self
invariant_of-self g c =
    let was = c.self.inside in
    let rules = g.N.SessionNode.rules in
    let old : Run g.row.N.Denot = record { planned = was.accepted; later = was.later; frames = was.frames; node = was.node; waiting = was.queue } in
    let second = c.in-Some.second in
    let later : was.later ≡ Some second = sym c.take.ensures.value ∙ c.in-Some.is in
    subst (λ (it : Option Second). IsRun rules (record old { planned = second.accepted; later = it; node = c.change.new.node; waiting = c.change.new.queue })) (sym c.take.ensures.after)
    (run_changed rules g.met.N.SessionNode.time old second c.change.new.node c.change.new.queue later c.self.invariant c.change.ensures.opened
    (c.change.ensures.goes was.accepted (subst (λ (it : Option Second). IfSome it (λ second. rules.has_next was.accepted second.accepted was.node)) later c.self.invariant.next)) c.change.ensures.told)
