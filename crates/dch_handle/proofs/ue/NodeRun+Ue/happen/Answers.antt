use Rattle.std.proofs.Common.{ℕ, ◌∙◌, ap, Bool, subst, sym}
use Rattle.dch_ue.specs.Opened.{HasNext, IsNodeOf}
use Rattle.dch_ue.specs.Standing.{IsActiveBefore, IsReadyFor, KeepsNext, event_of}
use Rattle.dch_ue.specs.Values.{Node}
use Rattle.dch_handle.specs.NodeRules.{IsPlain}
use Rattle.dch_handle.specs.UeRules.{ue_rules, ue_time}
use Rattle.dch_handle.specs.Runs.{IsRun, Run, frames_after}
use Rattle.dch_handle.proofs.Running.{run_after}
use Rattle.dch_handle.proofs.ue.NodeRun+Ue.happen.Goals as goal

pub step-requires-clause-plain : goal.step-requires-clause-plain
step-requires-clause-plain c =
    subst (λ (run : Run Node). IsPlain (IsNodeOf run.planned) (IsReadyFor run.planned c.args.event) (IsActiveBefore run.planned c.args.event run.planned) (KeepsNext run.planned c.args.event) (HasNext run.planned))
    (sym c.self.view_is) c.requires.plain

pub invariant_of-self : goal.invariant_of-self
invariant_of-self c =
    let was = c.self.inside in
    let old : Run Node = record { planned = was.accepted; later = was.later; frames = was.frames; node = was.node; waiting = was.queue } in
    subst (λ (frames : ℕ). IsRun ue_rules (record old { frames = frames; node = c.step.new.node; waiting = c.step.new.queue }))
    (sym (c.frames_after-self-inside.ensures ∙ ap (λ (passed : Bool). frames_after passed was.frames) (c.passes.ensures was.accepted)))
    (run_after ue_rules ue_time (event_of was.accepted c.args.event) old c.step.new.node c.step.new.queue c.self.invariant
    c.step.ensures.opened c.step.ensures.next c.step.ensures.goes c.step.ensures.told)
