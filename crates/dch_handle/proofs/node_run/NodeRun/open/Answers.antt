use Rattle.std.proofs.Common.{◌∙◌, ap, length, refl, sym}
use Rattle.dch_handle.specs.Telling.{all_long}
use Rattle.dch_handle.proofs.Running.{run_opened}
use Rattle.dch_handle.proofs.node_run.NodeRun.open.Goals as goal

pub invariant_of-result : goal.invariant_of-result
invariant_of-result g c =
    let both = c.args.configurations in
    let queue = c.in_ok-queue.ensures in
    let node = c.in_ok-node.ensures in
    run_opened g.N.SessionNode.rules g.met.N.SessionNode.time
    (record { planned = both.first; later = both.second; frames = 0; node = c.in_ok-node.node; waiting = c.in_ok-queue.queue })
    c.args.first_cfn c.requires.eighth refl node.opened node.next node.stands c.requires.whole queue.first queue.second
    (ap length queue.empty.1 ∙ sym (ap all_long queue.empty.0))
