use Rattle.std.proofs.Common.{refl}
use Rattle.dch_nodecmd.specs.NodeBRules.{node_b_rules}
use Rattle.dch_nodecmd.specs.RncRules.{rnc_rules}
use Rattle.dch_nodecmd.specs.UeRules.{ue_rules}
use Rattle.dch_top.specs.LinkRuns.{HoldsLink, run_of as link_of}
use Rattle.dch_top.specs.NodeRuns.{run_of}
use Rattle.dch_top.specs.SoftRuns.{HoldsLegs, run_of as soft_of}
use Rattle.dch_top.proofs.NodeRuns.{handed}
use Rattle.dch_top.proofs.SoftRuns.{soft_held}
use Rattle.dch_top.proofs.command.run_command.Goals as goal

pub returns-in-NodeB : goal.returns-in-NodeB
returns-in-NodeB g c = let words = c.args.arguments in rw c.in-NodeB.is (handed _ _ _ _ _ _ _ _ (c.run_nodes.ensures (run_of node_b_rules words.start words.quiet) (λ accepted handler stands. stands)))

pub returns-in-Rnc : goal.returns-in-Rnc
returns-in-Rnc g c = let words = c.args.arguments in rw c.in-Rnc.is (handed _ _ _ _ _ _ _ _ (c.run_nodes-in-Rnc.ensures (run_of rnc_rules words.start words.quiet) (λ accepted handler stands. stands)))

pub returns-in-Ue : goal.returns-in-Ue
returns-in-Ue g c = let words = c.args.arguments in rw c.in-Ue.is (handed _ _ _ _ _ _ _ _ (c.run_nodes-in-Ue.ensures (run_of ue_rules words.start words.quiet) (λ accepted handler stands. stands)))

pub returns-in-Link : goal.returns-in-Link
returns-in-Link g c = let words = c.args.arguments in rw c.in-Link.is (handed _ _ _ HoldsLink _ _ _ _ (c.run_nodes-in-Link.ensures (link_of words.start words.quiet) (λ accepted handler stands. stands)))

pub returns-in-Soft : goal.returns-in-Soft
returns-in-Soft g c =
    let words = c.args.arguments in
    rw c.in-Soft.is (soft_held words.count words.start words.quiet _ _ _ _ (handed _ _ _ HoldsLegs _ _ _ _ (c.run_nodes-in-Soft.ensures (soft_of words.count words.start words.quiet) (λ accepted handler stands. stands))))

pub returns-in-Gen : goal.returns-in-Gen
returns-in-Gen g c = rw c.in-Gen.is (record { ends = c.run_generate.ensures; unread = refl })
