-- A command with one node refuses a line of more bytes than a line may have.
use Rattle.std.proofs.Common.{inl}
use Rattle.dch_lines.specs.Semantics.{RefusesLong}
use Rattle.dch_lines.specs.Overlong.{meaning_long}
use Rattle.dch_nodecmd.specs.NodeRules.{NodeRules}
use Rattle.dch_nodecmd.specs.Rules.{config_of, node_lines}

pub refuses_long : {S E : Type 0} (rules : NodeRules S E) → RefusesLong (node_lines rules)
refuses_long rules run line long = inl (meaning_long rules.command (config_of rules run) line long)
