-- Nodes that were just opened.
use Rattle.std.proofs.Common.{◌≡◌, ℕ, List, [], None, refl, sym}
use Rattle.std.proofs.Math.Path.{fun_ext}
use Rattle.dch_types.specs.declared.channel.Dir.TheVariants.{Up, Down}
use Rattle.dch_accept.specs.Plans.{Planned}
use Rattle.dch_combine.specs.Values.{Combiner, frames_of}
use Rattle.dch_damage.specs.Tables.{Tables}
use Rattle.dch_damage.specs.Waiting.{Waits}
use Rattle.dch_node.specs.Values.{no_output}
use Rattle.dch_ue.specs.Standing.{Represents as UeStands, RepresentsHistory as UeHistory, Shows as UeShows}
use Rattle.dch_ue.specs.State.{opened_state as opened_ue}
use Rattle.dch_ue.specs.Steps.{Steps as UeSteps}
use Rattle.dch_ue.specs.Values.{Node as Ue}
use Rattle.dch_nodeb.specs.Standing.{Represents as NodeBStands, RepresentsHistory as NodeBHistory, Shows as NodeBShows}
use Rattle.dch_nodeb.specs.State.{opened_state as opened_node_b}
use Rattle.dch_nodeb.specs.Steps.{Steps as NodeBSteps}
use Rattle.dch_nodeb.specs.Values.{Node as NodeB}
use Rattle.dch_rnc.specs.Standing.{Represents as RncStands, RepresentsHistory as RncHistory, Shows as RncShows}
use Rattle.dch_rnc.specs.State.{opened_state as opened_rnc}
use Rattle.dch_rnc.specs.Steps.{Steps as RncSteps}
use Rattle.dch_rnc.specs.Values.{Node as Rnc}
use Rattle.dch_link.proofs.Coursing.{course_of}
use Rattle.dch_link.proofs.Fits.{says_fits}
use Rattle.dch_link.specs.Legs.{opened_leg}
use Rattle.dch_link.specs.Soft.{opened_soft}
use Rattle.dch_link.specs.SoftNodes.{AreNewLegs, Represents, RepresentsLeg}
use Rattle.dch_link.specs.SoftValues.{LegParts}

pub leg_opened : (planned : Planned) (first : ℕ) (node_b : NodeB) (tables : Tables) → NodeBHistory planned planned first [] [] node_b → Waits [] tables → RepresentsLeg planned first (opened_leg planned first) (record { node_b = node_b; damage = tables })
leg_opened planned first node_b tables has waits = record {
  node_b = course_of NodeBSteps (NodeBStands planned) NodeBShows (opened_node_b planned first) node_b has;
  sends = says_fits planned Down Up no_output [] refl;
  damage = waits;
}

pub soft_opened : (planned : Planned) (first count room : ℕ) (ue : Ue) (rnc : Rnc) (legs : List LegParts) (combiner : Combiner) → UeHistory planned planned first [] [] ue → RncHistory planned planned first [] [] rnc → AreNewLegs planned first count legs
    → ((s k : ℕ) → frames_of combiner s k ≡ None) → Represents planned first (opened_soft planned first count) (record { ue = ue; rnc = rnc; legs = legs; combiner = combiner; room = room; cfn = first })
soft_opened planned first count room ue rnc legs combiner ue_has rnc_has are none = record {
  ue = course_of UeSteps (UeStands planned) UeShows (opened_ue planned first) ue ue_has;
  rnc = course_of RncSteps (RncStands planned) RncShows (opened_rnc planned first) rnc rnc_has;
  ue_sends = says_fits planned Up Up no_output [] refl;
  rnc_sends = says_fits planned Down Down no_output [] refl;
  count = sym are.all;
  legs = are.stands;
  frames = fun_ext (λ s. fun_ext (λ k. sym (none s k)));
  cfn = refl;
}
