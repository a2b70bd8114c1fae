-- Nodes that were just opened.
use Rattle.std.proofs.Common.{ℕ, [], refl}
use Rattle.dch_types.specs.declared.channel.Dir.TheVariants.{Up, Down}
use Rattle.dch_accept.specs.Plans.{Planned}
use Rattle.dch_node.specs.Values.{no_output}
use Rattle.dch_damage.specs.Tables.{Tables}
use Rattle.dch_damage.specs.Waiting.{Waits}
use Rattle.dch_ue.specs.Standing.{Represents as UeStands, RepresentsHistory as UeHistory, Shows as UeShows}
use Rattle.dch_ue.specs.State.{opened_state as opened_ue}
use Rattle.dch_ue.specs.Steps.{Steps as UeSteps}
use Rattle.dch_ue.specs.Values.{Node as Ue}
use Rattle.dch_nodeb.specs.Standing.{Represents as NodeBStands, RepresentsHistory as NodeBHistory, Shows as NodeBShows}
use Rattle.dch_nodeb.specs.State.{opened_state as opened_node_b}
use Rattle.dch_nodeb.specs.Steps.{Steps as NodeBSteps}
use Rattle.dch_nodeb.specs.Values.{Node as NodeB}
use Rattle.dch_rnc.specs.Standing.{Represents as RncStands, RepresentsHistory as RncHistory, Shows as RncShows}
use Rattle.dch_rnc.specs.State.{opened_state as opened_rnc}
use Rattle.dch_rnc.specs.Steps.{Steps as RncSteps}
use Rattle.dch_rnc.specs.Values.{Node as Rnc}
use Rattle.dch_link.specs.Link.{opened_link}
use Rattle.dch_link.specs.LinkNodes.{Represents}
use Rattle.dch_link.proofs.Coursing.{course_of}
use Rattle.dch_link.proofs.Fits.{says_fits}

pub opened_stands : (planned : Planned) (first : ℕ) (ue : Ue) (node_b : NodeB) (rnc : Rnc) (tables : Tables) → UeHistory planned planned first [] [] ue → NodeBHistory planned planned first [] [] node_b → RncHistory planned planned first [] [] rnc → Waits [] tables
    → Represents planned planned first (opened_link planned first) (record { ue = ue; node_b = node_b; rnc = rnc; damage = tables })
opened_stands planned first ue node_b rnc tables ue_has node_b_has rnc_has waits = record {
  ue = course_of UeSteps (UeStands planned) UeShows (opened_ue planned first) ue ue_has;
  node_b = course_of NodeBSteps (NodeBStands planned) NodeBShows (opened_node_b planned first) node_b node_b_has;
  rnc = course_of RncSteps (RncStands planned) RncShows (opened_rnc planned first) rnc rnc_has;
  ue_sends = says_fits planned Up Up no_output [] refl;
  node_b_sends = says_fits planned Down Up no_output [] refl;
  rnc_sends = says_fits planned Down Down no_output [] refl;
  damage = waits;
}
