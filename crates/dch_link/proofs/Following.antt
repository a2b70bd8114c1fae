-- The nodes can still go on with a second configuration after a step of one of them.
use Rattle.dch_accept.specs.Plans.{Planned}
use Rattle.dch_damage.specs.Opened.{IsDamageOf}
use Rattle.dch_damage.specs.Tables.{Tables}
use Rattle.dch_ue.specs.Opened.{HasNext as UeHasNext}
use Rattle.dch_ue.specs.Values.{Node as Ue}
use Rattle.dch_nodeb.specs.Opened.{HasNext as NodeBHasNext}
use Rattle.dch_nodeb.specs.Values.{Node as NodeB}
use Rattle.dch_rnc.specs.Opened.{HasNext as RncHasNext}
use Rattle.dch_rnc.specs.Values.{Node as Rnc}
use Rattle.dch_link.specs.LinkNodes.{HasNext}
use Rattle.dch_link.specs.Values.{Nodes}

pub ue_follows : (planned second : Planned) (nodes : Nodes) (ue : Ue) → ((other : Planned) → UeHasNext planned other nodes.ue → UeHasNext planned other ue) → HasNext planned second nodes → HasNext planned second (record nodes { ue = ue })
ue_follows planned second nodes ue keeps has = record { ue = keeps second has.ue; node_b = has.node_b; rnc = has.rnc; damage = has.damage }

pub node_b_follows : (planned second : Planned) (nodes : Nodes) (node_b : NodeB) → ((other : Planned) → NodeBHasNext planned other nodes.node_b → NodeBHasNext planned other node_b) → HasNext planned second nodes → HasNext planned second (record nodes { node_b = node_b })
node_b_follows planned second nodes node_b keeps has = record { ue = has.ue; node_b = keeps second has.node_b; rnc = has.rnc; damage = has.damage }

pub rnc_follows : (planned second : Planned) (nodes : Nodes) (rnc : Rnc) → ((other : Planned) → RncHasNext planned other nodes.rnc → RncHasNext planned other rnc) → HasNext planned second nodes → HasNext planned second (record nodes { rnc = rnc })
rnc_follows planned second nodes rnc keeps has = record { ue = has.ue; node_b = has.node_b; rnc = keeps second has.rnc; damage = has.damage }

pub damage_follows : (planned second : Planned) (nodes : Nodes) (tables : Tables) → ((other : Planned) → IsDamageOf other nodes.damage → IsDamageOf other tables) → HasNext planned second nodes → HasNext planned second (record nodes { damage = tables })
damage_follows planned second nodes tables keeps has = record { ue = has.ue; node_b = has.node_b; rnc = has.rnc; damage = keeps second has.damage }
