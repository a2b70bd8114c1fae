use Rattle.dch_steptext.proofs.Reporting.{few_none}
use Rattle.dch_accept.specs.Reports.{step_bytes}
use Rattle.std.proofs.Common.{◌∙◌, arith, refl, ap, sym, subst}
use Rattle.dch_types.specs.declared.channel.Dir.{Dir}
use Rattle.dch_types.specs.declared.channel.Side.{Side}
use Rattle.dch_types.specs.Limits.{IsSide}
use Rattle.dch_types.specs.Parts.{side_of}
use Rattle.dch_types.proofs.Sets.{set_small}
use Rattle.dch_damage.specs.Damage.{Flip as Flips, Lose as Loses, LoseIub as LosesIub, Spoil as Spoils}
use Rattle.dch_ue.specs.State.{BlockedCombination as UeBlocked, OfferedUnit as UeOffered}
use Rattle.dch_rnc.specs.State.{BlockedCombination as RncBlocked, OfferedUnit as RncOffered}
use Rattle.dch_node.specs.Standing.{Tells}
use Rattle.dch_link.specs.Events.{Happens}
use Rattle.dch_link.specs.LinkNodes.{HasNext, LeadsTo, MayCome, Represents, event_of}
use Rattle.dch_link.specs.Values.{Nodes}
use Rattle.dch_link.specs.contracts.link.Link.{the_view}
use Rattle.dch_link.specs.declared.event.LinkEvent.{LinkEvent}
use Rattle.dch_link.specs.declared.event.LinkEvent.TheVariants.{Unit as Offered, Block}
use Rattle.dch_link.proofs.Following.{rnc_follows, ue_follows}
use Rattle.dch_link.proofs.Nexts.{damage_next, rnc_next, ue_next}
use Rattle.dch_link.proofs.link.Link.take_event.Goals as goal

pub lose_iub-requires : goal.lose_iub-requires
lose_iub-requires g c =
    let config = c.args.accepted.now.config in
    let good : IsSide (side_of config c.in-LoseIub.dir) = subst (λ (s : Side). IsSide s) c.side-side.ensures.value c.side-side.ensures.good in
    omega (arith, set_small (side_of config c.in-LoseIub.dir) c.in-LoseIub.set good (subst (λ (e : LinkEvent). MayCome c.args.accepted.now e) c.in-LoseIub.is c.requires.event))

pub spoil-requires : goal.spoil-requires
spoil-requires g c =
    let config = c.args.accepted.now.config in
    let good : IsSide (side_of config c.in-Spoil.dir) = subst (λ (s : Side). IsSide s) c.side-side-in-Spoil.ensures.value c.side-side-in-Spoil.ensures.good in
    omega (arith, set_small (side_of config c.in-Spoil.dir) c.in-Spoil.set good (subst (λ (e : LinkEvent). MayCome c.args.accepted.now e) c.in-Spoil.is c.requires.event))

pub returns-in-Up-clause-happens : goal.returns-in-Up-clause-happens
returns-in-Up-clause-happens g c = λ began first link was.
    let planned = c.args.accepted.now in
    let nodes : Nodes = the_view c.self.inside in
    let is : Represents began planned first link nodes = subst (λ (n : Nodes). Represents began planned first link n) (sym c.self.view_is) was in
    subst (λ (e : LinkEvent). LeadsTo began planned first (Happens link (event_of e)) (record nodes { ue = c.step_with.new.self }) (Tells g.U.Indications.shows c.args.user.now c.step_with.new.user)) (sym (c.in-Unit.is ∙ ap (λ (d : Dir). Offered d c.in-Unit.bearer c.in-Unit.octets c.in-Unit.bits) c.in-Up.is))
    (ue_next began planned first link nodes (UeOffered c.in-Unit.bearer c.in-Unit.octets.now c.in-Unit.bits.now) c.step_with.new.self (Tells g.U.Indications.shows c.args.user.now c.step_with.new.user) is c.step_with.ensures.opened (c.step_with.ensures.step planned link.ue.state refl is.ue.stands))

pub returns-in-Down-clause-happens : goal.returns-in-Down-clause-happens
returns-in-Down-clause-happens g c = λ began first link was.
    let planned = c.args.accepted.now in
    let nodes : Nodes = the_view c.self.inside in
    let is : Represents began planned first link nodes = subst (λ (n : Nodes). Represents began planned first link n) (sym c.self.view_is) was in
    subst (λ (e : LinkEvent). LeadsTo began planned first (Happens link (event_of e)) (record nodes { rnc = c.step_with-in-Down.new.self }) (Tells g.U.Indications.shows c.args.user.now c.step_with-in-Down.new.user)) (sym (c.in-Unit.is ∙ ap (λ (d : Dir). Offered d c.in-Unit.bearer c.in-Unit.octets c.in-Unit.bits) c.in-Down.is))
    (rnc_next began planned first link nodes (RncOffered c.in-Unit.bearer c.in-Unit.octets.now c.in-Unit.bits.now) c.step_with-in-Down.new.self (Tells g.U.Indications.shows c.args.user.now c.step_with-in-Down.new.user) is (c.step_with-in-Down.ensures.step planned link.rnc.state refl is.rnc.stands))

pub returns-in-Up-dir-clause-happens : goal.returns-in-Up-dir-clause-happens
returns-in-Up-dir-clause-happens g c = λ began first link was.
    let planned = c.args.accepted.now in
    let nodes : Nodes = the_view c.self.inside in
    let is : Represents began planned first link nodes = subst (λ (n : Nodes). Represents began planned first link n) (sym c.self.view_is) was in
    subst (λ (e : LinkEvent). LeadsTo began planned first (Happens link (event_of e)) (record nodes { ue = c.step_with-in-Up-dir.new.self }) (Tells g.U.Indications.shows c.args.user.now c.step_with-in-Up-dir.new.user)) (sym (c.in-Block.is ∙ ap (λ (d : Dir). Block d c.in-Block.combination c.in-Block.on) c.in-Up-dir.is))
    (ue_next began planned first link nodes (UeBlocked c.in-Block.combination c.in-Block.on) c.step_with-in-Up-dir.new.self (Tells g.U.Indications.shows c.args.user.now c.step_with-in-Up-dir.new.user) is c.step_with-in-Up-dir.ensures.opened (c.step_with-in-Up-dir.ensures.step planned link.ue.state refl is.ue.stands))

pub returns-in-Down-dir-clause-happens : goal.returns-in-Down-dir-clause-happens
returns-in-Down-dir-clause-happens g c = λ began first link was.
    let planned = c.args.accepted.now in
    let nodes : Nodes = the_view c.self.inside in
    let is : Represents began planned first link nodes = subst (λ (n : Nodes). Represents began planned first link n) (sym c.self.view_is) was in
    subst (λ (e : LinkEvent). LeadsTo began planned first (Happens link (event_of e)) (record nodes { rnc = c.step_with-in-Down-dir.new.self }) (Tells g.U.Indications.shows c.args.user.now c.step_with-in-Down-dir.new.user)) (sym (c.in-Block.is ∙ ap (λ (d : Dir). Block d c.in-Block.combination c.in-Block.on) c.in-Down-dir.is))
    (rnc_next began planned first link nodes (RncBlocked c.in-Block.combination c.in-Block.on) c.step_with-in-Down-dir.new.self (Tells g.U.Indications.shows c.args.user.now c.step_with-in-Down-dir.new.user) is (c.step_with-in-Down-dir.ensures.step planned link.rnc.state refl is.rnc.stands))

pub returns-in-Flip-clause-happens : goal.returns-in-Flip-clause-happens
returns-in-Flip-clause-happens g c = λ began first link was.
    let planned = c.args.accepted.now in
    let nodes : Nodes = the_view c.self.inside in
    let is : Represents began planned first link nodes = subst (λ (n : Nodes). Represents began planned first link n) (sym c.self.view_is) was in
    subst (λ (e : LinkEvent). LeadsTo began planned first (Happens link (event_of e)) (record nodes { damage = c.flip.new.self }) (Tells g.U.Indications.shows c.args.user.now c.args.user.now)) (sym (c.in-Flip.is))
    (damage_next began planned first link nodes (Flips c.in-Flip.dir c.in-Flip.tfci c.in-Flip.place) c.flip.new.self (Tells g.U.Indications.shows c.args.user.now c.args.user.now) refl is (c.flip.ensures.waits link.damage is.damage))

pub returns-in-Lose-clause-happens : goal.returns-in-Lose-clause-happens
returns-in-Lose-clause-happens g c = λ began first link was.
    let planned = c.args.accepted.now in
    let nodes : Nodes = the_view c.self.inside in
    let is : Represents began planned first link nodes = subst (λ (n : Nodes). Represents began planned first link n) (sym c.self.view_is) was in
    subst (λ (e : LinkEvent). LeadsTo began planned first (Happens link (event_of e)) (record nodes { damage = c.lose.new.self }) (Tells g.U.Indications.shows c.args.user.now c.args.user.now)) (sym (c.in-Lose.is))
    (damage_next began planned first link nodes (Loses c.in-Lose.dir) c.lose.new.self (Tells g.U.Indications.shows c.args.user.now c.args.user.now) refl is (c.lose.ensures.waits link.damage is.damage))

pub returns-in-LoseIub-clause-happens : goal.returns-in-LoseIub-clause-happens
returns-in-LoseIub-clause-happens g c = λ began first link was.
    let planned = c.args.accepted.now in
    let nodes : Nodes = the_view c.self.inside in
    let is : Represents began planned first link nodes = subst (λ (n : Nodes). Represents began planned first link n) (sym c.self.view_is) was in
    subst (λ (e : LinkEvent). LeadsTo began planned first (Happens link (event_of e)) (record nodes { damage = c.lose_iub.new.self }) (Tells g.U.Indications.shows c.args.user.now c.args.user.now)) (sym (c.in-LoseIub.is))
    (damage_next began planned first link nodes (LosesIub c.in-LoseIub.dir c.in-LoseIub.set) c.lose_iub.new.self (Tells g.U.Indications.shows c.args.user.now c.args.user.now) refl is (c.lose_iub.ensures.waits link.damage is.damage))

pub returns-in-Spoil-clause-happens : goal.returns-in-Spoil-clause-happens
returns-in-Spoil-clause-happens g c = λ began first link was.
    let planned = c.args.accepted.now in
    let nodes : Nodes = the_view c.self.inside in
    let is : Represents began planned first link nodes = subst (λ (n : Nodes). Represents began planned first link n) (sym c.self.view_is) was in
    subst (λ (e : LinkEvent). LeadsTo began planned first (Happens link (event_of e)) (record nodes { damage = c.spoil.new.self }) (Tells g.U.Indications.shows c.args.user.now c.args.user.now)) (sym (c.in-Spoil.is))
    (damage_next began planned first link nodes (Spoils c.in-Spoil.dir c.in-Spoil.set c.in-Spoil.octet c.in-Spoil.mask) c.spoil.new.self (Tells g.U.Indications.shows c.args.user.now c.args.user.now) refl is (c.spoil.ensures.waits link.damage is.damage))

pub returns-in-Up-clause-next : goal.returns-in-Up-clause-next
returns-in-Up-clause-next g c = λ second was.
    let planned = c.args.accepted.now in
    let nodes : Nodes = the_view c.self.inside in
    let has : HasNext planned second nodes = subst (λ (n : Nodes). HasNext planned second n) (sym c.self.view_is) was in
    ue_follows planned second nodes c.step_with.new.self c.step_with.ensures.next has

pub returns-in-Down-clause-next : goal.returns-in-Down-clause-next
returns-in-Down-clause-next g c = λ second was.
    let planned = c.args.accepted.now in
    let nodes : Nodes = the_view c.self.inside in
    let has : HasNext planned second nodes = subst (λ (n : Nodes). HasNext planned second n) (sym c.self.view_is) was in
    rnc_follows planned second nodes c.step_with-in-Down.new.self c.step_with-in-Down.ensures.next has

pub returns-in-Up-dir-clause-next : goal.returns-in-Up-dir-clause-next
returns-in-Up-dir-clause-next g c = λ second was.
    let planned = c.args.accepted.now in
    let nodes : Nodes = the_view c.self.inside in
    let has : HasNext planned second nodes = subst (λ (n : Nodes). HasNext planned second n) (sym c.self.view_is) was in
    ue_follows planned second nodes c.step_with-in-Up-dir.new.self c.step_with-in-Up-dir.ensures.next has

pub returns-in-Down-dir-clause-next : goal.returns-in-Down-dir-clause-next
returns-in-Down-dir-clause-next g c = λ second was.
    let planned = c.args.accepted.now in
    let nodes : Nodes = the_view c.self.inside in
    let has : HasNext planned second nodes = subst (λ (n : Nodes). HasNext planned second n) (sym c.self.view_is) was in
    rnc_follows planned second nodes c.step_with-in-Down-dir.new.self c.step_with-in-Down-dir.ensures.next has

pub returns-in-Flip-clause-few : goal.returns-in-Flip-clause-few
returns-in-Flip-clause-few g c = few_none g.U.Indications.shows (step_bytes c.args.accepted.now.config) c.args.user.now (omega arith)

pub returns-in-Lose-clause-few : goal.returns-in-Lose-clause-few
returns-in-Lose-clause-few g c = few_none g.U.Indications.shows (step_bytes c.args.accepted.now.config) c.args.user.now (omega arith)

pub returns-in-LoseIub-clause-few : goal.returns-in-LoseIub-clause-few
returns-in-LoseIub-clause-few g c = few_none g.U.Indications.shows (step_bytes c.args.accepted.now.config) c.args.user.now (omega arith)

pub returns-in-Spoil-clause-few : goal.returns-in-Spoil-clause-few
returns-in-Spoil-clause-few g c = few_none g.U.Indications.shows (step_bytes c.args.accepted.now.config) c.args.user.now (omega arith)
