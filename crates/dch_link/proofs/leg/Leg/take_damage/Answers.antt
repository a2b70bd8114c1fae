use Rattle.std.proofs.Common.{◌∷◌, arith, sym, subst}
use Rattle.dch_types.specs.declared.channel.Side.{Side}
use Rattle.dch_types.specs.Limits.{IsSide}
use Rattle.dch_types.specs.Parts.{side_of}
use Rattle.dch_types.proofs.Sets.{set_small}
use Rattle.dch_damage.specs.Damage.{Flip as Flips, Lose as Loses, LoseIub as LosesIub, Spoil as Spoils}
use Rattle.dch_link.specs.SoftEvents.{damaged}
use Rattle.dch_link.specs.SoftNodes.{IsLegOf, MayHit, RepresentsLeg, damage_of}
use Rattle.dch_link.specs.SoftValues.{LegParts}
use Rattle.dch_link.specs.contracts.leg.Leg.{the_view}
use Rattle.dch_link.specs.declared.soft_event.LegDamage.{LegDamage}
use Rattle.dch_link.proofs.SoftNexts.{with_damage}
use Rattle.dch_link.proofs.leg.Leg.take_damage.Goals as goal

pub lose_iub-requires : goal.lose_iub-requires
lose_iub-requires c =
    let config = c.args.accepted.now.config in
    let good : IsSide (side_of config c.in-LoseIub.dir) = subst (λ (s : Side). IsSide s) c.side-side.ensures.value c.side-side.ensures.good in
    omega (arith, set_small (side_of config c.in-LoseIub.dir) c.in-LoseIub.set good (subst (λ (d : LegDamage). MayHit c.args.accepted.now d) c.in-LoseIub.is c.requires))

pub spoil-requires : goal.spoil-requires
spoil-requires c =
    let config = c.args.accepted.now.config in
    let good : IsSide (side_of config c.in-Spoil.dir) = subst (λ (s : Side). IsSide s) c.side-side-in-Spoil.ensures.value c.side-side-in-Spoil.ensures.good in
    omega (arith, set_small (side_of config c.in-Spoil.dir) c.in-Spoil.set good (subst (λ (d : LegDamage). MayHit c.args.accepted.now d) c.in-Spoil.is c.requires))

pub returns-in-Flip-clause-opened : goal.returns-in-Flip-clause-opened
returns-in-Flip-clause-opened c = λ were.
    let it : LegParts = the_view c.self.inside in
    let opened : IsLegOf c.args.accepted.now it = subst (λ (l : LegParts). IsLegOf c.args.accepted.now l) (sym c.self.view_is) were in
    record { node_b = opened.node_b; damage = c.flip.ensures.opened c.args.accepted.now opened.damage }

pub returns-in-Flip-clause-waits : goal.returns-in-Flip-clause-waits
returns-in-Flip-clause-waits c = λ first leg was.
    let planned = c.args.accepted.now in
    let it : LegParts = the_view c.self.inside in
    let is : RepresentsLeg planned first leg it = subst (λ (l : LegParts). RepresentsLeg planned first leg l) (sym c.self.view_is) was in
    subst (λ (d : LegDamage). RepresentsLeg planned first (damaged leg (damage_of d)) (record it { damage = c.flip.new.self })) (sym c.in-Flip.is)
    (with_damage planned first leg it (Flips c.in-Flip.dir c.in-Flip.tfci c.in-Flip.place ∷ leg.damage) c.flip.new.self is (c.flip.ensures.waits leg.damage is.damage))

pub returns-in-Lose-clause-opened : goal.returns-in-Lose-clause-opened
returns-in-Lose-clause-opened c = λ were.
    let it : LegParts = the_view c.self.inside in
    let opened : IsLegOf c.args.accepted.now it = subst (λ (l : LegParts). IsLegOf c.args.accepted.now l) (sym c.self.view_is) were in
    record { node_b = opened.node_b; damage = c.lose.ensures.opened c.args.accepted.now opened.damage }

pub returns-in-Lose-clause-waits : goal.returns-in-Lose-clause-waits
returns-in-Lose-clause-waits c = λ first leg was.
    let planned = c.args.accepted.now in
    let it : LegParts = the_view c.self.inside in
    let is : RepresentsLeg planned first leg it = subst (λ (l : LegParts). RepresentsLeg planned first leg l) (sym c.self.view_is) was in
    subst (λ (d : LegDamage). RepresentsLeg planned first (damaged leg (damage_of d)) (record it { damage = c.lose.new.self })) (sym c.in-Lose.is)
    (with_damage planned first leg it (Loses c.in-Lose.dir ∷ leg.damage) c.lose.new.self is (c.lose.ensures.waits leg.damage is.damage))

pub returns-in-LoseIub-clause-opened : goal.returns-in-LoseIub-clause-opened
returns-in-LoseIub-clause-opened c = λ were.
    let it : LegParts = the_view c.self.inside in
    let opened : IsLegOf c.args.accepted.now it = subst (λ (l : LegParts). IsLegOf c.args.accepted.now l) (sym c.self.view_is) were in
    record { node_b = opened.node_b; damage = c.lose_iub.ensures.opened c.args.accepted.now opened.damage }

pub returns-in-LoseIub-clause-waits : goal.returns-in-LoseIub-clause-waits
returns-in-LoseIub-clause-waits c = λ first leg was.
    let planned = c.args.accepted.now in
    let it : LegParts = the_view c.self.inside in
    let is : RepresentsLeg planned first leg it = subst (λ (l : LegParts). RepresentsLeg planned first leg l) (sym c.self.view_is) was in
    subst (λ (d : LegDamage). RepresentsLeg planned first (damaged leg (damage_of d)) (record it { damage = c.lose_iub.new.self })) (sym c.in-LoseIub.is)
    (with_damage planned first leg it (LosesIub c.in-LoseIub.dir c.in-LoseIub.set ∷ leg.damage) c.lose_iub.new.self is (c.lose_iub.ensures.waits leg.damage is.damage))

pub returns-in-Spoil-clause-opened : goal.returns-in-Spoil-clause-opened
returns-in-Spoil-clause-opened c = λ were.
    let it : LegParts = the_view c.self.inside in
    let opened : IsLegOf c.args.accepted.now it = subst (λ (l : LegParts). IsLegOf c.args.accepted.now l) (sym c.self.view_is) were in
    record { node_b = opened.node_b; damage = c.spoil.ensures.opened c.args.accepted.now opened.damage }

pub returns-in-Spoil-clause-waits : goal.returns-in-Spoil-clause-waits
returns-in-Spoil-clause-waits c = λ first leg was.
    let planned = c.args.accepted.now in
    let it : LegParts = the_view c.self.inside in
    let is : RepresentsLeg planned first leg it = subst (λ (l : LegParts). RepresentsLeg planned first leg l) (sym c.self.view_is) was in
    subst (λ (d : LegDamage). RepresentsLeg planned first (damaged leg (damage_of d)) (record it { damage = c.spoil.new.self })) (sym c.in-Spoil.is)
    (with_damage planned first leg it (Spoils c.in-Spoil.dir c.in-Spoil.set c.in-Spoil.octet c.in-Spoil.mask ∷ leg.damage) c.spoil.new.self is (c.spoil.ensures.waits leg.damage is.damage))
