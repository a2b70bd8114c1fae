use Rattle.std.proofs.Common.{◌≤◌, ◌∙◌, ℕ, length, sym, subst}
use Rattle.dch_link.specs.Soft.{opened_soft}
use Rattle.dch_link.specs.SoftNodes.{AreNewLegs}
use Rattle.dch_link.proofs.SoftOpened.{soft_opened}
use Rattle.dch_link.proofs.soft.Soft.open.Goals as goal

pub returns-clause-opened : goal.returns-clause-opened
returns-clause-opened c =
    let planned = c.args.accepted.now in
    let new : AreNewLegs planned c.args.first_cfn c.args.legs c.in_ok-legs.legs.items = c.in_ok-legs.ensures in
    let room : ℕ = length c.in_ok-combiner.out.items in
    record {
      opened = record {
        ue = c.in_ok-ue.ensures.opened;
        rnc = c.in_ok-rnc.ensures.opened;
        legs = new.opened;
        combiner = c.in_ok-combiner.ensures.opened;
        all = c.in_ok-combiner.ensures.legs ∙ sym new.all;
        some = subst (λ n. 1 ≤ n) (sym new.all) c.requires.some;
        few = subst (λ n. n ≤ 6) (sym new.all) c.requires.few;
        room = c.in_ok-combiner.ensures.room;
      };
      first = c.args.first_cfn;
      soft = opened_soft planned c.args.first_cfn c.args.legs;
      stands = soft_opened planned c.args.first_cfn c.args.legs room c.in_ok-ue.ue c.in_ok-rnc.rnc c.in_ok-legs.legs.items c.in_ok-combiner.combiner c.in_ok-ue.ensures.stands c.in_ok-rnc.ensures.stands new c.in_ok-combiner.ensures.empty;
    }

pub returns-clause-stands : goal.returns-clause-stands
returns-clause-stands c =
    soft_opened c.args.accepted.now c.args.first_cfn c.args.legs (length c.in_ok-combiner.out.items) c.in_ok-ue.ue c.in_ok-rnc.rnc c.in_ok-legs.legs.items c.in_ok-combiner.combiner c.in_ok-ue.ensures.stands c.in_ok-rnc.ensures.stands c.in_ok-legs.ensures
    c.in_ok-combiner.ensures.empty
