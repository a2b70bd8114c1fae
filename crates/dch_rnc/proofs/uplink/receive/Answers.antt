use Rattle.std.proofs.Common.{◌<◌, get_or, sym, subst, arith}
use Rattle.dch_types.specs.declared.channel.Dir.TheVariants.{Up}
use Rattle.dch_accept.specs.HeldSets.{HeldSet, IsSetOf}
use Rattle.dch_rnc.proofs.Taking.{got_refusal, got_taken, rx_set_in}
use Rattle.dch_rnc.proofs.uplink.receive.Goals as goal

pub read_ul-requires : goal.read_ul-requires
read_ul-requires g c =
    let small : c.args.set < 8 = omega (arith, c.place_of.ensures.value, c.place_of.ensures.inside) in
    subst (λ (h : HeldSet). IsSetOf c.args.accepted.now.config Up c.args.set h)
    (sym (rx_set_in c.args.accepted.now c.args.rx_sets.now c.place_of.result c.args.set c.index-rx_sets-place_of.result c.requires.rx_sets c.place_of.ensures.value small))
    (c.requires.rx_sets.each c.args.set small)

pub returns-in-Ok : goal.returns-in-Ok
returns-in-Ok g c =
    let small : c.args.set < 8 = omega (arith, c.place_of.ensures.value, c.place_of.ensures.inside) in
    got_taken g.U.Indications.shows c.args.accepted.now c.args.set c.place_of.result c.args.frame.now c.args.rx_sets.now c.read_ul.new.out c.in-Ok.field-0.cfn c.in-Ok.field-0.qe c.args.layer.now c.take_set.new.layer c.args.user.now c.take_set.new.user
    c.requires.rx_sets c.place_of.ensures.value small c.in-Ok.ensures.opened c.in-Ok.ensures.ok c.take_set.ensures

pub returns-in-Err : goal.returns-in-Err
returns-in-Err g c =
    let small : c.args.set < 8 = omega (arith, c.place_of.ensures.value, c.place_of.ensures.inside) in
    let last : HeldSet = get_or c.args.rx_sets.now c.place_of.result c.index-rx_sets-place_of.result in
    got_refusal g.U.Indications.shows c.args.accepted.now c.args.set c.place_of.result c.args.frame.now c.args.rx_sets.now last c.read_ul.new.out c.in-Err.error c.args.layer.now c.args.user.now c.tell_refusal.new.user c.requires.rx_sets c.place_of.ensures.value small
    (rx_set_in c.args.accepted.now c.args.rx_sets.now c.place_of.result c.args.set c.index-rx_sets-place_of.result c.requires.rx_sets c.place_of.ensures.value small)
    c.in-Err.ensures.same c.in-Err.ensures.refused c.tell_refusal.ensures.shown
