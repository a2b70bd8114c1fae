use Rattle.std.proofs.Common.{◌<◌, get_or, sym, subst, arith}
use Rattle.dch_types.specs.declared.channel.Dir.TheVariants.{Down}
use Rattle.dch_accept.specs.HeldSets.{IsSetOf}
use Rattle.dch_nodeb.specs.Values.{IubRxBuffer}
use Rattle.dch_nodeb.proofs.Keeping.{place_in, refused_keeps, taken_keeps}
use Rattle.dch_nodeb.proofs.iub_rx_buffer.keep.Goals as goal

pub keep-requires : goal.keep-requires
keep-requires g c =
    let small : c.args.set < 8 = omega (arith, c.rx_buffer_of.ensures.value, c.rx_buffer_of.ensures.inside) in
    subst (λ (p : IubRxBuffer). IsSetOf c.args.accepted.now.config Down c.args.set p.held)
    (sym (place_in c.args.accepted.now c.args.rx_buffers.now c.rx_buffer_of.result c.args.set c.index-rx_buffers-rx_buffer_of.result c.requires.rx_buffers c.rx_buffer_of.ensures.value small))
    (c.requires.rx_buffers.each c.args.set small)

pub returns-in-Ok : goal.returns-in-Ok
returns-in-Ok g c =
    let small : c.args.set < 8 = omega (arith, c.rx_buffer_of.ensures.value, c.rx_buffer_of.ensures.inside) in
    taken_keeps g.U.Indications.shows c.args.accepted.now c.args.set c.rx_buffer_of.result c.args.frame.now c.args.rx_buffers.now c.keep.new.self c.args.user.now c.rx_buffer_of.ensures.value small c.requires.rx_buffers
    c.in-Ok.ensures.opened c.in-Ok.ensures.ok

pub returns-in-Err : goal.returns-in-Err
returns-in-Err g c =
    let small : c.args.set < 8 = omega (arith, c.rx_buffer_of.ensures.value, c.rx_buffer_of.ensures.inside) in
    let old : IubRxBuffer = get_or c.args.rx_buffers.now c.rx_buffer_of.result c.index-rx_buffers-rx_buffer_of.result in
    refused_keeps g.U.Indications.shows c.args.accepted.now c.args.set c.rx_buffer_of.result c.args.frame.now c.args.rx_buffers.now c.in-Err.error old c.keep.new.self c.args.user.now c.tell_refusal.new.user
    c.rx_buffer_of.ensures.value small c.requires.rx_buffers
    (place_in c.args.accepted.now c.args.rx_buffers.now c.rx_buffer_of.result c.args.set c.index-rx_buffers-rx_buffer_of.result c.requires.rx_buffers c.rx_buffer_of.ensures.value small)
    c.in-Err.ensures.same c.in-Err.ensures.err c.tell_refusal.ensures.shown
