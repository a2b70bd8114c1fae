use Rattle.dch_nodeb.proofs.Serving.{lost_set, sent_up}
use Rattle.dch_nodeb.proofs.uplink.send_set.Goals as goal

pub returns-in-Ok : goal.returns-in-Ok
returns-in-Ok g c =
    sent_up g.U.Indications.shows c.args.accepted.now c.args.receiver.now.rx_frames c.args.set c.args.start _ c.send.new.self c.read_set.new.self c.args.user.now c.send.new.user c.send.ensures c.in-Ok.ensures.read
    c.requires.over c.requires.start c.in-Ok.ensures.opened c.in-Ok.ensures.same

pub returns-in-Err : goal.returns-in-Err
returns-in-Err g c =
    lost_set g.U.Indications.shows c.args.accepted.now c.args.receiver.now.rx_frames c.args.set c.in-Err.bad.channel c.in-Err.bad.frame (record c.args.tx_buffer.now { held = c.read_set.new.blocks }) c.read_set.new.self c.args.user.now c.tell_bad_tti.new.user
    c.in-Err.ensures.bad c.requires.over c.requires.quiet (record { held = c.in-Err.ensures.blocks; room = c.requires.tx_buffer.room }) c.in-Err.ensures.opened c.in-Err.ensures.same c.tell_bad_tti.ensures.shown
