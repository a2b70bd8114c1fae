use Rattle.std.proofs.Common.{◌<◌, length, sym, subst}
use Rattle.dch_tti.specs.Loaded.{AreFormats}
use Rattle.dch_ue.specs.Opened.{AreNoted}
use Rattle.dch_ue.specs.Values.{UplinkTransmitter}
use Rattle.dch_ue.proofs.Loading.{formats_all, runs_up}
use Rattle.dch_ue.proofs.transmitter.UplinkTransmitter.transmit.Goals as goal

pub send-requires-clause-combination : goal.send-requires-clause-combination
send-requires-clause-combination g c =
    subst (λ n. n < length c.args.accepted.now.config.uplink.side.combinations) (sym c.running.ensures) (runs_up c.args.accepted.now.config c.args.layer.now c.requires.layer c.requires.sends)

pub send-requires-clause-formats : goal.send-requires-clause-formats
send-requires-clause-formats g c =
    subst (λ n. AreFormats c.args.accepted.now.config.uplink.side n c.load.new.tti) (sym c.running.ensures)
    (formats_all c.args.accepted.now c.args.cfn c.args.layer.now c.self.inside.tti c.load.new.tti c.load.ensures c.requires.given
    (subst (λ (t : UplinkTransmitter). AreNoted c.args.accepted.now c.args.cfn c.args.layer.now.running t.running) (sym c.self.view_is) c.requires.noted))
