use Rattle.std.proofs.Common.{ℕ, Option, None, sym, subst}
use Rattle.dch_types.specs.declared.channel.Side.{Side}
use Rattle.dch_txframes.specs.declared.radio_tx_buffer.RadioTxBuffer.{RadioTxBuffer}
use Rattle.dch_nodeb.specs.Moves.{FindsFirst, Sends}
use Rattle.dch_nodeb.specs.Opened.{IsTransmitterOf}
use Rattle.dch_nodeb.specs.Values.{DownlinkTransmitter}
use Rattle.dch_nodeb.specs.contracts.transmitter.DownlinkTransmitter.{the_view}
use Rattle.dch_nodeb.proofs.Departing.{none_sent}
use Rattle.dch_nodeb.proofs.transmitter.DownlinkTransmitter.send.Goals as goal

pub returns-in-None : goal.returns-in-None
returns-in-None g c =
    let planned = c.args.accepted.now in
    let old : DownlinkTransmitter = the_view c.self.inside in
    let opened : IsTransmitterOf planned old = subst (λ (t : DownlinkTransmitter). IsTransmitterOf planned t) (sym c.self.view_is) c.requires.opened in
    let none : FindsFirst planned.config.downlink.side old.formats None =
    subst (λ (side : Side). FindsFirst side old.formats None) c.side.ensures.value (subst (λ (o : Option ℕ). FindsFirst c.side.result.now old.formats o) c.in-None.is c.first_combination.ensures) in
    subst (λ (t : DownlinkTransmitter). Sends g.U.Indications.shows planned c.args.cfn t (record old { radio = c.clear_sent.new.self }) c.args.user.now c.tell_no_radio.new.user) c.self.view_is
    (subst (λ (radio : RadioTxBuffer). Sends g.U.Indications.shows planned c.args.cfn old (record old { radio = radio }) c.args.user.now c.tell_no_radio.new.user) (sym c.clear_sent.ensures)
    (none_sent g.U.Indications.shows planned c.args.cfn old c.args.user.now c.tell_no_radio.new.user opened none c.tell_no_radio.ensures.shown))
