use Rattle.dch_link.proofs.Cfns.{changed_cfn}
use Rattle.dch_link.proofs.link.Link.change.Goals as goal

pub returns-clause-opened : goal.returns-clause-opened
returns-clause-opened g c =
    let can = c.requires.opened in
    let led = c.change_nodes.ensures.changes can.opened.began can.before can.opened.first can.opened.link can.opened.stands can.next in
    record { opened = c.change_nodes.ensures.opened; began = can.opened.began; first = can.opened.first; link = led.next; stands = led.stands }

pub returns-clause-cfn : goal.returns-clause-cfn
returns-clause-cfn g c =
    let can = c.requires.opened in
    let led = c.change_nodes.ensures.changes can.opened.began can.before can.opened.first can.opened.link can.opened.stands can.next in
    changed_cfn can.opened.began can.before c.args.accepted.now can.opened.first can.opened.link led.next c.args.self.now c.change_nodes.new.self can.opened.stands led.changes led.stands
