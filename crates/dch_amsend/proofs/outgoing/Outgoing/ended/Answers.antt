use Rattle.std.proofs.Common.{◌-◌, ◌∙◌, ap, length}
use Rattle.dch_amsend.specs.Scanning.{ends_below}
use Rattle.dch_amsend.specs.Outgoing.{IsRunning, Outgoing}
use Rattle.dch_amsend.proofs.Due.{ended_all}
use Rattle.dch_amsend.proofs.outgoing.Outgoing.ended.Goals as goal

pub returns : goal.returns
returns c =
    let v : Outgoing = record { size = c.self.inside.size; line = c.self.inside.line; tx_buffer = c.self.inside.tx_buffer } in
    let run : IsRunning v = c.self.invariant in
    c.ended.ensures ∙ (ended_all run.rules (c.self.inside.size - 2) v run.sender run.stands ∙ ap (λ (x : Outgoing). ends_below (length x.line.in_flight) x.line.in_flight) c.self.view_is)
