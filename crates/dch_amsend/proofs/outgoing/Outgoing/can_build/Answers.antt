use Rattle.std.proofs.Common.{◌∙◌, ◌&&◌, ◌||◌, Bool, ap, length, sym}
use Rattle.std.specs.Prelude.{nat_lt}
use Rattle.dch_am.specs.Bodies.{is_left}
use Rattle.dch_amsend.specs.TxBuffer.{unsent_of}
use Rattle.dch_amsend.specs.Outgoing.{Outgoing, can_build}
use Rattle.dch_amsend.proofs.Due.{can_build_is}
use Rattle.dch_amsend.proofs.outgoing.Outgoing.can_build.Goals as goal

-- a PDU that isn't requested
abbrev others : Outgoing → Bool
others v = (nat_lt (length v.line.in_flight) v.line.window && is_left (unsent_of v.tx_buffer)) || (v.line.owed && nat_lt 0 (length v.line.in_flight))

pub returns-then-is_requested : goal.returns-then-is_requested
returns-then-is_requested c =
    let v : Outgoing = record { size = c.self.inside.size; line = c.self.inside.line; tx_buffer = c.self.inside.tx_buffer } in
    c.if-is_requested.true ∙ (ap (λ b. b || others v) (sym c.if-is_requested.true ∙ c.is_requested.ensures) ∙ (can_build_is v ∙ ap can_build c.self.view_is))

pub returns-else-is_requested : goal.returns-else-is_requested
returns-else-is_requested c =
    let v : Outgoing = record { size = c.self.inside.size; line = c.self.inside.line; tx_buffer = c.self.inside.tx_buffer } in
    c.has_unrequested.ensures ∙ (ap others (sym c.self.view_is) ∙ (ap (λ b. b || others v) (sym c.if-is_requested.false ∙ c.is_requested.ensures) ∙ (can_build_is v ∙ ap can_build c.self.view_is)))
