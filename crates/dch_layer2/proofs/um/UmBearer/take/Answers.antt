use Rattle.std.proofs.Common.{◌∙◌, sym, ap, subst}
use Rattle.dch_indication.specs.Told.{Told}
use Rattle.dch_rlcpdu.specs.Um.{um_reading}
use Rattle.dch_layer2.specs.Octets.{octets_of}
use Rattle.dch_layer2.specs.BearerValues.{IsSettled, UmRunning, um_heard, um_lines}
use Rattle.dch_layer2.specs.contracts.um.UmBearer.{the_view}
use Rattle.dch_layer2.proofs.UmSides.{has_receiver, heard_is, heard_settled, lines_are}
use Rattle.dch_layer2.proofs.um.UmBearer.take.Goals as goal
use Rattle.dch_layer2.proofs.um.UmBearer.take.Goals.{in-Some, in_default}

pub invariant_of-self : goal.invariant_of-self
invariant_of-self g c =
    elim c.match-self.branch [
      | in-Some w ↦ rw w.self-inside-is (c.self.invariant.0, heard_settled (um_reading c.read_octets.new.out) w.in-Some.receiver w.hear.new.receiver (subst IsSettled w.in-Some.is c.self.invariant.1) w.hear.ensures.after)
      | in_default w ↦ rw w.self-inside-is c.self.invariant
    ]

pub returns-clause-told : goal.returns-clause-told
returns-clause-told g c =
    let v : UmRunning = the_view c.self.inside in
    elim c.match-self.branch [
      | in-Some w ↦ subst (λ u. Told g.U.Indications.shows c.args.user.now (um_lines (octets_of c.args.bits.now) c.args.self.now) u) (sym w.user-is)
          (subst (λ ls. Told g.U.Indications.shows c.args.user.now ls w.hear.new.user)
          (sym (lines_are v w.in-Some.receiver c.args.bits.now c.read_octets.new.out c.read_octets.ensures.bits c.read_octets.ensures.octets w.in-Some.is)
          ∙ ap (um_lines (octets_of c.args.bits.now)) c.self.view_is) w.hear.ensures.told)
      | in_default w ↦ absurd (has_receiver v c.args.self.now c.self.view_is w.in_default.is c.requires.receives)
    ]

pub returns-clause-after : goal.returns-clause-after
returns-clause-after g c =
    let v : UmRunning = the_view c.self.inside in
    elim c.match-self.branch [
      | in-Some w ↦ ap the_view w.self-inside-is ∙ (
          heard_is v w.in-Some.receiver w.hear.new.receiver c.args.bits.now c.read_octets.new.out c.read_octets.ensures.bits c.read_octets.ensures.octets w.in-Some.is w.hear.ensures.after
          ∙ ap (um_heard (octets_of c.args.bits.now)) c.self.view_is)
      | in_default w ↦ absurd (has_receiver v c.args.self.now c.self.view_is w.in_default.is c.requires.receives)
    ]
