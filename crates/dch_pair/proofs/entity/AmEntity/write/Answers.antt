use Rattle.std.proofs.Common.{◌≡◌, ◌∙◌, ◌*◌, true, refl, subst, sym}
use Rattle.dch_am.specs.Entities.{Tells, Moves, Sends}
use Rattle.dch_am.specs.Building.{gives}
use Rattle.dch_am.specs.Telling.{after_telling, tells_now}
use Rattle.dch_am.specs.Texts.{IsReport}
use Rattle.dch_am.proofs.Turns.{turn_moves, turn_sends, turn_tells}
use Rattle.dch_amrecv.specs.Holding.{is_due as is_told}
use Rattle.dch_amsend.specs.Standing.{is_control_due, is_due as can_send, room_in}
use Rattle.dch_amsend.proofs.Due.{can_build_gives}
use Rattle.dch_pair.specs.declared.answers.Built.TheVariants.{Status, Mrw, Data}
use Rattle.dch_pair.specs.EntityStanding.{Represents, Running, is_due, size_of}
use Rattle.dch_pair.proofs.Events.{follows, rules_stay}
use Rattle.dch_pair.proofs.Turns.{Did, did, due_last}
use Rattle.dch_pair.proofs.entity.AmEntity.write.Goals as goal

pub returns-then-status_due-clause-history : goal.returns-then-status_due-clause-history
returns-then-status_due-clause-history c rules e is =
    let v : Running = record { sender = c.self.inside.sender; receiver = c.self.inside.receiver } in
    let here : Represents rules v e = subst (λ v. Represents rules v e) (sym c.self.view_is) is in
    let now : Running = record { sender = c.self.inside.sender; receiver = c.write_status.new.self } in
    did Tells rules (size_of c.args.self.now) Status c.write_status.new.out e now
    (turn_tells rules e.sender e.receiver (sym (c.if-status_due.ensures.due e.handed e.receiver here.receiver))) (
      refl,
      subst (λ (x : Running). IsReport c.write_status.new.out (tells_now (8 * size_of x) e.receiver)) c.self.view_is
          (subst (λ n. IsReport c.write_status.new.out (tells_now (8 * n) e.receiver)) c.self.invariant.0
          (record { text = c.write_status.ensures.text e.handed e.receiver here.receiver; read = c.write_status.ensures.read e.handed e.receiver here.receiver })),
      record {
        rules_are = rules_stay rules v e c.write_status.new.self here c.write_status.ensures.same.rules;
        sender = here.sender;
        receiver = follows after_telling rules v e c.write_status.new.self here c.write_status.ensures.stands;
      },
    )

pub returns-then-control_due-clause-history : goal.returns-then-control_due-clause-history
returns-then-control_due-clause-history c rules e is =
    let v : Running = record { sender = c.self.inside.sender; receiver = c.self.inside.receiver } in
    let here : Represents rules v e = subst (λ v. Represents rules v e) (sym c.self.view_is) is in
    let now : Running = record { sender = c.write_control.new.self; receiver = c.self.inside.receiver } in
    did Moves rules (size_of c.args.self.now) Mrw c.write_control.new.out e now
    (turn_moves rules e.sender e.receiver (sym (c.if-status_due.ensures.due e.handed e.receiver here.receiver)) (sym (c.if-control_due.ensures.due rules e.sender here.sender))) (
      refl,
      c.write_control.ensures.mrw rules e.sender here.sender,
      record { rules_are = here.rules_are; sender = c.write_control.ensures.stands rules e.sender here.sender; receiver = here.receiver },
    )

pub returns-clause-history : goal.returns-clause-history
returns-clause-history c rules e is =
    let v : Running = record { sender = c.self.inside.sender; receiver = c.self.inside.receiver } in
    let here : Represents rules v e = subst (λ v. Represents rules v e) (sym c.self.view_is) is in
    let now : Running = record { sender = c.build.new.self; receiver = c.self.inside.receiver } in
    let some : is_due v ≡ true = subst (λ (x : Running). is_due x ≡ true) (sym c.self.view_is) c.requires.due in
    let due : gives rules e.sender ≡ true = sym (can_build_gives rules (room_in v.sender) v.sender.outgoing e.sender here.sender.outgoing) ∙ due_last (is_told v.receiver) (is_control_due v.sender) (can_send v.sender) some c.if-status_due.ensures.value c.if-control_due.ensures.value in
    did Sends rules (size_of c.args.self.now) Data c.build.new.out e now
    (turn_sends rules e.sender e.receiver (sym (c.if-status_due.ensures.due e.handed e.receiver here.receiver)) (sym (c.if-control_due.ensures.due rules e.sender here.sender)) due)
    (subst (λ (x : Running). Did Sends rules (size_of x) Data c.build.new.out e now) c.self.view_is (
      refl,
      (c.build.ensures.pdu rules e.sender here.sender, c.build.ensures.short rules e.sender here.sender),
      record { rules_are = here.rules_are; sender = c.build.ensures.stands rules e.sender here.sender; receiver = here.receiver },
    ))
