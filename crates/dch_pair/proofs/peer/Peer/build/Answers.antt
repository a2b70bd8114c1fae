use Rattle.std.proofs.Common.{◌≡◌, ◌+◌, ◌++◌, ◌∙◌, ℕ, List, false, ap, length, subst, sym}
use Rattle.dch_am.specs.Bodies.{Reading}
use Rattle.dch_am.specs.Entities.{turn, writes}
use Rattle.dch_amlaw.proofs.Short.{turn_same}
use Rattle.dch_pair.specs.Standing.{IsPeer, Peer, size_of, whole}
use Rattle.dch_pair.proofs.Peers.{Wrote, none_written, read_same, rests}
use Rattle.dch_pair.proofs.peer.Peer.build.Goals as goal

pub returns-then-not-is_due-clause-history : goal.returns-then-not-is_due-clause-history
returns-then-not-is_due-clause-history c rules earlier e is =
    let v : Peer = record { entity = c.self.inside.entity; accepted = c.self.inside.accepted; units = c.self.inside.units } in
    let here : IsPeer rules v earlier e = subst (λ v. IsPeer rules v earlier e) (sym c.self.view_is) is in
    let none : false ≡ writes (turn rules e.sender e.receiver) = c.if-not-is_due.ensures.answer rules e here.entity in (
      none,
      none_written (turn rules e.sender e.receiver) rules (size_of c.args.self.now) c.args.out.now e.sender e.receiver none,
      subst (IsPeer rules c.args.self.now earlier) (sym (rests (turn rules e.sender e.receiver) rules (size_of c.args.self.now) e none)) is,
    )

pub returns-clause-history : goal.returns-clause-history
returns-clause-history c rules earlier e is =
    let v : Peer = record { entity = c.self.inside.entity; accepted = c.self.inside.accepted; units = c.self.inside.units } in
    let here : IsPeer rules v earlier e = subst (λ v. IsPeer rules v earlier e) (sym c.self.view_is) is in
    let now : Peer = record { entity = c.build.new.self; accepted = c.self.inside.accepted; units = c.self.inside.units } in
    subst (λ (x : Peer). Wrote (turn rules e.sender e.receiver) rules (size_of x) c.build.new.out earlier e now) c.self.view_is (
      c.if-not-is_due.ensures.answer rules e here.entity,
      c.build.ensures.written rules e here.entity,
      record {
        entity = c.build.ensures.stands rules e here.entity;
        accepted = here.accepted ∙ ap (λ (us : List (List ℕ)). earlier.accepted + length us) (sym (turn_same (turn rules e.sender e.receiver) rules (size_of v) e.sender));
        units = here.units ∙ ap (λ (x : Reading). earlier.units ++ whole x.units) (sym (read_same (turn rules e.sender e.receiver) rules e.receiver));
      },
    )
