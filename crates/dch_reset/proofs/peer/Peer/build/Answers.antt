use Rattle.std.proofs.Common.{◌≡◌, ◌∙◌, refl, subst, sym}
use Rattle.dch_reset.specs.History.{state_of}
use Rattle.dch_reset.specs.Standing.{Represents}
use Rattle.dch_reset.specs.State.{IsWritten, after_turn, turn}
use Rattle.dch_reset.proofs.Calls.{IsBuilt, built_is}
use Rattle.dch_reset.specs.Ends.{builds}
use Rattle.dch_reset.specs.RunStanding.{IsPeer, Peer}
use Rattle.dch_reset.proofs.Peers.{built_keeps, peer_keeps, rests_by}
use Rattle.dch_reset.proofs.Texts.{written_read}
use Rattle.dch_reset.proofs.peer.Peer.build.Goals as goal

pub returns-then-not-due-clause-due : goal.returns-then-not-due-clause-due
returns-then-not-due-clause-due c rules e is =
    let v : Peer = record { end = c.self.inside.end; accepted = c.self.inside.accepted; units = c.self.inside.units } in
    let here : IsPeer rules v e = subst (λ v. IsPeer rules v e) (sym c.self.view_is) is in
    c.if-not-due.ensures.answer rules (state_of e) here.end ∙ sym (built_is rules e e.owes e.pending refl).some

pub returns-then-not-due-clause-history : goal.returns-then-not-due-clause-history
returns-then-not-due-clause-history c rules e is =
    let v : Peer = record { end = c.self.inside.end; accepted = c.self.inside.accepted; units = c.self.inside.units } in
    let here : IsPeer rules v e = subst (λ v. IsPeer rules v e) (sym c.self.view_is) is in
    let b : IsBuilt rules e (builds rules e) (turn rules (state_of e)) = built_is rules e e.owes e.pending refl in
    let same : state_of (builds rules e).after ≡ state_of e = b.state ∙ rests_by rules e.sides.octets (state_of e) e.owes e.pending (c.if-not-due.ensures.answer rules (state_of e) here.end) in
    peer_keeps rules c.args.self.now c.args.self.now e (builds rules e).after is (built_keeps rules e e.owes e.pending) (subst (Represents rules c.args.self.now.end) (sym same) is.end) refl refl refl

pub returns-clause-due : goal.returns-clause-due
returns-clause-due c rules e is =
    let v : Peer = record { end = c.self.inside.end; accepted = c.self.inside.accepted; units = c.self.inside.units } in
    let here : IsPeer rules v e = subst (λ v. IsPeer rules v e) (sym c.self.view_is) is in
    c.if-not-due.ensures.answer rules (state_of e) here.end ∙ sym (built_is rules e e.owes e.pending refl).some

pub returns-clause-sent : goal.returns-clause-sent
returns-clause-sent c rules e is some =
    let v : Peer = record { end = c.self.inside.end; accepted = c.self.inside.accepted; units = c.self.inside.units } in
    let here : IsPeer rules v e = subst (λ v. IsPeer rules v e) (sym c.self.view_is) is in
    written_read rules e e.owes e.pending c.build.new.out here.most refl (c.if-not-due.ensures.answer rules (state_of e) here.end)
    (subst (λ n. IsWritten (turn rules (state_of e)) rules n c.build.new.out (state_of e)) here.size (c.build.ensures.written rules (state_of e) here.end))

pub returns-clause-history : goal.returns-clause-history
returns-clause-history c rules e is =
    let v : Peer = record { end = c.self.inside.end; accepted = c.self.inside.accepted; units = c.self.inside.units } in
    let here : IsPeer rules v e = subst (λ v. IsPeer rules v e) (sym c.self.view_is) is in
    let now : Peer = record { end = c.build.new.self; accepted = c.self.inside.accepted; units = c.self.inside.units } in
    let b : IsBuilt rules e (builds rules e) (turn rules (state_of e)) = built_is rules e e.owes e.pending refl in
    peer_keeps rules v now e (builds rules e).after here (built_keeps rules e e.owes e.pending)
    (subst (Represents rules c.build.new.self) (sym b.state)
    (subst (λ n. Represents rules c.build.new.self (after_turn (turn rules (state_of e)) rules n (state_of e))) here.size (c.build.ensures.stands rules (state_of e) here.end)))
    c.build.ensures.same.sizes.out refl refl
