use Rattle.std.proofs.Common.{◌≡◌, ◌+◌, ◌-◌, ◌<◌, ◌∙◌, arith, ap, length, subst, sym, true}
use Rattle.std.proofs.lemmas.Bool.{ltb-true}
use Rattle.dch_am.specs.Bodies.{is_left}
use Rattle.dch_am.specs.Building.{Again as Requested, New as Fresh, Last as Latest, choice}
use Rattle.dch_am.specs.Numbers.{has}
use Rattle.dch_am.specs.Sender.{vt_a, vt_s}
use Rattle.dch_amsend.specs.Outgoing.{IsLast, IsOutgoing, Outgoing, available_of, can_build}
use Rattle.dch_amsend.proofs.Counting.{last_is, last_not}
use Rattle.dch_amsend.proofs.Events.{again_goes, built_by, last_goes, none_goes, picked_again, picked_last}
use Rattle.dch_amsend.proofs.outgoing.Outgoing.build.Goals as goal

pub returns-in-Again-clause-history : goal.returns-in-Again-clause-history
returns-in-Again-clause-history c = λ rules d s is.
    let v : Outgoing = record { size = c.self.inside.size; line = c.self.inside.line; tx_buffer = c.self.inside.tx_buffer } in
    let here : IsOutgoing rules d v s = subst (λ x. IsOutgoing rules d x s) (sym c.self.view_is) is in
    let left : c.is_left.result ≡ is_left s.unsent = c.is_left.ensures.history d s here.tx_buffer in
    built_by rules d s c.again.new.out c.again.new.self (Requested (vt_a s + c.in-Again.place)) (c.in-Again.ensures.history rules s here.line left)
    (again_goes rules d c.args.self.now c.again.new.self s c.in-Again.place c.again.new.out (subst (λ (x : Outgoing). c.in-Again.place < length x.line.in_flight) c.self.view_is (picked_again c.is_left.result c.self.inside.line c.in-Again.place c.in-Again.ensures.place)) is c.again.ensures.after c.again.ensures.text)

pub returns-in-New-clause-history : goal.returns-in-New-clause-history
returns-in-New-clause-history c = λ rules d s is.
    let v : Outgoing = record { size = c.self.inside.size; line = c.self.inside.line; tx_buffer = c.self.inside.tx_buffer } in
    let here : IsOutgoing rules d v s = subst (λ x. IsOutgoing rules d x s) (sym c.self.view_is) is in
    let left : c.is_left.result ≡ is_left s.unsent = c.is_left.ensures.history d s here.tx_buffer in
    let chosen : Fresh ≡ choice rules s = c.in-New.ensures.history rules s here.line left in
    let all = c.anew.ensures.history rules d s is in
    built_by rules d s c.anew.new.out c.anew.new.self Fresh chosen (record { text = all.0; goes = all.1; short = all.2 })

pub returns-in-Last-clause-history : goal.returns-in-Last-clause-history
returns-in-Last-clause-history c = λ rules d s is.
    let v : Outgoing = record { size = c.self.inside.size; line = c.self.inside.line; tx_buffer = c.self.inside.tx_buffer } in
    let here : IsOutgoing rules d v s = subst (λ x. IsOutgoing rules d x s) (sym c.self.view_is) is in
    let left : c.is_left.result ≡ is_left s.unsent = c.is_left.ensures.history d s here.tx_buffer in
    let last : IsLast c.self.inside.line c.in-Last.place = picked_last c.is_left.result c.self.inside.line c.in-Last.place c.in-Last.ensures.place in
    let inside : c.in-Last.place < length c.self.inside.line.in_flight = omega (arith, last.place_is, last.some) in
    let number : vt_a s + c.in-Last.place ≡ vt_s s - 1 = ap (λ k. vt_a s + k) last.place_is ∙ last_is rules c.self.inside.line s last.some here.line in
    let none = ap (λ k. has (vt_a s + k) s.requested) last.place_is ∙ last_not rules c.self.inside.line s last.some last.none here.line in
    built_by rules d s c.last.new.out c.last.new.self (Latest (vt_a s + c.in-Last.place)) (c.in-Last.ensures.history rules s here.line left)
    (last_goes rules d c.args.self.now c.last.new.self s c.in-Last.place c.last.new.out (subst (λ (x : Outgoing). c.in-Last.place < length x.line.in_flight) c.self.view_is inside) number none is c.last.ensures.after c.last.ensures.text)

pub returns-in-NoPdu-clause-history : goal.returns-in-NoPdu-clause-history
returns-in-NoPdu-clause-history c = λ rules d s is.
    let v : Outgoing = record { size = c.self.inside.size; line = c.self.inside.line; tx_buffer = c.self.inside.tx_buffer } in
    let here : IsOutgoing rules d v s = subst (λ x. IsOutgoing rules d x s) (sym c.self.view_is) is in
    let left : c.is_left.result ≡ is_left s.unsent = c.is_left.ensures.history d s here.tx_buffer in
    absurd (none_goes rules d v s (ltb-true 0 (available_of v) (subst (λ x. can_build x ≡ true) (sym c.self.view_is) c.requires.due)) here (sym (c.in-NoPdu.ensures.history rules s here.line left)))

pub last-requires-clause-last : goal.last-requires-clause-last
last-requires-clause-last c = subst (λ (x : Outgoing). IsLast x.line c.in-Last.place) c.self.view_is (picked_last c.is_left.result c.self.inside.line c.in-Last.place c.in-Last.ensures.place)
