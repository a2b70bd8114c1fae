use Rattle.std.proofs.Common.{◌≡◌, ◌+◌, ◌-◌, ◌∙◌, ℕ, List, ap, ap₂, arith, cond, drop, length, subst, sym}
use Rattle.std.specs.Prelude.{◌%◌}
use Rattle.circular_buffer.specs.Buffer.{Buffer}
use Rattle.dch_sar.specs.Filling.{IsCarried}
use Rattle.dch_am.specs.Bodies.{joined}
use Rattle.dch_txbuf.specs.declared.taken.Start.{Start}
use Rattle.dch_txbuf.specs.Cuts.{is_padded, left_at, indicators_with, octets_of}
use Rattle.dch_rlcpdu.specs.Um.{um_pdu}
use Rattle.dch_rlcum.specs.Queue.{IsQueue, units_at}
use Rattle.dch_rlcum.specs.Sending.{Sending, after_build, carried_by, pdu_of, room_of}
use Rattle.dch_rlcum.proofs.Cutting.{most_are}
use Rattle.dch_rlcum.proofs.Placing.{IsMoved, byte_is, leaves_few, advanced, ready}
use Rattle.dch_rlcum.proofs.send.UmSend.write_next.Goals as goal

pub write_um_taken-requires-clause-there : goal.write_um_taken-requires-clause-there
write_um_taken-requires-clause-there c =
    let r = ready c.self.inside.pdu c.self.inside.mark_start c.self.inside.sdus.items c.self.inside.start c.self.inside.owed c.lead-lead.result c.next_cut-cut.result c.from.result c.self.invariant.1.from c.self.invariant.0.place c.lead-lead.ensures.lead c.lead-lead.ensures.few (c.from.ensures ∙ (byte_is c.is_some.result ∙ ap (λ b. cond {A = ℕ} b 1 0) c.is_some.ensures)) c.next_cut-cut.ensures.cut in
    r.there

pub write_um_taken-requires-clause-few : goal.write_um_taken-requires-clause-few
write_um_taken-requires-clause-few c =
    let r = ready c.self.inside.pdu c.self.inside.mark_start c.self.inside.sdus.items c.self.inside.start c.self.inside.owed c.lead-lead.result c.next_cut-cut.result c.from.result c.self.invariant.1.from c.self.invariant.0.place c.lead-lead.ensures.lead c.lead-lead.ensures.few (c.from.ensures ∙ (byte_is c.is_some.result ∙ ap (λ b. cond {A = ℕ} b 1 0) c.is_some.ensures)) c.next_cut-cut.ensures.cut in
    omega (arith, r.taken.few, c.requires.size, ap (λ (s : Sending). s.pdu) c.self.view_is)

pub write_um_taken-requires-clause-padded : goal.write_um_taken-requires-clause-padded
write_um_taken-requires-clause-padded c =
    let r = ready c.self.inside.pdu c.self.inside.mark_start c.self.inside.sdus.items c.self.inside.start c.self.inside.owed c.lead-lead.result c.next_cut-cut.result c.from.result c.self.invariant.1.from c.self.invariant.0.place c.lead-lead.ensures.lead c.lead-lead.ensures.few (c.from.ensures ∙ (byte_is c.is_some.result ∙ ap (λ b. cond {A = ℕ} b 1 0) c.is_some.ensures)) c.next_cut-cut.ensures.cut in
    let size : c.self.inside.pdu ≡ length c.args.out.now = sym (c.requires.size ∙ sym (ap (λ (s : Sending). s.pdu) c.self.view_is)) in
    r.padded ∙ ap (λ n. is_padded (n - 1) c.lead-lead.result c.next_cut-cut.result (left_at c.self.inside.start c.self.inside.sdus.items)) size

pub release-requires : goal.release-requires
release-requires c =
    let r = ready c.self.inside.pdu c.self.inside.mark_start c.self.inside.sdus.items c.self.inside.start c.self.inside.owed c.lead-lead.result c.next_cut-cut.result c.from.result c.self.invariant.1.from c.self.invariant.0.place c.lead-lead.ensures.lead c.lead-lead.ensures.few (c.from.ensures ∙ (byte_is c.is_some.result ∙ ap (λ b. cond {A = ℕ} b 1 0) c.is_some.ensures)) c.next_cut-cut.ensures.cut in
    omega (arith, ap (λ (a : Start). a.sdu) c.next_start-next.ensures, leaves_few c.self.inside.sdus.items c.self.inside.start c.next_cut-cut.result c.from-ahead.result r.taken.place)

pub invariant_of-self : goal.invariant_of-self
invariant_of-self c =
    let r = ready c.self.inside.pdu c.self.inside.mark_start c.self.inside.sdus.items c.self.inside.start c.self.inside.owed c.lead-lead.result c.next_cut-cut.result c.from.result c.self.invariant.1.from c.self.invariant.0.place c.lead-lead.ensures.lead c.lead-lead.ensures.few (c.from.ensures ∙ (byte_is c.is_some.result ∙ ap (λ b. cond {A = ℕ} b 1 0) c.is_some.ensures)) c.next_cut-cut.ensures.cut in
    let m : IsMoved c.self.inside.pdu c.self.inside.mark_start c.self.inside.sdus.items c.self.inside.start c.self.inside.owed c.next_cut-cut.result (c.next_start-next.result.sdu - c.from-ahead.result) c.from-ahead.result = advanced c.self.inside.pdu c.self.inside.mark_start c.self.inside.sdus.items c.self.inside.start c.self.inside.owed c.lead-lead.result c.next_cut-cut.result (c.next_start-next.result.sdu - c.from-ahead.result) c.from-ahead.result r.taken (c.from-ahead.ensures ∙ byte_is c.next_cut-cut.result.owed) (ap (λ (a : Start). a.sdu - c.from-ahead.result) c.next_start-next.ensures) in (
      subst (λ (b : Buffer (List ℕ)). IsQueue b.items (record { sdu = c.from-ahead.result; used = c.next_start-next.result.used }) c.next_cut-cut.result.owed) (sym c.release.ensures)
          (subst (λ (a : Start). IsQueue (drop (c.next_start-next.result.sdu - c.from-ahead.result) c.self.inside.sdus.items) (record { sdu = c.from-ahead.result; used = a.used }) c.next_cut-cut.result.owed) (sym c.next_start-next.ensures) m.queue),
      record { number = omega arith; from = c.self.invariant.1.from; most = c.self.invariant.1.most },
    )

pub returns-clause-text : goal.returns-clause-text
returns-clause-text c =
    let r = ready c.self.inside.pdu c.self.inside.mark_start c.self.inside.sdus.items c.self.inside.start c.self.inside.owed c.lead-lead.result c.next_cut-cut.result c.from.result c.self.invariant.1.from c.self.invariant.0.place c.lead-lead.ensures.lead c.lead-lead.ensures.few (c.from.ensures ∙ (byte_is c.is_some.result ∙ ap (λ b. cond {A = ℕ} b 1 0) c.is_some.ensures)) c.next_cut-cut.ensures.cut in
    let size : length c.args.out.now ≡ c.self.inside.pdu = c.requires.size ∙ sym (ap (λ (s : Sending). s.pdu) c.self.view_is) in
    let us = left_at c.self.inside.start c.self.inside.sdus.items in
    c.write_um_taken.ensures
    ∙ (ap (λ n. um_pdu c.self.inside.number (indicators_with c.lead-lead.result (n - 1) c.next_cut-cut.result us) (octets_of c.next_cut-cut.result us) n) size
    ∙ (ap₂ (λ ms xs. um_pdu c.self.inside.number ms xs c.self.inside.pdu) r.taken.indicators r.taken.octets ∙ ap pdu_of c.self.view_is))

pub returns-clause-after : goal.returns-clause-after
returns-clause-after c =
    let r = ready c.self.inside.pdu c.self.inside.mark_start c.self.inside.sdus.items c.self.inside.start c.self.inside.owed c.lead-lead.result c.next_cut-cut.result c.from.result c.self.invariant.1.from c.self.invariant.0.place c.lead-lead.ensures.lead c.lead-lead.ensures.few (c.from.ensures ∙ (byte_is c.is_some.result ∙ ap (λ b. cond {A = ℕ} b 1 0) c.is_some.ensures)) c.next_cut-cut.ensures.cut in
    let m : IsMoved c.self.inside.pdu c.self.inside.mark_start c.self.inside.sdus.items c.self.inside.start c.self.inside.owed c.next_cut-cut.result (c.next_start-next.result.sdu - c.from-ahead.result) c.from-ahead.result = advanced c.self.inside.pdu c.self.inside.mark_start c.self.inside.sdus.items c.self.inside.start c.self.inside.owed c.lead-lead.result c.next_cut-cut.result (c.next_start-next.result.sdu - c.from-ahead.result) c.from-ahead.result r.taken (c.from-ahead.ensures ∙ byte_is c.next_cut-cut.result.owed) (ap (λ (a : Start). a.sdu - c.from-ahead.result) c.next_start-next.ensures) in
    ap (λ (b : Buffer (List ℕ)). record { units = units_at b.items (record { sdu = c.from-ahead.result; used = c.next_start-next.result.used }) c.next_cut-cut.result.owed; row = joined (left_at (record { sdu = c.from-ahead.result; used = c.next_start-next.result.used }) b.items); number = (c.self.inside.number + 1) % 128; pdu = c.self.inside.pdu; buffer = b.capacity; mark_start = c.self.inside.mark_start }) c.release.ensures
    ∙ (ap (λ (a : Start). record { units = units_at (drop (c.next_start-next.result.sdu - c.from-ahead.result) c.self.inside.sdus.items) (record { sdu = c.from-ahead.result; used = a.used }) c.next_cut-cut.result.owed; row = joined (left_at (record { sdu = c.from-ahead.result; used = a.used }) (drop (c.next_start-next.result.sdu - c.from-ahead.result) c.self.inside.sdus.items)); number = (c.self.inside.number + 1) % 128; pdu = c.self.inside.pdu; buffer = c.self.inside.sdus.capacity; mark_start = c.self.inside.mark_start }) c.next_start-next.ensures
    ∙ (ap₂ (λ u xs. record { units = u; row = xs; number = (c.self.inside.number + 1) % 128; pdu = c.self.inside.pdu; buffer = c.self.inside.sdus.capacity; mark_start = c.self.inside.mark_start }) m.units m.row
    ∙ ap after_build c.self.view_is))

pub returns-clause-most : goal.returns-clause-most
returns-clause-most c = subst (λ (s : Sending). IsCarried (room_of s.pdu s.mark_start s.units) 0 s.units.lengths (carried_by s)) c.self.view_is
    (most_are (room_of c.self.inside.pdu c.self.inside.mark_start (units_at c.self.inside.sdus.items c.self.inside.start c.self.inside.owed)) (left_at c.self.inside.start c.self.inside.sdus.items) c.self.invariant.0.place.left)
