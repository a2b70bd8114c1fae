use Rattle.std.proofs.Common.{◌≡◌, ◌+◌, ◌∙◌, None, length, ap, ap₂, arith, drop, sym, length-drop}
use Rattle.circular_buffer.specs.Buffer.{buffer}
use Rattle.dch_am.specs.Contents.{body_in}
use Rattle.dch_amrecv.specs.Places.{front, is_kept, put}
use Rattle.dch_amrecv.proofs.Fronts.{front_le}
use Rattle.dch_amrecv.specs.Lines.{line, read_front, run_on, with_body}
use Rattle.dch_amrecv.proofs.Ordered.{Idle, drop_least, first_front, first_kept, idle_so, later_front, later_kept}
use Rattle.dch_amrecv.proofs.buffer.RxBuffer.keep.Goals as goal

pub keep-requires-clause-place : goal.keep-requires-clause-place
keep-requires-clause-place c =
    let idle : Idle c.self.inside.todo c.self.inside.window.ring c.self.inside.trim c.self.inside.units c.args.self.now.kept = idle_so c.self.inside.todo c.self.inside.window.ring c.self.inside.trim c.self.inside.units c.args.self.now.kept (ap (λ r. r.kept) c.self.view_is) c.self.invariant.1 c.self.invariant.2 c.requires.settled in
    omega (arith, c.requires.place, ap (λ k. k.capacity) idle.same)

pub keep-requires-clause-vacant : goal.keep-requires-clause-vacant
keep-requires-clause-vacant c =
    let idle : Idle c.self.inside.todo c.self.inside.window.ring c.self.inside.trim c.self.inside.units c.args.self.now.kept = idle_so c.self.inside.todo c.self.inside.window.ring c.self.inside.trim c.self.inside.units c.args.self.now.kept (ap (λ r. r.kept) c.self.view_is) c.self.invariant.1 c.self.invariant.2 c.requires.settled in
    ap (λ k. is_kept k.places c.args.i) idle.same ∙ c.requires.vacant

pub keep-requires-clause-room : goal.keep-requires-clause-room
keep-requires-clause-room c =
    omega (arith, c.requires.room, ap (λ r. r.pdu) c.self.view_is)

pub invariant_of-self : goal.invariant_of-self
invariant_of-self c =
    let idle : Idle c.self.inside.todo c.self.inside.window.ring c.self.inside.trim c.self.inside.units c.args.self.now.kept = idle_so c.self.inside.todo c.self.inside.window.ring c.self.inside.trim c.self.inside.units c.args.self.now.kept (ap (λ r. r.kept) c.self.view_is) c.self.invariant.1 c.self.invariant.2 c.requires.settled in
    rw c.keep.ensures (omega (arith, idle.none), λ e. idle.none, ap (λ k. front (drop k (put c.args.i (body_in c.args.body.now) c.self.inside.window.ring.items))) idle.none ∙ later_front c.args.i c.self.inside.window.ring.items (body_in c.args.body.now) c.if-i-gt0.true idle.gap)

pub returns-then-i-gt0-clause-count : goal.returns-then-i-gt0-clause-count
returns-then-i-gt0-clause-count c =
    let idle : Idle c.self.inside.todo c.self.inside.window.ring c.self.inside.trim c.self.inside.units c.args.self.now.kept = idle_so c.self.inside.todo c.self.inside.window.ring c.self.inside.trim c.self.inside.units c.args.self.now.kept (ap (λ r. r.kept) c.self.view_is) c.self.invariant.1 c.self.invariant.2 c.requires.settled in
    sym (later_front c.args.i c.self.inside.window.ring.items (body_in c.args.body.now) c.if-i-gt0.true idle.gap) ∙ ap (λ k. front (put c.args.i (body_in c.args.body.now) k.places)) idle.same

pub returns-then-i-gt0-clause-after : goal.returns-then-i-gt0-clause-after
returns-then-i-gt0-clause-after c =
    let idle : Idle c.self.inside.todo c.self.inside.window.ring c.self.inside.trim c.self.inside.units c.args.self.now.kept = idle_so c.self.inside.todo c.self.inside.window.ring c.self.inside.trim c.self.inside.units c.args.self.now.kept (ap (λ r. r.kept) c.self.view_is) c.self.invariant.1 c.self.invariant.2 c.requires.settled in
    ap₂ (λ k n. record { kept = k; pdu = n })
    (ap₂ (λ n b. read_front n (line b c.self.inside.trim c.self.inside.units)) idle.none (ap (λ w. w.ring) c.keep.ensures)
    ∙ (later_kept c.args.i c.self.inside.window.ring.items c.self.inside.window.ring.capacity (body_in c.args.body.now) c.self.inside.trim c.self.inside.units c.if-i-gt0.true idle.gap
    ∙ ap (λ k. run_on (with_body c.args.i (body_in c.args.body.now) k)) idle.same))
    (ap (λ w. w.pdu) c.keep.ensures ∙ ap (λ r. r.pdu) c.self.view_is)

pub read-requires-clause-settled : goal.read-requires-clause-settled
read-requires-clause-settled c =
    let idle : Idle c.self.inside.todo c.self.inside.window.ring c.self.inside.trim c.self.inside.units c.args.self.now.kept = idle_so c.self.inside.todo c.self.inside.window.ring c.self.inside.trim c.self.inside.units c.args.self.now.kept (ap (λ r. r.kept) c.self.view_is) c.self.invariant.1 c.self.invariant.2 c.requires.settled in
    idle.waiting

pub leave-requires : goal.leave-requires
leave-requires c =
    omega (arith, c.min.ensures, c.len.ensures.count)

pub overflow_add-result : goal.overflow_add-result
overflow_add-result c =
    let left : c.leave.new.self.ring ≡ buffer (drop 1 c.self.inside.window.ring.items) c.self.inside.window.ring.capacity = ap (λ w. w.ring) c.leave.ensures ∙ ap (λ xs. buffer xs c.self.inside.window.ring.capacity) (drop_least 1 c.min.result c.self.inside.window.ring.items (omega (arith, c.min.ensures, c.len.ensures.count))) in
    omega (arith, c.run_on-run.ensures.count, front_le c.leave.new.self.ring.items, ap (λ b. length b.items) left, length-drop 1 c.self.inside.window.ring.items, c.len.ensures.count)

pub invariant_of-self-2 : goal.invariant_of-self-2
invariant_of-self-2 c =
    (c.run_on-run.ensures.within, c.run_on-run.ensures.idle, c.run_on-run.ensures.gap)

pub returns-clause-count : goal.returns-clause-count
returns-clause-count c =
    let idle : Idle c.self.inside.todo c.self.inside.window.ring c.self.inside.trim c.self.inside.units c.args.self.now.kept = idle_so c.self.inside.todo c.self.inside.window.ring c.self.inside.trim c.self.inside.units c.args.self.now.kept (ap (λ r. r.kept) c.self.view_is) c.self.invariant.1 c.self.invariant.2 c.requires.settled in
    let left : c.leave.new.self.ring ≡ buffer (drop 1 c.self.inside.window.ring.items) c.self.inside.window.ring.capacity = ap (λ w. w.ring) c.leave.ensures ∙ ap (λ xs. buffer xs c.self.inside.window.ring.capacity) (drop_least 1 c.min.result c.self.inside.window.ring.items (omega (arith, c.min.ensures, c.len.ensures.count))) in
    let zero : 0 ≡ c.args.i = omega (arith, c.if-i-gt0.false) in
    ap (λ n. n + 1) (c.run_on-run.ensures.count ∙ ap (λ b. front b.items) left)
    ∙ (sym (first_front c.self.inside.window.ring.items (body_in c.args.body.now)) ∙ (ap (λ n. front (put n (body_in c.args.body.now) c.self.inside.window.ring.items)) zero ∙ ap (λ k. front (put c.args.i (body_in c.args.body.now) k.places)) idle.same))

pub returns-clause-after : goal.returns-clause-after
returns-clause-after c =
    let idle : Idle c.self.inside.todo c.self.inside.window.ring c.self.inside.trim c.self.inside.units c.args.self.now.kept = idle_so c.self.inside.todo c.self.inside.window.ring c.self.inside.trim c.self.inside.units c.args.self.now.kept (ap (λ r. r.kept) c.self.view_is) c.self.invariant.1 c.self.invariant.2 c.requires.settled in
    let left : c.leave.new.self.ring ≡ buffer (drop 1 c.self.inside.window.ring.items) c.self.inside.window.ring.capacity = ap (λ w. w.ring) c.leave.ensures ∙ ap (λ xs. buffer xs c.self.inside.window.ring.capacity) (drop_least 1 c.min.result c.self.inside.window.ring.items (omega (arith, c.min.ensures, c.len.ensures.count))) in
    let zero : 0 ≡ c.args.i = omega (arith, c.if-i-gt0.false) in
    ap₂ (λ k n. record { kept = k; pdu = n })
    (c.run_on-run.ensures.same
    ∙ (ap₂ (λ b u. read_front (front b.items) (line b None u)) left c.read.ensures
    ∙ (first_kept c.self.inside.window.ring.items c.self.inside.window.ring.capacity (body_in c.args.body.now) c.self.inside.trim c.self.inside.units
    ∙ (ap (λ n. run_on (with_body n (body_in c.args.body.now) (line c.self.inside.window.ring c.self.inside.trim c.self.inside.units))) zero
    ∙ ap (λ k. run_on (with_body c.args.i (body_in c.args.body.now) k)) idle.same))))
    (c.run_on-run.ensures.capacity.1 ∙ (ap (λ w. w.pdu) c.leave.ensures ∙ ap (λ r. r.pdu) c.self.view_is))
