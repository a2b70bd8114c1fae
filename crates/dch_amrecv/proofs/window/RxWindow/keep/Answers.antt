use Rattle.std.proofs.Common.{◌≡◌, ◌<◌, ◌∙◌, false, arith, ap, sym}
use Rattle.circular_buffer.specs.Buffer.{buffer}
use Rattle.dch_am.specs.Contents.{body_in}
use Rattle.dch_pool.specs.Blocks.{spare_of}
use Rattle.dch_amrecv.specs.Places.{is_kept, put, with_ring}
use Rattle.dch_amrecv.proofs.Blocks.{kept_more, some_spare}
use Rattle.dch_amrecv.proofs.Seeing.{is_kept-seen}
use Rattle.dch_amrecv.proofs.window.RxWindow.keep.Goals as goal

pub put_at-requires-clause-vacant : goal.put_at-requires-clause-vacant
put_at-requires-clause-vacant c = sym (is_kept-seen c.self.inside.pool c.self.inside.ring.items c.args.i) ∙ (ap (λ w. is_kept w.ring.items c.args.i) c.self.view_is ∙ c.requires.vacant)

pub invariant_of-self : goal.invariant_of-self
invariant_of-self c =
    let vacant : is_kept c.self.inside.ring.items c.args.i ≡ false = sym (is_kept-seen c.self.inside.pool c.self.inside.ring.items c.args.i) ∙ (ap (λ w. is_kept w.ring.items c.args.i) c.self.view_is ∙ c.requires.vacant) in
    let place : c.args.i < c.self.inside.ring.capacity = omega (arith, c.requires.place, ap (λ w. w.ring.capacity) c.self.view_is) in
    rw (c.put_at.ensures.ring, c.put_at.ensures.pool)
    (kept_more c.self.inside.pool c.store.new.pool c.self.inside.ring.items c.args.i c.self.inside.ring.capacity c.in-Some.block c.args.body.now c.self.invariant c.in-Some.ensures vacant place).0

pub returns-in-Some : goal.returns-in-Some
returns-in-Some c =
    let vacant : is_kept c.self.inside.ring.items c.args.i ≡ false = sym (is_kept-seen c.self.inside.pool c.self.inside.ring.items c.args.i) ∙ (ap (λ w. is_kept w.ring.items c.args.i) c.self.view_is ∙ c.requires.vacant) in
    let place : c.args.i < c.self.inside.ring.capacity = omega (arith, c.requires.place, ap (λ w. w.ring.capacity) c.self.view_is) in
    rw (c.put_at.ensures.ring, c.put_at.ensures.pool)
    ((kept_more c.self.inside.pool c.store.new.pool c.self.inside.ring.items c.args.i c.self.inside.ring.capacity c.in-Some.block c.args.body.now c.self.invariant c.in-Some.ensures vacant place).1
    ∙ ap (λ w. with_ring (buffer (put c.args.i (body_in c.args.body.now) w.ring.items) w.ring.capacity) w) c.self.view_is)

pub returns-in_default : goal.returns-in_default
returns-in_default c =
    let vacant : is_kept c.self.inside.ring.items c.args.i ≡ false = sym (is_kept-seen c.self.inside.pool c.self.inside.ring.items c.args.i) ∙ (ap (λ w. is_kept w.ring.items c.args.i) c.self.view_is ∙ c.requires.vacant) in
    let some : 0 < spare_of c.self.inside.pool = some_spare c.self.inside.pool c.self.inside.ring.items c.args.i c.self.inside.ring.capacity c.self.invariant vacant (omega (arith, c.requires.place, ap (λ w. w.ring.capacity) c.self.view_is)) in
    let none : spare_of c.self.inside.pool ≡ 0 = c.in_default.ensures.0 in
    absurd (omega (arith, some, none))
