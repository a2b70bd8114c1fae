use Rattle.std.proofs.Common.{◌≡◌, ◌+◌, ◌-◌, ◌*◌, ◌≤◌, ℕ, length, arith, ◌∙◌}
use Rattle.dch_inter.specs.Places.{second_of}
use Rattle.dch_inter.proofs.Rows.{second_of-below}
use Rattle.dch_frame.specs.Stages.{code_place}
use Rattle.dch_frame.proofs.Codes.{codes_more, code_room, length_code}
use Rattle.dch_frame.proofs.interleaver.gather_codes.Goals as goal

pub loop-code-preserved : goal.loop-code-preserved
unfolding code_place
loop-code-preserved g c =
    let len : ℕ = length c.args.places.now in
    let code : ℕ = c.loop-code.code in
    let room : (code + 1) * len ≤ length c.loop-code.out = omega (arith, code_room (length c.args.out.now) len code (omega arith)) in
    let long : length c.gather.new.out ≡ len = c.gather.auto.out ∙ length_code c.loop-code.out (code * len) len (omega (arith, room)) in
    codes_more (second_of len) c.args.from.now c.loop-code.out c.gather.new.out len code (code * len + len - code * len) (code * len + len - code * len) (omega arith) room (omega arith) (omega arith) (omega arith) long (second_of-below len) c.gather.ensures c.loop-code.invariant
