use Rattle.std.proofs.Common.{◌≡◌, ◌*◌, ◌<◌, ◌≤◌, ℕ, List, length, arith, ap, sym, ◌∙◌, subst}
use Rattle.std.proofs.lemmas.List.{length-take-le}
use Rattle.dch_bits.specs.declared.bit.Bit.{Bit}
use Rattle.dch_bits.specs.declared.bit.Vote.{Vote}
use Rattle.dch_types.specs.declared.channel.Coding.{Coding}
use Rattle.dch_types.specs.Lengths.{coded_block}
use Rattle.dch_coding.specs.Segments.{plan_of, filler_of}
use Rattle.dch_coding.specs.declared.cut.Plan.{Plan}
use Rattle.dch_coding.specs.Chain.{code_block}
use Rattle.dch_coding.specs.Ttis.{part}
use Rattle.dch_tti.specs.JoinedBits.{IsRead}
use Rattle.dch_tti.proofs.Blocks.{all_read, plan_short, plan_uncoded, plan_room}
use Rattle.dch_tti.proofs.decoder.decode_with.Goals as goal

pub returns-clause-read : goal.returns-clause-read
returns-clause-read c =
    let coding : Coding = c.args.coding in
    let votes : List Vote = c.args.votes.now in
    let plan : Plan = c.plan-plan.result in
    let blocks : List Bit = c.read_blocks.new.blocks in
    let joined : List Bit = c.join.new.out in
    let value : plan ≡ plan_of (length c.args.joined.now) coding = c.plan-plan.ensures.value in
    let same : plan ≡ plan_of (length joined) coding = value ∙ ap (λ n. plan_of n coding) (sym c.join.auto.out) in
    let room : plan.blocks * plan.size ≤ length c.args.blocks.now = omega (arith, plan_room plan (length c.args.joined.now) coding value, c.requires.coded, c.requires.short, c.requires.room) in
    let long : length blocks ≡ plan.blocks * plan.size = c.read_blocks.auto.blocks ∙ length-take-le (plan.blocks * plan.size) c.args.blocks.now room in
    subst (λ (plan : Plan). (r : ℕ) → r < plan.blocks → IsRead coding (part r (coded_block coding plan.size) votes) (filler_of plan r) (code_block plan joined r)) same
    (all_read coding plan votes blocks joined (plan_short plan (length c.args.joined.now) coding value) (plan_uncoded plan (length c.args.joined.now) coding value) long c.join.ensures.bits c.read_blocks.ensures.read)
