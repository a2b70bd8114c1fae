use Rattle.std.proofs.Common.{◌≡◌, ◌+◌, ℕ, suc, arith, subst}
use Rattle.dch_gen.specs.Run.{HappenAll}
use Rattle.dch_gen.specs.Sizes.{size_of}
use Rattle.dch_gen.specs.Generators.{Advances}
use Rattle.dch_gen.specs.Units.{offered_below, offers}
use Rattle.dch_gen.proofs.Advancing.{advances_events, may_less}
use Rattle.dch_gen.proofs.generator.Generator.offer.Goals as goal

pub offer_unit-requires-clause-room : goal.offer_unit-requires-clause-room
offer_unit-requires-clause-room c = c.loop-bearer.invariant.counts 1 (may_less c.args.self.now (c.loop-bearer.bearer + 1) 6 (omega arith) c.requires.room)

pub loop-bearer-preserved : goal.loop-bearer-preserved
loop-bearer-preserved c =
    let b : ℕ = c.loop-bearer.bearer in
    let next : suc b ≡ b + 1 = omega arith in
    let both : Advances (b + 1) (HappenAll (offered_below c.args.frames c.args.frame c.args.dir (suc b))) c.args.self.now c.offer_unit.new.self =
    advances_events b 1 (offered_below c.args.frames c.args.frame c.args.dir b) (offers c.args.frame c.args.dir b (size_of c.args.frames c.args.frame b)) c.args.self.now c.loop-bearer.self c.offer_unit.new.self c.loop-bearer.invariant c.offer_unit.ensures in
    subst (λ (k : ℕ). Advances (b + 1) (HappenAll (offered_below c.args.frames c.args.frame c.args.dir k)) c.args.self.now c.offer_unit.new.self) next both

pub returns : goal.returns
returns c =
    let all : c.loop-bearer.bearer ≡ 6 = omega arith in
    subst (λ (k : ℕ). Advances k (HappenAll (offered_below c.args.frames c.args.frame c.args.dir k)) c.args.self.now c.loop-bearer.self) all c.loop-bearer.invariant
