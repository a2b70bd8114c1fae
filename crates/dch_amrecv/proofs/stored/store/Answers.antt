use Rattle.std.proofs.Common.{◌≡◌, length, arith, ap, refl, ◌∙◌}
use Rattle.dch_pool.proofs.Lent.{IsLent-taken, size-Takes, size-written}
use Rattle.dch_amrecv.proofs.Storing.{length-indicators, lent_written, stores_is}
use Rattle.dch_amrecv.proofs.stored.store.Goals as goal

pub write-requires-2-clause-lent : goal.write-requires-2-clause-lent
write-requires-2-clause-lent c = lent_written _ _ _ _ _ _ c.write.ensures (IsLent-taken _ _ _ c.in_ok-block.ensures)

pub write-requires-2-clause-inside : goal.write-requires-2-clause-inside
write-requires-2-clause-inside c =
    let s0 : c.take.new.self.size ≡ c.args.pool.now.size = size-Takes _ _ _ c.in_ok-block.ensures in
    let s1 : c.write.new.self.size ≡ c.take.new.self.size = ap (λ p. p.size) c.write.ensures ∙ size-written _ _ _ _ in
    let indicators : length c.indicators-indicators.result.now ≡ length c.args.body.now.indicators = length-indicators c.indicators-indicators.result.now c.args.body.now.indicators c.indicators-indicators.ensures.indicators in
    omega (arith, s0, s1, indicators, c.requires.room)

pub write-requires-3-clause-lent : goal.write-requires-3-clause-lent
write-requires-3-clause-lent c = lent_written _ _ _ _ _ _ c.write-2.ensures (lent_written _ _ _ _ _ _ c.write.ensures (IsLent-taken _ _ _ c.in_ok-block.ensures))

pub write-requires-3-clause-inside : goal.write-requires-3-clause-inside
write-requires-3-clause-inside c =
    let s0 : c.take.new.self.size ≡ c.args.pool.now.size = size-Takes _ _ _ c.in_ok-block.ensures in
    let s1 : c.write.new.self.size ≡ c.take.new.self.size = ap (λ p. p.size) c.write.ensures ∙ size-written _ _ _ _ in
    let s2 : c.write-2.new.self.size ≡ c.write.new.self.size = ap (λ p. p.size) c.write-2.ensures ∙ size-written _ _ _ _ in
    let indicators : length c.indicators-indicators.result.now ≡ length c.args.body.now.indicators = length-indicators c.indicators-indicators.result.now c.args.body.now.indicators c.indicators-indicators.ensures.indicators in
    let octets : length c.octets-octets.result.now ≡ length c.args.body.now.octets = ap length c.octets-octets.ensures in
    omega (arith, s0, s1, s2, indicators, octets, c.requires.room)

pub returns : goal.returns
returns c =
    let indicators : length c.indicators-indicators.result.now ≡ length c.args.body.now.indicators = length-indicators c.indicators-indicators.result.now c.args.body.now.indicators c.indicators-indicators.ensures.indicators in
    let octets : length c.octets-octets.result.now ≡ length c.args.body.now.octets = ap length c.octets-octets.ensures in
    stores_is c.args.pool.now c.take.new.self c.write.new.self c.write-2.new.self c.write-3.new.self c.in_ok-block.block (length c.indicators-indicators.result.now) (length c.octets-octets.result.now) c.indicators-indicators.result.now c.octets-octets.result.now c.args.body.now
    c.in_ok-block.ensures c.write.ensures c.write-2.ensures c.write-3.ensures refl refl (omega (arith, indicators, octets, c.requires.small)) c.indicators-indicators.ensures.indicators c.octets-octets.ensures c.indicators-indicators.ensures.good
