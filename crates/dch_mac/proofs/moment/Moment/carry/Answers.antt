use Rattle.std.proofs.Common.{◌≡◌, ◌<◌, ◌≢◌, ◌+◌, ◌-◌, ◌*◌, ℕ, List, length, get_or, set, arith, ap, get_or-set_other, get_or-set_same, ◌∙◌, refl, below_more}
use Rattle.dch_mac.specs.Offered.{given_by, waiting_above}
use Rattle.dch_mac.proofs.Sharing.{left_all, waiting_all}
use Rattle.dch_mac.proofs.Counting.{given_is, left_next}
use Rattle.dch_mac.proofs.moment.Moment.carry.Goals as goal

pub loop-q-init : goal.loop-q-init
loop-q-init c = record {
  left = omega (arith, left_all c.args.self.now c.args.i c.args.format.size);
  sums = λ q none. absurd (omega arith);
  small = λ q none. absurd (omega arith);
}

other_place : (xs : List ℕ) (q k v : ℕ) → k ≢ q → get_or (set xs q v) k 0 ≡ get_or xs k 0
other_place xs q k v other = rw get_or-set_other refl

pub loop-q-preserved : goal.loop-q-preserved
loop-q-preserved c =
    let q : ℕ = c.loop-q.q in
    let next : ℕ = c.bits.result in
    let waits = c.counts-counts.ensures.counts q c.loop-q-test.true in
    let gives = given_is c.args.self.now c.args.i c.args.format q c.loop-q.left (get_or c.counts-counts.result q 0) c.min-blocks.result c.counts-counts.ensures.asked c.loop-q.invariant.left waits c.min-blocks.ensures in
    let bits : c.bits.result ≡ given_by c.args.self.now c.args.i c.args.format (q + 1) * c.args.format.size = c.bits.ensures.value ∙ ap (λ t. t * c.args.format.size) gives in
    let there : q < length c.loop-q.carried = omega arith in
    let here : get_or (set c.loop-q.carried q next) q 0 ≡ next = get_or-set_same c.loop-q.carried q next 0 there in
    record {
      left = left_next c.args.self.now c.args.i c.args.format q c.loop-q.left (get_or c.counts-counts.result q 0) c.min-blocks.result c.loop-q.invariant.left waits c.min-blocks.ensures;
      sums = below_more _ _ (λ k less. other_place c.loop-q.carried q k next (omega arith) ∙ c.loop-q.invariant.sums k less) (here ∙ bits);
      small = below_more _ _ (λ k less. omega (arith, other_place c.loop-q.carried q k next (omega arith), c.loop-q.invariant.small k less)) (omega (arith, here, c.bits.ensures.small));
    }

pub returns-clause-missing : goal.returns-clause-missing
returns-clause-missing c =
    let all : c.loop-q.q ≡ 8 = omega arith in
    c.loop-q.invariant.left
    ∙ ap (λ q. c.args.format.number - waiting_above c.args.self.now c.args.i c.args.format.size q) all
    ∙ ap (λ blocks. c.args.format.number - blocks) (waiting_all c.args.self.now c.args.i c.args.format.size c.counts-counts.ensures.asked)
