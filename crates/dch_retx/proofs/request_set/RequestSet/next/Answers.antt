use Rattle.std.proofs.Common.{◌≡◌, ◌+◌, ◌-◌, ◌%◌, ◌∙◌, arith, ap, sym}
use Rattle.dch_retx.specs.RequestSet.{is_in}
use Rattle.dch_retx.proofs.RequestSet.{found_before, found_here, found_none, none_joined}
use Rattle.dch_retx.proofs.request_set.RequestSet.next.Goals as goal

pub returns-then-rest-ne0-clause-before : goal.returns-then-rest-ne0-clause-before
returns-then-rest-ne0-clause-before c =
    none_joined c.args.self.now c.args.from c.loop-i.i c.min.result c.loop-i.invariant.before
    (λ j a b. ap (λ s. is_in s j) (sym c.self.view_is) ∙ found_before c.self.inside.words c.self.inside.first c.loop-i.i c.rest_at-rest.result c.zeros.result j (record { bits = c.rest_at-rest.ensures.bits; above = c.rest_at-rest.ensures.above }) c.zeros.ensures.here c.zeros.ensures.before a (omega arith))

pub returns-then-rest-ne0-clause-here : goal.returns-then-rest-ne0-clause-here
returns-then-rest-ne0-clause-here c =
    λ below.
    let first : c.min.result ≡ c.loop-i.i + c.zeros.result = omega arith in
    ap (λ j. is_in c.args.self.now j) first
    ∙ (ap (λ s. is_in s (c.loop-i.i + c.zeros.result)) (sym c.self.view_is)
    ∙ found_here c.self.inside.words c.self.inside.first c.loop-i.i c.rest_at-rest.result c.zeros.result (record { bits = c.rest_at-rest.ensures.bits; above = c.rest_at-rest.ensures.above }) c.zeros.ensures.here)

pub loop-i-preserved : goal.loop-i-preserved
loop-i-preserved c = record {
  from = omega arith;
  before = none_joined c.args.self.now c.args.from c.loop-i.i (c.loop-i.i + (64 - (c.self.inside.first + c.loop-i.i) % 64)) c.loop-i.invariant.before
      (λ j a b. ap (λ s. is_in s j) (sym c.self.view_is) ∙ found_none c.self.inside.words c.self.inside.first c.loop-i.i c.rest_at-rest.result j (record { bits = c.rest_at-rest.ensures.bits; above = c.rest_at-rest.ensures.above }) c.if-rest-ne0.false a b);
}
