use Rattle.std.proofs.Common.{◌∙◌, arith, ap, sym, inl, inr}
use Rattle.std.proofs.lemmas.Bool.Decides.{eqb_tells}
use Rattle.dch_txframes.specs.Lending.{radio_of}
use Rattle.dch_link.proofs.hearing.lowest_radio.Goals as goal

pub returns-in-Some : goal.returns-in-Some
returns-in-Some c = λ arrives arrive. record {
  leg = c.loop-k.k;
  there = omega (arith, c.loop-k-test.true);
  is = sym (arrive c.loop-k.k c.index-legs-k.result (omega (arith, c.loop-k-test.true), c.index-legs-k.is)) ∙ sym c.radio.ensures ∙ ap radio_of c.in-Some.is;
  before = c.loop-k.invariant arrives arrive;
}

pub loop-k-preserved : goal.loop-k-preserved
loop-k-preserved c = λ arrives arrive j early. elim (eqb_tells j c.loop-k.k) [
  | inl same ↦ ap arrives same.1 ∙ sym (arrive c.loop-k.k c.index-legs-k.result (omega (arith, c.loop-k-test.true), c.index-legs-k.is)) ∙ sym c.radio.ensures ∙ ap radio_of c.in_default.is
  | inr other ↦ c.loop-k.invariant arrives arrive j (omega (arith, early, other.1))
]

pub returns : goal.returns
returns c = λ arrives arrive k inside. c.loop-k.invariant arrives arrive k (omega (arith, inside, c.loop-k-test.false))
