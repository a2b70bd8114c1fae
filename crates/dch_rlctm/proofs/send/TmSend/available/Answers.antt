use Rattle.std.proofs.Common.{◌∙◌, sym}
use Rattle.dch_rlctm.proofs.Cuts.{counted, counted_all, front-cut, stops}
use Rattle.dch_rlctm.proofs.send.TmSend.available.Goals as goal

pub returns-then-ne : goal.returns-then-ne
returns-then-ne c = rw (← c.self.view_is) (sym (front-cut _ _ _ _ (sym c.front.ensures ∙ (sym c.copied.ensures ∙ c.in-Some.is)) c.self.invariant.0.whole (counted _ _ _ c.loop-k-test.true c.loop-k.invariant (stops c.self.inside.sizes.items c.in-Some.first c.loop-k.k _ (c.copied-in-loop-k.ensures ∙ c.get.ensures) (sym c.ne.ensures ∙ c.if-ne.true)))))

pub returns : goal.returns
returns c = rw (← c.self.view_is) (sym (front-cut _ _ _ _ (sym c.front.ensures ∙ (sym c.copied.ensures ∙ c.in-Some.is)) c.self.invariant.0.whole (counted_all _ _ _ c.loop-k-test.false c.loop-k.invariant)))
