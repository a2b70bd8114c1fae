use Rattle.std.proofs.Common.{[], ◌∷◌, Option, arith, refl, subst, inr}
use Rattle.std.specs.Borrow.{Bor}
use Rattle.dch_accept.specs.Blocks.{Held}
use Rattle.dch_indication.proofs.Telling.{told_one}
use Rattle.dch_node.specs.Lines.{Differs}
use Rattle.dch_steptext.proofs.Reporting.{few_one}
use Rattle.dch_steptext.proofs.Texts.{short_line}
use Rattle.dch_layer2.specs.Opening.{blocks_in}
use Rattle.dch_link.specs.Checks.{IsSublist}
use Rattle.dch_link.specs.Comparing.{good_of}
use Rattle.dch_ue.specs.Lending.{held_of}
use Rattle.dch_link.proofs.check.compare.Goals as goal

pub returns-then-not-is_sublist-clause-compared : goal.returns-then-not-is_sublist-clause-compared
returns-then-not-is_sublist-clause-compared g c = record {
  lines = Differs c.args.dir c.args.channel ∷ [];
  checked = inr (
    λ sub. (
        let is = c.is_sublist.ensures.1 (subst (λ (t : Option (Bor Held)). IsSublist (good_of (held_of t)) (blocks_in c.args.given.now)) c.in-Some.is sub) in
        let not = c.if-not-is_sublist.true in
        cc (is, not)
        ),
    refl,
  );
  tells = told_one g.U.Indications.shows c.args.user.now c.indicate.new.self (Differs c.args.dir c.args.channel) c.indicate.ensures;
}

pub returns-then-not-is_sublist-clause-few : goal.returns-then-not-is_sublist-clause-few
returns-then-not-is_sublist-clause-few g c =
    few_one g.U.Indications.shows 301 c.args.user.now c.indicate.new.self (Differs c.args.dir c.args.channel) c.indicate.ensures (omega (arith, short_line (Differs c.args.dir c.args.channel) (omega (arith, c.ranges.channel.fits))))
