use Rattle.std.proofs.Common.{◌≤◌, ◌*◌, ℕ, arith, ap, sym, subst}
use Rattle.dch_types.specs.Parts.{channel_at}
use Rattle.dch_frame.specs.Patterns.{copies_below}
use Rattle.dch_frame.specs.declared.pattern.Pattern.{Pattern}
use Rattle.dch_frame.specs.Downlinks.{IsMatching, matching_at}
use Rattle.dch_accept.proofs.TtiPlaces.{tti_room}
use Rattle.dch_margin.proofs.counting.count_downlink.Goals as goal

pub count-requires-clause-few : goal.count-requires-clause-few
count-requires-clause-few c =
    let is : IsMatching c.args.config.now c.args.i c.args.f (matching_at c.args.plan.now c.args.i c.args.f) = (c.requires.plan.rows c.args.i c.requires.channel).matchings c.args.f c.requires.format in
    subst (λ (p : Pattern). copies_below p.kind p.len ≤ 460800) (sym c.pattern.ensures) (omega (arith, is.fits, ap (λ (n : ℕ). (channel_at c.args.config.now.side c.args.i).frames * n) is.cells, tti_room c.args.config.now c.args.i c.args.f c.requires.good c.requires.channel c.requires.format))
