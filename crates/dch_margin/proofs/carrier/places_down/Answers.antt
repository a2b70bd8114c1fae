use Rattle.std.proofs.Common.{◌≡◌, ◌<◌, ◌≤◌, ◌*◌, ◌∙◌, ℕ, arith, subst, sym}
use Rattle.dch_types.specs.Parts.{channel_at}
use Rattle.dch_frame.specs.Downlinks.{places_of}
use Rattle.dch_collision.proofs.FrameSizes.{some_frames}
use Rattle.dch_accept.proofs.TtiPlaces.{tti_room}
use Rattle.dch_margin.proofs.carrier.places_down.Goals as goal

room : (frames places : ℕ) → 0 < frames → frames * places ≤ 457920 → places ≤ 457920
room frames places some all = grind (arith)

pub returns-clause-room : goal.returns-clause-room
returns-clause-room c =
    let cells : c.cells.result ≡ places_of c.args.config.now c.args.i c.args.f = c.cells.ensures ∙ ((c.requires.plan.rows c.args.i c.requires.channel).matchings c.args.f c.requires.format).cells in
    subst (λ (n : ℕ). (channel_at c.args.config.now.side c.args.i).frames * n ≤ 457920) (sym cells) (tti_room c.args.config.now c.args.i c.args.f c.requires.good c.requires.channel c.requires.format)

pub returns-clause-few : goal.returns-clause-few
returns-clause-few c =
    let cells : c.cells.result ≡ places_of c.args.config.now c.args.i c.args.f = c.cells.ensures ∙ ((c.requires.plan.rows c.args.i c.requires.channel).matchings c.args.f c.requires.format).cells in
    let frames : ℕ = (channel_at c.args.config.now.side c.args.i).frames in
    omega (arith, cells, room frames (places_of c.args.config.now c.args.i c.args.f) (some_frames frames (c.requires.good.side.channels c.args.i c.requires.channel).frames) (tti_room c.args.config.now c.args.i c.args.f c.requires.good c.requires.channel c.requires.format))
