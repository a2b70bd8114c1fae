use Rattle.std.proofs.Common.{◌≡◌, ◌∙◌, Some, ap, sym}
use Rattle.dch_types.specs.Parts.{channel_at, side_of, channel_number}
use Rattle.dch_layer2.specs.Bearings.{channel_of, sizes_in}
use Rattle.dch_layer2.proofs.Fitting.{tm_opened}
use Rattle.dch_layer2.proofs.tm.TmBearer.open.Goals as goal

pub returns-in_ok-sender-in-Some : goal.returns-in_ok-sender-in-Some
returns-in_ok-sender-in-Some c =
    let e : channel_of c.args.accepted.now.config c.args.out c.args.bearer ≡ Some c.in-Some.channel = ap (channel_number c.args.out) (sym c.bearer_of-it.ensures.value) ∙ (sym c.channel.ensures ∙ c.in-Some.is) in
    let sizes : c.in_ok-sizes-in-Some.sizes ≡ sizes_in (channel_at (side_of c.args.accepted.now.config c.args.out) c.in-Some.channel).formats =
    c.in_ok-sizes-in-Some.ensures ∙ ap sizes_in (c.as_slice-formats.ensures ∙ ap (λ x. x.formats) c.channel-in-Some.ensures.value) in
    tm_opened c.args.accepted.now.config c.args.out c.args.into c.args.bearer c.in-Some.channel c.in_ok-sizes-in-Some.sizes c.in_ok-sender-in-Some.sender c.new-in-Some.result c.bearer_of-it.ensures.good c.requires.mode e sizes
    (ap (λ w. w.units) c.in_ok-sender-in-Some.ensures) (ap (λ w. w.buffer) c.in_ok-sender-in-Some.ensures ∙ ap (λ x. x.buffer) c.bearer_of-it.ensures.value) c.new-in-Some.ensures
