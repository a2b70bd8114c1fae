use Rattle.std.proofs.Common.{◌≡◌, ◌∙◌, ℕ, List, ap, ap₂, max, sym}
use Rattle.dch_frame.specs.declared.downlink_plan.RateMatching.{RateMatching}
use Rattle.dch_frame.specs.Downlinks.{matching_at}
use Rattle.dch_accept.proofs.Rooms.{places-more, places-zero}
use Rattle.dch_accept.proofs.accepted.Accepted.most_places.Goals as goal

pub loop-f-init : goal.loop-f-init
loop-f-init c = sym (places-zero c.args.self.now.downlink c.args.channel)

pub loop-f-preserved : goal.loop-f-preserved
loop-f-preserved c =
    let i : ℕ = c.args.channel in
    let f : ℕ = c.loop-f.f in
    let plan : List (List RateMatching) = c.args.self.now.downlink in
    let cells : c.cells.result ≡ (matching_at plan i f).cells = c.cells.ensures ∙ ap (λ (plan : List (List RateMatching)). (matching_at plan i f).cells) c.downlink_plan.ensures.value in
    c.max-most.ensures ∙ ap₂ max c.loop-f.invariant cells ∙ sym (places-more plan i f)
