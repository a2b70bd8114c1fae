use Rattle.std.proofs.Common.{◌≡◌, ◌∙◌, ◌++◌, ℕ, List, ap₂, sym}
use Rattle.dch_margin.specs.Worst.{carriers_in, carriers_under, frame_places}
use Rattle.dch_margin.specs.declared.carrier.Carrier.{Carrier}
use Rattle.dch_margin.specs.declared.places.Place.{Place}
use Rattle.dch_margin.proofs.PlaceLists.{tti_places-more, tti_places-none}
use Rattle.dch_margin.proofs.places.places_of.Goals as goal

pub loop-n-init : goal.loop-n-init
loop-n-init c = c.new-places.ensures ∙ sym (tti_places-none (carriers_under (carriers_in c.args.direction) c.args.i c.args.f c.args.sequence.now) c.args.code.now c.args.from)

pub loop-n-preserved : goal.loop-n-preserved
loop-n-preserved c =
    let carriers : ℕ → Carrier = carriers_under (carriers_in c.args.direction) c.args.i c.args.f c.args.sequence.now in
    let grown : c.push_places.new.places ≡ c.loop-n.places ++ frame_places c.carrier_of-carrier.result c.args.code.now c.args.from = c.in_ok-push_places.ensures in
    grown ∙ ap₂ (λ (before : List Place) (carrier : Carrier). before ++ frame_places carrier c.args.code.now c.args.from) c.loop-n.invariant c.carrier_of-carrier.ensures.value
    ∙ sym (tti_places-more carriers c.args.code.now c.args.from c.loop-n.n)
