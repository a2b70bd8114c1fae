use Rattle.std.proofs.Common.{◌≡◌, ◌∙◌, [], ◌∷◌, ◌++◌, Option, ℕ, Bool, List, ap, append-nil, sym}
use Rattle.std.specs.Prelude.{if◌then◌else◌}
use Rattle.dch_margin.specs.Carriers.{carried}
use Rattle.dch_margin.specs.Worst.{is_one}
use Rattle.dch_margin.specs.declared.places.Place.{Place}
use Rattle.dch_margin.proofs.PlaceLists.{cell_pushed, cells_among-none}
use Rattle.dch_margin.proofs.places.push_places.Goals as goal

pub loop-k-init : goal.loop-k-init
loop-k-init c =
    let test : ℕ → Bool = λ k. is_one c.args.code.now c.args.from (carried c.args.carrier.now k) in
    sym (append-nil c.args.places.now) ∙ ap (λ (list : List Place). c.args.places.now ++ list) (sym (cells_among-none test c.args.carrier.now.number))

pub loop-k-preserved : goal.loop-k-preserved
loop-k-preserved c =
    let test : ℕ → Bool = λ k. is_one c.args.code.now c.args.from (carried c.args.carrier.now k) in
    let place : Place = record { frame = c.args.carrier.now.number; cell = c.loop-k.k } in
    let wanted : c.is_one.result ≡ test c.loop-k.k = c.is_one.ensures ∙ ap (λ (bit : Option ℕ). is_one c.args.code.now c.args.from bit) c.carried-bit.ensures in
    let grown : c.push_place.new.places ≡ (if c.is_one.result then c.loop-k.places ++ place ∷ [] else c.loop-k.places) = c.in_ok-push_place.ensures in
    cell_pushed test c.args.carrier.now.number c.loop-k.k c.args.places.now c.loop-k.places c.push_place.new.places c.loop-k.invariant
    (grown ∙ ap (λ (wanted : Bool). if wanted then c.loop-k.places ++ place ∷ [] else c.loop-k.places) wanted)
