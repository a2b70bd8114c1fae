use Rattle.std.proofs.Common.{◌≡◌, ◌++◌, ◌∙◌, ℕ, List, ap, string_bytes, sym}
use Rattle.std.specs.Prelude.{slice_index_or}
use Rattle.dch_margin.specs.Reports.{comma, no_place, place_text}
use Rattle.dch_margin.proofs.Listed.{listed-none, part_listed}
use Rattle.dch_margin.proofs.worst_line.places_text.Goals as goal

pub loop-n-init : goal.loop-n-init
loop-n-init c = c.new-text.ensures.bytes ∙ sym (listed-none (λ n. place_text (slice_index_or c.args.places.now n no_place)))

pub loop-n-preserved : goal.loop-n-preserved
loop-n-preserved c =
    let part : ℕ → List ℕ = λ n. place_text (slice_index_or c.args.places.now n no_place) in
    let one : string_bytes c.in_ok-more.more ≡ comma c.loop-n.n ++ part c.loop-n.n =
    c.in_ok-more.ensures ∙ ap (λ (front : List ℕ). front ++ part c.loop-n.n) c.comma-comma.ensures in
    part_listed part c.loop-n.n (string_bytes c.loop-n.text) (string_bytes c.in_ok-more.more) (string_bytes c.push_str.new.self) c.loop-n.invariant one
    (c.in_ok-push_str.ensures.bytes ∙ ap (λ (more : List ℕ). string_bytes c.loop-n.text ++ more) c.deref.ensures)
