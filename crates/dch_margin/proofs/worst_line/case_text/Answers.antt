use Rattle.std.proofs.Common.{◌≡◌, ◌∙◌, ℕ, List, ap, length, slice_index, string_bytes, subst}
use Rattle.std.specs.Prelude.{IfOk, decimal, slice_index_or}
use Rattle.dch_margin.specs.Reports.{fields_text, listed, no_place, place_text}
use Rattle.dch_margin.specs.declared.places.Place.{Place}
use Rattle.dch_margin.proofs.worst_line.case_text.Goals as goal

pub returns : goal.returns
returns c =
    let worst = c.args.worst.now in
    let numbers : List ℕ → List ℕ = λ numbers. listed (λ n. decimal (slice_index numbers n)) (length numbers) in
    let cells : List Place → List ℕ = λ places. listed (λ n. place_text (slice_index_or places n no_place)) (length places) in
    let first : c.deref.result.now ≡ numbers worst.combinations = c.deref.ensures ∙ c.in_ok-combinations.ensures ∙ ap numbers c.as_slice.ensures in
    let second : c.deref-2.result.now ≡ cells worst.places = c.deref-2.ensures ∙ c.in_ok-places.ensures ∙ ap cells c.as_slice-2.ensures in
    subst (λ (a : List ℕ). IfOk c.fields_text.result (λ text. string_bytes text ≡ fields_text worst.cells worst.block a (cells worst.places))) first
    (subst (λ (b : List ℕ). IfOk c.fields_text.result (λ text. string_bytes text ≡ fields_text worst.cells worst.block c.deref.result.now b)) second c.fields_text.ensures)
