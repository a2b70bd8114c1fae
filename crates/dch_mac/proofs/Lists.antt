-- Lists of eight numbers.
use Rattle.std.proofs.Common.{◌≡◌, ◌<◌, ◌≢◌, ◌+◌, ◌*◌, ℕ, List, [], ◌∷◌, false, get_or, set, length, ap, sym, ◌∙◌, arith, get_or-set_same, get_or-set_other}
use Rattle.std.specs.Prelude.{map}
use Rattle.std.specs.List.{range_with_len}
use Rattle.std.proofs.lemmas.List.{get_or-replicate, ext_get_or}
use Rattle.std.proofs.lemmas.List.FromFn.{get_or-map-range_with_len, length-map-range_with_len}
use Rattle.dch_mac.specs.Asked.{Asked}
use Rattle.dch_mac.specs.Best.{carried, carried_below}
use Rattle.dch_mac.specs.Table.{row_at}
use Rattle.dch_mac.specs.declared.row.Row.{Row}

-- a list of zeros
pub zero_at : (q : ℕ) → q < 8 → ◌≡◌ {A = ℕ} (get_or {A = ℕ} (0 ∷ 0 ∷ 0 ∷ 0 ∷ 0 ∷ 0 ∷ 0 ∷ 0 ∷ []) q 0) 0
zero_at q less = get_or-replicate 8 q 0 0 less

-- the list of bits carried, from its numbers
pub carried_is : (asked : Asked) (c : ℕ) (xs : List ℕ) → length xs ≡ 8
    → ((q : ℕ) → q < 8 → get_or xs q 0 ≡ carried_below asked c (q + 1) (length asked.side.channels)) → xs ≡ carried asked c
unfolding carried
carried_is asked c xs eight each =
    let bits : ℕ → ℕ = λ priority. carried_below asked c priority (length asked.side.channels) in
    ext_get_or 0 xs (map bits (range_with_len 1 8))
    (eight ∙ sym (length-map-range_with_len bits 1 8))
    (λ q inside. each q (omega arith) ∙ sym (get_or-map-range_with_len bits 1 8 q (q + 1) 0 (omega arith) (omega arith)))

-- a row that is written, and the others
pub row_here : (rows : List Row) (place i f : ℕ) (row : Row) → place ≡ i * 32 + f → place < length rows → row_at (set rows place row) i f ≡ row
row_here rows place i f row is inside =
    let none : Row = record { kept = false; found = false; idle = false; carried = []; bits = 0 } in
    ap (λ k. get_or (set rows place row) k none) (sym is) ∙ get_or-set_same rows place row none inside

pub row_elsewhere : (rows : List Row) (place i f : ℕ) (row : Row) → i * 32 + f ≢ place → row_at (set rows place row) i f ≡ row_at rows i f
row_elsewhere rows place i f row other = get_or-set_other rows place (i * 32 + f) row (record { kept = false; found = false; idle = false; carried = []; bits = 0 }) other
