-- What arrives by the tables is what arrives after the damage that waits in them.
use Rattle.std.proofs.Common.{◌≡◌, ◌∙◌, ℕ, zero, suc, List, true, false, get_or, length, arith, ap, refl}
use Rattle.std.specs.Prelude.{Option, Some, None, bit_xor, replicate, slice_index}
use Rattle.dch_bits.specs.declared.bit.Bit.{Bit}
use Rattle.dch_bits.specs.declared.bit.Bit.TheVariants.{Zero, One}
use Rattle.dch_bits.specs.declared.bit.Trit.{Trit}
use Rattle.dch_bits.specs.declared.bit.Trit.TheVariants.{Zero as ZeroCell, One as OneCell, Off}
use Rattle.dch_types.specs.declared.channel.Dir.{Dir}
use Rattle.dch_node.specs.Values.{Radio}
use Rattle.dch_damage.specs.Damage.{Damage, each_changed, flips, iub_after, mask_on, radio_after}
use Rattle.dch_damage.specs.Opened.{IsIubWithin, IsWithinIf}
use Rattle.dch_damage.specs.Tables.{IubTables, RadioTables, iub_through, radio_through}
use Rattle.dch_damage.specs.Turns.{bit_after, cell_after, next_turned, other_bit, other_cell, turned_bit, turned_cell, turned_of}
use Rattle.dch_damage.specs.Waiting.{IubWaits, RadioWaits}
use Rattle.dch_damage.specs.declared.turned.Turned.{Turned}
use Rattle.dch_damage.specs.declared.turned.Turned.TheVariants.{Not, Odd, Even}
use Rattle.dch_damage.proofs.Changed.{changed_same, untouched_masks, untouched_turns}

bit_once_more : (turned : Turned) (bit : Bit) → bit_after (next_turned turned) bit ≡ other_bit (bit_after turned bit)
bit_once_more Not bit = refl
bit_once_more Odd Zero = refl
bit_once_more Odd One = refl
bit_once_more Even bit = refl

-- a bit is turned as what is kept of its turns says
bit_turned : (n : ℕ) (bit : Bit) → bit_after (turned_of n) bit ≡ turned_bit n bit
bit_turned zero bit = refl
bit_turned (suc n) bit = bit_once_more (turned_of n) bit ∙ ap other_bit (bit_turned n bit)

cell_once_more : (turned : Turned) (cell : Trit) → cell_after (next_turned turned) cell ≡ other_cell (cell_after turned cell)
cell_once_more Not cell = refl
cell_once_more Odd cell = refl
cell_once_more Even ZeroCell = refl
cell_once_more Even OneCell = refl
cell_once_more Even Off = refl

-- and a cell
cell_turned : (n : ℕ) (cell : Trit) → cell_after (turned_of n) cell ≡ turned_cell n cell
cell_turned zero cell = refl
cell_turned (suc n) cell = cell_once_more (turned_of n) cell ∙ ap other_cell (cell_turned n cell)

-- a radio frame arrives as it was sent where no turn is kept
pub radio_as_sent : (tables : RadioTables) (radio : Option Radio) → tables.lost ≡ false → tables.tfci ≡ replicate (length tables.tfci) Not
    → tables.cells ≡ replicate (length tables.cells) Not → IsWithinIf tables radio → radio ≡ radio_through tables radio
radio_as_sent tables None kept no_tfci no_cells within = refl
radio_as_sent tables (Some radio) kept no_tfci no_cells within =
    let tfci = untouched_turns bit_after tables.tfci radio.tfci (λ x. refl) no_tfci within.tfci in
    let cells = untouched_turns cell_after tables.cells radio.cells (λ x. refl) no_cells within.cells in
    rw (kept, ← tfci, ← cells) refl

-- and an Iub frame where no mask is
pub iub_as_sent : (tables : IubTables) (octets : Option (List ℕ)) → tables.lost ≡ false → tables.masks ≡ replicate (length tables.masks) 0 → IsIubWithin tables octets
    → octets ≡ iub_through tables octets
iub_as_sent tables None kept none within = refl
iub_as_sent tables (Some octets) kept none within = rw (kept) (ap Some (untouched_masks tables.masks octets none within))

-- a radio frame arrives as the damage says
pub radio_arrives : (damage : List Damage) (dir : Dir) (tables : RadioTables) (radio : Option Radio) → RadioWaits damage dir tables → IsWithinIf tables radio
    → radio_through tables radio ≡ radio_after damage dir radio
radio_arrives damage dir tables None waits within = refl
radio_arrives damage dir tables (Some radio) waits within =
    let tfci : each_changed (λ place. bit_after (get_or tables.tfci place Not)) radio.tfci ≡ each_changed (λ place. turned_bit (flips damage dir true place)) radio.tfci =
    changed_same _ _ radio.tfci (λ k bit early. ap (λ turned. bit_after turned bit) (waits.tfci k (omega (arith, within.tfci))) ∙ bit_turned (flips damage dir true k) bit) in
    let cells : each_changed (λ place. cell_after (get_or tables.cells place Not)) radio.cells ≡ each_changed (λ place. turned_cell (flips damage dir false place)) radio.cells =
    changed_same _ _ radio.cells (λ k cell early. ap (λ turned. cell_after turned cell) (waits.cells k (omega (arith, within.cells))) ∙ cell_turned (flips damage dir false k) cell) in
    rw (waits.lost, tfci, cells) refl

-- an Iub frame arrives as the damage says
pub iub_arrives : (damage : List Damage) (dir : Dir) (set : ℕ) (tables : IubTables) (octets : Option (List ℕ)) → IubWaits damage dir set tables → IsIubWithin tables octets
    → iub_through tables octets ≡ iub_after damage dir set octets
iub_arrives damage dir set tables None waits within = refl
iub_arrives damage dir set tables (Some octets) waits within =
    let masked : each_changed (λ k octet. bit_xor octet (slice_index tables.masks k)) octets ≡ each_changed (λ k octet. bit_xor octet (mask_on damage dir set k)) octets =
    changed_same _ _ octets (λ k octet early. ap (λ mask. bit_xor octet mask) (waits.masks k (omega (arith, within)))) in
    rw (waits.lost, masked) refl
