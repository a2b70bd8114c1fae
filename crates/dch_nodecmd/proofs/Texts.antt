-- The texts of a radio frame that were judged.
use Rattle.std.proofs.Common.{◌≡◌, ◌≤◌, ◌∙◌, ℕ, List, true, length, take, arith, refl, subst, sym}
use Rattle.std.proofs.lemmas.List.{length-take-le}
use Rattle.dch_bits.specs.declared.bit.Bit.{Bit}
use Rattle.dch_types.specs.declared.channel.Dir.{Dir}
use Rattle.dch_types.specs.declared.channel.Dir.TheVariants.{Down, Up}
use Rattle.dch_types.specs.declared.config.Config.{Config}
use Rattle.dch_accept.specs.Frames.{tfci_bits}
use Rattle.dch_script.specs.Parts.{tfci_letters}
use Rattle.dch_script.specs.Texts.{are_cells, is_cells, is_word_of_bits}
use Rattle.dch_lines.proofs.Letters.{bits_are_cells}

-- the text of a TFCI has a letter for each of its bits
letters_all : (config : Config) (dir : Dir) → tfci_letters config dir ≡ tfci_bits config dir
unfolding tfci_letters
letters_all config Up = refl
letters_all config Down = refl

-- so it fills a room of so many bits
pub tfci_good : (config : Config) (dir : Dir) (text : List ℕ) (bits : List Bit) (n : ℕ) → length bits ≡ 5000 → n ≡ tfci_bits config dir → n ≤ 120 → is_word_of_bits (tfci_letters config dir) text ≡ true → is_word_of_bits (length (take n bits)) text ≡ true
tfci_good config dir text bits n all same small good =
    let room : length (take n bits) ≡ n = length-take-le n bits (omega (arith, all, small)) in
    subst (λ m. is_word_of_bits m text ≡ true) (letters_all config dir ∙ sym same ∙ sym room) good

pub cells_good : (dir : Dir) (text : List ℕ) → are_cells dir text ≡ true → is_cells 57600 text ≡ true
unfolding are_cells
cells_good Up text good = bits_are_cells text 57600 good
cells_good Down text good = good
