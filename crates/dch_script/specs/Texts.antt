-- The texts that a line lends: letters for bits and cells, and hexadecimal for octets. A dot stands for an empty text.
use Rattle.std.specs.Prelude.{◌==◌, ◌&&◌, ◌||◌, ◌%◌, ℕ, List, Bool, codes, length, nat_le, nat_lt}
use Rattle.std.specs.List.{list_all}
use Rattle.std.specs.Str.{bytes_eq}
use Rattle.hex.specs.Hex.{is_hex_digit}
use Rattle.dch_types.specs.declared.bearer.Mode.{Mode}
use Rattle.dch_types.specs.declared.bearer.Mode.TheVariants.{Tm, Um, Am}
use Rattle.dch_types.specs.declared.channel.Dir.{Dir}
use Rattle.dch_types.specs.declared.channel.Dir.TheVariants.{Up, Down}
use Rattle.dch_script.specs.Code.{is_bits}

-- just so many letters 0 and 1
unfoldable pub is_word_of_bits : ℕ → List ℕ → Bool
is_word_of_bits count text = length text == count && list_all (λ c. c == 48 || c == 49) text

-- a text of 1 to so many letters 0, 1 and -, or a dot for no cell
unfoldable pub is_cells : ℕ → List ℕ → Bool
is_cells most text = bytes_eq text (codes ".") || (nat_lt 0 (length text) &&
    (nat_le (length text) most && list_all (λ c. c == 48 || (c == 49 || c == 45)) text))

-- the cells of a radio frame of a direction: bits in the uplink, and in the downlink any of 0, 1 and -; at most 57,600
-- letters
unfoldable pub are_cells : Dir → List ℕ → Bool
are_cells Up text = is_bits 57600 text
are_cells Down text = is_cells 57600 text

-- a text of two hexadecimal digits an octet, in either case, or a dot for no octet
unfoldable pub is_octets : List ℕ → Bool
is_octets text = bytes_eq text (codes ".") || (nat_lt 0 (length text) &&
    (length text % 2 == 0 && list_all is_hex_digit text))

-- the text of a unit: at most 5,000 bits of a transparent bearer, and at most 2,000 octets of another one
unfoldable pub is_unit : Mode → List ℕ → Bool
is_unit Tm text = is_bits 5000 text
is_unit Um text = nat_le (length text) 4000 && is_octets text
is_unit Am text = nat_le (length text) 4000 && is_octets text
