-- What the value of a key may be, and what it then says.
use Rattle.std.specs.Prelude.{ℕ, ℤ, pos, negsuc, List, [], ◌∷◌, Bool, true, false, ◌&&◌, ◌==◌, min, nat_le, nat_lt, if◌then◌else◌, Option, Some, None, option_map, option_and_then, codes, find, nat_eq}
use Rattle.std.specs.Cmp.Lexicographic.{pointwise}
use Rattle.toml.specs.Data.{Data, Items, no_items, item, as_integer, as_str, as_array}
use Rattle.dch_types.specs.declared.channel.Coding.{Coding}
use Rattle.dch_types.specs.declared.channel.Coding.TheVariants.{Uncoded, Half, Third}
use Rattle.dch_types.specs.declared.channel.Crc.{Crc}
use Rattle.dch_types.specs.declared.channel.Crc.TheVariants.{C0, C8, C12, C16, C24}
use Rattle.dch_types.specs.declared.channel.Format.{Format}
use Rattle.dch_types.specs.declared.channel.Combination.{Combination}
use Rattle.dch_types.specs.declared.bearer.Mode.{Mode}
use Rattle.dch_types.specs.declared.bearer.Mode.TheVariants.{Tm, Um, Am}

-- a whole number that is not negative
abbrev pub natural : ℤ → Option ℕ
natural (pos n) = Some n
natural (negsuc n) = None

abbrev pub number_of : Data → Option ℕ
number_of d = option_and_then natural (as_integer d)

-- the value where the test passes it
abbrev pub only_if : {A : Type 0} → (A → Bool) → A → Option A
only_if test x = if test x then Some x else None

-- a number from the least to the most
abbrev pub number_within : ℕ → ℕ → Data → Option ℕ
number_within least most d = option_and_then (only_if (λ n. nat_le least n && nat_le n most)) (number_of d)

-- a number of a list
abbrev pub number_among : List ℕ → Data → Option ℕ
number_among allowed d = option_and_then (λ n. find (λ a. a == n) allowed) (number_of d)

-- the radio frames of a TTI in milliseconds
abbrev pub frames_of_time : ℕ → Option ℕ
frames_of_time time = if time == 10 then Some 1 else (if time == 20 then Some 2
    else (if time == 40 then Some 4 else (if time == 80 then Some 8 else None)))

abbrev pub frames_of_tti : Data → Option ℕ
frames_of_tti d = option_and_then frames_of_time (number_of d)

-- the parity bits
abbrev pub crc_of_bits : ℕ → Option Crc
crc_of_bits bits = if bits == 0 then Some C0 else (if bits == 8 then Some C8
    else (if bits == 12 then Some C12 else (if bits == 16 then Some C16 else (if bits == 24 then Some C24 else None))))

abbrev pub crc_of : Data → Option Crc
crc_of d = option_and_then crc_of_bits (number_of d)

-- the text is this word
abbrev pub is_word : List ℕ → List ℕ → Bool
is_word text word = pointwise nat_eq text word

-- the words for codings, positions and modes
abbrev pub coding_of_word : List ℕ → Option Coding
coding_of_word word = if is_word word (codes "none") then Some Uncoded
    else (if is_word word (codes "half") then Some Half
    else (if is_word word (codes "third") then Some Third else None))

abbrev pub coding_of : Data → Option Coding
coding_of d = option_and_then coding_of_word (as_str d)

abbrev pub fixed_of_word : List ℕ → Option Bool
fixed_of_word word = if is_word word (codes "fixed") then Some true
    else (if is_word word (codes "flexible") then Some false else None)

abbrev pub fixed_of : Data → Option Bool
fixed_of d = option_and_then fixed_of_word (as_str d)

abbrev pub mode_of_word : List ℕ → Option Mode
mode_of_word word = if is_word word (codes "tm") then Some Tm
    else (if is_word word (codes "um") then Some Um else (if is_word word (codes "am") then Some Am else None))

abbrev pub mode_of : Data → Option Mode
mode_of d = option_and_then mode_of_word (as_str d)

-- a window: any whole number, where a negative one counts as 0, and one above the greatest u16 as that
abbrev pub window_of_number : ℤ → ℕ
window_of_number (pos n) = min n 65535
window_of_number (negsuc n) = 0

abbrev pub window_of : Data → Option ℕ
window_of d = option_map window_of_number (as_integer d)

-- the channel of a number, of which there are so many
abbrev pub channel_of : ℕ → Data → Option (Option ℕ)
channel_of count d = option_map (λ n. Some (min n 255)) (option_and_then (only_if (λ n. nat_lt n count)) (number_of d))

-- the values of all items by a rule, where each has one
abbrev pub each : {A : Type 0} → (Data → Option A) → Items → Option (List A)
each rule no_items = Some []
each rule (item d ds) = option_and_then (λ x. option_map (λ xs. x ∷ xs) (each rule ds)) (rule d)

-- the values of a list by a rule, where each has one
abbrev pub list_of : {A : Type 0} → (Data → Option A) → Data → Option (List A)
list_of rule d = option_and_then (each rule) (as_array d)

-- a format: a pair of a number and a size. Above the greatest u16 each counts as that; a later limit refuses both
abbrev pub format_of_pair : Items → Option Format
format_of_pair (item number (item size no_items)) = option_and_then (λ n. option_map (λ s. record {
  number = min n 65535;
  size = min s 65535;
}) (number_of size)) (number_of number)
format_of_pair _ = None

abbrev pub format_of : Data → Option Format
format_of d = option_and_then format_of_pair (as_array d)

abbrev pub formats_of : Data → Option (List Format)
formats_of d = list_of format_of d

-- a combination: a list of numbers of formats. Above the greatest u8 a number counts as that; no channel has such a
-- format
abbrev pub member_of : Data → Option ℕ
member_of d = option_map (λ n. min n 255) (number_of d)

abbrev pub combination_of : Data → Option Combination
combination_of d = option_map (λ formats. record { formats = formats }) (list_of member_of d)

abbrev pub combinations_of : Data → Option (List Combination)
combinations_of d = list_of combination_of d
