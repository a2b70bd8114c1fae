-- The line that answers a text which is not read as a configuration.
use Rattle.std.specs.Prelude.{ℕ, List, [], ◌++◌, Option, Some, None, codes, decimal}
use Rattle.dch_types.specs.declared.channel.Dir.{Dir}
use Rattle.dch_script.specs.Report.{dir_word}
use Rattle.dch_check.specs.declared.which.Which.{Which}
use Rattle.dch_check.specs.declared.which.Which.TheVariants.{First, Second}
use Rattle.dch_config.specs.declared.error.ConfigError.{ConfigError}
use Rattle.dch_config.specs.declared.error.ConfigError.TheVariants.{NoMemory, NotToml, Key, Range, TrchCount, FormatCount, NoIdleFormat, CombinationCount, NoSuchFormat, NotClosed, BlockSize, NoCheck, PduSize, Window, TtiBits}

-- what stands behind the number of a refusal
abbrev pub which_word : Which → List ℕ
which_word First = []
which_word Second = codes " second"

-- the line where no TOML is read
abbrev pub plain : Which → List ℕ
plain which = codes "refused 10" ++ which_word which ++ codes "\n"

-- the line of a refusal that names a key
abbrev pub of_key : Which → ℕ → List ℕ → List ℕ → List ℕ
of_key which number what path = codes "refused " ++ decimal number ++ which_word which ++ codes " " ++ what ++ codes "="
    ++ path ++ codes "\n"

-- the line of a refusal that names a direction
abbrev pub of_direction : Which → ℕ → Dir → List ℕ
of_direction which number dir = codes "refused " ++ decimal number ++ which_word which ++ codes " " ++ dir_word dir
    ++ codes "\n"

-- the line of a refusal that names a channel or a combination of a direction
abbrev pub of_place : Which → ℕ → Dir → List ℕ → ℕ → List ℕ
of_place which number dir what i = codes "refused " ++ decimal number ++ which_word which ++ codes " " ++ dir_word dir
    ++ codes " " ++ what ++ codes "=" ++ decimal i ++ codes "\n"

-- the line of a refusal that names a bearer
abbrev pub of_bearer : Which → ℕ → ℕ → List ℕ
of_bearer which number b = codes "refused " ++ decimal number ++ which_word which ++ codes " bearer=" ++ decimal b
    ++ codes "\n"

-- the line of a refusal; want of memory has none
abbrev pub refusal : Which → ConfigError → Option (List ℕ)
refusal which NoMemory = None
refusal which NotToml = Some (plain which)
refusal which (Key path) = Some (of_key which 11 (codes "key") path)
refusal which (Range path) = Some (of_key which 12 (codes "range") path)
refusal which (TrchCount dir) = Some (of_direction which 13 dir)
refusal which (FormatCount dir i) = Some (of_place which 14 dir (codes "channel") i)
refusal which (NoIdleFormat dir i) = Some (of_place which 15 dir (codes "channel") i)
refusal which (CombinationCount dir) = Some (of_direction which 16 dir)
refusal which (NoSuchFormat dir j) = Some (of_place which 17 dir (codes "combination") j)
refusal which (NotClosed dir j) = Some (of_place which 18 dir (codes "combination") j)
refusal which (BlockSize dir i) = Some (of_place which 19 dir (codes "channel") i)
refusal which (NoCheck b) = Some (of_bearer which 20 b)
refusal which (PduSize b) = Some (of_bearer which 21 b)
refusal which (Window b) = Some (of_bearer which 22 b)
refusal which (TtiBits dir i) = Some (of_place which 23 dir (codes "channel") i)
