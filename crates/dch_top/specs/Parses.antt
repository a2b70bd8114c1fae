-- What the words of a command line say.
use Rattle.std.specs.Prelude.{◌≡◌, ◌≤◌, ℕ, List, Option, Some, None, codes, decimal}
use Rattle.clap.specs.Words.{Row, Text, first_of, matches_of}
use Rattle.dch_top.specs.declared.arguments.Subcommand.{Subcommand}
use Rattle.dch_top.specs.declared.arguments.Subcommand.TheVariants.{Check, Encode, NodeB, Rnc, Ue, Link, Gen, Pair, Soft}
use Rattle.dch_top.specs.declared.arguments.Arguments.{Arguments}
use Rattle.dch_top.specs.Line.{IsTaken, is_given, line_app}

-- the word of a command
abbrev pub subcommand_name : Subcommand → Text
subcommand_name Check = codes "check"
subcommand_name Encode = codes "encode"
subcommand_name NodeB = codes "nodeb"
subcommand_name Rnc = codes "rnc"
subcommand_name Ue = codes "ue"
subcommand_name Link = codes "link"
subcommand_name Gen = codes "gen"
subcommand_name Pair = codes "pair"
subcommand_name Soft = codes "soft"

-- the text is the number `n` in decimal digits, without sign or leading zero, and `n` is from `least` to `most`
abbrev pub IsNumber : ℕ → ℕ → Text → ℕ → Type 0
IsNumber least most text n = (text ≡ decimal n) × (least ≤ n) × (n ≤ most)

-- the same of a word that may be left out for a default
abbrev pub IsNumberOr : ℕ → ℕ → ℕ → Option Text → ℕ → Type 0
IsNumberOr default least most None n = n ≡ default
IsNumberOr default least most (Some text) n = IsNumber least most text n

-- the legs of a soft handover: 1 to 6
abbrev pub AreLegs : ℕ → Type 0
AreLegs n = (1 ≤ n) × (n ≤ 6)

-- the count of `soft`, which is given
abbrev pub IsLegCount : Option Text → ℕ → Type 0
IsLegCount None n = ⊥
IsLegCount (Some text) n = IsNumber 1 6 text n

-- the count of a command
abbrev pub IsCount : Subcommand → Option Text → ℕ → Type 0
IsCount Soft word n = IsLegCount word n
IsCount _ word n = IsNumberOr 1000 1 100000 word n

-- what `clap` read stands for these words of a command
pub record Means (rows : List Row) (words : Arguments) : Type 0 where
  pub subcommand : first_of (codes "command") rows ≡ Some (subcommand_name words.subcommand)
  pub count : IsCount words.subcommand (first_of (codes "count") rows) words.count
  pub start : IsNumberOr 0 0 31 (first_of (codes "start") rows) words.start
  pub quiet : words.quiet ≡ is_given (codes "quiet") rows

-- `clap` takes the texts as `COMMAND [COUNT] [--start N] [--quiet]`, and they say these words of a command
abbrev pub Parses : List Text → Arguments → Type 0
Parses texts words = IsTaken texts × Means (matches_of line_app texts) words

-- the texts are a command that has come
abbrev pub IsCommand : List Text → Type 0
IsCommand texts = (words : Arguments) × Parses texts words
