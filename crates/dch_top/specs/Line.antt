-- The command line `COMMAND [COUNT] [--start N] [--quiet]`, as `clap` is told of it, and what `clap` reads in its
-- words.
use Rattle.std.specs.Prelude.{◌≡◌, List, [], Bool, true, false, Option, Some, codes, find, option_and_then}
use Rattle.std.specs.Str.{bytes_eq}
use Rattle.clap.specs.Words.{App, Row, Rule, Text, new_app, new_rule, with_rule, fault_of}
use Rattle.clap.specs.declared.builder.action.ArgAction.TheVariants.{SetTrue}
use Rattle.clap.specs.declared.parser.matches.ValueSource.{ValueSource}
use Rattle.clap.specs.declared.parser.matches.ValueSource.TheVariants.{CommandLine}

-- COMMAND
abbrev pub command_rule : Rule
command_rule = record (new_rule (codes "command")) { required = true }

-- [COUNT]
abbrev pub count_rule : Rule
count_rule = new_rule (codes "count")

-- [--start N]
abbrev pub start_rule : Rule
start_rule = record (new_rule (codes "start")) { long = Some (codes "start") }

-- [--quiet]
abbrev pub quiet_rule : Rule
quiet_rule = record (new_rule (codes "quiet")) { long = Some (codes "quiet"); action = Some SetTrue }

-- words without the program's name, and no flags for help and version
abbrev pub bare_app : App
bare_app = let app = new_app (codes "dch") in
    record app { top = record app.top { no_binary_name = true; disable_help_flag = true; disable_version_flag = true } }

-- COMMAND [COUNT] [--start N] [--quiet]
abbrev pub line_app : App
line_app = with_rule (with_rule (with_rule (with_rule bare_app command_rule) count_rule) start_rule) quiet_rule

-- `clap` takes the words
abbrev pub IsTaken : List Text → Type 0
IsTaken words = fault_of line_app words ≡ []

-- where the value of an argument comes from
abbrev pub source_of : Text → List Row → Option ValueSource
source_of id rows = option_and_then (λ row. row.source) (find (λ row. bytes_eq row.id id) rows)

-- a value comes from the words, and not from a default
abbrev pub is_of_words : Option ValueSource → Bool
is_of_words (Some CommandLine) = true
is_of_words _ = false

-- the words give the argument
abbrev pub is_given : Text → List Row → Bool
is_given id rows = is_of_words (source_of id rows)
