-- What reading a text answers.
use Rattle.std.specs.Prelude.{◌≡◌, ℕ, List, [], IsUtf8, Some, None, Result, Ok, Err}
use Rattle.std.specs.Prelude.{String}
use Rattle.std.specs.BTreeMap.{BTreeMap}
use Rattle.std.specs.declared.alloc.Global.{Global}
use Rattle.toml.specs.Data.{Members}
use Rattle.toml.specs.View.{table_view}
use Rattle.toml.specs.declared.value.Value.{Value}
use Rattle.toml.specs.Parse.{parse_document}
use Rattle.dch_types.specs.declared.config.Config.{Config}
use Rattle.dch_tree.specs.declared.fault.Fault.TheVariants as fault
use Rattle.dch_tree.specs.Documents.{document_faults, config_of, IsFirst}
use Rattle.dch_config.specs.declared.error.ConfigError.{ConfigError}
use Rattle.dch_config.specs.declared.error.ConfigError.TheVariants.{NoMemory, NotToml, Key, Range}
use Rattle.dch_config.specs.Limits.{limit_refusal}

-- the text is TOML that says this tree
abbrev pub IsDocument : List ℕ → Members → Type 0
IsDocument text tree = IsUtf8 text × (parse_document text ≡ Some tree)

-- the configuration of a tree: no key has a fault, and every limit is kept
pub record IsConfig (tree : Members) (config : Config) : Type 0 where
  pub keys : document_faults tree ≡ []
  pub limits : limit_refusal config ≡ None
  pub value : config ≡ config_of tree

-- a tree is refused by a limit, where its keys have no fault
pub record IsRefused (tree : Members) (e : ConfigError) : Type 0 where
  pub keys : document_faults tree ≡ []
  pub limits : limit_refusal (config_of tree) ≡ Some e

-- what a tree reads as; want of memory says nothing
abbrev pub ReadsTree : Members → Result Config ConfigError → Type 0
ReadsTree tree (Ok config) = IsConfig tree config
ReadsTree tree (Err NoMemory) = Unit {0}
ReadsTree tree (Err NotToml) = ⊥
ReadsTree tree (Err (Key path)) = IsFirst (fault.Key path) (document_faults tree)
ReadsTree tree (Err (Range path)) = IsFirst (fault.Range path) (document_faults tree)
ReadsTree tree (Err e) = IsRefused tree e

-- what a text reads as: it is no TOML, or its tree reads so
abbrev pub Reads : List ℕ → Result Config ConfigError → Type 0
Reads text (Err NoMemory) = Unit {0}
Reads text (Err NotToml) = (tree : Members) → IsDocument text tree → ⊥
Reads text result = (tree : Members) × IsDocument text tree × ReadsTree tree result

-- the table of a text
abbrev pub ReadsTable : List ℕ → Result (BTreeMap (String Global) Value) ConfigError → Type 0
ReadsTable text (Ok table) = IsDocument text (table_view table)
ReadsTable text (Err NoMemory) = Unit {0}
ReadsTable text (Err NotToml) = (tree : Members) → IsDocument text tree → ⊥
ReadsTable text (Err e) = ⊥

-- a configuration that keeps its limits, or the first of them that it breaks
abbrev pub KeepsLimits : Config → Result Config ConfigError → Type 0
KeepsLimits config (Ok good) = (limit_refusal config ≡ None) × (good ≡ config)
KeepsLimits config (Err e) = limit_refusal config ≡ Some e
