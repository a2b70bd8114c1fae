-- The keys of a document: their faults, and the configuration that it says.
use Rattle.std.specs.Prelude.{◌≡◌, ℕ, List, [], ◌∷◌, ◌++◌, false, length, Contains, Option, Some, None, Result, Ok, Err, codes}
use Rattle.toml.specs.Data.{Members, as_bool}
use Rattle.dch_types.specs.declared.config.Config.{Config}
use Rattle.dch_tree.specs.declared.fault.Fault.{Fault}
use Rattle.dch_tree.specs.declared.document.Iub.{Iub}
use Rattle.dch_tree.specs.declared.document.TreeError.{TreeError}
use Rattle.dch_tree.specs.declared.document.TreeError.TheVariants.{NoMemory, Fault as FirstFault}
use Rattle.dch_tree.specs.Faults.{is_before}
use Rattle.dch_tree.specs.Rules.{number_within}
use Rattle.dch_tree.specs.Tables.{unknown, need, field, members_at, table_faults}
use Rattle.dch_tree.specs.Sides.{uplink_faults, uplink_of, downlink_faults, downlink_of}
use Rattle.dch_tree.specs.Bearers.{bearers_faults, bearers_of}

-- the keys of the Iub
abbrev pub iub_keys : List (List ℕ)
iub_keys = codes "payload_check" ∷ codes "qe" ∷ []

unfoldable pub iub_faults : List ℕ → Members → List Fault
iub_faults path ms =
    unknown path iub_keys ms
    ++ need as_bool path (codes "payload_check") ms
    ++ need (number_within 0 255) path (codes "qe") ms

unfoldable pub iub_of : Members → Iub
iub_of ms = record {
  payload_check = field false as_bool (codes "payload_check") ms;
  qe = field 0 (number_within 0 255) (codes "qe") ms;
}

-- the keys of a document
abbrev pub document_keys : List (List ℕ)
document_keys = codes "iub" ∷ codes "uplink" ∷ codes "downlink" ∷ codes "bearer" ∷ []

-- how many channels a direction has
abbrev pub uplink_channels : Members → ℕ
uplink_channels tree = length (uplink_of (members_at (codes "uplink") tree)).side.channels

abbrev pub downlink_channels : Members → ℕ
downlink_channels tree = length (downlink_of (members_at (codes "downlink") tree)).side.channels

-- all faults of the keys of a document
unfoldable pub document_faults : Members → List Fault
document_faults tree =
    unknown [] document_keys tree
    ++ table_faults iub_faults (codes "iub") tree
    ++ table_faults uplink_faults (codes "uplink") tree
    ++ table_faults downlink_faults (codes "downlink") tree
    ++ bearers_faults (uplink_channels tree) (downlink_channels tree) tree

-- the configuration that a document says, where it has no fault
unfoldable pub config_of : Members → Config
config_of tree = record {
  uplink = uplink_of (members_at (codes "uplink") tree);
  downlink = downlink_of (members_at (codes "downlink") tree);
  bearers = bearers_of (uplink_channels tree) (downlink_channels tree) tree;
  payload_check = (iub_of (members_at (codes "iub") tree)).payload_check;
  qe = (iub_of (members_at (codes "iub") tree)).qe;
}

-- the fault is one of these, and none of them comes before it
pub record IsFirst (fault : Fault) (faults : List Fault) : Type 0 where
  pub listed : Contains faults fault
  pub least : (other : Fault) → Contains faults other → is_before other fault ≡ false

-- the configuration, unless there is a fault
abbrev pub unless : Option Fault → Config → Result Config TreeError
unless None config = Ok config
unless (Some fault) config = Err (FirstFault fault)

-- what a document reads as: its configuration, or its first fault; want of memory says nothing
abbrev pub Reads : Members → Result Config TreeError → Type 0
Reads tree (Ok config) = (document_faults tree ≡ []) × (config ≡ config_of tree)
Reads tree (Err (FirstFault fault)) = IsFirst fault (document_faults tree)
Reads tree (Err NoMemory) = Unit {0}
