-- The keys of a bearer: their faults, and what they say.
use Rattle.std.specs.Prelude.{ℕ, ◌+◌, List, [], ◌∷◌, ◌++◌, Bool, true, false, ◌&&◌, ◌||◌, ◌==◌, if◌then◌else◌, nat_lt, length, take, drop, slice_index_or, is_some, Option, Some, None, codes}
use Rattle.std.specs.List.{list_any}
use Rattle.toml.specs.Data.{Members, get_member, as_bool, as_array}
use Rattle.dch_types.specs.declared.bearer.Mode.{Mode}
use Rattle.dch_types.specs.declared.bearer.Mode.TheVariants.{Tm, Um, Am}
use Rattle.dch_types.specs.declared.bearer.AmRules.{AmRules}
use Rattle.dch_types.specs.declared.bearer.Bearer.{Bearer}
use Rattle.dch_tree.specs.declared.fault.Fault.{Fault}
use Rattle.dch_tree.specs.declared.fault.Fault.TheVariants.{Range}
use Rattle.dch_tree.specs.Faults.{element_path}
use Rattle.dch_tree.specs.Rules.{number_within, mode_of, window_of, channel_of}
use Rattle.dch_tree.specs.Tables.{reading, optional, unknown, need, may, field, items_faults, items_values, list_at, indexed}
use Rattle.dch_types.specs.Parts.{default_rules}

-- the keys of every bearer, and those of an acknowledged one alone
abbrev pub bearer_keys : List (List ℕ)
bearer_keys = codes "mode" ∷ codes "up" ∷ codes "down" ∷ codes "logical" ∷ codes "priority" ∷ codes "buffer" ∷ []

abbrev pub am_keys : List (List ℕ)
am_keys = codes "mode" ∷ codes "up" ∷ codes "down" ∷ codes "logical" ∷ codes "priority" ∷ codes "buffer"
    ∷ codes "window" ∷ codes "poll_timer" ∷ codes "poll_pdus" ∷ codes "poll_units" ∷ codes "poll_window"
    ∷ codes "status_period" ∷ codes "status_prohibit" ∷ codes "missing"
    ∷ codes "discard_age" ∷ codes "discard_sent" ∷ codes "discard_repeat" ∷ []

-- the mode; a bearer that has none that is right is treated as an acknowledged one
abbrev pub bearer_mode : Members → Mode
bearer_mode ms = field Am mode_of (codes "mode") ms

-- the faults of keys that no bearer of this mode has
abbrev pub unknown_faults : Mode → List ℕ → Members → List Fault
unknown_faults Tm path ms = unknown path bearer_keys ms
unknown_faults Um path ms = unknown path bearer_keys ms
unknown_faults Am path ms = unknown path am_keys ms

-- the faults of the channels: an acknowledged bearer has both, another one at least one of them, where `down` is the
-- one that is missing
abbrev pub up_faults : Mode → ℕ → List ℕ → Members → List Fault
up_faults Tm channels path ms = may (channel_of channels) path (codes "up") ms
up_faults Um channels path ms = may (channel_of channels) path (codes "up") ms
up_faults Am channels path ms = need (channel_of channels) path (codes "up") ms

abbrev pub down_faults : Mode → Bool → ℕ → List ℕ → Members → List Fault
down_faults Am has_up channels path ms = need (channel_of channels) path (codes "down") ms
down_faults mode true channels path ms = may (channel_of channels) path (codes "down") ms
down_faults mode false channels path ms = need (channel_of channels) path (codes "down") ms

-- the faults of the keys of an acknowledged bearer
unfoldable pub am_faults : List ℕ → Members → List Fault
am_faults path ms =
    may window_of path (codes "window") ms
    ++ may (number_within 0 1000) path (codes "poll_timer") ms
    ++ may (number_within 0 1000) path (codes "poll_pdus") ms
    ++ may (number_within 0 1000) path (codes "poll_units") ms
    ++ may (number_within 0 100) path (codes "poll_window") ms
    ++ may (number_within 0 1000) path (codes "status_period") ms
    ++ may (number_within 0 1000) path (codes "status_prohibit") ms
    ++ may as_bool path (codes "missing") ms
    ++ may (number_within 0 1000) path (codes "discard_age") ms
    ++ may (number_within 0 40) path (codes "discard_sent") ms
    ++ may (number_within 1 1000) path (codes "discard_repeat") ms

unfoldable pub am_rules : Members → AmRules
am_rules ms = record {
  window = field 128 window_of (codes "window") ms;
  poll_timer = field 30 (number_within 0 1000) (codes "poll_timer") ms;
  poll_pdus = field 0 (number_within 0 1000) (codes "poll_pdus") ms;
  poll_units = field 0 (number_within 0 1000) (codes "poll_units") ms;
  poll_window = field 0 (number_within 0 100) (codes "poll_window") ms;
  status_period = field 0 (number_within 0 1000) (codes "status_period") ms;
  status_prohibit = field 0 (number_within 0 1000) (codes "status_prohibit") ms;
  missing = field true as_bool (codes "missing") ms;
  discard_age = field 0 (number_within 0 1000) (codes "discard_age") ms;
  discard_sent = field 0 (number_within 0 40) (codes "discard_sent") ms;
  discard_repeat = field 30 (number_within 1 1000) (codes "discard_repeat") ms;
}

abbrev pub rules_faults : Mode → List ℕ → Members → List Fault
rules_faults Tm path ms = []
rules_faults Um path ms = []
rules_faults Am path ms = am_faults path ms

abbrev pub rules_of : Mode → Members → AmRules
rules_of Tm ms = default_rules
rules_of Um ms = default_rules
rules_of Am ms = am_rules ms

-- the faults of a bearer, where the directions have so many channels
unfoldable pub bearer_faults : ℕ → ℕ → List ℕ → Members → List Fault
bearer_faults ups downs path ms =
    need mode_of path (codes "mode") ms
    ++ unknown_faults (bearer_mode ms) path ms
    ++ up_faults (bearer_mode ms) ups path ms
    ++ down_faults (bearer_mode ms) (is_some (get_member (codes "up") ms)) downs path ms
    ++ may (number_within 1 15) path (codes "logical") ms
    ++ need (number_within 1 8) path (codes "priority") ms
    ++ need (number_within 1 4096) path (codes "buffer") ms
    ++ rules_faults (bearer_mode ms) path ms

unfoldable pub bearer_of : ℕ → ℕ → Members → Bearer
bearer_of ups downs ms = record {
  mode = bearer_mode ms;
  up = field None (channel_of ups) (codes "up") ms;
  down = field None (channel_of downs) (codes "down") ms;
  logical = field 0 (number_within 1 15) (codes "logical") ms;
  priority = field 1 (number_within 1 8) (codes "priority") ms;
  buffer = field 1 (number_within 1 4096) (codes "buffer") ms;
  rules = rules_of (bearer_mode ms) ms;
}

-- two bearers name one channel of a direction
abbrev pub same_channel : Option ℕ → Option ℕ → Bool
same_channel (Some i) (Some j) = i == j
same_channel (Some i) None = false
same_channel None j = false

abbrev pub shares : Bearer → Bearer → Bool
shares a b = same_channel a.up b.up || same_channel a.down b.down

-- the same logical channel besides, which is not 0
abbrev pub repeats : Bearer → Bearer → Bool
repeats a b = shares a b && (a.logical == b.logical && nat_lt 0 a.logical)

abbrev pub is_transparent : Mode → Bool
is_transparent Tm = true
is_transparent Um = false
is_transparent Am = false

-- bearer b of a list
abbrev pub bearer_at : List Bearer → ℕ → Bearer
bearer_at bearers b = slice_index_or bearers b (record {
  mode = Am;
  up = None;
  down = None;
  logical = 0;
  priority = 1;
  buffer = 1;
  rules = default_rules;
})

-- bearer b shares a channel with another one
abbrev pub has_partner : List Bearer → ℕ → Bool
has_partner bearers b = list_any (shares (bearer_at bearers b))
    (take b bearers) || list_any (shares (bearer_at bearers b)) (drop (b + 1) bearers)

-- a fault at a key of bearer b
abbrev pub fault_if : Bool → List ℕ → ℕ → List Fault
fault_if wrong key b = if wrong then Range (element_path [] (codes "bearer") b ++ key) ∷ [] else []

-- the faults of a shared channel: a bearer that shares one has a logical channel, and another than those before it, and
-- is not transparent
abbrev pub sharing_faults : List Bearer → ℕ → List Fault
sharing_faults bearers b =
    fault_if (has_partner bearers b && (bearer_at bearers b).logical == 0) (codes "logical") b
    ++ fault_if (list_any (repeats (bearer_at bearers b)) (take b bearers)) (codes "logical") b
    ++ fault_if (has_partner bearers b && is_transparent (bearer_at bearers b).mode) (codes "mode") b

-- the bearers, where the directions have so many channels
abbrev pub bearers_of : ℕ → ℕ → Members → List Bearer
bearers_of ups downs ms = items_values (bearer_of ups downs) (list_at (codes "bearer") ms)

-- more than 16 bearers are one fault, at the list; otherwise they may clash
abbrev pub together_faults : List Bearer → List Fault
together_faults bearers = if nat_lt 16 (length bearers) then Range (codes "bearer") ∷ []
    else indexed (sharing_faults bearers) (length bearers)

unfoldable pub bearers_faults : ℕ → ℕ → Members → List Fault
bearers_faults ups downs ms =
    optional (codes "bearer") (reading as_array (codes "bearer") ms)
    ++ items_faults (bearer_faults ups downs) [] (codes "bearer") 0 (list_at (codes "bearer") ms)
    ++ together_faults (bearers_of ups downs ms)
