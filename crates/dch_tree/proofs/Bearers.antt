-- What a bearer keeps by its keys.
use Rattle.std.proofs.Common.{◌≡◌, ◌≢◌, ◌<◌, ◌≤◌, ℕ, true, List, [], ◌++◌, ◌⊎◌, inl, inr, Some, None, is_some, refl, ap, sym, ◌∙◌, ⊎_elim, arith}
use Rattle.std.specs.Prelude.{codes, IsSome}
use Rattle.std.proofs.lemmas.Bool.{cases_Bool}
use Rattle.toml.specs.Data.{Members, get_member}
use Rattle.dch_types.specs.declared.bearer.Mode.{Mode}
use Rattle.dch_types.specs.declared.bearer.Mode.TheVariants.{Tm, Um, Am}
use Rattle.dch_types.specs.declared.bearer.AmRules.{AmRules}
use Rattle.dch_types.specs.declared.bearer.Bearer.{Bearer}
use Rattle.dch_tree.specs.Rules.{number_within, channel_of}
use Rattle.dch_tree.specs.Tables.{reading, need, may, field}
use Rattle.dch_tree.specs.Bearers.{bearer_mode, up_faults, down_faults, am_rules, rules_of, bearer_faults, bearer_of}
use Rattle.dch_types.specs.Parts.{default_rules}
use Rattle.dch_tree.proofs.Kept.{front_none, back_none}
use Rattle.dch_tree.proofs.Ranges.{field_keeps, read_by, required_some, optional_some, number_within_keeps, channel_of_keeps}

-- the ranges of the rules, whatever their keys say
pub record KeepsRules (rules : AmRules) : Type 0 where
  pub poll_timer : rules.poll_timer ≤ 1000
  pub poll_pdus : rules.poll_pdus ≤ 1000
  pub poll_units : rules.poll_units ≤ 1000
  pub poll_window : rules.poll_window ≤ 100
  pub status_period : rules.status_period ≤ 1000
  pub status_prohibit : rules.status_prohibit ≤ 1000
  pub discard_age : rules.discard_age ≤ 1000
  pub discard_sent : rules.discard_sent ≤ 40
  pub discard_repeat : (1 ≤ rules.discard_repeat) × (rules.discard_repeat ≤ 1000)

up_to : (most other : ℕ) (key : List ℕ) (ms : Members) → other ≤ most → field other (number_within 0 most) key ms ≤ most
up_to most other key ms small = field_keeps (λ n. n ≤ most) other (number_within 0 most) key ms small (λ d x e. (number_within_keeps 0 most d x e).1)

am_rules_keep : (ms : Members) → KeepsRules (am_rules ms)
unfolding am_rules
am_rules_keep ms = record {
  poll_timer = up_to 1000 30 (codes "poll_timer") ms (omega arith);
  poll_pdus = up_to 1000 0 (codes "poll_pdus") ms (omega arith);
  poll_units = up_to 1000 0 (codes "poll_units") ms (omega arith);
  poll_window = up_to 100 0 (codes "poll_window") ms (omega arith);
  status_period = up_to 1000 0 (codes "status_period") ms (omega arith);
  status_prohibit = up_to 1000 0 (codes "status_prohibit") ms (omega arith);
  discard_age = up_to 1000 0 (codes "discard_age") ms (omega arith);
  discard_sent = up_to 40 0 (codes "discard_sent") ms (omega arith);
  discard_repeat = field_keeps (λ n. (1 ≤ n) × (n ≤ 1000)) 30 (number_within 1 1000) (codes "discard_repeat") ms (omega arith, omega arith) (number_within_keeps 1 1000);
}

default_rules_keep : KeepsRules default_rules
default_rules_keep = record {
  poll_timer = omega arith;
  poll_pdus = omega arith;
  poll_units = omega arith;
  poll_window = omega arith;
  status_period = omega arith;
  status_prohibit = omega arith;
  discard_age = omega arith;
  discard_sent = omega arith;
  discard_repeat = (omega arith, omega arith);
}

rules_keep : (mode : Mode) (ms : Members) → KeepsRules (rules_of mode ms)
rules_keep Tm ms = default_rules_keep
rules_keep Um ms = default_rules_keep
rules_keep Am ms = am_rules_keep ms

other_rules : (mode : Mode) (ms : Members) → mode ≢ Am → rules_of mode ms ≡ default_rules
other_rules Tm ms other = refl
other_rules Um ms other = refl
other_rules Am ms other = absurd (other refl)

-- the ranges of a bearer's keys, whatever its table says
pub record KeepsBearer (ups downs : ℕ) (bearer : Bearer) : Type 0 where
  pub up : (i : ℕ) → bearer.up ≡ Some i → i < ups
  pub down : (i : ℕ) → bearer.down ≡ Some i → i < downs
  pub logical : bearer.logical ≤ 15
  pub priority : (1 ≤ bearer.priority) × (bearer.priority ≤ 8)
  pub buffer : (1 ≤ bearer.buffer) × (bearer.buffer ≤ 4096)
  pub rules : KeepsRules bearer.rules
  pub other_rules : bearer.mode ≢ Am → bearer.rules ≡ default_rules

some_same : (i j : ℕ) → Some i ≡ Some j → i ≡ j
some_same i j e = cc

channel_below : (count : ℕ) (key : List ℕ) (ms : Members) (i : ℕ) → field None (channel_of count) key ms ≡ Some i → i < count
channel_below count key ms = field_keeps (λ o. (i : ℕ) → o ≡ Some i → i < count) None (channel_of count) key ms (λ i e. cc)
    (λ d x e i at. let (j, is, below) = channel_of_keeps count d x e in let same : j ≡ i = some_same j i (sym is ∙ at) in omega arith)

pub bearer_keeps : (ups downs : ℕ) (ms : Members) → KeepsBearer ups downs (bearer_of ups downs ms)
unfolding bearer_of
bearer_keeps ups downs ms = record {
  up = channel_below ups (codes "up") ms;
  down = channel_below downs (codes "down") ms;
  logical = field_keeps (λ n. n ≤ 15) 0 (number_within 1 15) (codes "logical") ms (omega arith) (λ d x e. (number_within_keeps 1 15 d x e).1);
  priority = field_keeps (λ n. (1 ≤ n) × (n ≤ 8)) 1 (number_within 1 8) (codes "priority") ms (omega arith, omega arith) (number_within_keeps 1 8);
  buffer = field_keeps (λ n. (1 ≤ n) × (n ≤ 4096)) 1 (number_within 1 4096) (codes "buffer") ms (omega arith, omega arith) (number_within_keeps 1 4096);
  rules = rules_keep (bearer_mode ms) ms;
  other_rules = other_rules (bearer_mode ms) ms;
}

-- a bearer has a channel, and an acknowledged one has two
pub record IsSomewhere (bearer : Bearer) : Type 0 where
  pub somewhere : IsSome bearer.up ⊎ IsSome bearer.down
  pub both : bearer.mode ≡ Am → IsSome bearer.up × IsSome bearer.down

channel_read : (count : ℕ) (key : List ℕ) (ms : Members) → reading (channel_of count) key ms ≡ Some (Some (field None (channel_of count) key ms)) → IsSome (field None (channel_of count) key ms)
channel_read count key ms e =
    let (d, at) = read_by (channel_of count) (get_member key ms) (field None (channel_of count) key ms) e in
    let (j, is, below) = channel_of_keeps count d (field None (channel_of count) key ms) at in
    ap is_some is

needed : (count : ℕ) (path key : List ℕ) (ms : Members) → need (channel_of count) path key ms ≡ [] → IsSome (field None (channel_of count) key ms)
needed count path key ms none = channel_read count key ms (required_some (path ++ key) (reading (channel_of count) key ms) None none)

given : (count : ℕ) (path key : List ℕ) (ms : Members) → may (channel_of count) path key ms ≡ [] → is_some (get_member key ms) ≡ true → IsSome (field None (channel_of count) key ms)
given count path key ms none there = channel_read count key ms (optional_some (path ++ key) (channel_of count) (get_member key ms) None none there)

one_of : (mode : Mode) (ups downs : ℕ) (path : List ℕ) (ms : Members) → up_faults mode ups path ms ≡ [] → down_faults mode (is_some (get_member (codes "up") ms)) downs path ms ≡ []
    → IsSome (field None (channel_of ups) (codes "up") ms) ⊎ IsSome (field None (channel_of downs) (codes "down") ms)
one_of Am ups downs path ms up down = inl (needed ups path (codes "up") ms up)
one_of Tm ups downs path ms up down =
    ⊎_elim (λ there. inl (given ups path (codes "up") ms up there)) (λ missing. inr (needed downs path (codes "down") ms (rw missing at down))) (cases_Bool (is_some (get_member (codes "up") ms)))
one_of Um ups downs path ms up down =
    ⊎_elim (λ there. inl (given ups path (codes "up") ms up there)) (λ missing. inr (needed downs path (codes "down") ms (rw missing at down))) (cases_Bool (is_some (get_member (codes "up") ms)))

both_of : (mode : Mode) (ups downs : ℕ) (path : List ℕ) (ms : Members) → up_faults mode ups path ms ≡ [] → down_faults mode (is_some (get_member (codes "up") ms)) downs path ms ≡ [] → mode ≡ Am
    → IsSome (field None (channel_of ups) (codes "up") ms) × IsSome (field None (channel_of downs) (codes "down") ms)
both_of Am ups downs path ms up down is = (needed ups path (codes "up") ms up, needed downs path (codes "down") ms down)
both_of Tm ups downs path ms up down is = cc
both_of Um ups downs path ms up down is = cc

pub bearer_somewhere : (ups downs : ℕ) (path : List ℕ) (ms : Members) → bearer_faults ups downs path ms ≡ [] → IsSomewhere (bearer_of ups downs ms)
unfolding bearer_faults bearer_of
bearer_somewhere ups downs path ms none =
    let to_down = front_none _ _ (front_none _ _ (front_none _ _ (front_none _ _ none))) in
    let down = back_none _ _ to_down in
    let up = back_none _ _ (front_none _ _ to_down) in
    record { somewhere = one_of (bearer_mode ms) ups downs path ms up down; both = both_of (bearer_mode ms) ups downs path ms up down }
