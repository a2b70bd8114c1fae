-- The limits of the bearers, and a good configuration.
use Rattle.std.proofs.Common.{◌≡◌, ◌≢◌, ◌<◌, ◌≤◌, ◌&&◌, ◌||◌, ℕ, Bool, true, false, not, length, Option, Some, None, refl, sym, ◌∙◌, subst, eq-eqb}
use Rattle.toml.specs.Data.{Members}
use Rattle.dch_types.specs.declared.channel.Dir.{Dir}
use Rattle.dch_types.specs.declared.channel.Dir.TheVariants.{Up, Down}
use Rattle.dch_types.specs.declared.channel.Side.{Side}
use Rattle.dch_types.specs.declared.bearer.Mode.{Mode}
use Rattle.dch_types.specs.declared.bearer.Mode.TheVariants.{Tm, Um, Am}
use Rattle.dch_types.specs.declared.bearer.Bearer.{Bearer}
use Rattle.dch_types.specs.declared.config.Config.{Config}
use Rattle.dch_types.specs.Lengths.{crc_size}
use Rattle.dch_types.specs.Parts.{channel_at, side_of}
use Rattle.dch_tree.specs.Bearers.{is_transparent, bearer_at}
use Rattle.dch_tree.proofs.Bearers.{KeepsRules, KeepsBearer, IsSomewhere}
use Rattle.dch_tree.proofs.Partners.{KeepsSharing}
use Rattle.dch_tree.proofs.Whole.{KeepsKeys, document_keeps}
use Rattle.dch_config.specs.Bearers.{has_ct, has_no_check, lacks_check, check_refusal, are_pdus, has_wrong_blocks, lacks_pdus, pdu_refusal, has_wrong_window, window_refusal}
use Rattle.dch_config.specs.Limits.{count_refusals, combination_refusals, bearer_refusals, bits_refusals, limit_refusals, first_count_refusal, first_combination_refusal, first_bearer_refusal, first_bits_refusal, limit_refusal}
use Rattle.dch_config.specs.Reading.{IsConfig, ReadsTree}
use Rattle.std.specs.Prelude.{IfOk, Result, Ok, Err}
use Rattle.dch_config.specs.declared.error.ConfigError.{ConfigError}
use Rattle.dch_config.specs.Good.{IsBearer, IsGood}
use Rattle.dch_config.proofs.Places.{AllNone, all_none, none_place, position_none, or_first, or_second, not_true}
use Rattle.dch_config.proofs.GoodSides.{RefusesNone, within, side_good}

not_transparent : (mode : Mode) → mode ≢ Tm → not (is_transparent mode) ≡ true
not_transparent Tm other = absurd (other refl)
not_transparent Um other = refl
not_transparent Am other = refl

and_true : (a b : Bool) → a ≡ true → (a && b) ≡ false → b ≡ false
and_true true b is e = e
and_true false b is e = cc

-- a bearer's channel in a direction has parity bits, and its blocks are PDUs
has_check : (config : Config) (dir : Dir) (o : Option ℕ) (i : ℕ) → o ≡ Some i → has_no_check (side_of config dir) o ≡ false → crc_size (channel_at (side_of config dir) i).crc ≢ 0
has_check config dir o i is e zero_bits =
    let at : has_no_check (side_of config dir) (Some i) ≡ false = subst (λ x. has_no_check (side_of config dir) x ≡ false) is e in
    let no : true ≡ false = sym (eq-eqb (crc_size (channel_at (side_of config dir) i).crc) 0 zero_bits) ∙ at in cc no

has_pdus : (config : Config) (mode : Mode) (dir : Dir) (o : Option ℕ) (i : ℕ) → o ≡ Some i → has_wrong_blocks config mode dir o ≡ false
    → are_pdus mode (has_ct config dir i) (channel_at (side_of config dir) i).formats ≡ true
has_pdus config mode dir o i is e = not_true _ (subst (λ x. has_wrong_blocks config mode dir x ≡ false) is e)

check_at : (config : Config) → check_refusal config ≡ None → (b : ℕ) → b < length config.bearers → lacks_check config (bearer_at config.bearers b) ≡ false
check_at config none b inside = position_none (lacks_check config) config.bearers (none_place _ _ none) b _ inside

pdus_at : (config : Config) → pdu_refusal config ≡ None → (b : ℕ) → b < length config.bearers → lacks_pdus config (bearer_at config.bearers b) ≡ false
pdus_at config none b inside = position_none (lacks_pdus config) config.bearers (none_place _ _ none) b _ inside

window_at : (config : Config) → window_refusal config ≡ None → (b : ℕ) → b < length config.bearers → (1 ≤ (bearer_at config.bearers b).rules.window) × ((bearer_at config.bearers b).rules.window ≤ 2048)
window_at config none b inside = within 1 2048 (bearer_at config.bearers b).rules.window (position_none has_wrong_window config.bearers (none_place _ _ none) b _ inside)

bearer_good : (config : Config) → KeepsKeys config → check_refusal config ≡ None → pdu_refusal config ≡ None → window_refusal config ≡ None → (b : ℕ) → b < length config.bearers → IsBearer config (bearer_at config.bearers b)
bearer_good config keeps no_check no_pdu no_window b inside =
    let bearer : Bearer = bearer_at config.bearers b in
    let kept : KeepsBearer (length config.uplink.side.channels) (length config.downlink.side.channels) bearer = keeps.bearers b inside in
    let placed : IsSomewhere bearer = keeps.somewhere b inside in
    let rules : KeepsRules bearer.rules = kept.rules in
    let window = window_at config no_window b inside in
    let check : bearer.mode ≢ Tm → (has_no_check config.uplink.side bearer.up || has_no_check config.downlink.side bearer.down) ≡ false =
    λ other. and_true _ _ (not_transparent bearer.mode other) (check_at config no_check b inside) in
    let pdus : bearer.mode ≢ Tm → (has_wrong_blocks config bearer.mode Up bearer.up || has_wrong_blocks config bearer.mode Down bearer.down) ≡ false =
    λ other. and_true _ _ (not_transparent bearer.mode other) (pdus_at config no_pdu b inside) in
    record {
      up = record {
        there = kept.up;
        check = λ i is other. has_check config Up bearer.up i is (or_first _ _ (check other));
        pdus = λ i is other. has_pdus config bearer.mode Up bearer.up i is (or_first _ _ (pdus other));
      };
      down = record {
        there = kept.down;
        check = λ i is other. has_check config Down bearer.down i is (or_second _ _ (check other));
        pdus = λ i is other. has_pdus config bearer.mode Down bearer.down i is (or_second _ _ (pdus other));
      };
      somewhere = placed.somewhere;
      both = placed.both;
      logical = kept.logical;
      least_priority = kept.priority.0;
      most_priority = kept.priority.1;
      least_buffer = kept.buffer.0;
      most_buffer = kept.buffer.1;
      rules = record {
        least_window = window.0;
        most_window = window.1;
        poll_timer = rules.poll_timer;
        poll_pdus = rules.poll_pdus;
        poll_units = rules.poll_units;
        poll_window = rules.poll_window;
        status_period = rules.status_period;
        status_prohibit = rules.status_prohibit;
        discard_age = rules.discard_age;
        discard_sent = rules.discard_sent;
        least_repeat = rules.discard_repeat.0;
        most_repeat = rules.discard_repeat.1;
      };
      other_rules = kept.other_rules;
    }

-- no refusal of any number
record RefusesNothing (config : Config) : Type 0 where
  up : RefusesNone Up config.uplink.side
  down : RefusesNone Down config.downlink.side
  check : check_refusal config ≡ None
  pdus : pdu_refusal config ≡ None
  window : window_refusal config ≡ None

refuses_nothing : (config : Config) → limit_refusal config ≡ None → RefusesNothing config
unfolding limit_refusal first_count_refusal first_combination_refusal first_bearer_refusal first_bits_refusal
refuses_nothing config none =
    let up : Side = config.uplink.side in
    let down : Side = config.downlink.side in
    let all : AllNone (limit_refusals config) = all_none (limit_refusals config) none in
    let counts : AllNone (count_refusals up down) = all_none (count_refusals up down) all.0 in
    let combinations : AllNone (combination_refusals up down) = all_none (combination_refusals up down) all.1.0 in
    let bearers : AllNone (bearer_refusals config) = all_none (bearer_refusals config) all.1.1.0 in
    let bits : AllNone (bits_refusals up down) = all_none (bits_refusals up down) all.1.1.1.0 in
    record {
      up = record {
        channels = counts.0;
        formats = counts.1.1.0;
        idle = counts.1.1.1.1.0;
        combinations = counts.1.1.1.1.1.1.0;
        names = combinations.0;
        closure = combinations.1.1.0;
        blocks = combinations.1.1.1.1.0;
        bits = bits.0;
      };
      down = record {
        channels = counts.1.0;
        formats = counts.1.1.1.0;
        idle = counts.1.1.1.1.1.0;
        combinations = counts.1.1.1.1.1.1.1.0;
        names = combinations.1.0;
        closure = combinations.1.1.1.0;
        blocks = combinations.1.1.1.1.1.0;
        bits = bits.1.0;
      };
      check = bearers.0;
      pdus = bearers.1.0;
      window = bearers.1.1.0;
    }

-- what is read is good
pub good : (tree : Members) (config : Config) → IsConfig tree config → IsGood config
good tree config is =
    let keeps : KeepsKeys config = subst KeepsKeys (sym is.value) (document_keeps tree is.keys) in
    let none : RefusesNothing config = refuses_nothing config is.limits in
    record {
      uplink = record { side = side_good Up config.uplink.side none.up keeps.uplink.side; largest = keeps.uplink.largest; least_limit = keeps.uplink.pl.0; most_limit = keeps.uplink.pl.1 };
      downlink = record {
        side = side_good Down config.downlink.side none.down keeps.downlink.side;
        some_bits = keeps.downlink.slot_bits.0;
        few_bits = keeps.downlink.slot_bits.1;
        some_codes = keeps.downlink.codes.0;
        few_codes = keeps.downlink.codes.1;
        factor = keeps.downlink.sf;
      };
      few = keeps.few;
      bearers = bearer_good config keeps none.check none.pdus none.window;
      sharing = λ b c here there other shared.
          let kept : KeepsSharing (bearer_at config.bearers b) (bearer_at config.bearers c) = keeps.sharing b c here there other shared in
          record { mode = kept.mode; logical = kept.logical; other = kept.other };
    }

pub good_if : (tree : Members) (r : Result Config ConfigError) → ReadsTree tree r → IfOk r IsGood
good_if tree (Ok config) is = good tree config is
good_if tree (Err e) is = tt
