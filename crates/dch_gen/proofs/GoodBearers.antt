-- The bearers of the configuration of `gen` keep every rule.
use Rattle.std.proofs.Common.{◌≡◌, ◌≢◌, ◌<◌, ◌≤◌, ℕ, zero, suc, true, false, length, Some, refl, subst, inl, arith}
use Rattle.std.specs.Prelude.{IsTrue}
use Rattle.dch_types.specs.declared.channel.Dir.{Dir}
use Rattle.dch_types.specs.declared.channel.Dir.TheVariants.{Up, Down}
use Rattle.dch_types.specs.declared.bearer.Mode.TheVariants.{Tm}
use Rattle.dch_types.specs.declared.bearer.Bearer.{Bearer}
use Rattle.dch_types.specs.declared.config.Config.{Config}
use Rattle.dch_types.specs.Lengths.{crc_size}
use Rattle.dch_types.specs.Parts.{channel_at, side_of, channel_number, default_rules}
use Rattle.dch_tree.specs.Bearers.{bearer_at, shares}
use Rattle.dch_config.specs.Bearers.{has_ct, are_pdus}
use Rattle.dch_config.specs.Good.{IsRules, IsPlaced, IsBearer, IsSharing}
use Rattle.dch_gen.specs.Channels.{gen_channels}
use Rattle.dch_gen.specs.Bearers.{speech, reports, dialogue, packets, gen_bearers}
use Rattle.dch_gen.specs.Configuration.{gen_side, gen_config}

-- a bearer that goes on channel k of a direction
record IsOn (config : Config) (bearer : Bearer) (dir : Dir) (k : ℕ) : Type 0 where
  number : channel_number dir bearer ≡ Some k
  there : k < length (side_of config dir).channels
  check : bearer.mode ≢ Tm → crc_size (channel_at (side_of config dir) k).crc ≢ 0
  pdus : bearer.mode ≢ Tm → IsTrue (are_pdus bearer.mode (has_ct config dir k) (channel_at (side_of config dir) k).formats)

placed : (config : Config) (bearer : Bearer) (dir : Dir) (k : ℕ) → IsOn config bearer dir k → IsPlaced config bearer dir
placed config bearer dir k on = record {
  there = λ i is. subst (λ n. n < length (side_of config dir).channels) (same i is) on.there;
  check = λ i is. subst (λ n. bearer.mode ≢ Tm → crc_size (channel_at (side_of config dir) n).crc ≢ 0) (same i is) on.check;
  pdus = λ i is. subst (λ n. bearer.mode ≢ Tm → IsTrue (are_pdus bearer.mode (has_ct config dir n) (channel_at (side_of config dir) n).formats)) (same i is) on.pdus;
}
  where
    same : (i : ℕ) → channel_number dir bearer ≡ Some i → k ≡ i
    same i is = let e : channel_number dir bearer ≡ Some k = on.number in cc

default_good : IsRules default_rules
default_good = record {
  least_window = omega arith;
  most_window = omega arith;
  poll_timer = omega arith;
  poll_pdus = omega arith;
  poll_units = omega arith;
  poll_window = omega arith;
  status_period = omega arith;
  status_prohibit = omega arith;
  discard_age = omega arith;
  discard_sent = omega arith;
  least_repeat = omega arith;
  most_repeat = omega arith;
}

polling_good : (window pdus : ℕ) → 1 ≤ window → window ≤ 2048 → pdus ≤ 1000 → IsRules (record default_rules { window = window; poll_timer = 20; poll_pdus = pdus })
polling_good window pdus least most few = record {
  least_window = least;
  most_window = most;
  poll_timer = omega arith;
  poll_pdus = few;
  poll_units = omega arith;
  poll_window = omega arith;
  status_period = omega arith;
  status_prohibit = omega arith;
  discard_age = omega arith;
  discard_sent = omega arith;
  least_repeat = omega arith;
  most_repeat = omega arith;
}

speech_on : (dir : Dir) (k : ℕ) → k < 3 → IsOn gen_config (speech k) dir k
unfolding gen_config gen_side gen_channels
speech_on Up k inside = record { number = refl; there = omega arith; check = λ other. absurd (other refl); pdus = λ other. absurd (other refl) }
speech_on Down k inside = record { number = refl; there = omega arith; check = λ other. absurd (other refl); pdus = λ other. absurd (other refl) }

reports_on : (dir : Dir) → IsOn gen_config reports dir 3
unfolding gen_config gen_side gen_channels gen_bearers
reports_on Up = record { number = refl; there = omega arith; check = λ other same. absurd (omega (arith, same)); pdus = λ other. refl }
reports_on Down = record { number = refl; there = omega arith; check = λ other same. absurd (omega (arith, same)); pdus = λ other. refl }

dialogue_on : (dir : Dir) → IsOn gen_config dialogue dir 3
unfolding gen_config gen_side gen_channels gen_bearers
dialogue_on Up = record { number = refl; there = omega arith; check = λ other same. absurd (omega (arith, same)); pdus = λ other. refl }
dialogue_on Down = record { number = refl; there = omega arith; check = λ other same. absurd (omega (arith, same)); pdus = λ other. refl }

packets_on : (dir : Dir) → IsOn gen_config packets dir 4
unfolding gen_config gen_side gen_channels gen_bearers
packets_on Up = record { number = refl; there = omega arith; check = λ other same. absurd (omega (arith, same)); pdus = λ other. refl }
packets_on Down = record { number = refl; there = omega arith; check = λ other same. absurd (omega (arith, same)); pdus = λ other. refl }

speech_good : (k : ℕ) → k < 3 → IsBearer gen_config (speech k)
speech_good k inside = record {
  up = placed gen_config (speech k) Up k (speech_on Up k inside);
  down = placed gen_config (speech k) Down k (speech_on Down k inside);
  somewhere = inl refl;
  both = λ _. (refl, refl);
  logical = omega arith;
  least_priority = omega arith;
  most_priority = omega arith;
  least_buffer = omega arith;
  most_buffer = omega arith;
  rules = default_good;
  other_rules = λ _. refl;
}

reports_good : IsBearer gen_config reports
reports_good = record {
  up = placed gen_config reports Up 3 (reports_on Up);
  down = placed gen_config reports Down 3 (reports_on Down);
  somewhere = inl refl;
  both = λ _. (refl, refl);
  logical = omega arith;
  least_priority = omega arith;
  most_priority = omega arith;
  least_buffer = omega arith;
  most_buffer = omega arith;
  rules = default_good;
  other_rules = λ _. refl;
}

dialogue_good : IsBearer gen_config dialogue
dialogue_good = record {
  up = placed gen_config dialogue Up 3 (dialogue_on Up);
  down = placed gen_config dialogue Down 3 (dialogue_on Down);
  somewhere = inl refl;
  both = λ _. (refl, refl);
  logical = omega arith;
  least_priority = omega arith;
  most_priority = omega arith;
  least_buffer = omega arith;
  most_buffer = omega arith;
  rules = polling_good 128 0 (omega arith) (omega arith) (omega arith);
  other_rules = λ other. absurd (other refl);
}

packets_good : IsBearer gen_config packets
packets_good = record {
  up = placed gen_config packets Up 4 (packets_on Up);
  down = placed gen_config packets Down 4 (packets_on Down);
  somewhere = inl refl;
  both = λ _. (refl, refl);
  logical = omega arith;
  least_priority = omega arith;
  most_priority = omega arith;
  least_buffer = omega arith;
  most_buffer = omega arith;
  rules = polling_good 1024 64 (omega arith) (omega arith) (omega arith);
  other_rules = λ other. absurd (other refl);
}

-- what holds at each of the six places
each_place : (P : ℕ → Type 0) → P 0 → P 1 → P 2 → P 3 → P 4 → P 5 → (b : ℕ) → b < 6 → P b
each_place P p q r s t u zero inside = p
each_place P p q r s t u (suc zero) inside = q
each_place P p q r s t u (suc (suc zero)) inside = r
each_place P p q r s t u (suc (suc (suc zero))) inside = s
each_place P p q r s t u (suc (suc (suc (suc zero)))) inside = t
each_place P p q r s t u (suc (suc (suc (suc (suc zero))))) inside = u
each_place P p q r s t u (suc (suc (suc (suc (suc (suc b)))))) inside = absurd (omega arith)

pub six : length gen_bearers ≡ 6
unfolding gen_bearers
six = refl

pub bearers_good : (b : ℕ) → b < 6 → IsBearer gen_config (bearer_at gen_bearers b)
unfolding gen_bearers
bearers_good = each_place (λ b. IsBearer gen_config (bearer_at gen_bearers b))
    (speech_good 0 (omega arith))
    (speech_good 1 (omega arith))
    (speech_good 2 (omega arith))
    reports_good
    dialogue_good
    packets_good

-- two bearers at these places may share a channel
abbrev MayShare : ℕ → ℕ → Type 0
MayShare b c = b ≢ c → shares (bearer_at gen_bearers b) (bearer_at gen_bearers c) ≡ true → IsSharing (bearer_at gen_bearers b) (bearer_at gen_bearers c)

self : (b : ℕ) → MayShare b b
self b other = absurd (other refl)

apart : (b c : ℕ) → shares (bearer_at gen_bearers b) (bearer_at gen_bearers c) ≡ false → MayShare b c
apart b c none other shared = cc

pub bearers_share : (b c : ℕ) → b < 6 → c < 6 → MayShare b c
unfolding gen_bearers
bearers_share b c here there = each_place (λ b. MayShare b c)
    (each_place (MayShare 0) (self 0) (apart 0 1 refl) (apart 0 2 refl) (apart 0 3 refl) (apart 0 4 refl) (apart 0 5 refl) c there)
    (each_place (MayShare 1) (apart 1 0 refl) (self 1) (apart 1 2 refl) (apart 1 3 refl) (apart 1 4 refl) (apart 1 5 refl) c there)
    (each_place (MayShare 2) (apart 2 0 refl) (apart 2 1 refl) (self 2) (apart 2 3 refl) (apart 2 4 refl) (apart 2 5 refl) c there)
    (each_place (MayShare 3) (apart 3 0 refl) (apart 3 1 refl) (apart 3 2 refl) (self 3) (λ _ _. first) (apart 3 5 refl) c there)
    (each_place (MayShare 4) (apart 4 0 refl) (apart 4 1 refl) (apart 4 2 refl) (λ _ _. second) (self 4) (apart 4 5 refl) c there)
    (each_place (MayShare 5) (apart 5 0 refl) (apart 5 1 refl) (apart 5 2 refl) (apart 5 3 refl) (apart 5 4 refl) (self 5) c there)
    b here
  where
    first : IsSharing reports dialogue
    first = record { mode = λ same. cc; logical = omega arith; other = λ same. absurd (omega (arith, same)) }

    second : IsSharing dialogue reports
    second = record { mode = λ same. cc; logical = omega arith; other = λ same. absurd (omega (arith, same)) }
