-- The blocks that an acknowledged bearer builds, as a history of its pair, and where they stand among those of a channel.
use Rattle.std.proofs.Common.{◌≡◌, ◌-◌, ◌≤◌, ℕ, zero, suc, List, [], ◌∷◌, ◌++◌, Bool, true, false, cond, Option, Some, None, drop, map, refl, sym, ap, ◌∙◌, subst, append_assoc}
use Rattle.std.specs.Prelude.{◌==◌, filter}
use Rattle.std.proofs.lemmas.List.{append-nil}
use Rattle.dch_bits.specs.declared.bit.Bit.{Bit}
use Rattle.dch_types.specs.declared.channel.Dir.{Dir}
use Rattle.dch_types.specs.declared.config.Config.{Config}
use Rattle.dch_mac.specs.Field.{field_bits}
use Rattle.dch_rlcum.specs.Sending.{pdu_of}
use Rattle.dch_am.specs.Receiver.{Receiver}
use Rattle.dch_am.specs.Rules.{Rules}
use Rattle.dch_am.specs.Entities.{Build as BuildEvent, IsWritten, Turn, receiver_after, sender_after, turn}
use Rattle.dch_amlaw.specs.Pair.{At, Block, Build, End, Near, after, block_of as block_at, sent_on, stepped}
use Rattle.dch_amlaw.specs.Lossless.{NoneLost}
use Rattle.dch_pair.proofs.Lines.{IsSent, IsWire, written_sent}
use Rattle.dch_pair.proofs.Peers.{read_same}
use Rattle.dch_layer2.specs.Bearings.{Acknowledged, Bearing, Transparent, Unacknowledged, channel_of, ct_of, pdu_octets, rules_in}
use Rattle.dch_layer2.specs.Building.{Builds, Gives, IsAtTurn}
use Rattle.dch_layer2.specs.Octets.{bits_of, field_for, octets_of}
use Rattle.dch_layer2.specs.Starting.{joined}
use Rattle.dch_layer2.proofs.Octets.{block_back}
use Rattle.dch_runlaw.specs.Calls.{for_each}
use Rattle.dch_runlaw.specs.History.{AreApart, calls_of, is_mine, is_to}
use Rattle.dch_runlaw.proofs.Catching.{Wires, pair_of}
use Rattle.dch_runlaw.proofs.Names.{comes_to}
use Rattle.dch_runlaw.proofs.BlocksTaken.{after-append, calls-append, none_lost-append}

-- the end after blocks were built: events of the history, and what stands at the back of its line
pub record Gave (rules : Rules) (near far : End) (line back : List Block) (skip d : ℕ) (blocks : List (List Bit)) (next : Bearing) : Type 0 where
  pub events : List At
  pub called : calls_of events ≡ map Near (for_each Build blocks)
  pub end : End
  pub more : List Block
  pub is : after rules (pair_of near far line back) events ≡ pair_of end far (line ++ more) back
  pub octets : end.octets ≡ near.octets
  pub bearing : next ≡ Acknowledged end.entity.sender end.entity.receiver
  pub units : end.entity.receiver.reading.units ≡ near.entity.receiver.reading.units
  pub wires : Wires skip d more blocks
  pub kept : NoneLost events

pub wires-append : (skip d : ℕ) (xs ys : List Block) (as' bs : List (List Bit)) → Wires skip d xs as' → Wires skip d ys bs → Wires skip d (xs ++ ys) (as' ++ bs)
wires-append skip d [] ys [] bs h k = k
wires-append skip d [] ys (a ∷ as') bs h k = absurd h
wires-append skip d (x ∷ xs) ys [] bs h k = absurd h
wires-append skip d (x ∷ xs) ys (a ∷ as') bs h k = (h.0, wires-append skip d xs ys as' bs h.1 k)

-- a block
built : (config : Config) (out : Dir) (b : ℕ) (near far : End) (line back : List Block) (next : Bearing) (block : List Bit) → near.octets ≡ pdu_octets config out b → pdu_octets config out b ≤ 126 → IsAtTurn config out b near.entity.sender near.entity.receiver next block → Gave (rules_in config b) near far line back (field_bits (ct_of config out b)) (pdu_octets config out b - 2) (block ∷ []) next
built config out b near far line back next block size small at = go (block_at t rules near) refl (written_sent t rules near at.octets (subst (λ n. n ≤ 126) (sym size) small) refl at.some (subst (λ n. IsWritten t rules n at.octets near.entity.sender near.entity.receiver) (sym size) at.written))
  where
    rules : Rules
    rules = rules_in config b

    t : Turn
    t = turn rules near.entity.sender near.entity.receiver

    r : Receiver
    r = receiver_after t rules near.entity.receiver

    read : octets_of (drop (field_bits (ct_of config out b)) block) ≡ at.octets
    read = ap (λ x. octets_of (drop (field_bits (ct_of config out b)) x)) at.block_is ∙ block_back (ct_of config out b) at.octets at.small

    go : (o : Option Block) → block_at t rules near ≡ o → IsSent (near.octets - 2) at.octets o → Gave rules near far line back (field_bits (ct_of config out b)) (pdu_octets config out b - 2) (block ∷ []) next
    go None e sent = absurd sent
    go (Some x) e sent = record {
      events = Near Build ∷ [];
      called = refl;
      end = stepped rules near BuildEvent;
      more = x ∷ [];
      is = ap (λ o. pair_of (stepped rules near BuildEvent) far (sent_on line o) back) e;
      octets = refl;
      bearing = at.next_is ∙ ap (λ n. Acknowledged (sender_after t rules n near.entity.sender) r) (sym size);
      units = ap (λ x. x.units) (read_same t rules near.entity.receiver);
      wires = (subst (λ l. IsWire (pdu_octets config out b - 2) l x) (sym read) (subst (λ n. IsWire (n - 2) at.octets x) size sent), tt);
      kept = (refl, tt);
    }

-- so many blocks
pub all_given : (config : Config) (out : Dir) (b n : ℕ) (near far : End) (line back : List Block) (old new : Bearing) (blocks : List (List Bit)) → near.octets ≡ pdu_octets config out b → pdu_octets config out b ≤ 126 → old ≡ Acknowledged near.entity.sender near.entity.receiver → Gives config out b n old new blocks → Gave (rules_in config b) near far line back (field_bits (ct_of config out b)) (pdu_octets config out b - 2) blocks new
all_given config out b zero near far line back old new blocks size small e g = record {
  events = [];
  called = ap (λ (l : List (List Bit)). map Near (for_each Build l)) (sym g.1);
  end = near;
  more = [];
  is = ap (λ l. pair_of near far l back) (sym (append-nil line));
  octets = refl;
  bearing = g.0 ∙ e;
  units = refl;
  wires = subst (λ l. Wires (field_bits (ct_of config out b)) (pdu_octets config out b - 2) [] l) (sym g.1) tt;
  kept = tt;
}
all_given config out b (suc n) near far line back old new blocks size small e g =
    let t = built config out b near far line back g.next g.block size small (subst (λ x. Builds config out b x g.next g.block) e g.first) in
    let u = all_given config out b n t.end far (line ++ t.more) back g.next new g.rest (t.octets ∙ size) small t.bearing g.later in
    record {
      events = t.events ++ u.events;
      called = calls-append t.events u.events (map Near (for_each Build (g.block ∷ []))) (map Near (for_each Build g.rest)) t.called u.called ∙ ap (λ (l : List (List Bit)). map Near (for_each Build l)) (sym g.all);
      end = u.end;
      more = t.more ++ u.more;
      is = after-append (rules_in config b) (pair_of near far line back) t.events u.events ∙ ap (λ x. after (rules_in config b) x u.events) t.is ∙ u.is ∙ ap (λ l. pair_of u.end far l back) (append_assoc line t.more u.more);
      octets = u.octets ∙ t.octets;
      bearing = u.bearing;
      units = u.units ∙ t.units;
      wires = subst (λ l. Wires (field_bits (ct_of config out b)) (pdu_octets config out b - 2) (t.more ++ u.more) l) (sym g.all) (wires-append (field_bits (ct_of config out b)) (pdu_octets config out b - 2) t.more u.more (g.block ∷ []) g.rest t.wires u.wires);
      kept = none_lost-append t.events u.events t.kept u.kept;
    }

-- each block begins with the field of its bearer
pub record HasField (config : Config) (dir : Dir) (c : ℕ) (block : List Bit) : Type 0 where
  pub payload : List Bit
  pub is : block ≡ field_for (ct_of config dir c) ++ payload

pub has_field : (config : Config) (dir : Dir) (c : ℕ) (old next : Bearing) (block : List Bit) → Builds config dir c old next block → HasField config dir c block
has_field config dir c (Transparent w us) next block g = record { payload = g.unit; is = g.block_is }
has_field config dir c (Unacknowledged s r) next block g = record { payload = bits_of (pdu_of s.sending); is = g.block_is }
has_field config dir c (Acknowledged s r) next block g = record { payload = bits_of g.octets; is = g.block_is }

mine_block : (config : Config) (dir : Dir) (b c i : ℕ) (block : List Bit) → AreApart config dir i → channel_of config dir c ≡ Some i → HasField config dir c block → is_mine config dir b i block ≡ (b == c)
mine_block config dir b c i block apart on h = ap (is_mine config dir b i) h.is ∙ ap (is_to b) (comes_to config dir i c h.payload apart on)

-- of the blocks of a bearer either all are mine or none
pub mine_all : (config : Config) (dir : Dir) (b c i n : ℕ) (old new : Bearing) (blocks : List (List Bit)) (same : Bool) → (b == c) ≡ same → AreApart config dir i → channel_of config dir c ≡ Some i → Gives config dir c n old new blocks → filter (is_mine config dir b i) blocks ≡ cond same blocks []
mine_all config dir b c i zero old new blocks true q apart on g = ap (filter (is_mine config dir b i)) g.1 ∙ sym g.1
mine_all config dir b c i zero old new blocks false q apart on g = ap (filter (is_mine config dir b i)) g.1
mine_all config dir b c i (suc n) old new blocks true q apart on g =
    let head : is_mine config dir b i g.block ≡ true = mine_block config dir b c i g.block apart on (has_field config dir c old g.next g.block g.first) ∙ q in
    ap (filter (is_mine config dir b i)) g.all ∙ rw head (ap (λ l. g.block ∷ l) (mine_all config dir b c i n g.next new g.rest true q apart on g.later)) ∙ sym g.all
mine_all config dir b c i (suc n) old new blocks false q apart on g =
    let head : is_mine config dir b i g.block ≡ false = mine_block config dir b c i g.block apart on (has_field config dir c old g.next g.block g.first) ∙ q in
    ap (filter (is_mine config dir b i)) g.all ∙ rw head (mine_all config dir b c i n g.next new g.rest false q apart on g.later)

pub joined-append : (built : ℕ → List (List Bit)) (xs ys : List ℕ) → joined built (xs ++ ys) ≡ joined built xs ++ joined built ys
joined-append built [] ys = refl
joined-append built (x ∷ xs) ys = ap (λ l. built x ++ l) (joined-append built xs ys) ∙ sym (append_assoc (built x) (joined built xs) (joined built ys))
