-- The blocks that a bearer builds (TS 25.322 11): a due status, then a due MRW, then PDUs.
use Rattle.std.specs.Prelude.{◌≡◌, ◌++◌, ℕ, zero, suc, List, [], ◌∷◌, true, length}
use Rattle.dch_bits.specs.declared.bit.Bit.{Bit}
use Rattle.dch_types.specs.declared.channel.Dir.{Dir}
use Rattle.dch_types.specs.declared.config.Config.{Config}
use Rattle.dch_rlctm.specs.Waiting.{Waiting}
use Rattle.dch_rlcum.specs.Sending.{after_build, is_unsent, pdu_of}
use Rattle.dch_rlcum.specs.Receiving.{Receiving}
use Rattle.dch_am.specs.Receiver.{Receiver}
use Rattle.dch_am.specs.Rules.{Rules}
use Rattle.dch_am.specs.Sender.{Sender}
use Rattle.dch_am.specs.Entities.{IsWritten, receiver_after, sender_after, turn, writes}
use Rattle.dch_layer2.specs.Octets.{AreOctets, block_of, field_for}
use Rattle.dch_layer2.specs.Bearings.{Bearing, Transparent, Unacknowledged, Acknowledged, Sends, ct_of, pdu_octets, rules_in}

-- the first unit that waits
pub record IsFirstUnit (config : Config) (dir : Dir) (b : ℕ) (w : Waiting) (us : List (List Bit)) (next : Bearing)
    (block : List Bit) : Type 0 where
  pub unit : List Bit
  pub later : List (List Bit)
  pub units : w.units ≡ unit ∷ later
  pub block_is : block ≡ field_for (ct_of config dir b) ++ unit
  pub next_is : next ≡ Transparent (record w { units = later }) us

-- the next PDU of the unacknowledged mode
pub record IsNextPdu (config : Config) (dir : Dir) (b : ℕ) (s : Sends) (r : Receiving) (next : Bearing)
    (block : List Bit) : Type 0 where
  pub some : is_unsent s.sending.units ≡ true
  pub small : AreOctets (pdu_of s.sending)
  pub block_is : block ≡ block_of (ct_of config dir b) (pdu_of s.sending)
  pub next_is : next ≡ Unacknowledged (record {
    sending = after_build s.sending;
    accepted = s.accepted;
    cuts = s.cuts
        ++ length s.accepted ∷ [];
  }) r

-- what the acknowledged mode writes at its turn
pub record IsAtTurn (config : Config) (dir : Dir) (b : ℕ) (s : Sender) (r : Receiver) (next : Bearing)
    (block : List Bit) : Type 0 where
  pub octets : List ℕ
  pub some : true ≡ writes (turn (rules_in config b) s r)
  pub written : IsWritten (turn (rules_in config b) s r) (rules_in config b) (pdu_octets config dir b) octets s r
  pub small : AreOctets octets
  pub long : length octets ≡ pdu_octets config dir b
  pub block_is : block ≡ block_of (ct_of config dir b) octets
  pub next_is : next ≡ Acknowledged (sender_after (turn (rules_in config b) s r) (rules_in config b)
      (pdu_octets config dir b) s) (receiver_after (turn (rules_in config b) s r) (rules_in config b) r)

-- a bearer builds a block
abbrev pub Builds : Config → Dir → ℕ → Bearing → Bearing → List Bit → Type 0
Builds config dir b (Transparent w us) next block = IsFirstUnit config dir b w us next block
Builds config dir b (Unacknowledged s r) next block = IsNextPdu config dir b s r next block
Builds config dir b (Acknowledged s r) next block = IsAtTurn config dir b s r next block

-- a block, and more behind it
pub record BuildsFirst (config : Config) (dir : Dir) (b : ℕ) (Rest : Bearing → List (List Bit) → Type 0) (old : Bearing)
    (blocks : List (List Bit)) : Type 0 where
  pub next : Bearing
  pub block : List Bit
  pub rest : List (List Bit)
  pub first : Builds config dir b old next block
  pub later : Rest next rest
  pub all : blocks ≡ block ∷ rest

-- a bearer builds so many blocks one after another
abbrev pub Gives : Config → Dir → ℕ → ℕ → Bearing → Bearing → List (List Bit) → Type 0
Gives config dir b zero old new blocks = (new ≡ old) × (blocks ≡ [])
Gives config dir b (suc n) old new blocks = BuildsFirst config dir b (λ next rest. Gives config dir b n next new rest)
    old blocks

-- so many blocks can be built one after another with no other event between
abbrev pub CanBuild : Rules → ℕ → ℕ → Sender → Receiver → Type 0
CanBuild rules size zero s r = Unit {0}
CanBuild rules size (suc n) s r = (true ≡ writes (turn rules s r))
    × CanBuild rules size n (sender_after (turn rules s r) rules size s) (receiver_after (turn rules s r) rules r)
