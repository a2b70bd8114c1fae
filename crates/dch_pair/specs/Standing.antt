-- When two entities that run stand for the two ends of a pair (TS 25.322 11.3).
use Rattle.std.specs.Prelude.{◌≡◌, ◌≤◌, ◌+◌, ◌++◌, ℕ, List, [], ◌∷◌, length, nat_lt, if◌then◌else◌, Result, Ok, Err}
use Rattle.dch_rlcpdu.specs.declared.am.AmView.{AmView}
use Rattle.dch_rlcpdu.specs.declared.handed.PduError.{PduError}
use Rattle.dch_am.specs.Entities.{Come, Entity, pdu_of, step}
use Rattle.dch_am.specs.Rules.{Rules}
use Rattle.dch_amlaw.specs.Pair.{Pair, all_handed}
use Rattle.dch_pair.specs.EntityStanding.{Represents, Running as RunningEntity, size_in as octets_in, size_of as octets_of}

-- an entity, how many units it has accepted, and those that it has handed up
pub record Peer : Type 0 where
  pub entity : RunningEntity
  pub accepted : ℕ
  pub units : List (List ℕ)

-- the octets of the PDUs that it writes, and of those that come
abbrev pub size_of : Peer → ℕ
size_of v = octets_of v.entity

abbrev pub size_in : Peer → ℕ
size_in v = octets_in v.entity

-- the sizes of PDUs stay
pub record AreSame (a b : Peer) : Type 0 where
  pub out : size_of b ≡ size_of a
  pub in_ : size_in b ≡ size_in a

-- the units of at most 1,500 octets
abbrev pub whole : List (List ℕ) → List (List ℕ)
whole [] = []
whole (u ∷ us) = if nat_lt 1500 (length u) then whole us else (u ∷ whole us)

-- what was done before an entity was last started anew: how many units it accepted, and those that it handed up
pub record Earlier : Type 0 where
  pub accepted : ℕ
  pub units : List (List ℕ)

abbrev pub nothing_earlier : Earlier
nothing_earlier = record { accepted = 0; units = [] }

-- it stands for this entity, before which so much was done
pub record IsPeer (rules : Rules) (v : Peer) (earlier : Earlier) (e : Entity) : Type 0 where
  pub entity : Represents rules v.entity e
  pub accepted : v.accepted ≡ earlier.accepted + length e.sender.accepted
  pub units : v.units ≡ earlier.units ++ whole e.receiver.reading.units

-- an entity after octets came that read so, and all units are handed up
abbrev pub hears : Rules → ℕ → Result AmView PduError → Entity → Entity
hears rules size (Ok view) e = all_handed (step rules size e (Come (pdu_of view)))
hears rules size (Err error) e = e

-- it stands for an entity that was never started anew, that writes PDUs of so many octets, and to which PDUs of so many
-- come
pub record IsAt (rules : Rules) (v : Peer) (e : Entity) (out into : ℕ) : Type 0 where
  pub peer : IsPeer rules v nothing_earlier e
  pub size : size_of v ≡ out
  pub comes : size_in v ≡ into
  pub least : 6 ≤ out
  pub most : out ≤ 126

-- they stand for this pair, between which no block is in flight
pub record AreRunning (rules : Rules) (first second : Peer) (p : Pair) : Type 0 where
  pub near : IsAt rules first p.near.entity p.near.octets p.far.octets
  pub far : IsAt rules second p.far.entity p.far.octets p.near.octets
  pub out : p.out ≡ []
  pub back : p.back ≡ []

-- the two entities
pub record Running : Type 0 where
  pub first : Peer
  pub second : Peer
