-- Where all blocks that come are for bearers of their channel, no line says that a block has none, and a line on a PDU or a unit names a
-- bearer that has a channel.
use Rattle.std.proofs.Common.{◌≡◌, ◌+◌, ℕ, List, [], ◌∷◌, ◌++◌, Bool, true, false, Some, drop, refl, ◌⊎◌, ⊎_elim}
use Rattle.dch_bits.specs.declared.bit.Bit.{Bit}
use Rattle.dch_bits.specs.declared.offer.Offer.{Offer}
use Rattle.dch_bits.specs.declared.offer.Offer.TheVariants.{Accepted, Full as NoPlace, WrongSize}
use Rattle.dch_types.specs.declared.channel.Dir.{Dir}
use Rattle.dch_types.specs.declared.config.Config.{Config}
use Rattle.dch_mac.specs.declared.answer.Demux.{Demux}
use Rattle.dch_mac.specs.declared.answer.Demux.TheVariants.{To, Reserved as ReservedField, NoBearer as Unknown, Nobody as NoOne}
use Rattle.dch_mac.specs.Receivers.{receiver}
use Rattle.dch_node.specs.Lines.{Line, Took, Full, Wrong, Bad, Reserved, NoBearer, Nobody, PduBad, Outside, Overlong, Got, GotBits, Iub, IubBad, Phy, PhyNone, BadTti, Differs}
use Rattle.dch_layer2.specs.Bearings.{channel_of, line_of_answer}
use Rattle.dch_layer2.specs.Layers.{Came, Layer, goes, takes, takes_good, takes_one}
use Rattle.dch_runlaw.proofs.Names.{receiver_has}
use Rattle.dch_runlaw.proofs.PlainReaching.{Reaches}
use Rattle.dch_runlaw.proofs.TextTakes.{CoversBearer, Every, every_append, hears_all}

-- a bearer has a channel in a direction
pub record HasChannel (config : Config) (dir : Dir) (b : ℕ) : Type 0 where
  pub channel : ℕ
  pub is : channel_of config dir b ≡ Some channel

-- a line of an end that receives in a direction: each block has a bearer, and a PDU or a unit without use is that of a bearer with a channel
abbrev pub IsKnown : Config → Dir → Line → Type 0
IsKnown config into (Took dir b) = Unit {0}
IsKnown config into (Full dir b) = Unit {0}
IsKnown config into (Wrong dir b) = Unit {0}
IsKnown config into (Bad dir i k) = Unit {0}
IsKnown config into (Reserved dir i) = ⊥
IsKnown config into (NoBearer dir i ct) = ⊥
IsKnown config into (Nobody dir i) = ⊥
IsKnown config into (PduBad dir b n) = HasChannel config into b
IsKnown config into (Outside dir b) = HasChannel config into b
IsKnown config into (Overlong dir b) = HasChannel config into b
IsKnown config into (Got dir b octets) = Unit {0}
IsKnown config into (GotBits dir b bits) = Unit {0}
IsKnown config into (Iub dir set octets) = Unit {0}
IsKnown config into (IubBad dir set n) = Unit {0}
IsKnown config into (Phy dir tfci cells) = Unit {0}
IsKnown config into PhyNone = Unit {0}
IsKnown config into (BadTti dir i n) = Unit {0}
IsKnown config into (Differs dir i) = Unit {0}

-- and so of all lines
abbrev pub AreKnown : Config → Dir → List Line → Type 0
AreKnown config into lines = Every (IsKnown config into) lines

pub known-append : (config : Config) (into : Dir) (xs ys : List Line) → AreKnown config into xs → AreKnown config into ys → AreKnown config into (xs ++ ys)
known-append config into xs ys first second = every_append (IsKnown config into) xs ys first second

-- what comes for a bearer that has a channel
known_covers : (config : Config) (into : Dir) (b : ℕ) → HasChannel config into b → CoversBearer (IsKnown config into) into b
known_covers config into b has = record { pdu_bad = λ n. has; outside = has; overlong = has; got = λ octets. tt; got_bits = λ bits. tt }

goes_known : (config : Config) (into : Dir) (i : ℕ) (bits : List Bit) (to : Demux) (layer : Layer) → receiver config into i bits ≡ to → Reaches config into i bits → AreKnown config into (goes config into i bits to layer).lines
goes_known config into i bits (To b skip) layer e has = hears_all (IsKnown config into) config into b (known_covers config into b (record { channel = i; is = receiver_has config into i b skip bits e })) (drop skip bits) (layer.bearings b)
goes_known config into i bits ReservedField layer e has = let other = has.is in absurd (cc)
goes_known config into i bits (Unknown ct) layer e has = let other = has.is in absurd (cc)
goes_known config into i bits NoOne layer e has = let other = has.is in absurd (cc)

-- a block that comes has no bits, or is for a bearer, or is bad
abbrev pub MayReach : Config → Dir → ℕ → Came → Type 0
MayReach config into i came = came.good ≡ true → (came.bits ≡ []) ⊎ Reaches config into i came.bits

abbrev pub AllMayReach : Config → Dir → ℕ → List Came → Type 0
AllMayReach config into i [] = Unit {0}
AllMayReach config into i (came ∷ later) = MayReach config into i came × AllMayReach config into i later

good_known : (config : Config) (into : Dir) (i : ℕ) (bits : List Bit) (layer : Layer) → (bits ≡ []) ⊎ Reaches config into i bits → AreKnown config into (takes_good config into i bits layer).lines
good_known config into i [] layer may = tt
good_known config into i (bit ∷ bits) layer may = ⊎_elim
    (λ (none : bit ∷ bits ≡ []). absurd (cc))
    (λ (has : Reaches config into i (bit ∷ bits)). goes_known config into i (bit ∷ bits) (receiver config into i (bit ∷ bits)) layer refl has)
    may

one_known : (config : Config) (into : Dir) (i k : ℕ) (bits : List Bit) (good : Bool) (layer : Layer) → MayReach config into i (record { bits = bits; good = good }) → AreKnown config into (takes_one config into i k bits good layer).lines
one_known config into i k bits true layer may = good_known config into i bits layer (may refl)
one_known config into i k bits false layer may = (tt, tt)

pub takes_known : (config : Config) (into : Dir) (i k : ℕ) (came : List Came) (layer : Layer) → AllMayReach config into i came → AreKnown config into (takes config into i k came layer).lines
takes_known config into i k [] layer all = tt
takes_known config into i k (c ∷ came) layer all =
    let mid : Layer = (takes_one config into i k c.bits c.good layer).layer in
    known-append config into (takes_one config into i k c.bits c.good layer).lines (takes config into i (k + 1) came mid).lines (one_known config into i k c.bits c.good layer all.0) (takes_known config into i (k + 1) came mid all.1)

-- a unit that is offered
pub answer_known : (config : Config) (into dir : Dir) (b : ℕ) (o : Offer) → AreKnown config into (line_of_answer dir b o ∷ [])
answer_known config into dir b Accepted = (tt, tt)
answer_known config into dir b NoPlace = (tt, tt)
answer_known config into dir b WrongSize = (tt, tt)
