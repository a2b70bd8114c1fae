-- When a configuration is accepted, and which refusal comes.
use Rattle.std.specs.Prelude.{◌≡◌, ◌<◌, ◌≤◌, ℕ, List, [], length, replicate, Result, Ok, Err}
use Rattle.dch_bits.specs.declared.bit.Bit.{Bit}
use Rattle.dch_bits.specs.declared.bit.Bit.TheVariants.{Zero}
use Rattle.dch_types.specs.declared.channel.Dir.{Dir}
use Rattle.dch_types.specs.declared.channel.Dir.TheVariants.{Up, Down}
use Rattle.dch_types.specs.declared.config.Config.{Config}
use Rattle.dch_types.specs.declared.config.Uplink.{Uplink}
use Rattle.dch_types.specs.Parts.{side_of}
use Rattle.dch_frame.specs.declared.uplink_plan.UplinkPlan.{UplinkPlan}
use Rattle.dch_frame.specs.Uplinks.{demand_of, set2}
use Rattle.dch_collision.specs.Copies.{uplink_copies, downlink_copies}
use Rattle.dch_collision.specs.Counted.{search_count}
use Rattle.dch_collision.specs.Clear.{Copies, IsClear, IsClearSide}
use Rattle.dch_collision.specs.Found.{IsFirstOf}
use Rattle.dch_collision.specs.Plans.{ArePlans}
use Rattle.dch_accept.specs.declared.refusal.Refusal.{Refusal}
use Rattle.dch_accept.specs.declared.refusal.Refusal.TheVariants.{NoMemory, NoRate, Sequences, Collision}
use Rattle.dch_accept.specs.Plans.{Planned}

-- at no frame size does the puncturing of combination c keep to its limit
abbrev pub HasNoRate : Uplink → ℕ → Type 0
HasNoRate uplink c = set2 (demand_of uplink c) ≡ []

-- each of the first combinations has a rate
abbrev pub HaveRates : Uplink → ℕ → Type 0
HaveRates uplink n = (c : ℕ) → c < n → ¬ HasNoRate uplink c

-- combination c is the first without a rate
pub record IsFirstWithoutRate (uplink : Uplink) (c : ℕ) : Type 0 where
  pub there : c < length uplink.side.combinations
  pub none : HasNoRate uplink c
  pub before : HaveRates uplink c

-- each uplink combination has a rate
abbrev pub HaveAllRates : Config → Type 0
HaveAllRates config = HaveRates config.uplink (length config.uplink.side.combinations)

-- how many code blocks are looked at for collisions, each under all legal sequences
abbrev pub count_of : Config → ℕ
count_of config = search_count config.uplink config.downlink

-- they are too many
pub record AreTooMany (config : Config) (count : ℕ) : Type 0 where
  pub rates : HaveAllRates config
  pub counted : count ≡ count_of config
  pub more : 2048 < count

-- how often coded bits are sent
abbrev pub copies_of : Config → Dir → Copies
copies_of config Up = uplink_copies config.uplink
copies_of config Down = downlink_copies config.downlink

-- the direction before this one is free of collisions
abbrev pub IsClearBefore : Config → Dir → Type 0
IsClearBefore config Up = Unit {0}
IsClearBefore config Down = IsClearSide config.uplink.side (uplink_copies config.uplink)

-- the first collision of a configuration, of the block of zeros and the first block in text order that collides with it
pub record IsFirstCollision (config : Config) (dir : Dir) (i f r : ℕ) (sequence : List ℕ)
    (first second : List Bit) : Type 0 where
  pub directions : IsClearBefore config dir
  pub collides : IsFirstOf (side_of config dir) (copies_of config dir) i f sequence r second
  pub zeros : first ≡ replicate (length second) Zero

-- why a search gives up: it found the first collision
abbrev pub IsUnsearched : Config → Refusal → Type 0
IsUnsearched config NoMemory = Unit {0}
IsUnsearched config (NoRate c) = ⊥
IsUnsearched config (Sequences count) = ⊥
IsUnsearched config (Collision dir i f r sequence first second) =
    IsFirstCollision config dir i f r sequence first second

-- or there is none
abbrev pub IsSearched : {A : Type 0} → Config → Result A Refusal → Type 0
IsSearched config (Ok nothing) = IsClear config
IsSearched config (Err refusal) = IsUnsearched config refusal

-- it stands where the tests before it are passed
pub record IsCollision (config : Config) (dir : Dir) (i f r : ℕ) (sequence : List ℕ)
    (first second : List Bit) : Type 0 where
  pub rates : HaveAllRates config
  pub few : count_of config ≤ 2048
  pub is : IsFirstCollision config dir i f r sequence first second

-- the cause of each refusal of a configuration: the tests before it are passed, and its own is not. Want of memory
-- needs no cause
abbrev pub IsCause : Config → Refusal → Type 0
IsCause config NoMemory = Unit {0}
IsCause config (NoRate c) = IsFirstWithoutRate config.uplink c
IsCause config (Sequences count) = AreTooMany config count
IsCause config (Collision dir i f r sequence first second) = IsCollision config dir i f r sequence first second

-- the first combinations have rates, and these are their plans
pub record HavePlans (uplink : Uplink) (combinations : ℕ) (plans : List UplinkPlan) : Type 0 where
  pub rates : HaveRates uplink combinations
  pub are : ArePlans uplink combinations plans

-- the plans of all combinations, or why there are none
abbrev pub IsWithoutPlans : Uplink → Refusal → Type 0
IsWithoutPlans uplink NoMemory = Unit {0}
IsWithoutPlans uplink (NoRate c) = IsFirstWithoutRate uplink c
IsWithoutPlans uplink (Sequences count) = ⊥
IsWithoutPlans uplink (Collision dir i f r sequence first second) = ⊥

abbrev pub Plans : Uplink → Result (List UplinkPlan) Refusal → Type 0
Plans uplink (Ok plans) = HavePlans uplink (length uplink.side.combinations) plans
Plans uplink (Err refusal) = IsWithoutPlans uplink refusal

-- what is accepted is the configuration: each of its uplink combinations has a rate, not too many code blocks may lose
-- bits, and no two collide
pub record IsAccepted (config : Config) (accepted : Planned) : Type 0 where
  pub same : accepted.config ≡ config
  pub rates : HaveAllRates config
  pub few : count_of config ≤ 2048
  pub clear : IsClear config

-- the answer for a configuration: accepted with its plans, or refused for its cause
abbrev pub Accepts : Config → Result Planned Refusal → Type 0
Accepts config (Ok accepted) = IsAccepted config accepted
Accepts config (Err refusal) = IsCause config refusal
