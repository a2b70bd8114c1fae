-- The blocks of a set that are filled with what layer 2 gave to its channels.
use Rattle.std.proofs.Common.{◌≡◌, ◌≢◌, ◌<◌, ◌≤◌, ◌+◌, ◌∙◌, ℕ, length, arith, ap, sym, subst, inl, inr, get_or-set_same, get_or-set_other}
use Rattle.std.specs.Prelude.{slice_set}
use Rattle.std.proofs.lemmas.Bool.Decides.{eqb_tells}
use Rattle.dch_types.specs.declared.channel.Dir.TheVariants.{Down}
use Rattle.dch_types.specs.declared.config.Config.{Config}
use Rattle.dch_types.specs.Parts.{channel_at}
use Rattle.dch_accept.specs.Blocks.{Held}
use Rattle.dch_accept.specs.HeldSets.{HasFormat, HeldSet, IsSetOf, held_at}
use Rattle.dch_layer2.specs.Values.{LayerRunning}
use Rattle.dch_rnc.specs.Moves.{AreFilledTo, IsSameBlocks}

-- there is room for the blocks of a channel of the set
pub given_fits : (config : Config) (set i : ℕ) (blocks : HeldSet) (held : Held) → IsSetOf config Down set blocks → HasFormat (channel_at config.downlink.side i) held → i < length config.downlink.side.channels
    → (channel_at config.downlink.side i).set ≡ set → length held.bits ≤ (held_at blocks.blocks i).room
given_fits config set i blocks held is has inside member = subst (λ n. n ≤ (held_at blocks.blocks i).room) (sym has.long) (is.rooms.each i inside member held.format has.there)

pub channel_inside : (config : Config) (set i : ℕ) (blocks : HeldSet) → IsSetOf config Down set blocks → i < length config.downlink.side.channels → i < length blocks.blocks
channel_inside config set i blocks is inside = subst (λ n. i < n) (sym is.rooms.all) inside

-- one more channel of the set
pub filled_on : (config : Config) (set i : ℕ) (v : LayerRunning) (old new : HeldSet) (held : Held) (room : ℕ) → AreFilledTo config i set v old → i < length old.blocks → held ≡ held_at v.given i
    → new ≡ record old { blocks = slice_set old.blocks i (record held { room = room }) } → AreFilledTo config (i + 1) set v new
filled_on config set i v old new held room filled inside given same j early member =
    subst (λ (h : HeldSet). IsSameBlocks (held_at v.given j) (held_at h.blocks j)) (sym same) (elim (eqb_tells j i) [
      | inl is ↦ subst (λ k. IsSameBlocks (held_at v.given k) (held_at (slice_set old.blocks i (record held { room = room })) k)) (sym is.1)
          (subst (λ (h : Held). IsSameBlocks (held_at v.given i) h) (sym (get_or-set_same old.blocks i (record held { room = room }) _ inside))
          (record { format = ap (λ (h : Held). h.format) given; bits = ap (λ (h : Held). h.bits) given }))
      | inr is ↦ (
          let apart : j ≢ i = is.1 in
          subst (λ (h : Held). IsSameBlocks (held_at v.given j) h) (sym (get_or-set_other old.blocks i j (record held { room = room }) _ apart)) (filled j (omega arith) member))
    ])

-- a channel of another set
pub filled_off : (config : Config) (set i : ℕ) (v : LayerRunning) (blocks : HeldSet) → AreFilledTo config i set v blocks → (channel_at config.downlink.side i).set ≢ set → AreFilledTo config (i + 1) set v blocks
filled_off config set i v blocks filled other j early member = elim (eqb_tells j i) [
  | inl is ↦ absurd (other (ap (λ k. (channel_at config.downlink.side k).set) (sym is.1) ∙ member))
  | inr is ↦ (let apart : j ≢ i = is.1 in filled j (omega arith) member)
]
