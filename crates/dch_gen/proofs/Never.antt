-- The configuration of `gen` is never refused.
use Rattle.std.proofs.Common.{◌≡◌, ℕ, List, refl, sym, subst, arith}
use Rattle.dch_bits.specs.declared.bit.Bit.{Bit}
use Rattle.dch_types.specs.declared.channel.Side.{Side}
use Rattle.dch_types.specs.declared.channel.Dir.TheVariants.{Up, Down}
use Rattle.dch_types.specs.declared.config.Config.{Config}
use Rattle.dch_collision.specs.Clear.{Copies, IsClearSide}
use Rattle.dch_collision.specs.Found.{IsFirstOf}
use Rattle.dch_accept.specs.declared.refusal.Refusal.{Refusal}
use Rattle.dch_accept.specs.declared.refusal.Refusal.TheVariants.{NoMemory, NoRate, Sequences, Collision}
use Rattle.dch_accept.specs.Answers.{IsCause, copies_of}
use Rattle.dch_gen.specs.Configuration.{gen_config}
use Rattle.dch_gen.specs.Refused.{IsNeverRefused}
use Rattle.dch_gen.proofs.Rates.{have_rates}
use Rattle.dch_gen.proofs.FewPunctured.{few}
use Rattle.dch_gen.proofs.Clear.{clear}

-- a clear direction has no first collision
none_first : (side : Side) (sent : Copies) (i f r : ℕ) (sequence : List ℕ) (second : List Bit) → IsClearSide side sent → IsFirstOf side sent i f sequence r second → ⊥
none_first side sent i f r sequence second free is =
    free i is.there f sequence is.here.here.legal r is.here.here.here.there _ second is.here.here.here.here.collides

pub never : IsNeverRefused gen_config
never NoMemory cause = refl
never (NoRate c) cause = absurd (have_rates c cause.there cause.none)
never (Sequences count) cause = absurd (omega (arith, few, cause.more, cause.counted))
never (Collision Up i f r sequence first second) cause = absurd (none_first gen_config.uplink.side (copies_of gen_config Up) i f r sequence second clear.up cause.is.collides)
never (Collision Down i f r sequence first second) cause = absurd (none_first gen_config.downlink.side (copies_of gen_config Down) i f r sequence second clear.down cause.is.collides)

-- a refusal is want of memory
abbrev pub IsMemory : Refusal → Type 0
IsMemory NoMemory = Unit {0}
IsMemory (NoRate c) = ⊥
IsMemory (Sequences count) = ⊥
IsMemory (Collision dir i f r sequence first second) = ⊥

pub only_memory : (config : Config) (refusal : Refusal) → config ≡ gen_config → IsCause config refusal → IsMemory refusal
only_memory config refusal same cause = subst IsMemory (sym (never refusal (subst (λ x. IsCause x refusal) same cause))) tt
