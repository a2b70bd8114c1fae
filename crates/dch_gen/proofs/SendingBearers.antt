-- The six bearers of the configuration of `gen` send in both directions.
use Rattle.std.proofs.Common.{◌<◌, ℕ, zero, suc, refl, subst, sym, arith}
use Rattle.dch_types.specs.declared.channel.Dir.TheVariants.{Up, Down}
use Rattle.dch_types.specs.declared.config.Config.{Config}
use Rattle.dch_accept.specs.Plans.{Planned}
use Rattle.dch_accept.specs.Answers.{IsAccepted}
use Rattle.dch_link.specs.RncStanding.{SendsDown}
use Rattle.dch_link.specs.UeStanding.{SendsUp}
use Rattle.dch_gen.specs.Bearers.{gen_bearers}
use Rattle.dch_gen.specs.Configuration.{gen_config}
use Rattle.dch_gen.specs.Generators.{HasBearers}

sends_up : (b : ℕ) → b < 6 → SendsUp gen_config b
unfolding gen_config gen_bearers
sends_up zero inside = record { there = omega arith; sends = refl }
sends_up (suc zero) inside = record { there = omega arith; sends = refl }
sends_up (suc (suc zero)) inside = record { there = omega arith; sends = refl }
sends_up (suc (suc (suc zero))) inside = record { there = omega arith; sends = refl }
sends_up (suc (suc (suc (suc zero)))) inside = record { there = omega arith; sends = refl }
sends_up (suc (suc (suc (suc (suc zero))))) inside = record { there = omega arith; sends = refl }
sends_up (suc (suc (suc (suc (suc (suc b)))))) inside = absurd (omega arith)

sends_down : (b : ℕ) → b < 6 → SendsDown gen_config b
unfolding gen_config gen_bearers
sends_down zero inside = record { there = omega arith; sends = refl }
sends_down (suc zero) inside = record { there = omega arith; sends = refl }
sends_down (suc (suc zero)) inside = record { there = omega arith; sends = refl }
sends_down (suc (suc (suc zero))) inside = record { there = omega arith; sends = refl }
sends_down (suc (suc (suc (suc zero)))) inside = record { there = omega arith; sends = refl }
sends_down (suc (suc (suc (suc (suc zero))))) inside = record { there = omega arith; sends = refl }
sends_down (suc (suc (suc (suc (suc (suc b)))))) inside = absurd (omega arith)

pub gen_sends : (planned : Planned) → IsAccepted gen_config planned → HasBearers planned
gen_sends planned is Up b inside = subst (λ (c : Config). SendsUp c b) (sym is.same) (sends_up b inside)
gen_sends planned is Down b inside = subst (λ (c : Config). SendsDown c b) (sym is.same) (sends_down b inside)
