-- A run of `gen` whose sink has no fault ends well.
use Rattle.std.proofs.Common.{◌≡◌, ◌⊎◌, ℕ, refl, inl, inr}
use Rattle.dch_io.specs.Ends.{End, Fails}
use Rattle.dch_top.specs.Benches.{Nodes}
use Rattle.dch_top.specs.GenRuns.{EndsGen}
use Rattle.dch_check.specs.declared.status.Status.{Status}
use Rattle.dch_check.specs.declared.status.Status.TheVariants.{Ok, Refused, Usage, ReadFault, WriteFault, NoMemory, TooLong}

pub gen_answered : (start frames : ℕ) (sink : End) (nodes : Nodes) (status : Status) → EndsGen start frames sink nodes status → ¬ Fails sink → (status ≡ Ok) ⊎ (status ≡ NoMemory)
gen_answered start frames sink nodes Ok ends sound = inl refl
gen_answered start frames sink nodes NoMemory ends sound = inr refl
gen_answered start frames sink nodes WriteFault ends sound = absurd (sound ends.0.breaks.fails)
gen_answered start frames sink nodes Refused ends sound = absurd ends
gen_answered start frames sink nodes Usage ends sound = absurd ends
gen_answered start frames sink nodes ReadFault ends sound = absurd ends
gen_answered start frames sink nodes TooLong ends sound = absurd ends
