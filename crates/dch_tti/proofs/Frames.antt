-- The TFCI bits of a direction, and the cells of a frame that is interleaved out of the multiplexed cells behind it.
use Rattle.std.proofs.Common.{◌≡◌, ◌<◌, ◌%◌, ℕ, Bool, true, false, cond, List, length, get_or, arith, refl, ap, ◌∙◌, inl, inr}
use Rattle.std.specs.Prelude.{◌++◌}
use Rattle.std.proofs.lemmas.List.{get_or_append_left}
use Rattle.dch_bits.specs.declared.bit.Trit.{Trit}
use Rattle.dch_bits.specs.declared.bit.Trit.TheVariants.{Off}
use Rattle.dch_types.specs.declared.channel.Dir.{Dir}
use Rattle.dch_types.specs.declared.channel.Dir.TheVariants.{Up, Down}
use Rattle.dch_types.specs.declared.config.Config.{Config}
use Rattle.dch_tfci.specs.Tfci.{IsSize}
use Rattle.dch_frame.specs.Stages.{code_place}
use Rattle.dch_frame.proofs.Codes.{code_place-inside}
use Rattle.dch_accept.specs.Frames.{tfci_bits}

-- a direction sends 30 or 120 TFCI bits
size_if : (b : Bool) → IsSize (cond b 120 30)
size_if true = inr refl
size_if false = inl refl

pub size_of : (config : Config) (dir : Dir) → IsSize (tfci_bits config dir)
size_of config Up = inl refl
size_of config Down = size_if _

-- cell k of a frame whose codes have len cells each
pub cell_is : (n len code k : ℕ) (cells stream : List Trit) (multiplexed : ℕ → Trit) → n % len ≡ 0 → 0 < len → len ≡ code → length cells ≡ n → length stream ≡ n
    → ((k : ℕ) → k < length cells → get_or cells k Off ≡ get_or stream (code_place len k) Off) → ((p : ℕ) → p < length stream → get_or stream p Off ≡ multiplexed p)
    → k < n → get_or (cells ++ stream) k Off ≡ multiplexed (code_place code k)
cell_is n len code k cells stream multiplexed whole some same front long shows is inside =
    let there : code_place len k < n = code_place-inside n len k whole some inside in
    get_or_append_left cells stream Off k (omega (arith, front, inside))
    ∙ shows k (omega (arith, front, inside))
    ∙ is (code_place len k) (omega (arith, long, there))
    ∙ ap (λ len. multiplexed (code_place len k)) same
