use Rattle.std.proofs.Common.{ap, ◌∙◌, take, replicate, ℕ, List}
use Rattle.std.proofs.lemmas.List.{take-replicate}
use Rattle.dch_bits.specs.declared.bit.Bit.{Bit}
use Rattle.dch_bits.specs.declared.bit.Bit.TheVariants.{Zero}
use Rattle.dch_accept.proofs.frame.PhyFrame.open.Goals as goal

pub returns-clause-tfci : goal.returns-clause-tfci
returns-clause-tfci c =
    let bits = c.tfci_bits-bits in
    ap (λ (items : List Bit). take bits.result items) (c.in_ok-vec.ensures.items_if_clones_equal (λ y same. same))
    ∙ take-replicate bits.result 120 Zero bits.ensures.small
    ∙ ap (λ (n : ℕ). replicate n Zero) bits.ensures.value
