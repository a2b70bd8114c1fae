use Rattle.std.proofs.Common.{◌≡◌, ◌≤◌, ap, refl, ◌∙◌, take, length, arith, List}
use Rattle.std.proofs.lemmas.Slice.{between_from_start}
use Rattle.dch_bits.specs.declared.bit.Bit.{Bit}
use Rattle.dch_accept.specs.Frames.{Frame}
use Rattle.dch_accept.specs.FrameLending.{with_tfci}
use Rattle.dch_accept.proofs.Overwritten.{front_written}
use Rattle.dch_accept.proofs.frame.PhyFrame.tfci_mut.Goals as goal

pub returns : goal.returns
returns c =
    let inside = c.self.inside in
    let long : inside.tfci.len ≡ length inside.tfci.items = inside.tfci.ok.0 in
    let few : inside.bits ≤ inside.tfci.len = omega (arith, long, c.self.invariant.few) in (
      (
        refl,
        λ w. ap (λ (bits : List Bit). record { tfci = bits; cells = take inside.len inside.cells.items; room = inside.room })
            (front_written inside.bits inside.tfci.len inside.tfci.items w long few)
            ∙ ap (λ (frame : Frame). with_tfci frame w) c.self.view_is,
      ),
      record {
        writes_back = tt;
        value = c.slice_mut.ensures.value ∙ between_from_start inside.tfci.items inside.bits ∙ ap (λ (frame : Frame). frame.tfci) c.self.view_is;
      },
    )
