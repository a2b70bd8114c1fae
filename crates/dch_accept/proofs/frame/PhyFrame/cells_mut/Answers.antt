use Rattle.std.proofs.Common.{◌≡◌, ◌≤◌, ap, refl, ◌∙◌, take, length, arith, List}
use Rattle.std.proofs.lemmas.Slice.{between_from_start}
use Rattle.dch_bits.specs.declared.bit.Trit.{Trit}
use Rattle.dch_accept.specs.Frames.{Frame}
use Rattle.dch_accept.specs.FrameLending.{with_cells}
use Rattle.dch_accept.proofs.Overwritten.{front_written}
use Rattle.dch_accept.proofs.frame.PhyFrame.cells_mut.Goals as goal

pub returns : goal.returns
returns c =
    let inside = c.self.inside in
    let long : inside.cells.len ≡ length inside.cells.items = inside.cells.ok.0 in
    let within : inside.len ≤ inside.cells.len = omega (arith, long, c.self.invariant.within, c.self.invariant.twice) in (
      (
        refl,
        λ w. ap (λ (cells : List Trit). record { tfci = take inside.bits inside.tfci.items; cells = cells; room = inside.room })
            (front_written inside.len inside.cells.len inside.cells.items w long within)
            ∙ ap (λ (frame : Frame). with_cells frame w) c.self.view_is,
      ),
      record {
        writes_back = tt;
        value = c.slice_mut.ensures.value ∙ between_from_start inside.cells.items inside.len ∙ ap (λ (frame : Frame). frame.cells) c.self.view_is;
      },
    )
