use Rattle.std.proofs.Common.{◌≢◌, ◌<◌, get_or, length, arith, below_more, get_or-set_other, get_or-set_same}
use Rattle.dch_bits.specs.declared.bit.Trit.TheVariants.{Zero}
use Rattle.dch_damage.specs.Turns.{cell_after}
use Rattle.dch_damage.specs.declared.turned.Turned.TheVariants.{Not}
use Rattle.dch_damage.proofs.Changed.{changed_front}
use Rattle.dch_damage.proofs.turned.turn_cells.Goals as goal

pub loop-i-preserved : goal.loop-i-preserved
loop-i-preserved c =
    below_more _ _
    (λ k early. let apart : k ≢ c.loop-i.i = omega arith in rw get_or-set_other (c.loop-i.invariant k early))
    (let inside : c.loop-i.i < length c.loop-i.out = omega arith in rw get_or-set_same c.cell.ensures)

pub returns : goal.returns
returns c =
    changed_front (λ place. cell_after (get_or c.args.table.now place Not)) Zero c.args.cells.now c.loop-i.out (omega arith) (λ k early. c.loop-i.invariant k (omega arith))
