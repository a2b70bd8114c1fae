use Rattle.std.proofs.Common.{◌<◌, ◌^◌, ap, arith}
use Rattle.dch_script.specs.Held.{Held}
use Rattle.dch_gen.proofs.Written.{end_short, written}
use Rattle.dch_gen.proofs.counts.Counts.put_summary.Goals as goal

pub put-requires : goal.put-requires
put-requires c =
    let small : c.from.result < 2 ^ 64 = omega (arith, c.from.ensures, c.ranges.frames.fits) in
    let end = end_short c.from.result small in
    omega (arith, end, c.put_cells.ensures.few, c.put_cells-2.ensures.few, ap (λ (h : Held). h.most) c.put_cells-2.ensures.text, ap (λ (h : Held). h.most) c.put_cells.ensures.text, ap (λ (h : Held). h.most) c.put_sums-2.ensures.text, ap (λ (h : Held). h.most) c.put_sums.ensures.text)

pub returns : goal.returns
returns c = λ lines are. written c.args.frames c.from.result lines c.args.self.now c.args.report.now c.put_sums.new.report c.put_sums-2.new.report c.put_cells.new.report c.put_cells-2.new.report c.put.new.self are c.from.ensures c.put_sums.ensures.text c.put_sums-2.ensures.text c.put_cells.ensures.text c.put_cells-2.ensures.text c.put.ensures.text
