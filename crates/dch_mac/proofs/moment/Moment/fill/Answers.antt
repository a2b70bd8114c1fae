use Rattle.std.proofs.Common.{◌<◌, arith, sym, subst, length, ap, below_more}
use Rattle.dch_mac.specs.Table.{IsRow}
use Rattle.dch_mac.proofs.moment.Moment.fill.Goals as goal

pub loop-i-preserved : goal.loop-i-preserved
loop-i-preserved c =
    let asked = c.channels-i-end.ensures.asked in
    let past : c.loop-i.i < length c.args.self.now.side.channels = omega (arith, c.loop-i-test.true, ap length c.channels-i-end.ensures.value) in
    record {
      size = c.fill_channel.ensures.size;
      written = below_more _ _
          (λ j before f less. subst (IsRow c.args.self.now j f) (sym (c.fill_channel.ensures.earlier j f before (omega (arith, less, (asked.side.channels j (omega (arith, before, past))).few)))) (c.loop-i.invariant.written j before f less))
          c.fill_channel.ensures.written;
    }
