use Rattle.std.proofs.Common.{◌≡◌, ◌+◌, ap, arith}
use Rattle.dch_rlcpdu.specs.Fields.{bits_of}
use Rattle.dch_retx.specs.StatusItems.{bits_from, first_of}
use Rattle.dch_retx.specs.StatusItem.{limit_in}
use Rattle.dch_retx.proofs.Limits.{limit_low}
use Rattle.dch_retx.proofs.tell.limit_bits.Goals as goal

pub loop-j-init : goal.loop-j-init
loop-j-init c =
    let same : c.args.first + 0 ≡ c.args.first = omega arith in
    record {
      so_far = omega (arith, limit_low c.args.sent.window c.args.sent.first c.args.sent.count (bits_from c.args.first (bits_of (first_of c.args.cursor.now))), ap (λ k. limit_in c.args.sent.window c.args.sent.first c.args.sent.count (bits_from k (bits_of (first_of c.args.cursor.now)))) same);
      small = omega arith;
    }
