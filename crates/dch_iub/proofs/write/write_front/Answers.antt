use Rattle.std.proofs.Common.{◌≡◌, ℕ, List, take, subst}
use Rattle.dch_iub.specs.Shape.{header_octets}
use Rattle.dch_iub.proofs.Transfers.{header_front, named_front}
use Rattle.dch_iub.proofs.write.write_front.Goals as goal

pub returns-clause-front : goal.returns-clause-front
returns-clause-front c =
    let side = c.args.side.now in
    let set : ℕ = c.args.set in
    let old : List ℕ = c.write_header-header.new.out in
    let new : List ℕ = c.write_blocks.new.out in
    let same : take (header_octets side set) new ≡ take (header_octets side set) old = subst (λ (n : ℕ). take n new ≡ take n old) c.write_header-header.ensures.place c.write_blocks.ensures.before in record {
      header = header_front side set c.args.cfn new old c.args.numbers.now same c.write_header-header.ensures.header;
      spare = named_front side set new old c.args.numbers.now same c.write_header-header.ensures.named;
      blocks = c.write_blocks.ensures.written;
    }
