use Rattle.std.proofs.Common.{◌≡◌, ◌+◌, length, get_or, arith}
use Rattle.dch_bits.specs.declared.bit.Bit.TheVariants.{Zero, One}
use Rattle.dch_margin.proofs.FromZeros.{are_same, asked-few, least-few, nearest_begins, nearest_found, restored, same_are}
use Rattle.dch_margin.proofs.nearest.begins_at.Goals as goal

pub overflow_add-votes : goal.overflow_add-votes
overflow_add-votes c = omega (arith, least-few c.args.rate c.args.votes.now (length c.args.block.now) c.args.filler c.args.least c.requires.coded c.requires.least.has, c.requires.few)

pub nearest-copies-requires-clause-few : goal.nearest-copies-requires-clause-few
nearest-copies-requires-clause-few c = omega (arith, asked-few c.args.votes.now c.first_of_step-at.result (c.args.least + 1), least-few c.args.rate c.args.votes.now (length c.args.block.now) c.args.filler c.args.least c.requires.coded c.requires.least.has, c.requires.few)

pub returns-in-One-clause-nearest : goal.returns-in-One-clause-nearest
returns-in-One-clause-nearest c same =
    nearest_found c.args.rate c.args.votes.now (length c.args.block.now) c.args.filler c.args.k c.first_of_step-at.result (c.args.least + 1) c.nearest-copies.result c.args.least c.nearest-copies.new.out c.first_of_step-at.ensures c.requires.inside c.requires.past c.requires.coded c.requires.zeros
    c.nearest-copies.ensures.nearest.shape c.nearest-copies.ensures.copies c.in-One.is (are_same c.nearest-copies.result c.args.least same)

pub returns-in-One-clause-begins : goal.returns-in-One-clause-begins
returns-in-One-clause-begins c other shape one cost = same_are c.nearest-copies.result c.args.least
    (nearest_begins c.args.rate c.args.votes.now (length c.args.block.now) c.args.filler c.args.k c.first_of_step-at.result c.nearest-copies.result c.args.least c.nearest-copies.new.out other c.first_of_step-at.ensures c.requires.inside c.requires.past c.requires.coded c.requires.zeros
    c.nearest-copies.ensures.nearest c.nearest-copies.ensures.copies c.requires.least shape one cost).1

pub returns-in-One-clause-votes : goal.returns-in-One-clause-votes
returns-in-One-clause-votes c = restored c.args.votes.now c.first_of_step-at.result _

pub returns-in-Zero-clause-begins : goal.returns-in-Zero-clause-begins
returns-in-Zero-clause-begins c other shape one cost =
    let here : get_or c.nearest-copies.new.out c.args.k Zero ≡ One =
    (nearest_begins c.args.rate c.args.votes.now (length c.args.block.now) c.args.filler c.args.k c.first_of_step-at.result c.nearest-copies.result c.args.least c.nearest-copies.new.out other c.first_of_step-at.ensures c.requires.inside c.requires.past c.requires.coded c.requires.zeros
    c.nearest-copies.ensures.nearest c.nearest-copies.ensures.copies c.requires.least shape one cost).0 in
    let none : get_or c.nearest-copies.new.out c.args.k Zero ≡ Zero = c.in-Zero.is in
    cc

pub returns-in-Zero-clause-votes : goal.returns-in-Zero-clause-votes
returns-in-Zero-clause-votes c = restored c.args.votes.now c.first_of_step-at.result _
