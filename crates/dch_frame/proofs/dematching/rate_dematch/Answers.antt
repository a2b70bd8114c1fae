use Rattle.std.proofs.Common.{◌<◌, ℕ, length, arith, ◌∙◌}
use Rattle.dch_inter.specs.Places.{place_of}
use Rattle.dch_frame.proofs.Carried.{place_inside}
use Rattle.dch_frame.proofs.KeptBits.{copies_inside}
use Rattle.dch_frame.proofs.dematching.rate_dematch.Goals as goal

pub returns-clause-votes : goal.returns-clause-votes
returns-clause-votes c i v inside frame =
    let f : ℕ = c.args.frames in
    let n : ℕ = length c.put_segment.new.tti in
    let rows : ℕ = c.args.pattern.now.len in
    let place : place_of f n i < rows = place_inside f rows n i c.requires.frames (omega arith) (c.put_segment.auto.tti ∙ c.requires.whole) inside in
    c.put_segment.ensures.carried i v inside frame ∙ c.count_votes.ensures.votes (place_of f n i) v (omega arith)

pub returns-clause-undamaged : goal.returns-clause-undamaged
returns-clause-undamaged c bits shown i v inside frame =
    let f : ℕ = c.args.frames in
    let n : ℕ = length c.put_segment.new.tti in
    let rows : ℕ = c.args.pattern.now.len in
    let place : place_of f n i < rows = place_inside f rows n i c.requires.frames (omega arith) (c.put_segment.auto.tti ∙ c.requires.whole) inside in
    c.put_segment.ensures.carried i v inside frame ∙ c.count_votes.ensures.undamaged bits shown (place_of f n i) v (omega arith)

pub returns-clause-few : goal.returns-clause-few
returns-clause-few c i v inside frame =
    let f : ℕ = c.args.frames in
    let n : ℕ = length c.put_segment.new.tti in
    let rows : ℕ = c.args.pattern.now.len in
    let place : place_of f n i < rows = place_inside f rows n i c.requires.frames (omega arith) (c.put_segment.auto.tti ∙ c.requires.whole) inside in
    let few = c.count_votes.ensures.few (place_of f n i) v (omega arith) in
    rw (c.put_segment.ensures.carried i v inside frame) (omega (arith, few, copies_inside c.args.pattern.now (place_of f n i) place, c.requires.cells))
