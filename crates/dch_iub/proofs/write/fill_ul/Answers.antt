use Rattle.std.proofs.Common.{◌≡◌, ◌+◌, ◌<◌, ◌∙◌, ℕ, List, length, take, get_or, arith, ap, sym, subst, get_or-set_same}
use Rattle.std.specs.Prelude.{slice_set}
use Rattle.std.specs.Int.{div_ceil}
use Rattle.std.proofs.lemmas.List.{take-set-le}
use Rattle.dch_iub.specs.Shape.{blocks_end, mark_count}
use Rattle.dch_iub.specs.Steps.{IsMarked}
use Rattle.dch_iub.proofs.Fronts.{front_at, front_less, packed_front}
use Rattle.dch_iub.proofs.Transfers.{front_front, AreOf}
use Rattle.dch_iub.proofs.write.fill_ul.Goals as goal

pub returns-clause-front : goal.returns-clause-front
returns-clause-front c =
    let side = c.args.side.now in
    let end : ℕ = c.write_front-shape.result.header + c.write_front-shape.result.octets in
    let tail : ℕ = end + c.tail_octets.result in
    let old : List ℕ = c.write_front-shape.new.out in
    let known : AreOf side c.args.set c.args.numbers.now c.args.blocks.now = record { numbered = c.requires.numbered; formats = c.requires.held } in
    let same : take end c.write_check.new.out ≡ take end old =
    front_less end tail c.write_check.new.out c.write_marks.new.out (omega arith) c.write_check.ensures.before
    ∙ front_less end (end + 1) c.write_marks.new.out (slice_set old end c.args.qe) (omega arith) c.write_marks.ensures.before
    ∙ take-set-le end old end c.args.qe (omega arith) in
    front_front side c.args.set c.args.cfn end c.write_check.new.out old c.args.numbers.now c.args.blocks.now known
    (omega (arith, c.write_front-shape.ensures.end)) same c.write_front-shape.ensures.front

pub returns-clause-quality : goal.returns-clause-quality
returns-clause-quality c =
    let end : ℕ = c.write_front-shape.result.header + c.write_front-shape.result.octets in
    let tail : ℕ = end + c.tail_octets.result in
    let old : List ℕ = c.write_front-shape.new.out in
    let place : end ≡ blocks_end c.args.side.now c.args.set c.args.numbers.now = c.write_front-shape.ensures.end in
    let room : end < length old = omega (arith, c.write_front-shape.auto.out, c.requires.room, place) in
    let here : get_or (slice_set old end c.args.qe) end 0 ≡ c.args.qe = rw get_or-set_same in
    ap (λ p. get_or c.write_check.new.out p 0) (sym place)
    ∙ front_at tail c.write_check.new.out c.write_marks.new.out end 0 (omega (arith, c.tail_octets.ensures.value)) c.write_check.ensures.before
    ∙ front_at (end + 1) c.write_marks.new.out (slice_set old end c.args.qe) end 0 (omega arith) c.write_marks.ensures.before
    ∙ here

pub returns-clause-marked : goal.returns-clause-marked
returns-clause-marked c =
    let side = c.args.side.now in
    let set : ℕ = c.args.set in
    let numbers : List ℕ = c.args.numbers.now in
    let end : ℕ = c.write_front-shape.result.header + c.write_front-shape.result.octets in
    let tail : ℕ = end + c.tail_octets.result in
    let count : ℕ = mark_count side set numbers in
    let marks : c.write_front-shape.result.marks ≡ count = c.write_front-shape.ensures.marks in
    let octets : c.tail_octets.result ≡ 1 + div_ceil count 8 = c.tail_octets.ensures.value ∙ ap (λ n. 1 + div_ceil n 8) marks in
    let marked : IsMarked side set c.write_marks.new.out (end + 1) numbers c.args.blocks.now = c.write_marks.ensures.marked in
    subst (λ (p : ℕ). IsMarked side set c.write_check.new.out (p + 1) numbers c.args.blocks.now) c.write_front-shape.ensures.end (record {
      list = marked.list;
      long = marked.long;
      collected = marked.collected;
      packed = packed_front tail c.write_check.new.out c.write_marks.new.out (end + 1) (div_ceil count 8) marked.list (omega (arith, octets)) c.write_check.ensures.before marked.packed;
    })
