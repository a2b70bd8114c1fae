use Rattle.std.proofs.Common.{◌≡◌, ◌+◌, ◌-◌, ℕ, List, get_or, set, ap, ◌∙◌, arith, get_or-set_same, length-set}
use Rattle.dch_types.specs.Parts.{format_number}
use Rattle.dch_collision.specs.Steps.{previous_of}
use Rattle.dch_collision.proofs.Following.{fits_format}
use Rattle.dch_collision.proofs.Filling.{other_place}
use Rattle.dch_collision.proofs.NextSequences.{next_is, last_is}
use Rattle.dch_collision.proofs.legal_sequences.next.Goals as goal

pub fill-requires-clause-format : goal.fill-requires-clause-format
fill-requires-clause-format c =
    let n : ℕ = c.in-Some.turn.frame in
    let v : ℕ = c.in-Some.turn.combination in
    let xs : List ℕ = c.args.sequence.now in
    let back : n + 1 - 1 ≡ n = omega arith in
    ap (λ k. format_number c.args.side.now (get_or (set xs n v) k 0) c.args.channel) back
    ∙ ap (λ k. format_number c.args.side.now k c.args.channel) (get_or-set_same xs n v 0 c.in-Some.ensures.some.within)
    ∙ fits_format c.args.side.now c.args.channel c.args.format n (previous_of xs n) v c.in-Some.ensures.some.choice.may

pub returns-in-None-clause-last : goal.returns-in-None-clause-last
returns-in-None-clause-last c not_found =
    last_is c.args.side.now c.args.channel c.args.format c.args.sequence.now c.requires.good c.requires.legal (c.find_turn.ensures.none c.in-None.is)

pub returns-in-Some-clause-found : goal.returns-in-Some-clause-found
returns-in-Some-clause-found c found =
    let n : ℕ = c.in-Some.turn.frame in
    let v : ℕ = c.in-Some.turn.combination in
    let xs : List ℕ = c.args.sequence.now in
    next_is c.args.side.now c.args.channel c.args.format xs c.fill.new.sequence n v c.requires.good c.requires.legal
    (record {
      whole = c.fill.auto.sequence ∙ length-set xs n v;
      turn = c.in-Some.ensures.some;
      same = λ k less. c.fill.ensures.same k (omega arith) ∙ other_place xs n k v (omega arith);
      here = c.fill.ensures.same n (omega arith) ∙ get_or-set_same xs n v 0 c.in-Some.ensures.some.within;
      rest = c.fill.ensures.least;
    })
