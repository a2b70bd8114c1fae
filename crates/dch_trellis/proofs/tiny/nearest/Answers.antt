use Rattle.std.proofs.Common.{◌≡◌, ◌+◌, ◌-◌, ℕ, [], List, get_or, length, ap, ◌∙◌, arith}
use Rattle.dch_trellis.specs.Search.{branch_metric, is_free, best}
use Rattle.dch_trellis.proofs.Lead.{best-le-all, best-parts}
use Rattle.dch_trellis.proofs.tiny.nearest.Goals as goal

pub overflow_add-result-2 : goal.overflow_add-result-2
overflow_add-result-2 c =
    let from : ℕ = c.fill-from.result.from in
    let state : ℕ = get_or c.args.front.now.states from 0 in
    let row : List ℕ = get_or c.fill-from.new.rows from [] in
    let lowered : c.from-2.result + c.fill-from.result.taken ≡ best (branch_metric c.args.rate c.args.votes.now) (is_free (length c.args.out.now) c.args.filler) (length c.args.out.now + 8 - from) from state =
    ap (λ cost. cost + c.fill-from.result.taken) (c.from-2.ensures ∙ ap (λ s. get_or row s 0) c.from.ensures) ∙ c.fill-from.ensures.first state (c.requires.front.leads from c.fill-from.ensures.within).small in
    omega (arith, c.requires.few, best-le-all c.args.rate c.args.votes.now (length c.args.out.now) c.args.filler c.requires.coded, best-parts c.args.rate c.args.votes.now (length c.args.out.now) c.args.filler from state c.fewest_of-before.result c.from-2.result c.fill-from.result.taken c.coded_before.result c.args.out.now (c.requires.front.leads from c.fill-from.ensures.within) c.fill-from.ensures.least c.coded_before.ensures c.fewest_of-before.ensures lowered)

pub returns-clause-cost : goal.returns-clause-cost
returns-clause-cost c =
    let from : ℕ = c.fill-from.result.from in
    let state : ℕ = get_or c.args.front.now.states from 0 in
    let row : List ℕ = get_or c.fill-from.new.rows from [] in
    let lowered : c.from-2.result + c.fill-from.result.taken ≡ best (branch_metric c.args.rate c.args.votes.now) (is_free (length c.args.out.now) c.args.filler) (length c.args.out.now + 8 - from) from state =
    ap (λ cost. cost + c.fill-from.result.taken) (c.from-2.ensures ∙ ap (λ s. get_or row s 0) c.from.ensures) ∙ c.fill-from.ensures.first state (c.requires.front.leads from c.fill-from.ensures.within).small in
    best-parts c.args.rate c.args.votes.now (length c.args.out.now) c.args.filler from state c.fewest_of-before.result c.from-2.result c.fill-from.result.taken c.coded_before.result c.args.out.now (c.requires.front.leads from c.fill-from.ensures.within) c.fill-from.ensures.least c.coded_before.ensures c.fewest_of-before.ensures lowered
