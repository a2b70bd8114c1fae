use Rattle.std.proofs.Common.{◌≡◌, ◌+◌, ◌-◌, ◌≤◌, ℕ, [], get_or, length, ap, ◌∙◌, arith}
use Rattle.dch_trellis.specs.Search.{branch_metric, is_free, best}
use Rattle.dch_trellis.specs.Undamaged.{LeadTo}
use Rattle.dch_trellis.proofs.Lead.{best-le-all, best-parts}
use Rattle.dch_trellis.proofs.narrow.nearest.Goals as goal

pub overflow_add-result : goal.overflow_add-result
overflow_add-result c =
    let from : ℕ = c.fill-from.result in
    let state : ℕ = get_or c.args.front.now.states from 0 in
    let leads : LeadTo c.args.rate c.args.votes.now (length c.args.out.now) c.args.filler from c.args.out.now state = c.requires.front.leads from c.fill-from.ensures.within in
    let within : from ≤ length c.args.out.now = omega (arith, c.fill-from.ensures.within, c.requires.front.within) in
    let here : c.from-2.result ≡ best (branch_metric c.args.rate c.args.votes.now) (is_free (length c.args.out.now) c.args.filler) (length c.args.out.now + 8 - from) from state =
    c.from-2.ensures ∙ ap (λ s. get_or (get_or c.fill-from.new.rows from []) s 0) c.from.ensures ∙ c.fill-from.ensures.path_metrics.at from state (omega arith) (omega arith) leads.small in
    omega (arith, c.requires.few, best-le-all c.args.rate c.args.votes.now (length c.args.out.now) c.args.filler c.requires.coded, best-parts c.args.rate c.args.votes.now (length c.args.out.now) c.args.filler from state c.fewest_of.result c.from-2.result 0 c.coded_before.result c.args.out.now leads c.fill-from.ensures.least c.coded_before.ensures c.fewest_of.ensures (omega (arith, here)))

pub returns-clause-cost : goal.returns-clause-cost
returns-clause-cost c =
    let from : ℕ = c.fill-from.result in
    let state : ℕ = get_or c.args.front.now.states from 0 in
    let leads : LeadTo c.args.rate c.args.votes.now (length c.args.out.now) c.args.filler from c.args.out.now state = c.requires.front.leads from c.fill-from.ensures.within in
    let within : from ≤ length c.args.out.now = omega (arith, c.fill-from.ensures.within, c.requires.front.within) in
    let here : c.from-2.result ≡ best (branch_metric c.args.rate c.args.votes.now) (is_free (length c.args.out.now) c.args.filler) (length c.args.out.now + 8 - from) from state =
    c.from-2.ensures ∙ ap (λ s. get_or (get_or c.fill-from.new.rows from []) s 0) c.from.ensures ∙ c.fill-from.ensures.path_metrics.at from state (omega arith) (omega arith) leads.small in
    omega (arith, best-parts c.args.rate c.args.votes.now (length c.args.out.now) c.args.filler from state c.fewest_of.result c.from-2.result 0 c.coded_before.result c.args.out.now leads c.fill-from.ensures.least c.coded_before.ensures c.fewest_of.ensures (omega (arith, here)))
