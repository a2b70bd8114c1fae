use Rattle.std.proofs.Common.{◌≡◌, ℕ, Some, None, length, slice_index, refl, ◌∙◌}
use Rattle.dch_types.specs.declared.config.Uplink.{Uplink}
use Rattle.dch_types.proofs.Sums.{total_same}
use Rattle.dch_frame.specs.Uplinks.{chosen, demand_of, weight_of, sent_of}
use Rattle.dch_frame.proofs.SharesLemmas.{total-shared, below_all}
use Rattle.dch_frame.proofs.Sizes.{chosen_le, no_size, no_choice, nothing_chosen, largest_least}
use Rattle.dch_frame.proofs.uplink_plan.uplink.Goals as goal

pub returns-in-None-clause-refused : goal.returns-in-None-clause-refused
returns-in-None-clause-refused c =
    let none : chosen (demand_of c.args.config.now c.args.combination) ≡ None = cc in
    ((λ _. no_size (demand_of c.args.config.now c.args.combination) none), (λ _. refl))

pub returns-in-Some-clause-planned : goal.returns-in-Some-clause-planned
returns-in-Some-clause-planned c =
    let uplink : Uplink = c.args.config.now in
    let k : ℕ = c.args.combination in
    let w : ℕ → ℕ = weight_of uplink.side k in
    let count : ℕ = length uplink.side.channels in
    let some : chosen (demand_of uplink k) ≡ Some c.in-Some.ndata = cc in
    record {
      size = some;
      before = c.amounts.ensures.before;
      sent = c.amounts.ensures.sent;
      no_more = c.amounts.ensures.no_more;
      most = chosen_le (demand_of uplink k) c.in-Some.ndata some;
      all_sent = total_same (slice_index c.amounts.result.1) (sent_of uplink.side k c.in-Some.ndata) count c.amounts.ensures.sent
          ∙ total-shared w count c.in-Some.ndata count ∙ below_all w count c.in-Some.ndata (λ none. nothing_chosen (demand_of uplink k) c.in-Some.ndata none some);
    }

pub returns-in-Some-clause-refused : goal.returns-in-Some-clause-refused
returns-in-Some-clause-refused c =
    let some : chosen (demand_of c.args.config.now c.args.combination) ≡ Some c.in-Some.ndata = cc in (
      (λ wrong. absurd (cc)),
      (λ empty.
          let none : chosen (demand_of c.args.config.now c.args.combination) ≡ None = no_choice (demand_of c.args.config.now c.args.combination) (largest_least c.args.config.now.largest c.requires.good.largest) c.requires.good.most_limit empty in
          absurd (cc)),
    )
