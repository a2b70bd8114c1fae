use Rattle.std.proofs.Common.{◌≡◌, ◌+◌, ℕ, Some, get_or, true, length, subst, ap, ◌∙◌, arith}
use Rattle.std.specs.Prelude.{slice_set}
use Rattle.std.proofs.lemmas.List.{get_or-set_same}
use Rattle.dch_bits.specs.declared.bit.Bit.TheVariants.{One}
use Rattle.dch_trellis.specs.Search.{is_free}
use Rattle.dch_trellis.specs.Undamaged.{IsTold}
use Rattle.dch_trellis.proofs.Found.{open_within}
use Rattle.dch_trellis.proofs.Lead.{lead_start, leads_more}
use Rattle.dch_trellis.proofs.undamaged.walk.Goals as goal

pub loop-k-init : goal.loop-k-init
loop-k-init c =
    let zero : get_or (slice_set c.args.states.now 0 0) 0 0 ≡ 0 = get_or-set_same c.args.states.now 0 0 0 (omega arith) in
    record {
      here = zero;
      leads = λ k first.
          let start : k ≡ 0 = omega arith in
          lead_start c.args.rate c.args.votes.now (length c.args.out.now) c.args.filler k (get_or (slice_set c.args.states.now 0 0) k 0) c.args.out.now start (ap (λ k. get_or (slice_set c.args.states.now 0 0) k 0) start ∙ zero);
    }

pub loop-k-preserved : goal.loop-k-preserved
loop-k-preserved c =
    let Tells : ℕ → Type 0 = λ state. IsTold c.step_votes-step.result (get_or c.args.outputs.now state 0) c.in-Some.bit in
    let allowed : c.in-Some.bit ≡ One → is_free (length c.args.out.now) c.args.filler c.loop-k.k ≡ true = λ one. open_within (length c.args.out.now) c.args.filler c.loop-k.k (c.in-Some.ensures.free (ap Some one)) (omega arith) in
    record {
      here = get_or-set_same c.loop-k.states (c.loop-k.k + 1) c.after_input-state.result 0 (omega arith);
      leads = leads_more c.args.rate c.args.outputs.now c.args.votes.now c.step_votes-step.result (length c.args.out.now) c.args.filler c.loop-k.k c.loop-k.state c.after_input-state.result c.loop-k.out c.in-Some.bit c.loop-k.states c.requires.outputs c.step_votes-step.ensures c.requires.coded (omega arith) (omega arith) (omega arith) allowed (subst Tells c.from.ensures c.in-Some.ensures.told) c.after_input-state.ensures c.loop-k.invariant.here c.loop-k.invariant.leads;
    }

pub returns : goal.returns
returns c = record { within = omega arith; leads = λ k below. c.loop-k.invariant.leads k (omega arith) }
