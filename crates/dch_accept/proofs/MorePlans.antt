-- One combination more has its plan.
use Rattle.std.proofs.Common.{◌≡◌, ◌+◌, ℕ, List, [], ◌∷◌, ◌++◌, length, arith, ap, sym, ◌∙◌, subst, below_more}
use Rattle.std.proofs.lemmas.List.{get_or_append_left, get_or_at, length_push}
use Rattle.dch_types.specs.declared.config.Uplink.{Uplink}
use Rattle.dch_frame.specs.declared.uplink_plan.UplinkPlan.{UplinkPlan}
use Rattle.dch_frame.specs.Uplinks.{IsPlan}
use Rattle.dch_collision.specs.Plans.{plan_at, no_plan}
use Rattle.dch_accept.specs.Answers.{HasNoRate, HavePlans}

pub plans_more : (uplink : Uplink) (n : ℕ) (plans : List UplinkPlan) (plan : UplinkPlan) → HavePlans uplink n plans → ¬ HasNoRate uplink n → IsPlan uplink n plan → HavePlans uplink (n + 1) (plans ++ plan ∷ [])
plans_more uplink n plans plan have rate is =
    let all : length plans ≡ n = have.are.all in
    let grown = plans ++ plan ∷ [] in
    record {
      rates = below_more (λ c. ¬ HasNoRate uplink c) n have.rates rate;
      are = record {
        all = length_push plans plan ∙ ap (λ m. m + 1) all;
        each = below_more (λ c. IsPlan uplink c (plan_at grown c)) n
            (λ c before. subst (IsPlan uplink c) (sym (get_or_append_left plans (plan ∷ []) no_plan c (omega (arith, all)))) (have.are.each c before))
            (subst (IsPlan uplink n) (sym (get_or_at plans plan [] no_plan n all)) is);
      };
    }
