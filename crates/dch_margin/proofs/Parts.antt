-- One part more, and one plan more.
use Rattle.std.proofs.Common.{◌≡◌, ◌+◌, ℕ, List, [], ◌∷◌, ◌++◌, arith, add-one, ap, sym, subst, ◌∙◌, below_more}
use Rattle.std.proofs.lemmas.List.{get_or_append_left, get_or_at, length_push}
use Rattle.dch_types.specs.declared.config.Uplink.{Uplink}
use Rattle.dch_frame.specs.declared.uplink_plan.UplinkPlan.{UplinkPlan}
use Rattle.dch_frame.specs.Uplinks.{IsPlan}
use Rattle.dch_collision.specs.Plans.{ArePlans, no_plan, plan_at}
use Rattle.dch_margin.specs.Reports.{AreParts}

pub part_more : (Part : ℕ → List ℕ → Type 0) (n : ℕ) (before last text : List ℕ) → AreParts Part n before → Part n last → text ≡ before ++ last → AreParts Part (n + 1) text
part_more Part n before last text done part is = rw add-one (before, last, done, part, is)

pub plan_more : (uplink : Uplink) (n : ℕ) (plans : List UplinkPlan) (plan : UplinkPlan) → ArePlans uplink n plans → IsPlan uplink n plan → ArePlans uplink (n + 1) (plans ++ plan ∷ [])
plan_more uplink n plans plan have is =
    let grown : List UplinkPlan = plans ++ plan ∷ [] in
    record {
      all = length_push plans plan ∙ ap (λ m. m + 1) have.all;
      each = below_more (λ c. IsPlan uplink c (plan_at grown c)) n
          (λ c before. subst (IsPlan uplink c) (sym (get_or_append_left plans (plan ∷ []) no_plan c (omega (arith, have.all)))) (have.each c before))
          (subst (IsPlan uplink n) (sym (get_or_at plans plan [] no_plan n have.all)) is);
    }
