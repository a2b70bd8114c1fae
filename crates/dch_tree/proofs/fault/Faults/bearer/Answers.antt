use Rattle.std.proofs.Common.{◌≡◌, ℕ, List, is_some, ap, ◌∙◌}
use Rattle.std.specs.Prelude.{codes}
use Rattle.toml.specs.Data.{Members, get_member}
use Rattle.toml.specs.View.{view, table_view}
use Rattle.dch_types.specs.declared.bearer.Mode.TheVariants.{Am}
use Rattle.dch_tree.specs.Faults.{first_found}
use Rattle.dch_tree.specs.Tables.{value_or}
use Rattle.dch_tree.specs.Bearers.{bearer_mode, unknown_faults, up_faults, down_faults, rules_faults, bearer_faults}
use Rattle.dch_tree.proofs.FirstFound.{then_of, first_required, then_required, then_optional, is_some-option_map}
use Rattle.dch_tree.proofs.fault.Faults.bearer.Goals as goal

pub returns-clause-first : goal.returns-clause-first
unfolding bearer_faults
returns-clause-first c =
    let path : List ℕ = c.args.path.now in
    let ms : Members = table_view c.args.table.now in
    let mode : c.in_ok-mode.mode ≡ bearer_mode ms = c.in_ok-mode.ensures.value ∙ ap (λ r. value_or Am r) c.mode_at.ensures in
    let has_up : c.is_some.result ≡ is_some (get_member (codes "up") ms) = c.is_some.ensures ∙ is_some-option_map (λ v. view v.now) c.member.result (get_member (codes "up") ms) c.member.ensures in
    then_of _ _ _ _ (λ m. rules_faults m path ms) _ _
    (then_required _ _ _ _ _ _ _
    (then_required _ _ _ _ _ _ _
    (then_optional _ _ _ _ _ _ _
    (then_of _ _ _ _ (λ m. down_faults m (is_some (get_member (codes "up") ms)) c.args.downs path ms) _ _
    (then_of _ _ _ _ (λ m. up_faults m c.args.ups path ms) _ _
    (then_of _ _ _ _ (λ m. unknown_faults m path ms) _ _
    (first_required _ _ _ _ _ c.mode_at.ensures c.in_ok-mode.ensures.first)
    mode c.in_ok-unknown_of_bearer.ensures)
    mode c.in_ok-up.ensures.first)
    mode (c.in_ok-down.ensures.first ∙ ap (λ b. first_found c.up.new.self.first (down_faults c.in_ok-mode.mode b c.args.downs path ms)) has_up))
    c.octet_at.ensures c.in_ok-logical.ensures.first)
    c.octet_at-2.ensures c.in_ok-priority.ensures.first)
    c.number_at.ensures c.in_ok-buffer.ensures.first)
    mode c.in_ok-rules.ensures.first
