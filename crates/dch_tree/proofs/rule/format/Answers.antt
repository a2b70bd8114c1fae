use Rattle.std.proofs.Common.{◌≡◌, ◌≢◌, ◌∷◌, [], ap, refl, sym, ◌∙◌, List, option_and_then, None, length, arith}
use Rattle.toml.specs.View.{items_view}
use Rattle.toml.specs.declared.value.Value.{Value}
use Rattle.dch_tree.specs.Rules.{format_of_pair}
use Rattle.dch_tree.proofs.rule.format.Goals as goal

-- other than two items are no format
no_pair : (vs : List Value) → length vs ≢ 2 → format_of_pair (items_view vs) ≡ None
no_pair [] other = refl
no_pair (v ∷ []) other = refl
no_pair (v ∷ w ∷ []) other = absurd (other (omega arith))
no_pair (v ∷ w ∷ x ∷ vs) other = refl

pub returns-then-pair-ne2 : goal.returns-then-pair-ne2
returns-then-pair-ne2 c =
    let other : length c.in_ok-items.items.now.items ≢ 2 = λ same. c.if-pair-ne2.true (ap length c.as_slice-pair.ensures.value ∙ same) in
    sym (no_pair c.in_ok-items.items.now.items other) ∙ ap (λ o. option_and_then format_of_pair o) c.in_ok-items.ensures
