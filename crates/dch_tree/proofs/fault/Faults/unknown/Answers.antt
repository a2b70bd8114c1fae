use Rattle.std.proofs.Common.{◌≡◌, ◌∷◌, [], ap, ◌∙◌, map, arith, List, ℕ, string_bytes}
use Rattle.std.proofs.lemmas.Grind.{common_steps}
use Rattle.toml.specs.View.{view, members_view}
use Rattle.toml.proofs.Views.{Entry}
use Rattle.dch_tree.specs.Faults.{first_found}
use Rattle.dch_tree.specs.Tables.{unknown, unknown_key}
use Rattle.dch_tree.proofs.FirstFound.{unknown_more}
use Rattle.dch_tree.proofs.fault.Faults.unknown.Goals as goal

pub loop-key-preserved : goal.loop-key-preserved
loop-key-preserved c =
    let e : Entry = (c.in-Some.key.now, c.in-Some._value.now) in
    let key : List ℕ = string_bytes e.0 in
    let known : List (List ℕ) = map (λ k. k.now) c.args.known.now in
    let iter : c.loop-key.key-iterator ≡ e ∷ c.next.new.self = grind (arith, common_steps) in
    let step : c.unless_known.new.self.first ≡ first_found c.loop-key.self.first (unknown_key c.args.path.now known key) =
    c.in_ok-unless_known.ensures ∙ ap (λ k. first_found c.loop-key.self.first (unknown_key c.args.path.now known k)) c.as_str.ensures.value in
    let whole = rw iter at c.loop-key.invariant.2 in
    (tt, tt, unknown_more c.loop-key.self.first c.unless_known.new.self.first _ c.args.path.now known key (view e.1) (members_view c.next.new.self) step whole)

pub returns : goal.returns
unfolding first_found unknown
returns c =
    let none : c.loop-key.key-iterator ≡ [] = grind (arith, common_steps) in
    rw none at c.loop-key.invariant.2
