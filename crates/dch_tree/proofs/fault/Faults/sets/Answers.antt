use Rattle.std.proofs.Common.{◌≡◌, ◌<◌, ℕ, List, Option, Some, None, get_or, take, map, length, refl, ap, sym, ◌∙◌}
use Rattle.toml.specs.View.{items_view}
use Rattle.dch_tree.specs.declared.side.SetTti.{SetTti}
use Rattle.dch_tree.specs.Sides.{sets_and_ttis, clashes, set_fault, set_faults}
use Rattle.dch_tree.specs.Faults.{first_found}
use Rattle.dch_tree.specs.Tables.{indexed}
use Rattle.dch_tree.proofs.Items.{indexed_more}
use Rattle.dch_tree.proofs.Sets.{get_or-sets_and_ttis, seen_more, clashes-same, length-sets_and_ttis}
use Rattle.dch_tree.proofs.fault.Faults.sets.Goals as goal

pub loop-i-init : goal.loop-i-init
unfolding first_found indexed
loop-i-init c = record {
  first = refl;
  seen = λ test none. rw c.new-seen.ensures.items refl;
}

pub loop-i-preserved : goal.loop-i-preserved
loop-i-preserved c =
    let i : ℕ = c.loop-i.i in
    let pairs : List (Option SetTti) = sets_and_ttis (items_view c.args.items.now) in
    let inside : i < length pairs = rw length-sets_and_ttis c.loop-i-test.true in
    let found : c.set_and_tti-found.result ≡ get_or pairs i None =
    c.set_and_tti-found.ensures ∙ sym (get_or-sets_and_ttis c.args.items.now i c.index-items-i.result c.loop-i-test.true c.index-items-i.is) in
    let clash : c.clashes.result ≡ clashes (get_or pairs i None) (take i pairs) =
    c.clashes.ensures ∙ (ap (λ seen. clashes c.set_and_tti-found.result (map (λ other. Some other) seen)) c.deref.ensures.value
    ∙ (clashes-same c.set_and_tti-found.result (map (λ other. Some other) c.loop-i.seen.items) (take i pairs) c.loop-i.invariant.seen
    ∙ ap (λ x. clashes x (take i pairs)) found)) in
    record {
      first = indexed_more (set_faults c.args.path.now pairs) i _ _ _ c.loop-i.invariant.first
          (c.in_ok-set.ensures ∙ ap (λ b. first_found c.loop-i.self.first (set_fault c.args.path.now i b)) clash);
      seen = λ test none. seen_more test c.loop-i.seen.items c.remember.new.seen.items pairs i c.set_and_tti-found.result inside found
          (c.in_ok-remember.ensures test none) (c.loop-i.invariant.seen test none);
    }
