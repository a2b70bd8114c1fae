use Rattle.std.proofs.Common.{◌≡◌, ◌++◌, ◌∙◌, List, ap, drop, length, subst, sym, take}
use Rattle.dch_config.specs.Good.{IsGood}
use Rattle.dch_accept.proofs.Overwritten.{whole_written}
use Rattle.dch_accept.specs.Blocks.{Held}
use Rattle.dch_mac.specs.declared.head.Head.{Head}
use Rattle.dch_layer2.specs.declared.bearer.Bearer.{Bearer}
use Rattle.dch_layer2.specs.Sharing.{AreHeads}
use Rattle.dch_layer2.specs.Standing.{HasStarted, IsLayerOf, Represents}
use Rattle.dch_layer2.specs.contracts.layer.Layer2.{the_view}
use Rattle.dch_layer2.proofs.Frames.{can_start_lent, has_started_lent, with_start}
use Rattle.dch_layer2.proofs.layer.Layer2.start.Goals as goal

pub start_all-requires-clause-can : goal.start_all-requires-clause-can
start_all-requires-clause-can c =
    let heads : take c.self.inside.heads.len (c.take_heads.new.heads ++ drop (length c.take_heads.new.heads) c.self.inside.heads.items) ≡ c.take_heads.new.heads =
    whole_written c.self.inside.heads.len c.self.inside.heads.items c.take_heads.new.heads c.self.inside.heads.ok.0 (c.take_heads.auto.heads ∙ ap length c.deref_mut.ensures.value) in
    can_start_lent c.args.accepted.now.config (the_view c.self.inside) c.args.cfn c.take_heads.new.heads c.deref-2.result.now c.deref-3.result.now c.deref_mut-2.result.now c.deref_mut-3.result.now
    (subst (IsLayerOf c.args.accepted.now.config) (sym c.self.view_is) c.requires)
    (subst (λ (bs : List Bearer). AreHeads (length bs) bs c.take_heads.new.heads) c.deref.ensures.value c.take_heads.ensures)
    (c.deref-2.ensures.value ∙ heads) c.deref-3.ensures.value c.deref_mut-2.ensures.value c.deref_mut-3.ensures.value

pub returns-clause-started : goal.returns-clause-started
returns-clause-started c layer is =
    let heads : take c.self.inside.heads.len (c.take_heads.new.heads ++ drop (length c.take_heads.new.heads) c.self.inside.heads.items) ≡ c.take_heads.new.heads =
    whole_written c.self.inside.heads.len c.self.inside.heads.items c.take_heads.new.heads c.self.inside.heads.ok.0 (c.take_heads.auto.heads ∙ ap length c.deref_mut.ensures.value) in
    let bearers : take c.self.inside.bearers.len (c.start_all.new.bearers ++ drop (length c.start_all.new.bearers) c.self.inside.bearers.items) ≡ c.start_all.new.bearers =
    whole_written c.self.inside.bearers.len c.self.inside.bearers.items c.start_all.new.bearers c.self.inside.bearers.ok.0 (c.start_all.auto.bearers ∙ ap length c.deref_mut-2.ensures.value) in
    let given : take c.self.inside.given.len (c.start_all.new.given ++ drop (length c.start_all.new.given) c.self.inside.given.items) ≡ c.start_all.new.given =
    whole_written c.self.inside.given.len c.self.inside.given.items c.start_all.new.given c.self.inside.given.ok.0 (c.start_all.auto.given ∙ ap length c.deref_mut-3.ensures.value) in
    subst (λ (hs : List Head). HasStarted c.args.accepted.now.config c.args.cfn layer (with_start (the_view c.self.inside) (take c.self.inside.bearers.len (c.start_all.new.bearers ++ drop (length c.start_all.new.bearers) c.self.inside.bearers.items)) c.choose-combination.result (take c.self.inside.given.len (c.start_all.new.given ++ drop (length c.start_all.new.given) c.self.inside.given.items)) hs)) (sym heads)
    (subst (λ (gs : List Held). HasStarted c.args.accepted.now.config c.args.cfn layer (with_start (the_view c.self.inside) (take c.self.inside.bearers.len (c.start_all.new.bearers ++ drop (length c.start_all.new.bearers) c.self.inside.bearers.items)) c.choose-combination.result gs c.take_heads.new.heads)) (sym given)
    (subst (λ (bs : List Bearer). HasStarted c.args.accepted.now.config c.args.cfn layer (with_start (the_view c.self.inside) bs c.choose-combination.result c.start_all.new.given c.take_heads.new.heads)) (sym bearers)
    (has_started_lent c.args.accepted.now.config c.args.cfn layer (the_view c.self.inside) c.take_heads.new.heads c.deref-2.result.now c.deref-3.result.now c.choose-combination.result c.deref_mut-2.result.now c.start_all.new.bearers c.deref_mut-3.result.now c.start_all.new.given
    (subst IsGood c.config-config.ensures.value c.config-config.ensures.good)
    (subst (Represents c.args.accepted.now.config layer) (sym c.self.view_is) is)
    (subst (λ (bs : List Bearer). AreHeads (length bs) bs c.take_heads.new.heads) c.deref.ensures.value c.take_heads.ensures)
    (c.deref-2.ensures.value ∙ heads) c.deref-3.ensures.value c.deref_mut-2.ensures.value c.deref_mut-3.ensures.value c.choose-combination.ensures c.start_all.ensures)))
