use Rattle.std.proofs.Common.{◌≡◌, ◌<◌, ◌∙◌, List, length, arith, ap, subst, sym}
use Rattle.dch_tti.specs.Loaded.{Loaded, loaded_at}
use Rattle.dch_tti.proofs.Ttis.{loaded_in, within_set}
use Rattle.dch_dlphy.specs.Loaded.{IsTtiOf}
use Rattle.dch_dlphy.proofs.Fits.{TtiFits, tti_fits}
use Rattle.dch_dlphy.proofs.tti.DlTti.load.Goals as goal

pub load-requires-clause-coded : goal.load-requires-clause-coded
load-requires-clause-coded c =
    let items : List Loaded = c.self.inside.tti_buffers.items in
    let fits : TtiFits c.channel-trch.result.now c.args.format c.bits_per_frame-places.result _ _ (loaded_at items c.args.channel) =
    tti_fits c.args.accepted.now items c.args.channel c.args.format c.bits_per_frame-places.result _ _ c.channel-trch.result.now (subst (IsTtiOf c.args.accepted.now) (sym c.self.view_is) c.requires.opened) c.self.invariant
    c.requires.channel c.channel-trch.ensures.value c.channel-trch.ensures.good c.requires.format c.bits_per_frame-places.ensures.value in
    fits.bits

pub load-requires-clause-room : goal.load-requires-clause-room
load-requires-clause-room c =
    let items : List Loaded = c.self.inside.tti_buffers.items in
    let fits : TtiFits c.channel-trch.result.now c.args.format c.bits_per_frame-places.result _ _ (loaded_at items c.args.channel) =
    tti_fits c.args.accepted.now items c.args.channel c.args.format c.bits_per_frame-places.result _ _ c.channel-trch.result.now (subst (IsTtiOf c.args.accepted.now) (sym c.self.view_is) c.requires.opened) c.self.invariant
    c.requires.channel c.channel-trch.ensures.value c.channel-trch.ensures.good c.requires.format c.bits_per_frame-places.ensures.value in
    fits.cells

pub load-requires-clause-buffer : goal.load-requires-clause-buffer
load-requires-clause-buffer c =
    let items : List Loaded = c.self.inside.tti_buffers.items in
    let held : IsTtiOf c.args.accepted.now items = subst (IsTtiOf c.args.accepted.now) (sym c.self.view_is) c.requires.opened in
    let fits : TtiFits c.channel-trch.result.now c.args.format c.bits_per_frame-places.result _ _ (loaded_at items c.args.channel) =
    tti_fits c.args.accepted.now items c.args.channel c.args.format c.bits_per_frame-places.result _ _ c.channel-trch.result.now held c.self.invariant
    c.requires.channel c.channel-trch.ensures.value c.channel-trch.ensures.good c.requires.format c.bits_per_frame-places.ensures.value in
    let buffer : c.index_mut-buffer.result.now ≡ loaded_at items c.args.channel = loaded_in items c.args.channel _ c.index_mut-buffer.ensures.value (omega (arith, held.channels, c.requires.channel)) in
    omega (arith, fits.buffer, ap (λ (l : Loaded). l.room.cells) buffer)

pub invariant_of-self : goal.invariant_of-self
invariant_of-self c i there =
    let items : List Loaded = c.self.inside.tti_buffers.items in
    let held : IsTtiOf c.args.accepted.now items = subst (IsTtiOf c.args.accepted.now) (sym c.self.view_is) c.requires.opened in
    let inside : c.args.channel < length items = omega (arith, held.channels, c.requires.channel) in
    let buffer : c.index_mut-buffer.result.now ≡ loaded_at items c.args.channel = loaded_in items c.args.channel _ c.index_mut-buffer.ensures.value inside in
    let enough = within_set _ _ items c.args.channel c.load.new.buffer c.self.invariant inside (c.load.ensures.loaded.room ∙ ap (λ (l : Loaded). l.room) buffer) i there in
    record { bits = omega (arith, enough.bits, c.load.ensures.bits); cells = omega (arith, enough.cells, c.load.ensures.cells) }
