use Rattle.std.proofs.Common.{◌≡◌, ◌<◌, ◌∙◌, List, length, take, drop, arith, ap, subst, sym}
use Rattle.std.specs.Prelude.{◌++◌}
use Rattle.dch_types.specs.declared.channel.Dir.TheVariants.{Up}
use Rattle.dch_types.specs.declared.channel.Trch.{Trch}
use Rattle.dch_types.specs.Parts.{channel_at}
use Rattle.dch_accept.specs.declared.room.TtiRoom.{TtiRoom}
use Rattle.dch_accept.specs.Rooms.{tti_room}
use Rattle.dch_tti.specs.Loaded.{IsLong, Loaded, loaded_at}
use Rattle.dch_tti.proofs.Reading.{take_whole}
use Rattle.dch_tti.proofs.Ttis.{loaded_in, loaded_set, tti_set, within_set}
use Rattle.dch_ulphy.specs.Loaded.{IsPadded, IsTtiOf, padded_cells, tti_cells}
use Rattle.dch_ulphy.proofs.Rooms.{TtiFits, tti_fits}
use Rattle.dch_ulphy.proofs.tti.UlTti.load.Goals as goal

pub load-requires-clause-coder : goal.load-requires-clause-coder
load-requires-clause-coder c =
    let planned = c.args.accepted.now in
    let items : List Loaded = c.self.inside.tti_buffers.items in
    let trch : Trch = c.channel-trch.result.now in
    let fits : TtiFits trch c.args.format (length c.self.inside.coded.items) (length c.self.inside.padded.items) (loaded_at items c.args.channel) =
    tti_fits planned items c.args.channel c.args.format _ _ trch (subst (IsTtiOf planned) (sym c.self.view_is) c.requires.opened) c.self.invariant.1 c.requires.channel c.channel-trch.ensures.value c.channel-trch.ensures.good
    (subst (λ (trch : Trch). c.args.format < length trch.formats) (sym c.channel-trch.ensures.value) c.requires.format) in
    omega (arith, fits.bits, c.self.invariant.0)

pub load-requires-clause-room : goal.load-requires-clause-room
load-requires-clause-room c =
    let planned = c.args.accepted.now in
    let items : List Loaded = c.self.inside.tti_buffers.items in
    let trch : Trch = c.channel-trch.result.now in
    let fits : TtiFits trch c.args.format (length c.self.inside.coded.items) (length c.self.inside.padded.items) (loaded_at items c.args.channel) =
    tti_fits planned items c.args.channel c.args.format _ _ trch (subst (IsTtiOf planned) (sym c.self.view_is) c.requires.opened) c.self.invariant.1 c.requires.channel c.channel-trch.ensures.value c.channel-trch.ensures.good
    (subst (λ (trch : Trch). c.args.format < length trch.formats) (sym c.channel-trch.ensures.value) c.requires.format) in
    omega (arith, fits.bits, ap length c.deref_mut.ensures.value)

pub load-requires-clause-padded : goal.load-requires-clause-padded
load-requires-clause-padded c =
    let planned = c.args.accepted.now in
    let items : List Loaded = c.self.inside.tti_buffers.items in
    let trch : Trch = c.channel-trch.result.now in
    let fits : TtiFits trch c.args.format (length c.self.inside.coded.items) (length c.self.inside.padded.items) (loaded_at items c.args.channel) =
    tti_fits planned items c.args.channel c.args.format _ _ trch (subst (IsTtiOf planned) (sym c.self.view_is) c.requires.opened) c.self.invariant.1 c.requires.channel c.channel-trch.ensures.value c.channel-trch.ensures.good
    (subst (λ (trch : Trch). c.args.format < length trch.formats) (sym c.channel-trch.ensures.value) c.requires.format) in
    omega (arith, fits.cells, ap length c.deref_mut-2.ensures.value)

pub load-requires-clause-fits : goal.load-requires-clause-fits
load-requires-clause-fits c =
    let planned = c.args.accepted.now in
    let items : List Loaded = c.self.inside.tti_buffers.items in
    let trch : Trch = c.channel-trch.result.now in
    let held : IsTtiOf planned items = subst (IsTtiOf planned) (sym c.self.view_is) c.requires.opened in
    let fits : TtiFits trch c.args.format (length c.self.inside.coded.items) (length c.self.inside.padded.items) (loaded_at items c.args.channel) =
    tti_fits planned items c.args.channel c.args.format _ _ trch held c.self.invariant.1 c.requires.channel c.channel-trch.ensures.value c.channel-trch.ensures.good
    (subst (λ (trch : Trch). c.args.format < length trch.formats) (sym c.channel-trch.ensures.value) c.requires.format) in
    let buffer : c.index_mut-buffer.result.now ≡ loaded_at items c.args.channel = loaded_in items c.args.channel _ c.index_mut-buffer.ensures.value (omega (arith, held.channels, c.requires.channel)) in
    omega (arith, fits.buffer, ap (λ (l : Loaded). l.room.cells) buffer)

pub invariant_of-self : goal.invariant_of-self
invariant_of-self c =
    let planned = c.args.accepted.now in
    let items : List Loaded = c.self.inside.tti_buffers.items in
    let held : IsTtiOf planned items = subst (IsTtiOf planned) (sym c.self.view_is) c.requires.opened in
    let inside : c.args.channel < length items = omega (arith, held.channels, c.requires.channel) in
    let buffer : c.index_mut-buffer.result.now ≡ loaded_at items c.args.channel = loaded_in items c.args.channel _ c.index_mut-buffer.ensures.value inside in
    let coded : length (take c.self.inside.coded.len (c.load.new.coded ++ drop (length c.load.new.coded) c.self.inside.coded.items)) ≡ length c.self.inside.coded.items =
    ap length (take_whole _ c.load.new.coded _ (omega (arith, c.load.auto.coded, c.deref_mut.ensures.len))) ∙ omega (arith, c.load.auto.coded, ap length c.deref_mut.ensures.value) in
    let padded : length (take c.self.inside.padded.len (c.load.new.padded ++ drop (length c.load.new.padded) c.self.inside.padded.items)) ≡ length c.self.inside.padded.items =
    ap length (take_whole _ c.load.new.padded _ (omega (arith, c.load.auto.padded, c.deref_mut-2.ensures.len))) ∙ omega (arith, c.load.auto.padded, ap length c.deref_mut-2.ensures.value) in (
      omega (arith, c.load.ensures.kept, c.self.invariant.0, coded),
      λ i there.
          let enough = within_set _ _ items c.args.channel c.load.new.buffer c.self.invariant.1 inside (c.load.ensures.loaded.room ∙ ap (λ (l : Loaded). l.room) buffer) i there in
          record { bits = omega (arith, enough.bits, coded); cells = omega (arith, enough.cells, padded) },
    )

pub returns-clause-opened : goal.returns-clause-opened
returns-clause-opened c =
    let planned = c.args.accepted.now in
    let side = planned.config.uplink.side in
    let items : List Loaded = c.self.inside.tti_buffers.items in
    let held : IsTtiOf planned items = subst (IsTtiOf planned) (sym c.self.view_is) c.requires.opened in
    let channel : c.channel-trch.result.now ≡ channel_at side c.args.channel = c.channel-trch.ensures.value in
    let buffer : c.index_mut-buffer.result.now ≡ loaded_at items c.args.channel = loaded_in items c.args.channel _ c.index_mut-buffer.ensures.value (omega (arith, held.channels, c.requires.channel)) in
    tti_set planned Up (tti_cells planned) items c.args.channel c.load.new.buffer held c.requires.channel (subst (λ trch. IsLong trch (padded_cells trch) c.load.new.buffer) channel c.load.ensures.long)
    (c.load.ensures.loaded.room ∙ ap (λ (l : Loaded). l.room) buffer)

pub returns-clause-loaded : goal.returns-clause-loaded
returns-clause-loaded c =
    let planned = c.args.accepted.now in
    let items : List Loaded = c.self.inside.tti_buffers.items in
    let held : IsTtiOf planned items = subst (IsTtiOf planned) (sym c.self.view_is) c.requires.opened in
    let buffer : c.index_mut-buffer.result.now ≡ loaded_at items c.args.channel = loaded_in items c.args.channel _ c.index_mut-buffer.ensures.value (omega (arith, held.channels, c.requires.channel)) in
    let room : c.index_mut-buffer.result.now.room ≡ tti_room planned Up c.args.channel = ap (λ (l : Loaded). l.room) buffer ∙ held.rooms c.args.channel c.requires.channel in
    subst (λ (l : Loaded). IsPadded (channel_at planned.config.uplink.side c.args.channel) (tti_room planned Up c.args.channel) c.args.format c.args.blocks.now l)
    (sym (loaded_set items c.args.channel c.load.new.buffer (omega (arith, held.channels, c.requires.channel))))
    (subst (λ (trch : Trch). IsPadded trch (tti_room planned Up c.args.channel) c.args.format c.args.blocks.now c.load.new.buffer) c.channel-trch.ensures.value
    (subst (λ (room : TtiRoom). IsPadded c.channel-trch.result.now room c.args.format c.args.blocks.now c.load.new.buffer) room c.load.ensures.loaded))
