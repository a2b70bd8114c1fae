-- A step of a node as doings of its layer 2.
use Rattle.std.proofs.Common.{◌≡◌, ◌<◌, ◌≤◌, ◌*◌, ◌∙◌, ℕ, zero, suc, List, [], ◌∷◌, ◌++◌, false, Option, Some, None, length, arith, refl, sym, ap, ap₂, subst, append_assoc, ⊎_elim}
use Rattle.std.specs.Prelude.{◌==◌, nat_lt}
use Rattle.std.proofs.lemmas.Bool.{cases_lt}
use Rattle.std.proofs.lemmas.Bool.Decides.{nat_tests}
use Rattle.std.proofs.lemmas.List.{append-nil}
use Rattle.dch_types.specs.declared.channel.Dir.{Dir}
use Rattle.dch_types.specs.declared.channel.Dir.TheVariants.{Up, Down}
use Rattle.dch_types.specs.declared.channel.Side.{Side}
use Rattle.dch_types.specs.declared.channel.Trch.{Trch}
use Rattle.dch_types.specs.declared.config.Config.{Config}
use Rattle.dch_types.specs.Parts.{channel_at}
use Rattle.dch_accept.specs.HeldSets.{HasFormat, HeldSet, held_at}
use Rattle.dch_accept.specs.Blocks.{Held}
use Rattle.dch_accept.specs.Plans.{Planned}
use Rattle.dch_tti.specs.RxFrames.{RxFrames}
use Rattle.dch_node.specs.IubFrames.{refusal_number}
use Rattle.dch_node.specs.Lines.{IubBad, Line, Phy}
use Rattle.dch_node.specs.Values.{Output}
use Rattle.dch_amlaw.specs.Pair.{Arrive, Build, Event, Tick}
use Rattle.dch_layer2.specs.Layers.{ticks}
use Rattle.dch_layer2.specs.Reading.{Bad, Nothing, Read, Reading}
use Rattle.dch_linkcmd.specs.Checks.{good_in}
use Rattle.dch_linkcmd.specs.UeState.{Event as UeEvent, OfferedUnit as UeOffered, BlockedCombination as UeBlocked, Change as UeChange, DownlinkFrame, Tick as UeTicks, State as UeState}
use Rattle.dch_linkcmd.specs.UeSteps.{IsReading, IsTick as IsUeTick}
use Rattle.dch_linkcmd.specs.RncState.{Event as RncEvent, OfferedUnit as RncOffered, BlockedCombination as RncBlocked, Change as RncChange, IubFrame, Tick as RncTicks, State as RncState, set_readings}
use Rattle.dch_linkcmd.specs.RncSteps.{IsReadFrame, IsRefusedFrame, IsTick as IsRncTick, sent_line, sent_lines}
use Rattle.dch_runlaw.specs.Calls.{for_each, own_blocks}
use Rattle.dch_runlaw.specs.Doings.{Blocks, Offers, Says, Starts, Ticks}
use Rattle.dch_runlaw.specs.Lines.{lines_of}
use Rattle.dch_runlaw.specs.Worlds.{World, turned}
use Rattle.dch_runlaw.proofs.Sublists.{either}
use Rattle.dch_runlaw.proofs.BlocksTaken.{lines-append}
use Rattle.dch_runlaw.specs.Nodes.{Nodes, StepsRnc, StepsUe, given_at, given_by_ue, world_of}
use Rattle.dch_runlaw.specs.NodesCalls.{rnc_calls, ue_calls}
use Rattle.dch_runlaw.proofs.NodesLifting.{Lifts, as_calls, quietly, reads_all, single, then_, took_below, took_calls, took_is, with_near, world_below}
use Rattle.dch_runlaw.proofs.NodesTaken.{IsWholeReading, taken-same}
use Rattle.dch_runlaw.proofs.OwnBlocks.{own_none, own_same}

-- what is no part of layer 2
spoken : (config : Config) (out into : Dir) (m new : World) (lines : List Line) → new.near.layer ≡ m.near.layer → new.near.said ≡ m.near.said ++ lines → ((b : ℕ) → lines_of b lines ≡ []) → new.far ≡ m.far → ((i : ℕ) → new.out i ≡ m.out i) → ((i : ℕ) → new.back i ≡ m.back i) → Lifts config out into m new (λ b. [])
spoken config out into m new lines layer said none far outs backs = single config out into m new (Says lines) (record {
  lines = lines;
  does = (layer, refl, none);
  said = said;
  far = far;
  out_log = λ i. outs i ∙ ap (λ l. record { given = l; taken = (m.out i).taken }) (sym (append-nil (m.out i).given));
  back_log = λ i. backs i ∙ ap (λ l. record { given = (m.back i).given; taken = l }) (sym (append-nil (m.back i).taken));
})

-- a step of the terminal
ue_far : (old : Nodes) (e : UeEvent) (new : Nodes) → StepsUe old e new → (world_of new).far ≡ (world_of old).far
ue_far old e new s = ap₂ (λ (r : RncState) (l : List Line). record { layer = r.layer; said = l }) s.rnc s.rnc_lines

-- what is read of a TTI has the blocks of its format
whole_tti : (planned : Planned) (rx_frames : RxFrames) (i : ℕ) (r : Reading) → IsReading planned rx_frames i r → IsWholeReading r
whole_tti planned rx_frames i Nothing is = tt
whole_tti planned rx_frames i (Read held) is = is.1.blocks.whole ∙ ap₂ (λ (n m : ℕ). n * m) (sym is.1.blocks.counted) (sym is.1.blocks.sized)
whole_tti planned rx_frames i (Bad frame) is = tt

whole_nothing : (r : Reading) → r ≡ Nothing → IsWholeReading r
whole_nothing r e = subst IsWholeReading (sym e) tt

-- the terminal takes no block at other events
none_down : (old new : Nodes) (e : UeEvent) (s : StepsUe old e new) → ((i : ℕ) → new.ue.readings i ≡ Nothing) → (i : ℕ) → new.down i ≡ record { given = (old.down i).given; taken = (old.down i).taken ++ [] }
none_down old new e s none i = s.down i ∙ ap (λ (r : Reading). record { given = (old.down i).given; taken = (old.down i).taken ++ good_in r }) (none i)

ue_tick_lifts : (planned : Planned) (old new : Nodes) (s : StepsUe old UeTicks new) → IsUeTick planned old.ue new.ue s.output → old.ue.planned ≡ planned → Lifts planned.config Up Down (world_of old) (world_of new) (λ b. ue_calls planned.config b old.ue UeTicks new.ue)
ue_tick_lifts planned old new s tick active =
    as_calls planned.config Up Down w (world_of new) (λ b. Tick ∷ (took b ++ (build b ++ []))) (λ b. ue_calls planned.config b old.ue UeTicks new.ue)
    (then_ planned.config Up Down w w1 (world_of new) (λ b. Tick ∷ []) (λ b. took b ++ (build b ++ [])) (quietly planned.config Up Down w Ticks (ticks planned.config old.ue.layer) [] (refl, refl) (λ i. refl) (λ i. refl))
    (then_ planned.config Up Down w1 w2 (world_of new) took (λ b. build b ++ []) (reads_all planned.config Up Down new.ue.readings n w1)
    (then_ planned.config Up Down w2 w3 (world_of new) build (λ b. []) starts
    (spoken planned.config Up Down w3 (world_of new) (Phy Up tick.radio.tfci tick.radio.cells ∷ []) refl said (λ b. refl) (ue_far old UeTicks new s) outs backs))))
    are_calls
  where
    n : ℕ
    n = length planned.config.downlink.side.channels

    w : World
    w = world_of old

    w1 : World
    w1 = with_near w (ticks planned.config old.ue.layer) []

    w2 : World
    w2 = world_below planned.config Down new.ue.readings n w1

    w3 : World
    w3 = record { near = record { layer = new.ue.layer; said = w2.near.said ++ [] }; far = w2.far; out = λ i. record { given = (w2.out i).given ++ given_at planned.config.uplink.side old.ue.cfn new.ue.layer i; taken = (w2.out i).taken }; back = w2.back }

    took : ℕ → List Event
    took = took_calls planned.config Down new.ue.readings n

    build : ℕ → List Event
    build b = for_each Build (own_blocks planned.config Up b (given_at planned.config.uplink.side old.ue.cfn new.ue.layer))

    starts : Lifts planned.config Up Down w2 w3 build
    starts = single planned.config Up Down w2 w3 (Starts old.ue.cfn) (record {
      lines = [];
      does = (tick.start, refl);
      said = refl;
      far = refl;
      out_log = λ i. refl;
      back_log = λ i. ap (λ l. record { given = (w2.back i).given; taken = l }) (sym (append-nil (w2.back i).taken));
    })

    said : new.ue_lines ≡ w3.near.said ++ (Phy Up tick.radio.tfci tick.radio.cells ∷ [])
    said = s.reported ∙ ap (λ l. old.ue_lines ++ l) tick.reported ∙ simp (append_assoc, append-nil)

    whole : (i : ℕ) → IsWholeReading (new.ue.readings i)
    whole i = ⊎_elim
        (λ (l : i < n). whole_tti planned tick.rx_frames i (new.ue.readings i) (tick.readings i l))
        (λ (l : n ≤ i). whole_nothing (new.ue.readings i) (tick.no_more i l))
        (cases_lt i n)

    outs : (i : ℕ) → new.up i ≡ w3.out i
    outs i = s.up i ∙ ap (λ (p : Planned). record { given = (old.up i).given ++ given_at p.config.uplink.side old.ue.cfn new.ue.layer i; taken = (old.up i).taken }) active

    came : (i : ℕ) → took_below new.ue.readings n i ≡ good_in (new.ue.readings i)
    came i = took_is new.ue.readings n i tick.no_more ∙ taken-same (new.ue.readings i) (whole i)

    backs : (i : ℕ) → new.down i ≡ w3.back i
    backs i = s.down i ∙ ap (λ l. record { given = (old.down i).given; taken = (old.down i).taken ++ l }) (sym (came i))

    are_calls : (b : ℕ) → Tick ∷ (took b ++ (build b ++ [])) ≡ ue_calls planned.config b old.ue UeTicks new.ue
    are_calls b =
        let arrives : took b ≡ for_each Arrive (own_blocks planned.config Down b (λ i. good_in (new.ue.readings i))) =
        ap (for_each Arrive) (own_same planned.config Down b (took_below new.ue.readings n) (λ i. good_in (new.ue.readings i)) came) in
        let builds : build b ≡ for_each Build (own_blocks planned.config Up b (given_by_ue old.ue UeTicks new.ue)) =
        ap (λ (p : Planned). for_each Build (own_blocks planned.config Up b (given_at p.config.uplink.side old.ue.cfn new.ue.layer))) (sym active) in
        ap₂ (λ (k l : List Event). Tick ∷ (k ++ l)) arrives (append-nil (build b) ∙ builds)

ue_at : (old : Nodes) (e : UeEvent) (new : Nodes) → StepsUe old e new → Lifts old.ue.planned.config Up Down (world_of old) (world_of new) (λ b. ue_calls old.ue.planned.config b old.ue e new.ue)
ue_at old (UeOffered b octets bits) new s = single old.ue.planned.config Up Down (world_of old) (world_of new) (Offers b octets bits) (record {
  lines = s.output.lines;
  does = (ap (λ (x : UeState). x.layer) s.step.state, ap (λ (o : Output). o.lines) s.step.reported);
  said = s.reported;
  far = ue_far old (UeOffered b octets bits) new s;
  out_log = s.up;
  back_log = none_down old new (UeOffered b octets bits) s (λ i. ap (λ (x : UeState). x.readings i) s.step.state);
})
ue_at old (UeBlocked c on) new s = single old.ue.planned.config Up Down (world_of old) (world_of new) (Blocks c on) (record {
  lines = s.output.lines;
  does = (ap (λ (x : UeState). x.layer) s.step.0, ap (λ (o : Output). o.lines) s.step.1);
  said = s.reported;
  far = ue_far old (UeBlocked c on) new s;
  out_log = s.up;
  back_log = none_down old new (UeBlocked c on) s (λ i. ap (λ (x : UeState). x.readings i) s.step.0);
})
ue_at old (DownlinkFrame frame) new s = single old.ue.planned.config Up Down (world_of old) (world_of new) (Says []) (record {
  lines = s.output.lines;
  does = (ap (λ (x : UeState). x.layer) s.step.0, ap (λ (o : Output). o.lines) s.step.1, λ b. refl);
  said = s.reported;
  far = ue_far old (DownlinkFrame frame) new s;
  out_log = s.up;
  back_log = none_down old new (DownlinkFrame frame) s (λ i. ap (λ (x : UeState). x.readings i) s.step.0);
})
ue_at old UeTicks new s = ue_tick_lifts old.ue.planned old new s s.step refl
ue_at old (UeChange second) new s = absurd s.within

pub ue_lifts : (planned : Planned) (old : Nodes) (e : UeEvent) (new : Nodes) → old.ue.planned ≡ planned → StepsUe old e new → Lifts planned.config Up Down (world_of old) (world_of new) (λ b. ue_calls planned.config b old.ue e new.ue)
ue_lifts planned old e new active s = subst (λ (p : Planned). Lifts p.config Up Down (world_of old) (world_of new) (λ b. ue_calls p.config b old.ue e new.ue)) active (ue_at old e new s)

-- a step of the network controller, as it sees the terminal
rnc_far : (old : Nodes) (e : RncEvent) (new : Nodes) → StepsRnc old e new → (turned (world_of new)).far ≡ (turned (world_of old)).far
rnc_far old e new s = ap₂ (λ (r : UeState) (l : List Line). record { layer = r.layer; said = l }) s.ue s.ue_lines

none_up : (old new : Nodes) (e : RncEvent) (s : StepsRnc old e new) → ((i : ℕ) → new.rnc.readings i ≡ Nothing) → (i : ℕ) → new.up i ≡ record { given = (old.up i).given; taken = (old.up i).taken ++ [] }
none_up old new e s none i = s.up i ∙ ap (λ (r : Reading). record { given = (old.up i).given; taken = (old.up i).taken ++ good_in r }) (none i)

sent_none : (iub : ℕ → Option (List ℕ)) (n b : ℕ) → lines_of b (sent_lines iub n) ≡ []
sent_none iub zero b = refl
sent_none iub (suc s) b = lines-append b (sent_lines iub s) (sent_line s (iub s)) ∙ rw (sent_none iub s b) (none (iub s))
  where
    none : (o : Option (List ℕ)) → lines_of b (sent_line s o) ≡ []
    none None = refl
    none (Some octets) = refl

past_none : (side : Side) (set : ℕ) (held : HeldSet) (i : ℕ) → length side.channels ≤ i → set_readings side set held i ≡ Nothing
past_none side set held i l =
    let no : nat_lt i (length side.channels) ≡ false = grind (arith, nat_tests) in
    rw no refl

-- the blocks of an Iub frame have their formats
whole_blocks : (channel : Trch) (held : Held) → HasFormat channel held → IsWholeReading (Read held)
whole_blocks channel held has = has.long ∙ ap₂ (λ (n m : ℕ). n * m) (sym has.count) (sym has.size)

whole_set : (side : Side) (set : ℕ) (held : HeldSet) (i : ℕ) → ((j : ℕ) → j < length side.channels → (channel_at side j).set ≡ set → HasFormat (channel_at side j) (held_at held.blocks j)) → IsWholeReading (set_readings side set held i)
whole_set side set held i formats = either (nat_lt i (length side.channels))
    (λ l. either ((channel_at side i).set == set)
    (λ e.
    let inside : i < length side.channels = grind (arith, nat_tests) in
    let member : (channel_at side i).set ≡ set = grind (arith, nat_tests) in
    rw (l, e) (whole_blocks (channel_at side i) (held_at held.blocks i) (formats i inside member)))
    (λ e. rw (l, e) tt))
    (λ l. rw l tt)

rnc_frame : (planned : Planned) (old : Nodes) (set : ℕ) (octets : List ℕ) (new : Nodes) (s : StepsRnc old (IubFrame set octets) new) → IsReadFrame planned old.rnc set octets new.rnc s.output → Lifts planned.config Down Up (turned (world_of old)) (turned (world_of new)) (λ b. rnc_calls planned.config b old.rnc (IubFrame set octets) new.rnc)
rnc_frame planned old set octets new s f =
    as_calls planned.config Down Up w (turned (world_of new)) (λ b. took b ++ []) (λ b. rnc_calls planned.config b old.rnc (IubFrame set octets) new.rnc)
    (then_ planned.config Down Up w w1 (turned (world_of new)) took (λ b. []) (reads_all planned.config Down Up readings n w)
    (spoken planned.config Down Up w1 (turned (world_of new)) [] (ap (λ (x : RncState). x.layer) f.state) said (λ b. refl) (rnc_far old (IubFrame set octets) new s) outs backs))
    are_calls
  where
    n : ℕ
    n = length planned.config.uplink.side.channels

    readings : ℕ → Reading
    readings = set_readings planned.config.uplink.side set f.held

    w : World
    w = turned (world_of old)

    w1 : World
    w1 = world_below planned.config Up readings n w

    said : new.rnc_lines ≡ w1.near.said ++ []
    said = s.reported ∙ ap (λ (o : Output). old.rnc_lines ++ o.lines) f.reported ∙ sym (append-nil w1.near.said)

    outs : (i : ℕ) → new.down i ≡ w1.out i
    outs i = s.down i ∙ ap (λ l. record { given = l; taken = (old.down i).taken }) (append-nil (old.down i).given)

    came : (i : ℕ) → took_below readings n i ≡ good_in (new.rnc.readings i)
    came i =
        took_is readings n i (λ j l. past_none planned.config.uplink.side set f.held j l)
        ∙ taken-same (readings i) (whole_set planned.config.uplink.side set f.held i f.read.formats)
        ∙ ap (λ (x : RncState). good_in (x.readings i)) (sym f.state)

    backs : (i : ℕ) → new.up i ≡ w1.back i
    backs i = s.up i ∙ ap (λ l. record { given = (old.up i).given; taken = (old.up i).taken ++ l }) (sym (came i))

    took : ℕ → List Event
    took = took_calls planned.config Up readings n

    are_calls : (b : ℕ) → took b ++ [] ≡ rnc_calls planned.config b old.rnc (IubFrame set octets) new.rnc
    are_calls b = append-nil (took b) ∙ ap (for_each Arrive) (own_same planned.config Up b (took_below readings n) (λ i. good_in (new.rnc.readings i)) came)

rnc_refused : (planned : Planned) (old : Nodes) (set : ℕ) (octets : List ℕ) (new : Nodes) (s : StepsRnc old (IubFrame set octets) new) → IsRefusedFrame planned old.rnc set octets new.rnc s.output → Lifts planned.config Down Up (turned (world_of old)) (turned (world_of new)) (λ b. rnc_calls planned.config b old.rnc (IubFrame set octets) new.rnc)
rnc_refused planned old set octets new s r =
    as_calls planned.config Down Up (turned (world_of old)) (turned (world_of new)) (λ b. []) (λ b. rnc_calls planned.config b old.rnc (IubFrame set octets) new.rnc)
    (single planned.config Down Up (turned (world_of old)) (turned (world_of new)) (Says (IubBad Up set (refusal_number r.error) ∷ [])) (record {
      lines = s.output.lines;
      does = (ap (λ (x : RncState). x.layer) r.state, ap (λ (o : Output). o.lines) r.reported, λ b. refl);
      said = s.reported;
      far = rnc_far old (IubFrame set octets) new s;
      out_log = s.down;
      back_log = none_up old new (IubFrame set octets) s none;
    }))
    (λ b. sym (ap (for_each Arrive) (own_same planned.config Up b (λ i. good_in (new.rnc.readings i)) (λ i. []) (λ i. ap good_in (none i)) ∙ own_none planned.config Up b)))
  where
    none : (i : ℕ) → new.rnc.readings i ≡ Nothing
    none i = ap (λ (x : RncState). x.readings i) r.state

rnc_tick_lifts : (planned : Planned) (old new : Nodes) (s : StepsRnc old RncTicks new) → IsRncTick planned old.rnc new.rnc s.output → old.rnc.planned ≡ planned → Lifts planned.config Down Up (turned (world_of old)) (turned (world_of new)) (λ b. rnc_calls planned.config b old.rnc RncTicks new.rnc)
rnc_tick_lifts planned old new s tick active =
    as_calls planned.config Down Up w (turned (world_of new)) (λ b. Tick ∷ (build b ++ [])) (λ b. rnc_calls planned.config b old.rnc RncTicks new.rnc)
    (then_ planned.config Down Up w w1 (turned (world_of new)) (λ b. Tick ∷ []) (λ b. build b ++ []) (quietly planned.config Down Up w Ticks (ticks planned.config old.rnc.layer) [] (refl, refl) (λ i. refl) (λ i. refl))
    (then_ planned.config Down Up w1 w2 (turned (world_of new)) build (λ b. []) starts
    (spoken planned.config Down Up w2 (turned (world_of new)) (sent_lines s.output.iub 8) refl said (sent_none s.output.iub 8) (rnc_far old RncTicks new s) outs backs)))
    (λ b. ap (λ (l : List Event). Tick ∷ l) (append-nil (build b) ∙ ap (λ (p : Planned). for_each Build (own_blocks planned.config Down b (given_at p.config.downlink.side old.rnc.cfn new.rnc.layer))) (sym active)))
  where
    w : World
    w = turned (world_of old)

    w1 : World
    w1 = with_near w (ticks planned.config old.rnc.layer) []

    w2 : World
    w2 = record { near = record { layer = new.rnc.layer; said = w1.near.said ++ [] }; far = w1.far; out = λ i. record { given = (w1.out i).given ++ given_at planned.config.downlink.side old.rnc.cfn new.rnc.layer i; taken = (w1.out i).taken }; back = w1.back }

    build : ℕ → List Event
    build b = for_each Build (own_blocks planned.config Down b (given_at planned.config.downlink.side old.rnc.cfn new.rnc.layer))

    starts : Lifts planned.config Down Up w1 w2 build
    starts = single planned.config Down Up w1 w2 (Starts old.rnc.cfn) (record {
      lines = [];
      does = (tick.start, refl);
      said = refl;
      far = refl;
      out_log = λ i. refl;
      back_log = λ i. ap (λ l. record { given = (w1.back i).given; taken = l }) (sym (append-nil (w1.back i).taken));
    })

    said : new.rnc_lines ≡ w2.near.said ++ sent_lines s.output.iub 8
    said = s.reported ∙ ap (λ l. old.rnc_lines ++ l) tick.reported ∙ simp (append-nil)

    outs : (i : ℕ) → new.down i ≡ w2.out i
    outs i = s.down i ∙ ap (λ (p : Planned). record { given = (old.down i).given ++ given_at p.config.downlink.side old.rnc.cfn new.rnc.layer i; taken = (old.down i).taken }) active

    backs : (i : ℕ) → new.up i ≡ w2.back i
    backs i = none_up old new RncTicks s (λ j. ap (λ (x : RncState). x.readings j) tick.state) i ∙ ap (λ l. record { given = (old.up i).given; taken = l }) (append-nil (old.up i).taken)

rnc_at : (old : Nodes) (e : RncEvent) (new : Nodes) → StepsRnc old e new → Lifts old.rnc.planned.config Down Up (turned (world_of old)) (turned (world_of new)) (λ b. rnc_calls old.rnc.planned.config b old.rnc e new.rnc)
rnc_at old (RncOffered b octets bits) new s = single old.rnc.planned.config Down Up (turned (world_of old)) (turned (world_of new)) (Offers b octets bits) (record {
  lines = s.output.lines;
  does = (ap (λ (x : RncState). x.layer) s.step.state, ap (λ (o : Output). o.lines) s.step.reported);
  said = s.reported;
  far = rnc_far old (RncOffered b octets bits) new s;
  out_log = s.down;
  back_log = none_up old new (RncOffered b octets bits) s (λ i. ap (λ (x : RncState). x.readings i) s.step.state);
})
rnc_at old (RncBlocked c on) new s = single old.rnc.planned.config Down Up (turned (world_of old)) (turned (world_of new)) (Blocks c on) (record {
  lines = s.output.lines;
  does = (ap (λ (x : RncState). x.layer) s.step.0, ap (λ (o : Output). o.lines) s.step.1);
  said = s.reported;
  far = rnc_far old (RncBlocked c on) new s;
  out_log = s.down;
  back_log = none_up old new (RncBlocked c on) s (λ i. ap (λ (x : RncState). x.readings i) s.step.0);
})
rnc_at old (IubFrame set octets) new s = ⊎_elim (rnc_frame old.rnc.planned old set octets new s) (rnc_refused old.rnc.planned old set octets new s) s.step
rnc_at old RncTicks new s = rnc_tick_lifts old.rnc.planned old new s s.step refl
rnc_at old (RncChange second) new s = absurd s.within

pub rnc_lifts : (planned : Planned) (old : Nodes) (e : RncEvent) (new : Nodes) → old.rnc.planned ≡ planned → StepsRnc old e new → Lifts planned.config Down Up (turned (world_of old)) (turned (world_of new)) (λ b. rnc_calls planned.config b old.rnc e new.rnc)
rnc_lifts planned old e new active s = subst (λ (p : Planned). Lifts p.config Down Up (turned (world_of old)) (turned (world_of new)) (λ b. rnc_calls p.config b old.rnc e new.rnc)) active (rnc_at old e new s)
