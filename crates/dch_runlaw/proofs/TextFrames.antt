-- The lines of a radio frame: those on units are what the two ends have reported of them.
use Rattle.std.proofs.Common.{◌≡◌, ◌<◌, ◌≤◌, ◌+◌, ◌∙◌, ◌++◌, ℕ, zero, suc, List, [], Option, Some, None, length, arith, refl, sym, ap, ap₂, subst}
use Rattle.std.proofs.lemmas.List.{append-nil}
use Rattle.dch_types.specs.declared.channel.Dir.{Dir}
use Rattle.dch_types.specs.declared.channel.Dir.TheVariants.{Up, Down}
use Rattle.dch_accept.specs.Plans.{Planned}
use Rattle.dch_layer2.specs.Layers.{Layer}
use Rattle.dch_linkcmd.specs.Checks.{good_in}
use Rattle.dch_linkcmd.specs.LinkLink.{LinkState}
use Rattle.dch_node.specs.Lines.{Line, joined}
use Rattle.dch_node.specs.Values.{Output}
use Rattle.dch_damage.specs.Damage.{iub_after, radio_after}
use Rattle.dch_linkcmd.specs.UeState.{DownlinkFrame, Tick as UeTicks}
use Rattle.dch_linkcmd.specs.NodebState.{DownlinkDue, UplinkFrame}
use Rattle.dch_linkcmd.specs.RncState.{IubFrame, State as RncState, Tick as RncTicks}
use Rattle.dch_runlaw.specs.Directions.{lines_on}
use Rattle.dch_runlaw.specs.Lines.{lines_of}
use Rattle.dch_runlaw.specs.Rows.{AreSmall}
use Rattle.dch_runlaw.proofs.BlocksTaken.{lines-append}
use Rattle.dch_runlaw.proofs.Directions.{off_is, on-append, on_is}
use Rattle.dch_runlaw.proofs.Small.{small_append}
use Rattle.dch_runlaw.specs.Frames.{IsFrame, MayBeTaken, Taken, lines_below}
use Rattle.dch_runlaw.specs.TextDiffering.{AreLow}
use Rattle.dch_runlaw.specs.TextTold.{AreFewBearers, AreFewChannels}
use Rattle.dch_runlaw.proofs.TextEnds.{IsCheck, IsOwn, checks, rnc_own, rnc_stays, ue_own, ue_stays}
use Rattle.dch_runlaw.proofs.TextRadio.{AreRadio, fed_radio, node_b_radio, radio_low, radio_off, radio_small, sets_radio}
use Rattle.dch_runlaw.proofs.TextLow.{low_append}

-- an Iub frame that the network controller takes, if one comes
record TakenTold (planned : Planned) (old new : RncState) (taken : Taken) (lines : List Line) : Type 0 where
  up : (b : ℕ) → lines_on Up b lines ≡ lines_of b taken.lines
  down : (b : ℕ) → lines_on Down b lines ≡ []
  stays : new.planned ≡ old.planned
  small : length old.planned.config.bearers ≤ 16 → AreSmall lines
  low : length planned.config.uplink.side.channels ≤ 8 → AreLow lines

take_told : (planned : Planned) (s : ℕ) (o : Option (List ℕ)) (near : Layer) (old new : RncState) (taken : Taken) (lines : List Line) → MayBeTaken planned s o near old new taken lines → TakenTold planned old new taken lines
take_told planned s None near old new taken lines m = record {
  up = λ b. ap (lines_on Up b) m.2 ∙ sym (ap (λ (t : Taken). lines_of b t.lines) m.1);
  down = λ b. ap (lines_on Down b) m.2;
  stays = ap (λ (r : RncState). r.planned) m.0;
  small = λ few. subst AreSmall (sym m.2) tt;
  low = λ few. subst AreLow (sym m.2) tt;
}
take_told planned s (Some octets) near old new taken lines m =
    let own : IsOwn Up old.planned.config m.output.lines = rnc_own old (IubFrame s octets) new m.output m.step in
    let check : IsCheck (length planned.config.uplink.side.channels) m.checks = checks Up (λ i. good_in (new.readings i)) (λ i. (near.given i).blocks) (length planned.config.uplink.side.channels) m.checks m.compared in
    record {
      up = λ b. ap (lines_on Up b) m.reported ∙ on-append Up b m.output.lines m.checks ∙ ap₂ (λ x y. x ++ y) (on_is Up b m.output.lines own.goes) (check.off Up b) ∙ append-nil (lines_of b m.output.lines) ∙ sym (ap (λ (t : Taken). lines_of b t.lines) m.is);
      down = λ b. ap (lines_on Down b) m.reported ∙ on-append Down b m.output.lines m.checks ∙ ap₂ (λ x y. x ++ y) (off_is Up Down b m.output.lines refl own.goes) (check.off Down b);
      stays = rnc_stays old (IubFrame s octets) new m.output tt m.step;
      small = λ few. subst AreSmall (sym m.reported) (small_append m.output.lines m.checks (own.small few) check.small);
      low = λ few. subst AreLow (sym m.reported) (low_append m.output.lines m.checks own.low (check.low few));
    }

-- those of the first sets
first_off : (dir : Dir) (b : ℕ) (lines : ℕ → List Line) (n : ℕ) → ((s : ℕ) → s < n → lines_on dir b (lines s) ≡ []) → lines_on dir b (joined lines n) ≡ []
first_off dir b lines zero h = refl
first_off dir b lines (suc n) h = on-append dir b (joined lines n) (lines n) ∙ ap₂ (λ x y. x ++ y) (first_off dir b lines n (λ s l. h s (omega (arith, l)))) (h n (omega arith))

first_on : (dir : Dir) (b : ℕ) (lines : ℕ → List Line) (taken : ℕ → Taken) (n : ℕ) → ((s : ℕ) → s < n → lines_on dir b (lines s) ≡ lines_of b (taken s).lines) → lines_on dir b (joined lines n) ≡ lines_of b (lines_below taken n)
first_on dir b lines taken zero h = refl
first_on dir b lines taken (suc n) h = on-append dir b (joined lines n) (lines n) ∙ ap₂ (λ x y. x ++ y) (first_on dir b lines taken n (λ s l. h s (omega (arith, l)))) (h n (omega arith)) ∙ sym (lines-append b (lines_below taken n) (taken n).lines)

first_small : (lines : ℕ → List Line) (n : ℕ) → ((s : ℕ) → s < n → AreSmall (lines s)) → AreSmall (joined lines n)
first_small lines zero h = tt
first_small lines (suc n) h = small_append (joined lines n) (lines n) (first_small lines n (λ s l. h s (omega (arith, l)))) (h n (omega arith))

first_low : (lines : ℕ → List Line) (n : ℕ) → ((s : ℕ) → s < n → AreLow (lines s)) → AreLow (joined lines n)
first_low lines zero h = tt
first_low lines (suc n) h = low_append (joined lines n) (lines n) (first_low lines n (λ s l. h s (omega (arith, l)))) (h n (omega arith))

first_stays : (rncs : ℕ → RncState) (n : ℕ) → ((s : ℕ) → s < n → (rncs (s + 1)).planned ≡ (rncs s).planned) → (rncs n).planned ≡ (rncs 0).planned
first_stays rncs zero h = refl
first_stays rncs (suc n) h =
    let here : n + 1 ≡ suc n = omega arith in
    ap (λ k. (rncs k).planned) (sym here) ∙ h n (omega arith) ∙ first_stays rncs n (λ s l. h s (omega (arith, l)))

-- one part and another
more_on : (dir : Dir) (b : ℕ) (xs ys ls ks : List Line) → lines_on dir b xs ≡ ls → lines_on dir b ys ≡ ks → lines_on dir b (xs ++ ys) ≡ ls ++ ks
more_on dir b xs ys ls ks e f = on-append dir b xs ys ∙ ap₂ (λ x y. x ++ y) e f

more_off : (dir : Dir) (b : ℕ) (xs ys ls : List Line) → lines_on dir b xs ≡ ls → lines_on dir b ys ≡ [] → lines_on dir b (xs ++ ys) ≡ ls
more_off dir b xs ys ls e f = more_on dir b xs ys ls [] e f ∙ append-nil ls

pub record FrameTold (old new : LinkState) (rnc_said ue_said lines : List Line) : Type 0 where
  pub up : (b : ℕ) → lines_on Up b lines ≡ lines_of b rnc_said
  pub down : (b : ℕ) → lines_on Down b lines ≡ lines_of b ue_said
  pub small : AreFewBearers old → AreSmall lines
  pub low : AreFewChannels old → AreLow lines
  pub ue_stays : new.ue.state.planned ≡ old.ue.state.planned
  pub rnc_stays : new.rnc.state.planned ≡ old.rnc.state.planned

pub frame_told : (old new : LinkState) (lines : List Line) (f : IsFrame old new lines) → FrameTold old new (f.rnc_output.lines ++ lines_below f.taken 8) (f.kept_output.lines ++ f.ue_output.lines) lines
frame_told old new lines f = record {
  up = λ b. ap (lines_on Up b) f.reported ∙ parts Up b (lines_of b f.rnc_output.lines) [] (lines_of b (lines_below f.taken 8)) (on_is Up b f.rnc_output.lines rnc.goes) (off_is Down Up b f.ue_output.lines refl ue.goes) (first_on Up b f.rnc_lines f.taken 8 (λ s l. (take s l).up b))
      ∙ ap (λ l. l ++ lines_of b (lines_below f.taken 8)) (append-nil (lines_of b f.rnc_output.lines))
      ∙ sym (lines-append b f.rnc_output.lines (lines_below f.taken 8));
  down = λ b. ap (lines_on Down b) f.reported ∙ parts Down b [] (lines_of b f.ue_output.lines) [] (off_is Up Down b f.rnc_output.lines refl rnc.goes) (on_is Down b f.ue_output.lines ue.goes) (first_off Down b f.rnc_lines 8 (λ s l. (take s l).down b))
      ∙ append-nil (lines_of b f.ue_output.lines)
      ∙ sym (ap (λ (o : Output). lines_of b (o.lines ++ f.ue_output.lines)) f.keeps.1);
  small = λ few. subst AreSmall (sym f.reported)
      (small_append (f.rnc_output.lines ++ joined f.fed_lines 8 ++ f.down_output.lines ++ (f.ue_output.lines ++ f.checks) ++ f.up_output.lines) (joined f.rnc_lines 8)
      (small_append (f.rnc_output.lines ++ joined f.fed_lines 8 ++ f.down_output.lines ++ (f.ue_output.lines ++ f.checks)) f.up_output.lines
      (small_append (f.rnc_output.lines ++ joined f.fed_lines 8 ++ f.down_output.lines) (f.ue_output.lines ++ f.checks)
      (small_append (f.rnc_output.lines ++ joined f.fed_lines 8) f.down_output.lines
      (small_append f.rnc_output.lines (joined f.fed_lines 8) (rnc.small few.rnc) (radio_small (joined f.fed_lines 8) fed))
      (radio_small f.down_output.lines down_radio))
      (small_append f.ue_output.lines f.checks (ue.small (subst (λ (p : Planned). length p.config.bearers ≤ 16) (sym kept_stays) few.ue)) check.small))
      (radio_small f.up_output.lines up_radio))
      (first_small f.rnc_lines 8 (λ s l. (take s l).small (subst (λ (p : Planned). length p.config.bearers ≤ 16) (sym (takes_stay s l)) few.rnc))));
  low = λ few. subst AreLow (sym f.reported)
      (low_append (f.rnc_output.lines ++ joined f.fed_lines 8 ++ f.down_output.lines ++ (f.ue_output.lines ++ f.checks) ++ f.up_output.lines) (joined f.rnc_lines 8)
      (low_append (f.rnc_output.lines ++ joined f.fed_lines 8 ++ f.down_output.lines ++ (f.ue_output.lines ++ f.checks)) f.up_output.lines
      (low_append (f.rnc_output.lines ++ joined f.fed_lines 8 ++ f.down_output.lines) (f.ue_output.lines ++ f.checks)
      (low_append (f.rnc_output.lines ++ joined f.fed_lines 8) f.down_output.lines
      (low_append f.rnc_output.lines (joined f.fed_lines 8) rnc.low (radio_low (joined f.fed_lines 8) fed))
      (radio_low f.down_output.lines down_radio))
      (low_append f.ue_output.lines f.checks ue.low (check.low few.downlink)))
      (radio_low f.up_output.lines up_radio))
      (first_low f.rnc_lines 8 (λ s l. (take s l).low few.uplink)));
  ue_stays = ue_stays f.kept UeTicks new.ue.state f.ue_output tt f.ue_ticks ∙ kept_stays;
  rnc_stays = ap (λ (r : RncState). r.planned) f.rnc_last ∙ first_stays f.rncs 8 (λ s l. (take s l).stays) ∙ opens;
}
  where
    fed : AreRadio (joined f.fed_lines 8)
    fed = sets_radio f.fed_lines 8 (λ s l. fed_radio s (iub_after old.damage Down s (f.rnc_output.iub s)) (f.fed s) (f.fed (s + 1)) (f.fed_lines s) (f.feeds s l))

    down_radio : AreRadio f.down_output.lines
    down_radio = node_b_radio (f.fed 8) DownlinkDue f.node_b f.down_output f.down

    up_radio : AreRadio f.up_output.lines
    up_radio = node_b_radio f.node_b (UplinkFrame (radio_after old.damage Up f.ue_output.sent)) new.node_b.state f.up_output f.up

    take : (s : ℕ) → s < 8 → TakenTold old.rnc.state.planned (f.rncs s) (f.rncs (s + 1)) (f.taken s) (f.rnc_lines s)
    take s l = take_told old.rnc.state.planned s (iub_after old.damage Up s (f.up_output.iub s)) new.ue.state.layer (f.rncs s) (f.rncs (s + 1)) (f.taken s) (f.rnc_lines s) (f.takes s l)

    rnc : IsOwn Up old.rnc.state.planned.config f.rnc_output.lines
    rnc = rnc_own old.rnc.state RncTicks f.rnc f.rnc_output f.rnc_ticks

    ue : IsOwn Down f.kept.planned.config f.ue_output.lines
    ue = ue_own f.kept UeTicks new.ue.state f.ue_output f.ue_ticks

    check : IsCheck (length old.rnc.state.planned.config.downlink.side.channels) f.checks
    check = checks Down (λ i. good_in (new.ue.state.readings i)) (λ i. (f.rnc.layer.given i).blocks) (length old.rnc.state.planned.config.downlink.side.channels) f.checks f.compared

    kept_stays : f.kept.planned ≡ old.ue.state.planned
    kept_stays = ue_stays old.ue.state (DownlinkFrame (radio_after old.damage Down f.down_output.sent)) f.kept f.kept_output tt f.keeps

    opens : (f.rncs 0).planned ≡ old.rnc.state.planned
    opens = ap (λ (r : RncState). r.planned) f.rnc_first ∙ rnc_stays old.rnc.state RncTicks f.rnc f.rnc_output tt f.rnc_ticks

    takes_stay : (s : ℕ) → s < 8 → (f.rncs s).planned ≡ old.rnc.state.planned
    takes_stay s l = first_stays f.rncs s (λ k q. (take k (omega (arith, l, q))).stays) ∙ opens

    parts : (dir : Dir) (b : ℕ) (p q r : List Line) → lines_on dir b f.rnc_output.lines ≡ p → lines_on dir b f.ue_output.lines ≡ q → lines_on dir b (joined f.rnc_lines 8) ≡ r →
        lines_on dir b (f.rnc_output.lines ++ joined f.fed_lines 8 ++ f.down_output.lines ++ (f.ue_output.lines ++ f.checks) ++ f.up_output.lines ++ joined f.rnc_lines 8) ≡ p ++ q ++ r
    parts dir b p q r x y z =
        more_on dir b (f.rnc_output.lines ++ joined f.fed_lines 8 ++ f.down_output.lines ++ (f.ue_output.lines ++ f.checks) ++ f.up_output.lines) (joined f.rnc_lines 8) (p ++ q) r
        (more_off dir b (f.rnc_output.lines ++ joined f.fed_lines 8 ++ f.down_output.lines ++ (f.ue_output.lines ++ f.checks)) f.up_output.lines (p ++ q)
        (more_on dir b (f.rnc_output.lines ++ joined f.fed_lines 8 ++ f.down_output.lines) (f.ue_output.lines ++ f.checks) p q
        (more_off dir b (f.rnc_output.lines ++ joined f.fed_lines 8) f.down_output.lines p
        (more_off dir b f.rnc_output.lines (joined f.fed_lines 8) p x (radio_off dir b (joined f.fed_lines 8) fed))
        (radio_off dir b f.down_output.lines down_radio))
        (more_off dir b f.ue_output.lines f.checks q y (check.off dir b)))
        (radio_off dir b f.up_output.lines up_radio))
        z
