-- The lines that the terminal and the network controller report in a step: their direction and their numbers. And the configuration stays.
use Rattle.std.proofs.Common.{◌≡◌, ◌≤◌, ◌∙◌, ◌++◌, ℕ, zero, suc, List, [], ◌∷◌, Option, Some, None, length, inl, inr, arith, refl, sym, ap, ap₂, subst}
use Rattle.dch_bits.specs.declared.bit.Bit.{Bit}
use Rattle.dch_types.specs.declared.channel.Dir.{Dir}
use Rattle.dch_types.specs.declared.channel.Dir.TheVariants.{Up, Down}
use Rattle.dch_types.specs.declared.config.Config.{Config}
use Rattle.dch_accept.specs.Plans.{Planned}
use Rattle.dch_layer2.specs.Bearings.{answers}
use Rattle.dch_layer2.specs.Layers.{Layer, offers, ticks}
use Rattle.dch_layer2.specs.Coming.{came_of}
use Rattle.dch_layer2.specs.Reading.{Bad as BadReading, Nothing, Read, Reading, reads, reads_below}
use Rattle.dch_node.specs.Lines.{Line, Phy}
use Rattle.dch_node.specs.Values.{Output}
use Rattle.dch_linkcmd.specs.UeState.{BlockedCombination as UeBlocked, Change as UeChange, DownlinkFrame, Event as UeEvent, OfferedUnit as UeOffered, State as UeState, Tick as UeTicks}
use Rattle.dch_linkcmd.specs.UeSteps.{Steps as UeSteps}
use Rattle.dch_linkcmd.specs.RncState.{BlockedCombination as RncBlocked, Change as RncChange, Event as RncEvent, IubFrame, OfferedUnit as RncOffered, State as RncState, Tick as RncTicks, set_readings}
use Rattle.dch_linkcmd.specs.RncSteps.{IsArrival, Steps as RncSteps, sent_line, sent_lines}
use Rattle.dch_linkcmd.specs.Checks.{AreChecked, IsChecked}
use Rattle.dch_linkcmd.specs.Within.{RncWithin, UeWithin}
use Rattle.dch_runlaw.specs.Directions.{lines_on}
use Rattle.dch_runlaw.specs.Rows.{AreSmall}
use Rattle.dch_runlaw.proofs.Directions.{AllIn, answer_goes, in_append, on-append, takes_go}
use Rattle.dch_runlaw.proofs.Small.{answer_small, small_append, takes_small}
use Rattle.dch_runlaw.specs.TextDiffering.{AreLow}
use Rattle.dch_runlaw.proofs.TextLow.{answer_low, low_append, takes_low}

-- what a step reports goes in one direction, and is low; and it is small where bearers are few
pub record IsOwn (dir : Dir) (config : Config) (lines : List Line) : Type 0 where
  pub goes : AllIn dir lines
  pub low : AreLow lines
  pub small : length config.bearers ≤ 16 → AreSmall lines

none_own : (dir : Dir) (config : Config) → IsOwn dir config []
none_own dir config = record { goes = tt; low = tt; small = λ few. tt }

own_append : (dir : Dir) (config : Config) (xs ys : List Line) → IsOwn dir config xs → IsOwn dir config ys → IsOwn dir config (xs ++ ys)
own_append dir config xs ys a b = record {
  goes = in_append dir xs ys a.goes b.goes;
  low = low_append xs ys a.low b.low;
  small = λ few. small_append xs ys (a.small few) (b.small few);
}

reads_own : (config : Config) (into : Dir) (i : ℕ) (r : Reading) (layer : Layer) → IsOwn into config (reads config into i r layer).lines
reads_own config into i Nothing layer = none_own into config
reads_own config into i (Read held) layer = record {
  goes = takes_go config into i 0 (came_of held) layer;
  low = takes_low config into i 0 (came_of held) layer;
  small = λ few. takes_small config into i 0 (came_of held) layer few;
}
reads_own config into i (BadReading frame) layer = record { goes = (refl, tt); low = (tt, tt); small = λ few. (tt, tt) }

all_own : (config : Config) (into : Dir) (readings : ℕ → Reading) (n : ℕ) (layer : Layer) → IsOwn into config (reads_below config into readings n layer).lines
all_own config into readings zero layer = none_own into config
all_own config into readings (suc i) layer = own_append into config (reads_below config into readings i layer).lines _ (all_own config into readings i layer) (reads_own config into i (readings i) (reads_below config into readings i layer).layer)

answer_own : (dir out : Dir) (config : Config) (b : ℕ) (octets : List ℕ) (bits : List Bit) (layer : Layer) → IsOwn dir config (offers config out b octets bits layer).lines
answer_own dir out config b octets bits layer = record {
  goes = answer_goes dir out b (answers config out b octets bits (layer.bearings b));
  low = answer_low out b (answers config out b octets bits (layer.bearings b));
  small = λ few. answer_small out b (answers config out b octets bits (layer.bearings b));
}

sent_own : (dir : Dir) (config : Config) (iub : ℕ → Option (List ℕ)) (n : ℕ) → IsOwn dir config (sent_lines iub n)
sent_own dir config iub zero = none_own dir config
sent_own dir config iub (suc n) = own_append dir config (sent_lines iub n) (sent_line n (iub n)) (sent_own dir config iub n) (one (iub n))
  where
    one : (o : Option (List ℕ)) → IsOwn dir config (sent_line n o)
    one None = none_own dir config
    one (Some octets) = record { goes = (refl, tt); low = (tt, tt); small = λ few. (tt, tt) }

-- the terminal
pub ue_own : (old : UeState) (e : UeEvent) (new : UeState) (output : Output) → UeSteps old e new output → IsOwn Down old.planned.config output.lines
ue_own old (UeOffered b octets bits) new output step = subst (λ (o : Output). IsOwn Down old.planned.config o.lines) (sym step.reported) (answer_own Down Up old.planned.config b octets bits old.layer)
ue_own old (UeBlocked c on) new output step = subst (λ (o : Output). IsOwn Down old.planned.config o.lines) (sym step.1) (none_own Down old.planned.config)
ue_own old (DownlinkFrame frame) new output step = subst (λ (o : Output). IsOwn Down old.planned.config o.lines) (sym step.1) (none_own Down old.planned.config)
ue_own old UeTicks new output step =
    let config : Config = old.planned.config in
    subst (IsOwn Down config) (sym step.reported)
    (own_append Down config _ (Phy Up step.radio.tfci step.radio.cells ∷ []) (all_own config Down new.readings (length config.downlink.side.channels) (ticks config old.layer)) (record { goes = (refl, tt); low = (tt, tt); small = λ few. (tt, tt) }))
ue_own old (UeChange second) new output step = subst (λ (o : Output). IsOwn Down old.planned.config o.lines) (sym step.quiet) (none_own Down old.planned.config)

pub ue_stays : (old : UeState) (e : UeEvent) (new : UeState) (output : Output) → UeWithin e → UeSteps old e new output → new.planned ≡ old.planned
ue_stays old (UeOffered b octets bits) new output within step = ap (λ (s : UeState). s.planned) step.state
ue_stays old (UeBlocked c on) new output within step = ap (λ (s : UeState). s.planned) step.0
ue_stays old (DownlinkFrame frame) new output within step = ap (λ (s : UeState). s.planned) step.0
ue_stays old UeTicks new output within step = ap (λ (s : UeState). s.planned) step.state
ue_stays old (UeChange second) new output within step = absurd within

-- the network controller
arrival_own : (planned : Planned) (old : RncState) (set : ℕ) (octets : List ℕ) (new : RncState) (output : Output) → IsArrival planned old set octets new output → IsOwn Up planned.config output.lines
arrival_own planned old set octets new output (inl read) = subst (λ (o : Output). IsOwn Up planned.config o.lines) (sym read.reported) (all_own planned.config Up (set_readings planned.config.uplink.side set read.held) (length planned.config.uplink.side.channels) old.layer)
arrival_own planned old set octets new output (inr refused) = subst (λ (o : Output). IsOwn Up planned.config o.lines) (sym refused.reported) (record { goes = (refl, tt); low = (tt, tt); small = λ few. (tt, tt) })

arrival_stays : (planned : Planned) (old : RncState) (set : ℕ) (octets : List ℕ) (new : RncState) (output : Output) → IsArrival planned old set octets new output → new.planned ≡ old.planned
arrival_stays planned old set octets new output (inl read) = ap (λ (s : RncState). s.planned) read.state
arrival_stays planned old set octets new output (inr refused) = ap (λ (s : RncState). s.planned) refused.state

pub rnc_own : (old : RncState) (e : RncEvent) (new : RncState) (output : Output) → RncSteps old e new output → IsOwn Up old.planned.config output.lines
rnc_own old (RncOffered b octets bits) new output step = subst (λ (o : Output). IsOwn Up old.planned.config o.lines) (sym step.reported) (answer_own Up Down old.planned.config b octets bits old.layer)
rnc_own old (RncBlocked c on) new output step = subst (λ (o : Output). IsOwn Up old.planned.config o.lines) (sym step.1) (none_own Up old.planned.config)
rnc_own old (IubFrame set octets) new output step = arrival_own old.planned old set octets new output step
rnc_own old RncTicks new output step = subst (IsOwn Up old.planned.config) (sym step.reported) (sent_own Up old.planned.config output.iub 8)
rnc_own old (RncChange second) new output step = subst (λ (o : Output). IsOwn Up old.planned.config o.lines) (sym step.quiet) (none_own Up old.planned.config)

pub rnc_stays : (old : RncState) (e : RncEvent) (new : RncState) (output : Output) → RncWithin e → RncSteps old e new output → new.planned ≡ old.planned
rnc_stays old (RncOffered b octets bits) new output within step = ap (λ (s : RncState). s.planned) step.state
rnc_stays old (RncBlocked c on) new output within step = ap (λ (s : RncState). s.planned) step.0
rnc_stays old (IubFrame set octets) new output within step = arrival_stays old.planned old set octets new output step
rnc_stays old RncTicks new output within step = ap (λ (s : RncState). s.planned) step.state
rnc_stays old (RncChange second) new output within step = absurd within

-- lines that tell of channels whose blocks differ
pub record IsCheck (count : ℕ) (lines : List Line) : Type 0 where
  pub off : (dir : Dir) (b : ℕ) → lines_on dir b lines ≡ []
  pub small : AreSmall lines
  pub low : count ≤ 8 → AreLow lines

one_check : (d : Dir) (i : ℕ) (taken given : List (List Bit)) (lines : List Line) → IsChecked d i taken given lines → IsCheck (suc i) lines
one_check d i taken given lines (inl none) = subst (IsCheck (suc i)) (sym none.1) (record { off = λ dir b. refl; small = tt; low = λ few. tt })
one_check d i taken given lines (inr one) = subst (IsCheck (suc i)) (sym one.1) (record { off = λ dir b. refl; small = (tt, tt); low = λ few. (omega (arith, few), tt) })

pub checks : (d : Dir) (taken given : ℕ → List (List Bit)) (n : ℕ) (lines : List Line) → AreChecked d taken given n lines → IsCheck n lines
checks d taken given zero lines c = subst (IsCheck zero) (sym c) (record { off = λ dir b. refl; small = tt; low = λ few. tt })
checks d taken given (suc n) lines c =
    let first : IsCheck n c.front = checks d taken given n c.front c.before in
    let own : IsCheck (suc n) c.own = one_check d n (taken n) (given n) c.own c.is in
    subst (IsCheck (suc n)) (sym c.all) (record {
      off = λ dir b. on-append dir b c.front c.own ∙ ap₂ (λ x y. x ++ y) (first.off dir b) (own.off dir b);
      small = small_append c.front c.own first.small own.small;
      low = λ few. low_append c.front c.own (first.low (omega (arith, few))) (own.low few);
    })
