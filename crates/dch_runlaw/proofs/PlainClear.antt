-- A run in which no damage has an effect writes plain lines alone.
use Rattle.std.proofs.Common.{◌≡◌, ◌<◌, ◌%◌, ◌++◌, ℕ, List, [], ◌∷◌, Some, true, length, refl, subst, inl}
use Rattle.dch_types.specs.declared.bearer.Mode.{Mode}
use Rattle.dch_types.specs.declared.bearer.Mode.TheVariants.{Am, Tm, Um}
use Rattle.dch_types.specs.declared.channel.Dir.TheVariants.{Up, Down}
use Rattle.dch_config.specs.Good.{IsGood}
use Rattle.dch_accept.specs.Plans.{IsPlanned, Planned}
use Rattle.dch_node.specs.Lines.{Line, Took, Full, Wrong, Bad, Reserved, NoBearer, Nobody, PduBad, Outside, Overlong, Got, GotBits, Iub, IubBad, Phy, PhyNone, BadTti, Differs}
use Rattle.dch_layer2.specs.Bearings.{bearer_in, channel_of}
use Rattle.dch_layer2.proofs.Good.{there}
use Rattle.dch_linkcmd.specs.LinkLink.{LinkState, opened_link}
use Rattle.dch_runlaw.specs.Lines.{lines_of}
use Rattle.dch_runlaw.proofs.Bearers.{is_am_bearer}
use Rattle.dch_runlaw.specs.Runs.{Between, Event, Frame, Runs}
use Rattle.dch_runlaw.specs.EndEvents.{end_events}
use Rattle.dch_runlaw.specs.Nodes.{Nodes, world_of}
use Rattle.dch_runlaw.specs.HonestBearers.{Alone, AreOf, Parts, active, calls_reached, down_way, nodes_reached, up_way}
use Rattle.dch_runlaw.specs.Parts.{Begins}
use Rattle.dch_runlaw.proofs.Handed.{IsHanded, TakesAll, are_reached, handed}
use Rattle.dch_runlaw.specs.Clear.{IsClear}
use Rattle.dch_runlaw.specs.ClearSound.{AreSound, is_sound}
use Rattle.dch_runlaw.proofs.ClearRuns.{clear_on, clear_sound}
use Rattle.dch_runlaw.specs.Plain.{ArePlain, is_plain}
use Rattle.dch_runlaw.proofs.PlainBetween.{RunTakes, run_level}
use Rattle.dch_runlaw.proofs.PlainLevels.{Level, opened_level}
use Rattle.dch_runlaw.proofs.PlainMild.{AreMild, BothMild, IsMild, all_mild, am_mild, tm_mild, um_mild}
use Rattle.dch_runlaw.proofs.PlainModes.{HasBoth, has_both}
use Rattle.dch_runlaw.proofs.PlainWhole.{run_mild}

-- a line without trouble of the radio side and of layer 2
plain_line : (line : Line) → is_sound line ≡ true → IsMild line → is_plain line ≡ true
plain_line (Took dir b) sound mild = refl
plain_line (Full dir b) sound mild = refl
plain_line (Wrong dir b) sound mild = refl
plain_line (Bad dir i k) sound mild = sound
plain_line (Reserved dir i) sound mild = absurd mild
plain_line (NoBearer dir i ct) sound mild = absurd mild
plain_line (Nobody dir i) sound mild = absurd mild
plain_line (PduBad dir b n) sound mild = absurd mild
plain_line (Outside dir b) sound mild = absurd mild
plain_line (Overlong dir b) sound mild = absurd mild
plain_line (Got dir b octets) sound mild = refl
plain_line (GotBits dir b bits) sound mild = refl
plain_line (Iub dir set octets) sound mild = refl
plain_line (IubBad dir set n) sound mild = sound
plain_line (Phy dir tfci cells) sound mild = refl
plain_line PhyNone sound mild = sound
plain_line (BadTti dir i n) sound mild = sound
plain_line (Differs dir i) sound mild = sound

plain_lines : (lines : List Line) → AreSound lines → AreMild lines → ArePlain lines
plain_lines [] sound mild = tt
plain_lines (line ∷ lines) sound mild = (plain_line line sound.0 mild.0, plain_lines lines sound.1 mild.1)

pub plain-append : (xs ys : List Line) → ArePlain xs → ArePlain ys → ArePlain (xs ++ ys)
plain-append [] ys first later = later
plain-append (x ∷ xs) ys first later = (first.0, plain-append xs ys first.1 later)

-- of every channel just what was given is taken
takes_all : (planned : Planned) (events : List Event) (old new : LinkState) (lines : List Line) (run : Runs old events new lines) → TakesAll planned events old new lines run → RunTakes planned events old new lines run
takes_all planned [] old new lines run all = tt
takes_all planned (Between event ∷ events) old new lines run all = (tt, takes_all planned events run.next new run.rest run.later (λ dir i inside. (all dir i inside).1))
takes_all planned (Frame ∷ events) old new lines run all = (
  record { down = λ i inside. (all Down i inside).0; up = λ i inside. (all Up i inside).0 },
  takes_all planned events run.next new run.rest run.later (λ dir i inside. (all dir i inside).1),
)

pub level_over : (planned : Planned) (events : List Event) (old new : LinkState) (lines : List Line) (run : Runs old events new lines) → IsGood planned.config → TakesAll planned events old new lines run → Level planned old → Level planned new
level_over planned events old new lines run good all v = run_level planned events old new lines run good (takes_all planned events old new lines run all) v

-- all lines on a bearer
both_mild : (parts : Parts) (new : LinkState) (b : ℕ) → IsGood (active parts).config → IsHanded parts new → b < length (active parts).config.bearers → (bearer_in (active parts).config b).mode ≡ Am → (AreMild (lines_of b new.ue.lines)) × (AreMild (lines_of b new.rnc.lines))
both_mild parts new b good handed l mode =
    let both : HasBoth (active parts).config b = has_both (active parts).config b good l mode in
    let h = handed.acknowledged b both.up both.down (record { good = good; there = l; mode = mode; up_is = both.up_is; down_is = both.down_is }) in
    let nodes : Nodes = nodes_reached parts new h.reached in
    let are : AreOf new nodes = are_reached parts new h.reached in
    let mild : BothMild b (world_of nodes) = am_mild (active parts).config Up Down b both.up both.down (calls_reached b parts new h.reached) (world_of nodes) (is_am_bearer (active parts).config b both.up both.down good l mode both.up_is both.down_is) h.history in
    (subst (λ (x : List Line). AreMild (lines_of b x)) are.ue_lines mild.near, subst (λ (x : List Line). AreMild (lines_of b x)) are.rnc_lines mild.far)

up_mild : (parts : Parts) (new : LinkState) (b i : ℕ) (mode : Mode) → IsGood (active parts).config → IsHanded parts new → (bearer_in (active parts).config b).mode ≡ mode → channel_of (active parts).config Up b ≡ Some i → AreMild (lines_of b new.rnc.lines)
up_mild parts new b i Am good handed e on = (both_mild parts new b good handed (there (active parts).config Up b i on) e).1
up_mild parts new b i Um good handed e on =
    um_mild (active parts).config Up b i new.ue.state.layer new.rnc.lines (up_way (active parts) i new) (handed.unacknowledged_up b i (record { good = good; there = there (active parts).config Up b i on; mode = e; channel = on }))
up_mild parts new b i Tm good handed e on =
    tm_mild (active parts).config Up b i new.ue.state.layer new.rnc.lines (up_way (active parts) i new) (handed.transparent_up b i (record { good = good; there = there (active parts).config Up b i on; mode = e; channel = on }))

down_mild : (parts : Parts) (new : LinkState) (b i : ℕ) (mode : Mode) → IsGood (active parts).config → IsHanded parts new → (bearer_in (active parts).config b).mode ≡ mode → channel_of (active parts).config Down b ≡ Some i → AreMild (lines_of b new.ue.lines)
down_mild parts new b i Am good handed e on = (both_mild parts new b good handed (there (active parts).config Down b i on) e).0
down_mild parts new b i Um good handed e on =
    um_mild (active parts).config Down b i new.rnc.state.layer new.ue.lines (down_way (active parts) i new) (handed.unacknowledged_down b i (record { good = good; there = there (active parts).config Down b i on; mode = e; channel = on }))
down_mild parts new b i Tm good handed e on =
    tm_mild (active parts).config Down b i new.rnc.state.layer new.ue.lines (down_way (active parts) i new) (handed.transparent_down b i (record { good = good; there = there (active parts).config Down b i on; mode = e; channel = on }))

-- the lines of a part
pub part_plain : (parts : Parts) (events : List Event) (start new : LinkState) (lines : List Line) (run : Runs start events new lines) → IsPlanned (active parts) → Begins (active parts) start → start.rnc.state.cfn % 8 ≡ 0 → IsClear events start new lines run → Level (active parts) new → IsHanded parts new → ArePlain lines
part_plain parts events start new lines run good begins eighth clear level handed = plain_lines lines
    (clear_sound (active parts) events start new lines run good begins eighth clear)
    (run_mild events start new lines run
    (all_mild (active parts).config Down new.ue.lines level.ue_known (λ b has. down_mild parts new b has.channel (bearer_in (active parts).config b).mode good.good handed refl has.is))
    (all_mild (active parts).config Up new.rnc.lines level.rnc_known (λ b has. up_mild parts new b has.channel (bearer_in (active parts).config b).mode good.good handed refl has.is)))

-- the law
pub clear_plain : (planned : Planned) (first : ℕ) (events : List Event) (new : LinkState) (lines : List Line) (run : Runs (opened_link planned first) events new lines) → IsPlanned planned → first % 8 ≡ 0 → IsClear events (opened_link planned first) new lines run → ArePlain lines
clear_plain planned first events new lines run good eighth clear =
    let opened : LinkState = opened_link planned first in
    let begins : Begins planned opened = inl (record { first = first; is = refl }) in
    let all : TakesAll planned events opened new lines run = λ dir i inside. clear_on planned dir i events opened new lines run good begins eighth clear inside in
    part_plain (Alone planned first (end_events events opened new lines run)) events opened new lines run good begins eighth clear (level_over planned events opened new lines run good.good all (opened_level planned first)) (handed planned first events new lines run all)
