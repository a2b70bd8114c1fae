-- What every bearer hands up where just what was given is taken of all channels, in a run of one part and in one of two.
use Rattle.std.proofs.Common.{◌≡◌, ◌<◌, ◌%◌, ℕ, List, length}
use Rattle.dch_types.specs.declared.channel.Dir.{Dir}
use Rattle.dch_types.specs.declared.channel.Dir.TheVariants.{Up, Down}
use Rattle.dch_types.specs.Parts.{side_of}
use Rattle.dch_config.specs.Good.{IsGood}
use Rattle.dch_accept.specs.Plans.{Planned}
use Rattle.dch_node.specs.Lines.{Line}
use Rattle.dch_linkcmd.specs.LinkLink.{LinkState, opened_link}
use Rattle.dch_runlaw.specs.Runs.{Event, Runs}
use Rattle.dch_runlaw.specs.Parts.{GoesOver, KeepsAll}
use Rattle.dch_runlaw.specs.EndEvents.{end_events}
use Rattle.dch_runlaw.specs.HonestBearers.{Alone, AreOf, AreReachedIn, Both, HasTmDown, HasTmUp, HasUmDown, HasUmUp, HasWholeHistory, IsAcknowledged, IsTransparent, IsUnacknowledged, Parts, active, nodes_reached}
use Rattle.dch_runlaw.specs.HonestFits.{IsUndamagedOn}
use Rattle.dch_runlaw.proofs.HonestHanded.{tm_undamaged_down, tm_undamaged_up, um_undamaged_down, um_undamaged_up, undamaged_history}
use Rattle.dch_runlaw.proofs.HonestKept.{was_acknowledged, was_transparent, was_unacknowledged}
use Rattle.dch_runlaw.proofs.HonestOver.{tm_down_undamaged_over, tm_up_undamaged_over, um_down_undamaged_over, um_up_undamaged_over, undamaged_over}

-- just what was given is taken of every channel of a part
abbrev pub TakesAll : (planned : Planned) → (events : List Event) → (old new : LinkState) → (lines : List Line) → Runs old events new lines → Type 0
TakesAll planned events old new lines run = (dir : Dir) (i : ℕ) → i < length (side_of planned.config dir).channels → IsUndamagedOn planned dir i events old new lines run

-- the nodes that were reached are the terminal and the network controller
pub are_reached : (parts : Parts) (link : LinkState) (reached : AreReachedIn parts link) → AreOf link (nodes_reached parts link reached)
are_reached (Alone planned first happened) link reached = reached.are
are_reached (Both planned second first earlier later last) link reached = reached.are

pub record IsHanded (parts : Parts) (link : LinkState) : Type 0 where
  pub acknowledged : (b up down : ℕ) → IsAcknowledged (active parts) b up down → HasWholeHistory parts b up down link
  pub unacknowledged_up : (b i : ℕ) → IsUnacknowledged (active parts) Up b i → HasUmUp (active parts) b i link
  pub unacknowledged_down : (b i : ℕ) → IsUnacknowledged (active parts) Down b i → HasUmDown (active parts) b i link
  pub transparent_up : (b i : ℕ) → IsTransparent (active parts) Up b i → HasTmUp (active parts) b i link
  pub transparent_down : (b i : ℕ) → IsTransparent (active parts) Down b i → HasTmDown (active parts) b i link

pub handed : (planned : Planned) (first : ℕ) (events : List Event) (new : LinkState) (lines : List Line) (run : Runs (opened_link planned first) events new lines) → TakesAll planned events (opened_link planned first) new lines run → IsHanded (Alone planned first (end_events events (opened_link planned first) new lines run)) new
handed planned first events new lines run all = record {
  acknowledged = λ b up down is.
      let here = (is.good.bearers b is.there).up.there up is.up_is in
      let there = (is.good.bearers b is.there).down.there down is.down_is in
      undamaged_history planned first b up down events new lines run is (record { up_is = all Up up here; down_is = all Down down there });
  unacknowledged_up = λ b i is. um_undamaged_up planned first b i events new lines run is (all Up i ((is.good.bearers b is.there).up.there i is.channel));
  unacknowledged_down = λ b i is. um_undamaged_down planned first b i events new lines run is (all Down i ((is.good.bearers b is.there).down.there i is.channel));
  transparent_up = λ b i is. tm_undamaged_up planned first b i events new lines run is (all Up i ((is.good.bearers b is.there).up.there i is.channel));
  transparent_down = λ b i is. tm_undamaged_down planned first b i events new lines run is (all Down i ((is.good.bearers b is.there).down.there i is.channel));
}

pub handed_over : (planned second : Planned) (first : ℕ) (before after : List Event) (start new : LinkState) (xs ys : List Line) (o : GoesOver planned second first before xs start) (run : Runs start after new ys) → IsGood planned.config → KeepsAll planned second → start.rnc.state.cfn % 8 ≡ 0
    → TakesAll planned before (opened_link planned first) o.last xs o.run → TakesAll second after start new ys run → IsHanded (Both planned second first (end_events before (opened_link planned first) o.last xs o.run) (end_events after start new ys run) o.last) new
handed_over planned second first before after start new xs ys o run good kept eighth all rest = record {
  acknowledged = λ b up down is.
      let was = was_acknowledged planned second b up down good (kept b) is in
      let before_up = (good.bearers b was.is.there).up.there was.up was.is.up_is in
      let before_down = (good.bearers b was.is.there).down.there was.down was.is.down_is in
      let here = (is.good.bearers b is.there).up.there up is.up_is in
      let there = (is.good.bearers b is.there).down.there down is.down_is in
      undamaged_over planned second first b was.up was.down up down before after start new xs ys o run (kept b) eighth was.is is
      (record { up_is = all Up was.up before_up; down_is = all Down was.down before_down })
      (record { up_is = rest Up up here; down_is = rest Down down there });
  unacknowledged_up = λ b i is.
      let was = was_unacknowledged planned second Up b i good (kept b) is in
      um_up_undamaged_over planned second first b was.channel i before after start new xs ys o run eighth was.is is (all Up was.channel ((good.bearers b was.is.there).up.there was.channel was.is.channel)) (rest Up i ((is.good.bearers b is.there).up.there i is.channel));
  unacknowledged_down = λ b i is.
      let was = was_unacknowledged planned second Down b i good (kept b) is in
      um_down_undamaged_over planned second first b was.channel i before after start new xs ys o run eighth was.is is (all Down was.channel ((good.bearers b was.is.there).down.there was.channel was.is.channel)) (rest Down i ((is.good.bearers b is.there).down.there i is.channel));
  transparent_up = λ b i is.
      let was = was_transparent planned second Up b i good (kept b) is in
      tm_up_undamaged_over planned second first b was.channel i before after start new xs ys o run eighth was.is is (all Up was.channel ((good.bearers b was.is.there).up.there was.channel was.is.channel)) (rest Up i ((is.good.bearers b is.there).up.there i is.channel));
  transparent_down = λ b i is.
      let was = was_transparent planned second Down b i good (kept b) is in
      tm_down_undamaged_over planned second first b was.channel i before after start new xs ys o run eighth was.is is (all Down was.channel ((good.bearers b was.is.there).down.there was.channel was.is.channel)) (rest Down i ((is.good.bearers b is.there).down.there i is.channel));
}
