-- The Iub frames up of a radio frame, set by set.
use Rattle.std.proofs.Common.{◌≡◌, ◌<◌, ◌≤◌, ◌+◌, ◌∙◌, ℕ, zero, suc, List, [], ◌∷◌, ◌++◌, false, Option, Some, None, arith, refl, sym, ap, subst, append_assoc, ⊎_elim}
use Rattle.std.specs.Prelude.{◌==◌, ◌%◌}
use Rattle.std.proofs.lemmas.Bool.{cases_lt}
use Rattle.std.proofs.lemmas.List.{append-nil}
use Rattle.dch_types.specs.declared.channel.Dir.TheVariants.{Up}
use Rattle.dch_types.specs.Parts.{channel_at}
use Rattle.dch_types.specs.Timing.{ends, set_frames}
use Rattle.dch_accept.specs.Plans.{Planned}
use Rattle.dch_node.specs.Lines.{Line}
use Rattle.dch_damage.specs.Damage.{iub_after, radio_after}
use Rattle.dch_linkcmd.specs.NodebSteps.{IsReception}
use Rattle.dch_linkcmd.specs.RncState.{IubFrame, State as RncState}
use Rattle.dch_linkcmd.specs.Checks.{good_in}
use Rattle.dch_linkcmd.specs.LinkLink.{LinkState}
use Rattle.dch_runlaw.specs.Frames.{IsFrame, MayBeTaken, Taken, lines_below}
use Rattle.dch_runlaw.specs.Worlds.{Log}
use Rattle.dch_runlaw.proofs.Names.{other_number}
use Rattle.dch_runlaw.specs.Nodes.{AtRnc, Event, Nodes, Runs}
use Rattle.dch_runlaw.specs.EndEvents.{arrived, iub_arriving, until_set}
use Rattle.dch_runlaw.specs.HonestFits.{FrameFits, IsChannel}
use Rattle.dch_runlaw.proofs.HonestPhases.{On, Phase, next_is, on_holds, phase_holds, reads_log, same_on, same_phase}
use Rattle.dch_runlaw.proofs.HonestStanding.{Setting, down_frames, nodes_at, runs-append, up_frames}
use Rattle.dch_runlaw.proofs.HonestStaying.{AreFor, left_cfn, left_planned, rncs_planned}
use Rattle.dch_runlaw.proofs.HonestSteps.{iub_cfn, iub_given, other_set, serves_none}

-- the Iub frames of the first sets were taken
pub record Sets (planned : Planned) (up down : ℕ) (g : Setting planned up down) (old new : LinkState) (lines : List Line) (f : IsFrame old new lines) (us rs : List Line) (n : Nodes) (s : ℕ) : Type 0 where
  pub ul : ℕ → Log
  pub dl : ℕ → Log
  pub run : Runs g.H n (until_set old new lines f s) (nodes_at new.ue.state (f.rncs s) us (rs ++ lines_below f.taken s) ul dl)
  pub before : s ≤ (channel_at planned.config.uplink.side up).set → On g.UpFits (ul up) (new.ue.state.layer.given up).blocks
  pub after : (channel_at planned.config.uplink.side up).set < s → Phase g.UpFits (up_frames planned up) ((old.rnc.state.cfn + 1) % 256) (ul up) (new.ue.state.layer.given up).blocks
  pub down_phase : Phase g.DownFits (down_frames planned down) ((old.rnc.state.cfn + 1) % 256) (dl down) (f.rnc.layer.given down).blocks
  pub cfn : (f.rncs s).cfn ≡ (old.rnc.state.cfn + 1) % 256
  pub given : (j : ℕ) → (f.rncs s).layer.given j ≡ f.rnc.layer.given j

-- where no TTI of its set ends nothing is taken of the channel
none_taken : (planned : Planned) (up : ℕ) (old new : LinkState) (lines : List Line) (f : IsFrame old new lines) → IsChannel planned.config.uplink.side up → AreFor planned old → old.node_b.state.cfn ≡ old.rnc.state.cfn → ends (up_frames planned up) old.rnc.state.cfn ≡ false → good_in ((f.taken (channel_at planned.config.uplink.side up).set).readings up) ≡ []
none_taken planned up old new lines f is are same e =
    let r : IsReception planned f.node_b (radio_after old.damage Up f.ue_output.sent) new.node_b.state f.up_output =
    subst (λ (p : Planned). IsReception p f.node_b (radio_after old.damage Up f.ue_output.sent) new.node_b.state f.up_output) (left_planned old new lines f ∙ are.node_b) f.up in
    let cfn : r.rx_frames.cfn ≡ old.rnc.state.cfn = r.kept.last ∙ left_cfn old new lines f ∙ same in
    let off : ends (set_frames planned.config.uplink.side set) r.rx_frames.cfn ≡ false = ap (λ n. ends n r.rx_frames.cfn) is.set ∙ ap (ends (up_frames planned up)) cfn ∙ e in
    let none : f.up_output.iub set ≡ None = serves_none planned r.rx_frames set (r.lines set) (f.up_output.iub set) off (r.sets set is.small) in
    let take : MayBeTaken old.rnc.state.planned set None new.ue.state.layer (f.rncs set) (f.rncs (set + 1)) (f.taken set) (f.rnc_lines set) =
    subst (λ o. MayBeTaken old.rnc.state.planned set (iub_after old.damage Up set o) new.ue.state.layer (f.rncs set) (f.rncs (set + 1)) (f.taken set) (f.rnc_lines set)) none (f.takes set is.small) in
    ap (λ (t : Taken). good_in (t.readings up)) take.1
  where
    set : ℕ
    set = (channel_at planned.config.uplink.side up).set

-- the lines of one set more
below_more : (taken : ℕ → Taken) (rs own : List Line) (s : ℕ) → (taken s).lines ≡ own → rs ++ lines_below taken (s + 1) ≡ (rs ++ lines_below taken s) ++ own
below_more taken rs own s e =
    let next : s + 1 ≡ suc s = omega arith in
    ap (λ k. rs ++ lines_below taken k) next ∙ ap (λ l. rs ++ (lines_below taken s ++ l)) e ∙ sym (append_assoc rs (lines_below taken s) own)

-- the events of one set more
until_more : (old new : LinkState) (lines : List Line) (f : IsFrame old new lines) (s : ℕ) (o : Option (List ℕ)) → iub_arriving old new lines f s ≡ o → until_set old new lines f (s + 1) ≡ until_set old new lines f s ++ arrived s o
until_more old new lines f s o is =
    let next : s + 1 ≡ suc s = omega arith in
    ap (until_set old new lines f) next ∙ ap (λ x. until_set old new lines f s ++ arrived s x) is

-- one more set
set_next : (planned : Planned) (up down : ℕ) (g : Setting planned up down) (old new : LinkState) (lines : List Line) (f : IsFrame old new lines) (us rs : List Line) (n : Nodes) (s : ℕ) → FrameFits g.UpFits planned Up up old new lines f → AreFor planned old → old.node_b.state.cfn ≡ old.rnc.state.cfn → s < 8
    → Sets planned up down g old new lines f us rs n s → (o : Option (List ℕ)) → iub_arriving old new lines f s ≡ o → MayBeTaken old.rnc.state.planned s o new.ue.state.layer (f.rncs s) (f.rncs (s + 1)) (f.taken s) (f.rnc_lines s) → Sets planned up down g old new lines f us rs n (s + 1)
set_next planned up down g old new lines f us rs n s up_fits are same l t None is_none m = record {
  ul = t.ul;
  dl = t.dl;
  run = subst (λ (events : List Event). Runs g.H n events (nodes_at new.ue.state (f.rncs (s + 1)) us (rs ++ lines_below f.taken (s + 1)) t.ul t.dl)) (sym (until_more old new lines f s None is_none ∙ append-nil (until_set old new lines f s)))
      (subst (λ (x : List Line). Runs g.H n (until_set old new lines f s) (nodes_at new.ue.state (f.rncs (s + 1)) us x t.ul t.dl)) (sym (below_more f.taken rs [] s (ap (λ (x : Taken). x.lines) m.1) ∙ append-nil (rs ++ lines_below f.taken s)))
      (subst (λ (r : RncState). Runs g.H n (until_set old new lines f s) (nodes_at new.ue.state r us (rs ++ lines_below f.taken s) t.ul t.dl)) (sym m.0) t.run));
  before = λ le. t.before (omega (arith, le));
  after = λ lt. ⊎_elim (λ (q : set < s). t.after q) (λ (q : s ≤ set). let is : set ≡ s = omega (arith, lt, q) in over is (t.before q)) (cases_lt set s);
  down_phase = t.down_phase;
  cfn = ap (λ (r : RncState). r.cfn) m.0 ∙ t.cfn;
  given = λ j. ap (λ (r : RncState). r.layer.given j) m.0 ∙ t.given j;
}
  where
    set : ℕ
    set = (channel_at planned.config.uplink.side up).set

    over : set ≡ s → On g.UpFits (t.ul up) (new.ue.state.layer.given up).blocks → Phase g.UpFits (up_frames planned up) ((old.rnc.state.cfn + 1) % 256) (t.ul up) (new.ue.state.layer.given up).blocks
    over is on =
        let none : good_in ((f.taken set).readings up) ≡ [] = ap (λ k. good_in ((f.taken k).readings up)) is ∙ ap (λ (x : Taken). good_in (x.readings up)) m.1 in
        reads_log g.UpFits g.UpHolds (up_frames planned up) old.rnc.state.cfn ((old.rnc.state.cfn + 1) % 256) (t.ul up) (t.ul up) (good_in ((f.taken set).readings up)) (new.ue.state.layer.given up).blocks g.up_joins
        (sym (ap (λ l. record { given = (t.ul up).given; taken = l }) (ap (λ l. (t.ul up).taken ++ l) none ∙ append-nil (t.ul up).taken)))
        (next_is (up_frames planned up) old.rnc.state.cfn g.up_channel.divides)
        up_fits
        (none_taken planned up old new lines f g.up_channel are same)
        on
set_next planned up down g old new lines f us rs n s up_fits are same l t (Some octets) is_some m = record {
  ul = ul;
  dl = dl;
  run = subst (λ (events : List Event). Runs g.H n events there) (sym (until_more old new lines f s (Some octets) is_some)) (runs-append g.H n here there (until_set old new lines f s) (AtRnc (IubFrame s octets) ∷ []) t.run (record {
    next = there;
    first = record { within = tt; output = m.output; step = m.step; reported = below_more f.taken rs m.output.lines s (ap (λ (x : Taken). x.lines) m.is); ue = refl; ue_lines = refl; down = λ i. refl; up = λ i. refl };
    holds = g.build there up_holds (phase_holds g.DownFits g.DownHolds (down_frames planned down) ((old.rnc.state.cfn + 1) % 256) (dl down) (f.rnc.layer.given down).blocks g.down_joins down_now);
    later = refl;
  }));
  before = before;
  after = after;
  down_phase = down_now;
  cfn = iub_cfn (f.rncs s) (f.rncs (s + 1)) s octets m.output m.step ∙ t.cfn;
  given = λ j. iub_given (f.rncs s) (f.rncs (s + 1)) s octets m.output m.step j ∙ t.given j;
}
  where
    set : ℕ
    set = (channel_at planned.config.uplink.side up).set

    ul : ℕ → Log
    ul = λ i. record { given = (t.ul i).given; taken = (t.ul i).taken ++ good_in ((f.rncs (s + 1)).readings i) }

    dl : ℕ → Log
    dl = λ i. record { given = (t.dl i).given ++ []; taken = (t.dl i).taken }

    here : Nodes
    here = nodes_at new.ue.state (f.rncs s) us (rs ++ lines_below f.taken s) t.ul t.dl

    there : Nodes
    there = nodes_at new.ue.state (f.rncs (s + 1)) us (rs ++ lines_below f.taken (s + 1)) ul dl

    down_now : Phase g.DownFits (down_frames planned down) ((old.rnc.state.cfn + 1) % 256) (dl down) (f.rnc.layer.given down).blocks
    down_now = same_phase g.DownFits (down_frames planned down) ((old.rnc.state.cfn + 1) % 256) (t.dl down) (dl down) (f.rnc.layer.given down).blocks (ap (λ l. record { given = l; taken = (t.dl down).taken }) (append-nil (t.dl down).given)) t.down_phase

    active : (f.rncs s).planned ≡ planned
    active = rncs_planned old new lines f s (omega (arith, l)) ∙ are.rnc

    same_log : (set ≡ s → ⊥) → ul up ≡ t.ul up
    same_log differ =
        let other : (set == s) ≡ false = other_number set s differ in
        ap (λ r. record { given = (t.ul up).given; taken = (t.ul up).taken ++ good_in r }) (other_set planned (f.rncs s) (f.rncs (s + 1)) s up octets m.output active other m.step) ∙ ap (λ l. record { given = (t.ul up).given; taken = l }) (append-nil (t.ul up).taken)

    before : s + 1 ≤ set → On g.UpFits (ul up) (new.ue.state.layer.given up).blocks
    before le = same_on g.UpFits (t.ul up) (ul up) (new.ue.state.layer.given up).blocks (same_log (λ e. absurd (omega (arith, le, e)))) (t.before (omega (arith, le)))

    over : set ≡ s → On g.UpFits (t.ul up) (new.ue.state.layer.given up).blocks → Phase g.UpFits (up_frames planned up) ((old.rnc.state.cfn + 1) % 256) (ul up) (new.ue.state.layer.given up).blocks
    over is on = reads_log g.UpFits g.UpHolds (up_frames planned up) old.rnc.state.cfn ((old.rnc.state.cfn + 1) % 256) (t.ul up) (ul up) (good_in ((f.taken set).readings up)) (new.ue.state.layer.given up).blocks g.up_joins
        (ap (λ (x : Taken). record { given = (t.ul up).given; taken = (t.ul up).taken ++ good_in (x.readings up) }) (sym m.is ∙ ap f.taken (sym is)))
        (next_is (up_frames planned up) old.rnc.state.cfn g.up_channel.divides)
        up_fits
        (none_taken planned up old new lines f g.up_channel are same)
        on

    after : set < s + 1 → Phase g.UpFits (up_frames planned up) ((old.rnc.state.cfn + 1) % 256) (ul up) (new.ue.state.layer.given up).blocks
    after lt = ⊎_elim
        (λ (q : set < s). same_phase g.UpFits (up_frames planned up) ((old.rnc.state.cfn + 1) % 256) (t.ul up) (ul up) (new.ue.state.layer.given up).blocks (same_log (λ e. absurd (omega (arith, q, e)))) (t.after q))
        (λ (q : s ≤ set). let is : set ≡ s = omega (arith, lt, q) in over is (t.before q))
        (cases_lt set s)

    up_holds : g.UpHolds (ul up).taken (ul up).given
    up_holds = ⊎_elim
        (λ (q : set < s + 1). phase_holds g.UpFits g.UpHolds (up_frames planned up) ((old.rnc.state.cfn + 1) % 256) (ul up) (new.ue.state.layer.given up).blocks g.up_joins (after q))
        (λ (q : s + 1 ≤ set). on_holds g.UpFits g.UpHolds (ul up) (new.ue.state.layer.given up).blocks g.up_joins (before q))
        (cases_lt set (s + 1))

pub all_sets : (planned : Planned) (up down : ℕ) (g : Setting planned up down) (old new : LinkState) (lines : List Line) (f : IsFrame old new lines) (us rs : List Line) (n : Nodes) (s : ℕ) → FrameFits g.UpFits planned Up up old new lines f → AreFor planned old → old.node_b.state.cfn ≡ old.rnc.state.cfn → s ≤ 8
    → Sets planned up down g old new lines f us rs n 0 → Sets planned up down g old new lines f us rs n s
all_sets planned up down g old new lines f us rs n zero up_fits are same l t = t
all_sets planned up down g old new lines f us rs n (suc s) up_fits are same l t =
    let next : s + 1 ≡ suc s = omega arith in
    subst (Sets planned up down g old new lines f us rs n) next
    (set_next planned up down g old new lines f us rs n s up_fits are same (omega (arith, l)) (all_sets planned up down g old new lines f us rs n s up_fits are same (omega (arith, l)) t) (iub_arriving old new lines f s) refl (f.takes s (omega (arith, l))))
