-- A run of two ends is a history of the pair of an acknowledged bearer whose channels are faithful.
use Rattle.std.proofs.Common.{◌≡◌, ◌-◌, ℕ, suc, length, List, [], ◌∷◌, ◌++◌, Bool, true, false, cond, not, map, refl, sym, ap, ◌∙◌, subst, append_assoc}
use Rattle.std.proofs.lemmas.List.{append-nil, map-append}
use Rattle.std.proofs.lemmas.List.Elements.{filter-append}
use Rattle.dch_bits.specs.declared.bit.Bit.{Bit}
use Rattle.dch_types.specs.declared.channel.Dir.{Dir}
use Rattle.dch_types.specs.declared.config.Config.{Config}
use Rattle.dch_mac.specs.Field.{field_bits}
use Rattle.dch_am.specs.Rules.{Rules}
use Rattle.dch_amlaw.specs.Pair.{At, Block, Event as Call, Far as FarAt, IsSafe, Near as NearAt, Pair, after, happens, opened, turned as turned_pair}
use Rattle.dch_amlaw.specs.Lossless.{NoneLost, is_loss_event}
use Rattle.dch_amlaw.proofs.History.{always_safe}
use Rattle.dch_amlaw.proofs.Lossless.{always_whole}
use Rattle.dch_layer2.specs.Bearings.{ct_of, opened_mode, pdu_octets, rules_in}
use Rattle.dch_layer2.specs.Layers.{Came, takes}
use Rattle.dch_linkcmd.specs.Checks.{IsSublist}
use Rattle.dch_runlaw.specs.Calls.{calls_at, calls_in, calls_in_all, run_calls}
use Rattle.dch_runlaw.specs.Doings.{Blocks, Doing, Offers, Says, Starts, Takes, Ticks, good_blocks, taken_by}
use Rattle.dch_runlaw.specs.History.{AreLeft, IsAmBearer, IsEndOf, IsHistory, IsWholeHistory, calls_of, pair_after, is_mine}
use Rattle.dch_runlaw.specs.Lines.{lines_of}
use Rattle.dch_runlaw.specs.Worlds.{AreFaithful, AreWholeSoFar, At as OneEvent, DoesAll, DoesNear, Far, Happens, IsFront, Log, Near, Runs, World, opened_world, turned}
use Rattle.dch_runlaw.proofs.Catching.{AlwaysSafe, Wires}
use Rattle.dch_runlaw.proofs.OwnBlocks.{taken_mine}
use Rattle.dch_runlaw.proofs.Steps.{Flow, Sim, Simulated, mine, more_lines, same_out, sim_blocks, sim_offers, sim_says, sim_starts, sim_ticks}
use Rattle.dch_runlaw.proofs.Sublists.{behind, behind-append, behind_own, front_behind, front_filter, front_first, front_sub, sub_behind, sub_filter, sub_front}
use Rattle.dch_runlaw.proofs.BlocksTaken.{Took, after-append, all_taken, calls-append, none_lost-append, safe_after}

-- blocks are taken
sim_takes : (config : Config) (out into : Dir) (b up down i : ℕ) (came : List Came) (w new : World) (p : Pair) → IsAmBearer config out into b up down → Sim config out into b up down w p → AlwaysSafe (rules_in config b) p → IsSublist (mine config into b down ((w.back down).taken ++ taken_by (Takes i came) down)) (mine config into b down (w.back down).given) → DoesNear config out into w (Takes i came) new → Simulated config out into b up down new p (map NearAt (calls_in config out into b w.near.layer (Takes i came) new.near.layer)) (IsFront (mine config into b down ((w.back down).taken ++ taken_by (Takes i came) down)) (mine config into b down (w.back down).given))
sim_takes config out into b up down i came w new p is s safe sub d = record {
  events = t.events;
  called = t.called;
  sim = subst (Sim config out into b up down new) (sym t.is) (record {
    pair = record {
      near = record {
        bearing = ap (λ l. l.bearings b) d.does.0 ∙ t.bearing;
        lines = more_lines into b w.near.said d.lines new.near.said p.near.entity.receiver.reading.units t.units t.end.entity.receiver.reading.units d.said s.pair.near.lines (ap (lines_of b) d.does.1 ∙ t.lines) t.grown;
      };
      far = subst (λ x. IsEndOf out b x p.far) (sym d.far) s.pair.far;
    };
    near_octets = t.octets ∙ s.near_octets;
    far_octets = s.far_octets;
    out_flow = subst (λ x. Flow config out b up x p.out) (same_out (w.out up) (new.out up) (d.out_log up)) s.out_flow;
    back_flow = subst (λ x. Flow config into b down x t.later) (sym (d.back_log down)) (record {
      sub = sub;
      wires = subst (Wires (field_bits (ct_of config into b)) (pdu_octets config into b - 2) t.later) (sym (ap (λ l. behind l (mine config into b down (w.back down).given)) split ∙ behind-append (mine config into b down (w.back down).taken) (mine config into b i (good_blocks came)) (mine config into b down (w.back down).given))) t.wires;
    });
  });
  kept = λ f. t.kept (front_behind (mine config into b down (w.back down).taken) (mine config into b i (good_blocks came)) (mine config into b down (w.back down).given) (subst (λ l. IsFront l (mine config into b down (w.back down).given)) split f));
}
  where
    split : mine config into b down ((w.back down).taken ++ taken_by (Takes i came) down) ≡ mine config into b down (w.back down).taken ++ mine config into b i (good_blocks came)
    split = filter-append (is_mine config into b down) (w.back down).taken (taken_by (Takes i came) down) ∙ ap (λ l. mine config into b down (w.back down).taken ++ l) (taken_mine config into b down i came is.down_is)

    left : List (List Bit)
    left = behind (mine config into b down (w.back down).taken) (mine config into b down (w.back down).given)

    inside : IsSublist (mine config into b i (good_blocks came)) left
    inside = sub_behind (mine config into b down (w.back down).taken) (mine config into b i (good_blocks came)) (mine config into b down (w.back down).given) (subst (λ l. IsSublist l (mine config into b down (w.back down).given)) split sub)

    t : Took (rules_in config b) into b p.near p.far p.out p.back (field_bits (ct_of config into b)) (pdu_octets config into b - 2) (mine config into b i (good_blocks came)) (behind (mine config into b i (good_blocks came)) left) (takes config into i 0 came w.near.layer) (IsFront (mine config into b i (good_blocks came)) left)
    t = all_taken config into b i 0 p.near p.far p.out p.back came left w.near.layer s.pair.near.bearing safe s.back_flow.wires inside

-- all that is taken of a channel
abbrev all_of : List Doing → ℕ → List (List Bit)
all_of [] i = []
all_of (doing ∷ doings) i = taken_by doing i ++ all_of doings i

back_after : (config : Config) (out into : Dir) (w new : World) (doings : List Doing) (i : ℕ) → DoesAll config out into w doings new → new.back i ≡ record { given = (w.back i).given; taken = (w.back i).taken ++ all_of doings i }
back_after config out into w new [] i d = ap (λ x. x.back i) d ∙ ap (λ l. record { given = (w.back i).given; taken = l }) (sym (append-nil (w.back i).taken))
back_after config out into w new (doing ∷ doings) i d =
    back_after config out into d.next new doings i d.later
    ∙ ap (λ x. record { given = x.given; taken = x.taken ++ all_of doings i }) (d.first.back_log i)
    ∙ ap (λ l. record { given = (w.back i).given; taken = l }) (append_assoc (w.back i).taken (taken_by doing i) (all_of doings i))

-- one doing
sim_does : (config : Config) (out into : Dir) (b up down : ℕ) (doing : Doing) (w new : World) (p : Pair) → IsAmBearer config out into b up down → Sim config out into b up down w p → AlwaysSafe (rules_in config b) p → IsSublist (mine config into b down ((w.back down).taken ++ taken_by doing down)) (mine config into b down (w.back down).given) → DoesNear config out into w doing new → Simulated config out into b up down new p (map NearAt (calls_in config out into b w.near.layer doing new.near.layer)) (IsFront (mine config into b down ((w.back down).taken ++ taken_by doing down)) (mine config into b down (w.back down).given))
sim_does config out into b up down (Offers c octets bits) w new p is s safe sub d = sim_offers config out into b up down c octets bits w new p s d (IsFront (mine config into b down ((w.back down).taken ++ [])) (mine config into b down (w.back down).given))
sim_does config out into b up down (Blocks c on) w new p is s safe sub d = sim_blocks config out into b up down c on w new p s d (IsFront (mine config into b down ((w.back down).taken ++ [])) (mine config into b down (w.back down).given))
sim_does config out into b up down Ticks w new p is s safe sub d = sim_ticks config out into b up down w new p s d (IsFront (mine config into b down ((w.back down).taken ++ [])) (mine config into b down (w.back down).given))
sim_does config out into b up down (Takes i came) w new p is s safe sub d = sim_takes config out into b up down i came w new p is s safe sub d
sim_does config out into b up down (Says said) w new p is s safe sub d = sim_says config out into b up down said w new p s d (IsFront (mine config into b down ((w.back down).taken ++ [])) (mine config into b down (w.back down).given))
sim_does config out into b up down (Starts cfn) w new p is s safe sub d = sim_starts config out into b up down cfn w new p is s d (IsFront (mine config into b down ((w.back down).taken ++ [])) (mine config into b down (w.back down).given))

-- several of them, after which what was taken is faithful
sim_all : (config : Config) (out into : Dir) (b up down : ℕ) (doings : List Doing) (w new : World) (p : Pair) → IsAmBearer config out into b up down → Sim config out into b up down w p → AlwaysSafe (rules_in config b) p → IsSublist ((w.back down).taken ++ all_of doings down) (w.back down).given → (d : DoesAll config out into w doings new) → Simulated config out into b up down new p (map NearAt (calls_in_all config out into b w doings new d)) (IsFront ((w.back down).taken ++ all_of doings down) (w.back down).given)
sim_all config out into b up down [] w new p is s safe sub d = record { events = []; called = refl; sim = subst (λ x. Sim config out into b up down x p) (sym d) s; kept = λ _. tt }
sim_all config out into b up down (doing ∷ doings) w new p is s safe sub d =
    let whole : IsSublist (((w.back down).taken ++ taken_by doing down) ++ all_of doings down) (w.back down).given = subst (λ l. IsSublist l (w.back down).given) (sym (append_assoc (w.back down).taken (taken_by doing down) (all_of doings down))) sub in
    let front : IsSublist (mine config into b down ((w.back down).taken ++ taken_by doing down)) (mine config into b down (w.back down).given) = sub_filter (is_mine config into b down) ((w.back down).taken ++ taken_by doing down) (w.back down).given (sub_front ((w.back down).taken ++ taken_by doing down) (all_of doings down) (w.back down).given whole) in
    let t = sim_does config out into b up down doing w d.next p is s safe front d.first in
    let next : IsSublist ((d.next.back down).taken ++ all_of doings down) (d.next.back down).given = subst (λ x. IsSublist (x.taken ++ all_of doings down) x.given) (sym (d.first.back_log down)) whole in
    let u = sim_all config out into b up down doings d.next new (after (rules_in config b) p t.events) is t.sim (safe_after (rules_in config b) p (after (rules_in config b) p t.events) t.events refl safe) next d.later in
    let again : IsFront ((w.back down).taken ++ (taken_by doing down ++ all_of doings down)) (w.back down).given → IsFront (((w.back down).taken ++ taken_by doing down) ++ all_of doings down) (w.back down).given = λ f. subst (λ l. IsFront l (w.back down).given) (sym (append_assoc (w.back down).taken (taken_by doing down) (all_of doings down))) f in
    let one : List Call = calls_in config out into b w.near.layer doing d.next.near.layer in
    let rest : List Call = calls_in_all config out into b d.next doings new d.later in
    record {
      events = t.events ++ u.events;
      called = calls-append t.events u.events (map NearAt one) (map NearAt rest) t.called u.called ∙ sym (map-append NearAt one rest);
      sim = subst (Sim config out into b up down new) (sym (after-append (rules_in config b) p t.events u.events)) u.sim;
      kept = λ f. none_lost-append t.events u.events
          (t.kept (front_filter (is_mine config into b down) ((w.back down).taken ++ taken_by doing down) (w.back down).given (front_first ((w.back down).taken ++ taken_by doing down) (all_of doings down) (w.back down).given (again f))))
          (u.kept (subst (λ x. IsFront (x.taken ++ all_of doings down) x.given) (sym (d.first.back_log down)) (again f)));
    }

-- the other end sees it turned
sim_turned : (config : Config) (out into : Dir) (b up down : ℕ) (w : World) (p : Pair) → Sim config out into b up down w p → Sim config into out b down up (turned w) (turned_pair p)
sim_turned config out into b up down w p s = record { pair = record { near = s.pair.far; far = s.pair.near }; near_octets = s.far_octets; far_octets = s.near_octets; out_flow = s.back_flow; back_flow = s.out_flow }

bearer_turned : (config : Config) (out into : Dir) (b up down : ℕ) → IsAmBearer config out into b up down → IsAmBearer config into out b down up
bearer_turned config out into b up down is = record { mode = is.mode; window = is.window; least = is.least; most = is.most; up_is = is.down_is; down_is = is.up_is; up_apart = is.down_apart; down_apart = is.up_apart; up_size = is.down_size; down_size = is.up_size }

-- an event as the other end sees it
abbrev flipped : At → At
flipped (NearAt e) = FarAt e
flipped (FarAt e) = NearAt e

after-flipped : (rules : Rules) (p : Pair) (events : List At) → after rules p (map flipped events) ≡ turned_pair (after rules (turned_pair p) events)
after-flipped rules p [] = refl
after-flipped rules p (NearAt e ∷ events) = after-flipped rules (happens rules p (FarAt e)) events
after-flipped rules p (FarAt e ∷ events) = after-flipped rules (happens rules p (NearAt e)) events

kept-flipped : (kept : Bool) (event : At) (us vs : List At) → us ≡ map flipped vs → cond kept (flipped event ∷ us) us ≡ map flipped (cond kept (event ∷ vs) vs)
kept-flipped true event us vs e = ap (λ (l : List At). flipped event ∷ l) e
kept-flipped false event us vs e = e

calls-flipped : (events : List At) → calls_of (map flipped events) ≡ map flipped (calls_of events)
calls-flipped [] = refl
calls-flipped (NearAt e ∷ events) = kept-flipped (not (is_loss_event e)) (NearAt e) (calls_of (map flipped events)) (calls_of events) (calls-flipped events)
calls-flipped (FarAt e ∷ events) = kept-flipped (not (is_loss_event e)) (FarAt e) (calls_of (map flipped events)) (calls_of events) (calls-flipped events)

far-flipped : (calls : List Call) → map flipped (map NearAt calls) ≡ map FarAt calls
far-flipped [] = refl
far-flipped (call ∷ calls) = ap (λ (l : List At). FarAt call ∷ l) (far-flipped calls)

none-flipped : (events : List At) → NoneLost events → NoneLost (map flipped events)
none-flipped [] h = tt
none-flipped (NearAt e ∷ events) h = (h.0, none-flipped events h.1)
none-flipped (FarAt e ∷ events) h = (h.0, none-flipped events h.1)

safe_turned : (rules : Rules) (p : Pair) → AlwaysSafe rules p → AlwaysSafe rules (turned_pair p)
safe_turned rules p safe = λ events. let s : IsSafe rules (turned_pair (after rules (turned_pair p) events)) = subst (IsSafe rules) (after-flipped rules p events) (safe (map flipped events)) in record { near_far = s.far_near; far_near = s.near_far; near_inside = s.far_inside; far_inside = s.near_inside }

-- an event of either end
sim_happens : (config : Config) (out into : Dir) (b up down : ℕ) (event : OneEvent) (w new : World) (p : Pair) → IsAmBearer config out into b up down → Sim config out into b up down w p → AlwaysSafe (rules_in config b) p → AreFaithful up down new → (d : Happens config out into w event new) → Simulated config out into b up down new p (calls_at config out into b w event new d) (AreWholeSoFar up down new)
sim_happens config out into b up down (Near doings) w new p is s safe faithful d =
    let t = sim_all config out into b up down doings w new p is s safe (subst (λ x. IsSublist x.taken x.given) (back_after config out into w new doings down d) faithful.back) d in
    record { events = t.events; called = t.called; sim = t.sim; kept = λ f. t.kept (subst (λ x. IsFront x.taken x.given) (back_after config out into w new doings down d) f.back) }
sim_happens config out into b up down (Far doings) w new p is s safe faithful d =
    let t = sim_all config into out b down up doings (turned w) (turned new) (turned_pair p) (bearer_turned config out into b up down is) (sim_turned config out into b up down w p s) (safe_turned (rules_in config b) p safe) (subst (λ x. IsSublist x.taken x.given) (back_after config into out (turned w) (turned new) doings up d) faithful.out) d in
    record {
      events = map flipped t.events;
      called = calls-flipped t.events ∙ ap (map flipped) t.called ∙ far-flipped (calls_in_all config into out b (turned w) doings (turned new) d);
      sim = subst (Sim config out into b up down new) (sym (after-flipped (rules_in config b) p t.events)) (sim_turned config into out b down up (turned new) (after (rules_in config b) (turned_pair p) t.events) t.sim);
      kept = λ f. none-flipped t.events (t.kept (subst (λ x. IsFront x.taken x.given) (back_after config into out (turned w) (turned new) doings up d) f.out));
    }

pub sim_runs : (config : Config) (out into : Dir) (b up down : ℕ) (events : List OneEvent) (w new : World) (p : Pair) → IsAmBearer config out into b up down → Sim config out into b up down w p → AlwaysSafe (rules_in config b) p → (d : Runs config out into (AreFaithful up down) w events new) → Simulated config out into b up down new p (run_calls config out into b (AreFaithful up down) w events new d) ⊥
sim_runs config out into b up down [] w new p is s safe d = record { events = []; called = refl; sim = subst (λ x. Sim config out into b up down x p) (sym d) s; kept = λ f. absurd f }
sim_runs config out into b up down (event ∷ events) w new p is s safe d =
    let t = sim_happens config out into b up down event w d.next p is s safe d.holds d.first in
    let u = sim_runs config out into b up down events d.next new (after (rules_in config b) p t.events) is t.sim (safe_after (rules_in config b) p (after (rules_in config b) p t.events) t.events refl safe) d.later in
    let one : List At = calls_at config out into b w event d.next d.first in
    let rest : List At = run_calls config out into b (AreFaithful up down) d.next events new d.later in
    record { events = t.events ++ u.events; called = calls-append t.events u.events one rest t.called u.called; sim = subst (Sim config out into b up down new) (sym (after-append (rules_in config b) p t.events u.events)) u.sim; kept = λ f. absurd f }

-- where nothing was lost after each event
pub whole_runs : (config : Config) (out into : Dir) (b up down : ℕ) (events : List OneEvent) (w new : World) (p : Pair) → IsAmBearer config out into b up down → Sim config out into b up down w p → AlwaysSafe (rules_in config b) p → (d : Runs config out into (AreWholeSoFar up down) w events new) → Simulated config out into b up down new p (run_calls config out into b (AreWholeSoFar up down) w events new d) (Unit {0})
whole_runs config out into b up down [] w new p is s safe d = record { events = []; called = refl; sim = subst (λ x. Sim config out into b up down x p) (sym d) s; kept = λ _. tt }
whole_runs config out into b up down (event ∷ events) w new p is s safe d =
    let faithful : AreFaithful up down d.next = record { out = front_sub (d.next.out up).taken (d.next.out up).given d.holds.out; back = front_sub (d.next.back down).taken (d.next.back down).given d.holds.back } in
    let t = sim_happens config out into b up down event w d.next p is s safe faithful d.first in
    let u = whole_runs config out into b up down events d.next new (after (rules_in config b) p t.events) is t.sim (safe_after (rules_in config b) p (after (rules_in config b) p t.events) t.events refl safe) d.later in
    let one : List At = calls_at config out into b w event d.next d.first in
    let rest : List At = run_calls config out into b (AreWholeSoFar up down) d.next events new d.later in
    record { events = t.events ++ u.events; called = calls-append t.events u.events one rest t.called u.called; sim = subst (Sim config out into b up down new) (sym (after-append (rules_in config b) p t.events u.events)) u.sim; kept = λ _. none_lost-append t.events u.events (t.kept d.holds) (u.kept tt) }

-- at opening
pub begins : (config : Config) (out into : Dir) (b up down : ℕ) → IsAmBearer config out into b up down → Sim config out into b up down (opened_world config out into) (opened (rules_in config b) (pdu_octets config out b) (pdu_octets config into b))
begins config out into b up down is = record {
  pair = record {
    near = record { bearing = ap (opened_mode config out b) is.mode; lines = refl };
    far = record { bearing = ap (opened_mode config into b) is.mode; lines = refl };
  };
  near_octets = refl;
  far_octets = refl;
  out_flow = record { sub = tt; wires = tt };
  back_flow = record { sub = tt; wires = tt };
}

pub am_history : (config : Config) (out into : Dir) (b up down : ℕ) (events : List OneEvent) (w : World) → IsAmBearer config out into b up down → (run : Runs config out into (AreFaithful up down) (opened_world config out into) events w) → IsHistory config out into b (run_calls config out into b (AreFaithful up down) (opened_world config out into) events w run) w
am_history config out into b up down events w is run =
    let safe : AlwaysSafe (rules_in config b) (opened (rules_in config b) (pdu_octets config out b) (pdu_octets config into b)) = λ es. always_safe (rules_in config b) (pdu_octets config out b) (pdu_octets config into b) es is.window in
    let t = sim_runs config out into b up down events (opened_world config out into) w (opened (rules_in config b) (pdu_octets config out b) (pdu_octets config into b)) is (begins config out into b up down is) safe run in
    record { events = t.events; called = t.called; pair = t.sim.pair; safe = safe t.events }

-- as many blocks are in flight as are left
wires-length : (skip d : ℕ) (line : List Block) (bs : List (List Bit)) → Wires skip d line bs → length line ≡ length bs
wires-length skip d [] [] h = refl
wires-length skip d [] (y ∷ ys) h = absurd h
wires-length skip d (b ∷ line) [] h = absurd h
wires-length skip d (b ∷ line) (y ∷ ys) h = ap (λ n. suc n) (wires-length skip d line ys h.1)

pub are_left : (config : Config) (dir : Dir) (b i : ℕ) (log : Log) (line : List Block) → Flow config dir b i log line → AreLeft config dir b i log line
are_left config dir b i log line f = λ rest e.
    wires-length (field_bits (ct_of config dir b)) (pdu_octets config dir b - 2) line (behind (mine config dir b i log.taken) (mine config dir b i log.given)) f.wires
    ∙ ap length (ap (λ l. behind (mine config dir b i log.taken) (mine config dir b i l)) e ∙ ap (behind (mine config dir b i log.taken)) (filter-append (is_mine config dir b i) log.taken rest) ∙ behind_own (mine config dir b i log.taken) (mine config dir b i rest))

-- where none is lost the events are the calls
all_called : (events : List At) → NoneLost events → calls_of events ≡ events
all_called [] none = refl
all_called (e ∷ events) none = rw none.0 (ap (λ (l : List At). e ∷ l) (all_called events none.1))

pub whole_of : (config : Config) (out into : Dir) (b up down : ℕ) (events calls : List At) (w : World) → IsAmBearer config out into b up down → NoneLost events → calls_of events ≡ calls → Sim config out into b up down w (pair_after config out into b events) → IsWholeHistory config out into b up down calls w
whole_of config out into b up down events calls w is none called s = subst (λ (l : List At). IsWholeHistory config out into b up down l w) (sym (all_called events none) ∙ called) (record {
  none_lost = none;
  pair = s.pair;
  whole = always_whole (rules_in config b) (pdu_octets config out b) (pdu_octets config into b) events is.window none;
  out_left = are_left config out b up (w.out up) (pair_after config out into b events).out s.out_flow;
  back_left = are_left config into b down (w.back down) (pair_after config out into b events).back s.back_flow;
})

pub whole_history : (config : Config) (out into : Dir) (b up down : ℕ) (events : List OneEvent) (w : World) → IsAmBearer config out into b up down → (run : Runs config out into (AreWholeSoFar up down) (opened_world config out into) events w) → IsWholeHistory config out into b up down (run_calls config out into b (AreWholeSoFar up down) (opened_world config out into) events w run) w
whole_history config out into b up down events w is run =
    let start : Pair = opened (rules_in config b) (pdu_octets config out b) (pdu_octets config into b) in
    let safe : AlwaysSafe (rules_in config b) start = λ es. always_safe (rules_in config b) (pdu_octets config out b) (pdu_octets config into b) es is.window in
    let t = whole_runs config out into b up down events (opened_world config out into) w start is (begins config out into b up down is) safe run in
    whole_of config out into b up down t.events (run_calls config out into b (AreWholeSoFar up down) (opened_world config out into) events w run) w is (t.kept tt) t.called t.sim
