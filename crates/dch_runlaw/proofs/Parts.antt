-- An acknowledged bearer over two parts of a run: what is in flight at the change is lost, and the history goes on.
use Rattle.std.proofs.Common.{◌≡◌, ◌≢◌, ℕ, length, List, [], ◌∷◌, ◌++◌, refl, sym, ap, ap₂, ◌∙◌, subst}
use Rattle.std.proofs.lemmas.List.{append-nil}
use Rattle.dch_types.specs.declared.bearer.Mode.{Mode}
use Rattle.dch_types.specs.declared.bearer.Mode.TheVariants.{Tm, Am}
use Rattle.dch_types.specs.declared.channel.Dir.{Dir}
use Rattle.dch_types.specs.declared.config.Config.{Config}
use Rattle.dch_config.specs.Changes.{GoesOnAs, KeepsBearer}
use Rattle.dch_am.specs.Rules.{Rules}
use Rattle.dch_amlaw.specs.Pair.{At, Block, End, Pair, after, opened}
use Rattle.dch_amlaw.proofs.History.{always_safe}
use Rattle.dch_layer2.specs.Bearings.{bearer_in, pdu_octets, rules_in}
use Rattle.dch_layer2.proofs.KeptBearings.{kept_octets, kept_rules}
use Rattle.dch_layer2.proofs.Good.{there}
use Rattle.dch_runlaw.specs.Calls.{run_calls}
use Rattle.dch_runlaw.specs.History.{ArePair, IsAmBearer, IsHistoryOver, IsWholeHistory, all_lost, events_over, far_lost, near_lost, pair_after}
use Rattle.dch_runlaw.specs.Lines.{lines_of}
use Rattle.dch_runlaw.specs.Worlds.{AreFaithful, AreWholeSoFar, At as OneEvent, HasChanged, Log, RunsInTwo, World, opened_world}
use Rattle.dch_runlaw.proofs.Catching.{AlwaysSafe}
use Rattle.dch_runlaw.proofs.Histories.{are_left, begins, sim_runs, whole_of, whole_runs}
use Rattle.dch_runlaw.proofs.Steps.{Flow, Sim, Simulated}
use Rattle.dch_runlaw.proofs.BlocksTaken.{after-append, calls-append, none_lost-append, safe_after}

-- nothing is in flight any more
abbrev emptied : Pair → Pair
emptied p = record { near = p.near; far = p.far; out = []; back = [] }

near_is : (rules : Rules) (near far : End) (out back : List Block) → after rules (record { near = near; far = far; out = out; back = back }) (near_lost back) ≡ record { near = near; far = far; out = out; back = [] }
near_is rules near far out [] = refl
near_is rules near far out (block ∷ line) = near_is rules near far out line

far_is : (rules : Rules) (near far : End) (out back : List Block) → after rules (record { near = near; far = far; out = out; back = back }) (far_lost out) ≡ record { near = near; far = far; out = []; back = back }
far_is rules near far [] back = refl
far_is rules near far (block ∷ line) back = far_is rules near far line back

lost_is : (rules : Rules) (p : Pair) → after rules p (all_lost p) ≡ emptied p
lost_is rules p =
    after-append rules p (near_lost p.back) (far_lost p.out)
    ∙ ap (λ q. after rules q (far_lost p.out)) (near_is rules p.near p.far p.out p.back)
    ∙ far_is rules p.near p.far p.out []

-- the bearer's rules and PDU octets are the same in both configurations
record AreSame (first second : Config) (out into : Dir) (b : ℕ) : Type 0 where
  rules : rules_in second b ≡ rules_in first b
  out_octets : pdu_octets second out b ≡ pdu_octets first out b
  into_octets : pdu_octets second into b ≡ pdu_octets first into b

are_same : (first second : Config) (out into : Dir) (b up down : ℕ) → KeepsBearer first second b → IsAmBearer first out into b up down → AreSame first second out into b
are_same first second out into b up down keeps is =
    let goes : GoesOnAs first second (bearer_in first b) (bearer_in second b) = keeps.same (there first out b up is.up_is) in
    record { rules = kept_rules first second b goes; out_octets = kept_octets first second out b goes other; into_octets = kept_octets first second into b goes other }
  where
    other : (bearer_in first b).mode ≢ Tm
    other t = let h : ◌≡◌ {A = Mode} Am Tm = sym is.mode ∙ t in cc

pair_same : (first second : Config) (out into : Dir) (b : ℕ) (events : List At) → AreSame first second out into b → pair_after first out into b events ≡ pair_after second out into b events
pair_same first second out into b events same =
    sym (ap (λ r. after r (opened r (pdu_octets second out b) (pdu_octets second into b)) events) same.rules
    ∙ ap₂ (λ n m. after (rules_in first b) (opened (rules_in first b) n m) events) same.out_octets same.into_octets)

-- both ends changed: the bearer is as it was, and nothing is in flight
goes_over : (first second : Config) (out into : Dir) (b up down up2 down2 : ℕ) (w new : World) (p : Pair) → AreSame first second out into b → HasChanged second out into w new → Sim first out into b up down w p → Sim second out into b up2 down2 new (emptied p)
goes_over first second out into b up down up2 down2 w new p same c s = record {
  pair = record {
    near = record { bearing = ap (λ x. x.layer.bearings b) c.near ∙ s.pair.near.bearing; lines = ap (λ x. lines_of b x.said) c.near ∙ s.pair.near.lines };
    far = record { bearing = ap (λ x. x.layer.bearings b) c.far ∙ s.pair.far.bearing; lines = ap (λ x. lines_of b x.said) c.far ∙ s.pair.far.lines };
  };
  near_octets = s.near_octets ∙ sym same.out_octets;
  far_octets = s.far_octets ∙ sym same.into_octets;
  out_flow = subst (λ x. Flow second out b up2 x []) (sym (c.out_log up2)) (record { sub = tt; wires = tt });
  back_flow = subst (λ x. Flow second into b down2 x []) (sym (c.back_log down2)) (record { sub = tt; wires = tt });
}

opened_safe : (config : Config) (out into : Dir) (b up down : ℕ) → IsAmBearer config out into b up down → AlwaysSafe (rules_in config b) (opened (rules_in config b) (pdu_octets config out b) (pdu_octets config into b))
opened_safe config out into b up down is = λ es. always_safe (rules_in config b) (pdu_octets config out b) (pdu_octets config into b) es is.window

pub over_parts : (first second : Config) (out into : Dir) (b up down up2 down2 : ℕ) (earlier later : List OneEvent) (w : World) → KeepsBearer first second b → IsAmBearer first out into b up down → IsAmBearer second out into b up2 down2 → (r : RunsInTwo first second out into (AreFaithful up down) (AreFaithful up2 down2) earlier later w) → IsHistoryOver second out into b (run_calls first out into b (AreFaithful up down) (opened_world first out into) earlier r.mid r.before) (run_calls second out into b (AreFaithful up2 down2) r.next later w r.behind) r.mid w
over_parts first second out into b up down up2 down2 earlier later w keeps is on r = record {
  before = record { events = t.events; called = t.called; pair = s.pair; safe = safe t.events };
  later = u.events;
  called = u.called;
  pair = subst (λ q. ArePair out into b w q) (sym all) u.sim.pair;
  safe = safe (events_over second out into b t.events u.events);
}
  where
    same : AreSame first second out into b
    same = are_same first second out into b up down keeps is

    start : Pair
    start = opened (rules_in second b) (pdu_octets second out b) (pdu_octets second into b)

    safe : AlwaysSafe (rules_in second b) start
    safe = opened_safe second out into b up2 down2 on

    t : Simulated first out into b up down r.mid (opened (rules_in first b) (pdu_octets first out b) (pdu_octets first into b)) (run_calls first out into b (AreFaithful up down) (opened_world first out into) earlier r.mid r.before) ⊥
    t = sim_runs first out into b up down earlier (opened_world first out into) r.mid (opened (rules_in first b) (pdu_octets first out b) (pdu_octets first into b)) is (begins first out into b up down is) (opened_safe first out into b up down is) r.before

    p : Pair
    p = pair_after second out into b t.events

    s : Sim first out into b up down r.mid p
    s = subst (Sim first out into b up down r.mid) (pair_same first second out into b t.events same) t.sim

    to : after (rules_in second b) start (t.events ++ all_lost p) ≡ emptied p
    to = after-append (rules_in second b) start t.events (all_lost p) ∙ lost_is (rules_in second b) p

    u : Simulated second out into b up2 down2 w (emptied p) (run_calls second out into b (AreFaithful up2 down2) r.next later w r.behind) ⊥
    u = sim_runs second out into b up2 down2 later r.next w (emptied p) on (goes_over first second out into b up down up2 down2 r.mid r.next p same r.changes s) (safe_after (rules_in second b) start (emptied p) (t.events ++ all_lost p) to safe) r.behind

    all : pair_after second out into b (events_over second out into b t.events u.events) ≡ after (rules_in second b) (emptied p) u.events
    all = after-append (rules_in second b) start t.events (all_lost p ++ u.events) ∙ after-append (rules_in second b) p (all_lost p) u.events ∙ ap (λ q. after (rules_in second b) q u.events) (lost_is (rules_in second b) p)

-- where all that was given was taken, nothing is in flight
none_long : (line : List Block) → length line ≡ 0 → line ≡ []
none_long [] e = refl
none_long (block ∷ line) e = absurd (cc)

none_left : (config : Config) (dir : Dir) (b i : ℕ) (log : Log) (line : List Block) → Flow config dir b i log line → log.given ≡ log.taken → line ≡ []
none_left config dir b i log line f e = none_long line (are_left config dir b i log line f [] (e ∙ sym (append-nil log.taken)))

pub whole_parts : (first second : Config) (out into : Dir) (b up down up2 down2 : ℕ) (earlier later : List OneEvent) (w : World) → KeepsBearer first second b → IsAmBearer first out into b up down → IsAmBearer second out into b up2 down2 → (r : RunsInTwo first second out into (AreWholeSoFar up down) (AreWholeSoFar up2 down2) earlier later w) → (r.mid.out up).given ≡ (r.mid.out up).taken → (r.mid.back down).given ≡ (r.mid.back down).taken → IsWholeHistory second out into b up2 down2 (run_calls first out into b (AreWholeSoFar up down) (opened_world first out into) earlier r.mid r.before ++ run_calls second out into b (AreWholeSoFar up2 down2) r.next later w r.behind) w
whole_parts first second out into b up down up2 down2 earlier later w keeps is on r outs backs =
    whole_of second out into b up2 down2 (t.events ++ u.events) (one ++ two) w on (none_lost-append t.events u.events (t.kept tt) (u.kept tt)) (calls-append t.events u.events one two t.called u.called) (subst (Sim second out into b up2 down2 w) (sym (after-append (rules_in second b) start t.events u.events)) u.sim)
  where
    one : List At
    one = run_calls first out into b (AreWholeSoFar up down) (opened_world first out into) earlier r.mid r.before

    two : List At
    two = run_calls second out into b (AreWholeSoFar up2 down2) r.next later w r.behind

    same : AreSame first second out into b
    same = are_same first second out into b up down keeps is

    start : Pair
    start = opened (rules_in second b) (pdu_octets second out b) (pdu_octets second into b)

    t : Simulated first out into b up down r.mid (opened (rules_in first b) (pdu_octets first out b) (pdu_octets first into b)) one (Unit {0})
    t = whole_runs first out into b up down earlier (opened_world first out into) r.mid (opened (rules_in first b) (pdu_octets first out b) (pdu_octets first into b)) is (begins first out into b up down is) (opened_safe first out into b up down is) r.before

    p : Pair
    p = pair_after second out into b t.events

    s : Sim first out into b up down r.mid p
    s = subst (Sim first out into b up down r.mid) (pair_same first second out into b t.events same) t.sim

    empty : emptied p ≡ p
    empty = ap₂ (λ out back. record { near = p.near; far = p.far; out = out; back = back }) (sym (none_left first out b up (r.mid.out up) p.out s.out_flow outs)) (sym (none_left first into b down (r.mid.back down) p.back s.back_flow backs))

    next : Sim second out into b up2 down2 r.next p
    next = subst (Sim second out into b up2 down2 r.next) empty (goes_over first second out into b up down up2 down2 r.mid r.next p same r.changes s)

    u : Simulated second out into b up2 down2 w p two (Unit {0})
    u = whole_runs second out into b up2 down2 later r.next w p on next (safe_after (rules_in second b) start p t.events refl (opened_safe second out into b up2 down2 on)) r.behind
