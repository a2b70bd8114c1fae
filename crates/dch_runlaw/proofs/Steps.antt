-- What an end does is a history of the pair of an acknowledged bearer.
use Rattle.std.proofs.Common.{◌≡◌, ◌-◌, ℕ, List, [], ◌∷◌, ◌++◌, Bool, Option, map, refl, sym, ap, ◌∙◌, subst}
use Rattle.std.specs.Prelude.{◌==◌, filter}
use Rattle.std.proofs.lemmas.List.{append-nil}
use Rattle.std.proofs.lemmas.List.Elements.{filter-append}
use Rattle.dch_bits.specs.declared.bit.Bit.{Bit}
use Rattle.dch_bits.specs.declared.offer.Offer.{Offer as Answer}
use Rattle.dch_bits.specs.declared.offer.Offer.TheVariants.{Accepted, Full, WrongSize}
use Rattle.dch_types.specs.declared.channel.Dir.{Dir}
use Rattle.dch_types.specs.declared.config.Config.{Config}
use Rattle.dch_mac.specs.Field.{field_bits}
use Rattle.dch_amlaw.specs.Pair.{At, Block, Build, End, Near, Offer, Pair, Tick, after}
use Rattle.dch_amlaw.specs.Lossless.{NoneLost}
use Rattle.dch_layer2.specs.Bearings.{Acknowledged, after_answer, answers, channel_of, ct_of, line_of_answer, pdu_octets, rules_in, ticked}
use Rattle.dch_layer2.specs.Layers.{blocks, offers}
use Rattle.dch_node.specs.Lines.{Line}
use Rattle.dch_layer2.specs.UnitLines.{unit_lines}
use Rattle.dch_layer2.specs.Starting.{IsStart, asked_in, count_on}
use Rattle.dch_linkcmd.specs.Checks.{IsSublist}
use Rattle.dch_runlaw.specs.Doings.{Blocks, Offers, Says, Starts, Ticks, given_by}
use Rattle.dch_runlaw.specs.Calls.{calls_in, for_each, own_blocks, own_on}
use Rattle.dch_runlaw.specs.History.{ArePair, IsAmBearer, IsEndOf, calls_of, is_mine}
use Rattle.dch_runlaw.specs.Lines.{lines_of}
use Rattle.dch_runlaw.specs.Worlds.{DoesNear, Log, World}
use Rattle.dch_runlaw.proofs.Catching.{Wires, pair_of}
use Rattle.dch_runlaw.proofs.Giving.{Gave, all_given, wires-append}
use Rattle.dch_runlaw.proofs.Names.{number_same}
use Rattle.dch_runlaw.proofs.Sublists.{behind, behind_more, either, sub_more}
use Rattle.dch_runlaw.proofs.BlocksTaken.{lines-append, units-append}
use Rattle.dch_runlaw.proofs.Turns.{start_mine}

-- the blocks of a bearer among those of a channel
abbrev pub mine : Config → Dir → ℕ → ℕ → List (List Bit) → List (List Bit)
mine config dir b i blocks = filter (is_mine config dir b i) blocks

-- the line of the pair is what is left of the blocks that were given behind those that were taken
pub record Flow (config : Config) (dir : Dir) (b i : ℕ) (log : Log) (line : List Block) : Type 0 where
  pub sub : IsSublist (mine config dir b i log.taken) (mine config dir b i log.given)
  pub wires : Wires (field_bits (ct_of config dir b)) (pdu_octets config dir b - 2) line (behind (mine config dir b i log.taken) (mine config dir b i log.given))

pub record Sim (config : Config) (out into : Dir) (b up down : ℕ) (w : World) (p : Pair) : Type 0 where
  pub pair : ArePair out into b w p
  pub near_octets : p.near.octets ≡ pdu_octets config out b
  pub far_octets : p.far.octets ≡ pdu_octets config into b
  pub out_flow : Flow config out b up (w.out up) p.out
  pub back_flow : Flow config into b down (w.back down) p.back

-- events of the pair that lead there, of which these are the calls
pub record Simulated (config : Config) (out into : Dir) (b up down : ℕ) (w : World) (p : Pair) (calls : List At) (Fits : Type 0) : Type 0 where
  pub events : List At
  pub called : calls_of events ≡ calls
  pub sim : Sim config out into b up down w (after (rules_in config b) p events)
  pub kept : Fits → NoneLost events

-- nothing was given and nothing taken
pub same_out : (old new : Log) → new ≡ record { given = old.given ++ []; taken = old.taken } → old ≡ new
same_out old new e = sym (e ∙ ap (λ l. record { given = l; taken = old.taken }) (append-nil old.given))

pub same_back : (old new : Log) → new ≡ record { given = old.given; taken = old.taken ++ [] } → old ≡ new
same_back old new e = sym (e ∙ ap (λ l. record { given = old.given; taken = l }) (append-nil old.taken))

-- the lines of the bearer go on
pub more_lines : (into : Dir) (b : ℕ) (old lines new : List Line) (us vs ws : List (List ℕ)) → new ≡ old ++ lines → lines_of b old ≡ unit_lines into b us → lines_of b lines ≡ unit_lines into b vs → ws ≡ us ++ vs → lines_of b new ≡ unit_lines into b ws
more_lines into b old lines new us vs ws e f g h =
    ap (lines_of b) e ∙ lines-append b old lines ∙ ap (λ l. l ++ lines_of b lines) f ∙ ap (λ l. unit_lines into b us ++ l) g ∙ sym (units-append into b us vs) ∙ ap (unit_lines into b) (sym h)

no_lines : (into : Dir) (b : ℕ) (old lines new : List Line) (us : List (List ℕ)) → new ≡ old ++ lines → lines_of b old ≡ unit_lines into b us → lines_of b lines ≡ [] → lines_of b new ≡ unit_lines into b us
no_lines into b old lines new us e f g = more_lines into b old lines new us [] us e f g (sym (append-nil us))

pub answer_line : (out : Dir) (b c : ℕ) (o : Answer) → lines_of b (line_of_answer out c o ∷ []) ≡ []
answer_line out b c Accepted = refl
answer_line out b c Full = refl
answer_line out b c WrongSize = refl

-- an end that only changes itself
changes : (config : Config) (out into : Dir) (b up down : ℕ) (w new : World) (p : Pair) (e : End) (lines : List Line) → Sim config out into b up down w p → e.octets ≡ p.near.octets → e.entity.receiver.reading.units ≡ p.near.entity.receiver.reading.units → new.near.layer.bearings b ≡ Acknowledged e.entity.sender e.entity.receiver → new.near.said ≡ w.near.said ++ lines → lines_of b lines ≡ [] → new.far ≡ w.far → w.out up ≡ new.out up → w.back down ≡ new.back down → Sim config out into b up down new (pair_of e p.far p.out p.back)
changes config out into b up down w new p e lines s octets units bearing said none far outs backs = record {
  pair = record {
    near = record { bearing = bearing; lines = no_lines into b w.near.said lines new.near.said e.entity.receiver.reading.units said (s.pair.near.lines ∙ ap (unit_lines into b) (sym units)) none };
    far = subst (λ x. IsEndOf out b x p.far) (sym far) s.pair.far;
  };
  near_octets = octets ∙ s.near_octets;
  far_octets = s.far_octets;
  out_flow = subst (λ x. Flow config out b up x p.out) outs s.out_flow;
  back_flow = subst (λ x. Flow config into b down x p.back) backs s.back_flow;
}

-- a unit is offered
pub sim_offers : (config : Config) (out into : Dir) (b up down c : ℕ) (octets : List ℕ) (bits : List Bit) (w new : World) (p : Pair) → Sim config out into b up down w p → DoesNear config out into w (Offers c octets bits) new → (Fits : Type 0) → Simulated config out into b up down new p (map Near (calls_in config out into b w.near.layer (Offers c octets bits) new.near.layer)) Fits
sim_offers config out into b up down c octets bits w new p s d Fits = either (b == c)
    (λ q. let same : b ≡ c = number_same b c q in record {
      events = Near (Offer octets) ∷ [];
      called = rw q refl;
      sim = changes config out into b up down w new p (after (rules_in config b) p (Near (Offer octets) ∷ [])).near d.lines s refl refl
          (ap (λ l. l.bearings b) d.does.0 ∙ rw q (sym (ap (λ x. after_answer (answers config out x octets bits (w.near.layer.bearings x)) octets bits (w.near.layer.bearings x)) same) ∙ ap (λ x. after_answer (answers config out b octets bits x) octets bits x) s.pair.near.bearing))
          d.said (none d.does.1) d.far (same_out (w.out up) (new.out up) (d.out_log up)) (same_back (w.back down) (new.back down) (d.back_log down));
      kept = λ _. (refl, tt);
    })
    (λ q. record {
      events = [];
      called = rw q refl;
      sim = changes config out into b up down w new p p.near d.lines s refl refl (ap (λ l. l.bearings b) d.does.0 ∙ rw q s.pair.near.bearing) d.said (none d.does.1) d.far (same_out (w.out up) (new.out up) (d.out_log up)) (same_back (w.back down) (new.back down) (d.back_log down));
      kept = λ _. tt;
    })
  where
    none : d.lines ≡ (offers config out c octets bits w.near.layer).lines → lines_of b d.lines ≡ []
    none e = ap (lines_of b) e ∙ answer_line out b c (answers config out c octets bits (w.near.layer.bearings c))

-- a combination is blocked or free
pub sim_blocks : (config : Config) (out into : Dir) (b up down c : ℕ) (on : Bool) (w new : World) (p : Pair) → Sim config out into b up down w p → DoesNear config out into w (Blocks c on) new → (Fits : Type 0) → Simulated config out into b up down new p (map Near (calls_in config out into b w.near.layer (Blocks c on) new.near.layer)) Fits
sim_blocks config out into b up down c on w new p s d Fits = record {
  events = [];
  called = refl;
  sim = changes config out into b up down w new p p.near d.lines s refl refl (ap (λ l. l.bearings b) d.does.0 ∙ s.pair.near.bearing) d.said (ap (lines_of b) d.does.1) d.far (same_out (w.out up) (new.out up) (d.out_log up)) (same_back (w.back down) (new.back down) (d.back_log down));
  kept = λ _. tt;
}

-- what is no part of layer 2 is reported
pub sim_says : (config : Config) (out into : Dir) (b up down : ℕ) (said : List Line) (w new : World) (p : Pair) → Sim config out into b up down w p → DoesNear config out into w (Says said) new → (Fits : Type 0) → Simulated config out into b up down new p (map Near (calls_in config out into b w.near.layer (Says said) new.near.layer)) Fits
sim_says config out into b up down said w new p s d Fits = record {
  events = [];
  called = refl;
  sim = changes config out into b up down w new p p.near d.lines s refl refl (ap (λ l. l.bearings b) d.does.0 ∙ s.pair.near.bearing) d.said (ap (lines_of b) d.does.1 ∙ d.does.2 b) d.far (same_out (w.out up) (new.out up) (d.out_log up)) (same_back (w.back down) (new.back down) (d.back_log down));
  kept = λ _. tt;
}

-- the timers tick
pub sim_ticks : (config : Config) (out into : Dir) (b up down : ℕ) (w new : World) (p : Pair) → Sim config out into b up down w p → DoesNear config out into w Ticks new → (Fits : Type 0) → Simulated config out into b up down new p (map Near (calls_in config out into b w.near.layer Ticks new.near.layer)) Fits
sim_ticks config out into b up down w new p s d Fits = record {
  events = Near Tick ∷ [];
  called = refl;
  sim = changes config out into b up down w new p (after (rules_in config b) p (Near Tick ∷ [])).near d.lines s refl refl (ap (λ l. l.bearings b) d.does.0 ∙ ap (ticked config b) s.pair.near.bearing) d.said (ap (lines_of b) d.does.1) d.far (same_out (w.out up) (new.out up) (d.out_log up)) (same_back (w.back down) (new.back down) (d.back_log down));
  kept = λ _. (refl, tt);
}

-- TTIs start
pub sim_starts : (config : Config) (out into : Dir) (b up down cfn : ℕ) (w new : World) (p : Pair) → IsAmBearer config out into b up down → Sim config out into b up down w p → DoesNear config out into w (Starts cfn) new → (Fits : Type 0) → Simulated config out into b up down new p (map Near (calls_in config out into b w.near.layer (Starts cfn) new.near.layer)) Fits
sim_starts config out into b up down cfn w new p is s d Fits = record {
  events = g.events;
  called = g.called ∙ ap (λ (l : List (List Bit)). map Near (for_each Build l)) (sym own);
  sim = subst (Sim config out into b up down new) (sym g.is) (record {
    pair = record {
      near = record { bearing = g.bearing; lines = no_lines into b w.near.said d.lines new.near.said g.end.entity.receiver.reading.units d.said (s.pair.near.lines ∙ ap (unit_lines into b) (sym g.units)) (ap (lines_of b) d.does.1) };
      far = subst (λ x. IsEndOf out b x p.far) (sym d.far) s.pair.far;
    };
    near_octets = g.octets ∙ s.near_octets;
    far_octets = s.far_octets;
    out_flow = subst (λ x. Flow config out b up x (p.out ++ g.more)) (sym (d.out_log up)) (record {
      sub = subst (λ l. IsSublist (mine config out b up (w.out up).taken) l) (sym split) (sub_more (mine config out b up (w.out up).taken) (mine config out b up (w.out up).given) (st.built b) s.out_flow.sub);
      wires = subst (λ l. Wires (field_bits (ct_of config out b)) (pdu_octets config out b - 2) (p.out ++ g.more) l)
          (sym (ap (behind (mine config out b up (w.out up).taken)) split ∙ behind_more (mine config out b up (w.out up).taken) (mine config out b up (w.out up).given) (st.built b) s.out_flow.sub))
          (wires-append (field_bits (ct_of config out b)) (pdu_octets config out b - 2) p.out g.more (behind (mine config out b up (w.out up).taken) (mine config out b up (w.out up).given)) (st.built b) s.out_flow.wires g.wires);
    });
    back_flow = subst (λ x. Flow config into b down x p.back) (same_back (w.back down) (new.back down) (d.back_log down)) s.back_flow;
  });
  kept = λ _. g.kept;
}
  where
    st : IsStart config out cfn w.near.layer new.near.layer
    st = d.does.0

    asked_count : ℕ
    asked_count = count_on (asked_in config out cfn w.near.layer) new.near.layer.running b (channel_of config out b)

    g : Gave (rules_in config b) p.near p.far p.out p.back (field_bits (ct_of config out b)) (pdu_octets config out b - 2) (st.built b) (new.near.layer.bearings b)
    g = all_given config out b asked_count p.near p.far p.out p.back (w.near.layer.bearings b) (new.near.layer.bearings b) (st.built b) s.near_octets is.up_size s.pair.near.bearing (st.gives b)

    given : mine config out b up (given_by config out w.near.layer (Starts cfn) new.near.layer up) ≡ st.built b
    given = start_mine config out cfn b up w.near.layer new.near.layer st is.up_apart is.up_is is.least is.most

    own : own_blocks config out b (given_by config out w.near.layer (Starts cfn) new.near.layer) ≡ st.built b
    own = ap (λ (o : Option ℕ). own_on config out b o (given_by config out w.near.layer (Starts cfn) new.near.layer)) is.up_is ∙ given

    split : mine config out b up ((w.out up).given ++ given_by config out w.near.layer (Starts cfn) new.near.layer up) ≡ mine config out b up (w.out up).given ++ st.built b
    split = filter-append (is_mine config out b up) (w.out up).given (given_by config out w.near.layer (Starts cfn) new.near.layer up) ∙ ap (λ l. mine config out b up (w.out up).given ++ l) given
