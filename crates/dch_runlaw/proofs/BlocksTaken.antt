-- What the blocks of a channel do to an acknowledged bearer, as a history of its pair.
use Rattle.std.proofs.Common.{◌≡◌, ◌+◌, ◌-◌, ℕ, List, [], ◌∷◌, ◌++◌, Bool, true, false, cond, Result, Ok, Err, length, map, drop, not, refl, sym, ap, ap₂, ◌∙◌, subst, append_assoc}
use Rattle.std.specs.Prelude.{◌==◌, filter, nat_lt}
use Rattle.std.proofs.lemmas.Bool.{cond_both}
use Rattle.std.proofs.lemmas.List.{append-nil}
use Rattle.std.proofs.lemmas.List.Elements.{filter-append}
use Rattle.dch_bits.specs.declared.bit.Bit.{Bit}
use Rattle.dch_types.specs.declared.channel.Dir.{Dir}
use Rattle.dch_types.specs.declared.config.Config.{Config}
use Rattle.dch_rlcpdu.specs.declared.am.AmView.{AmView}
use Rattle.dch_rlcpdu.specs.declared.handed.PduError.{PduError}
use Rattle.dch_rlcpdu.specs.Am.{am_reading}
use Rattle.dch_mac.specs.declared.answer.Demux.{Demux}
use Rattle.dch_mac.specs.declared.answer.Demux.TheVariants.{To, Reserved, NoBearer, Nobody}
use Rattle.dch_mac.specs.Field.{field_bits}
use Rattle.dch_mac.specs.Receivers.{receiver}
use Rattle.dch_am.specs.Receiver.{Receiver}
use Rattle.dch_am.specs.Rules.{Rules}
use Rattle.dch_layer2.specs.Hearing.{receiver_of, hears, new_units}
use Rattle.dch_amlaw.specs.Pair.{Arrive, At, Block, End, Event, IsSafe, Near, Pair, after, happens}
use Rattle.dch_amlaw.specs.Lossless.{NoneLost, is_loss}
use Rattle.dch_layer2.specs.Bearings.{Acknowledged, Bearing, ct_of, pdu_octets, rules_in}
use Rattle.dch_layer2.specs.Layers.{Came, Layer, Outcome, goes, takes, takes_one}
use Rattle.dch_node.specs.Lines.{Line}
use Rattle.dch_layer2.specs.UnitLines.{unit_line, unit_lines}
use Rattle.dch_layer2.specs.Octets.{octets_of}
use Rattle.dch_am.specs.Entities.{pdu_of}
use Rattle.dch_pair.proofs.Units.{Grown, grown_by_pdu}
use Rattle.dch_linkcmd.specs.Checks.{IsSublist}
use Rattle.dch_runlaw.specs.Calls.{for_each}
use Rattle.dch_runlaw.specs.Doings.{block_if, good_blocks, has_bits}
use Rattle.dch_runlaw.specs.History.{calls_of, is_mine, is_to}
use Rattle.dch_runlaw.specs.Lines.{is_of, lines_of}
use Rattle.dch_runlaw.specs.Worlds.{IsFront}
use Rattle.dch_runlaw.proofs.Catching.{AlwaysSafe, Caught, Wires, catches, pair_of}
use Rattle.dch_runlaw.proofs.Names.{number_same, other_number, receiver_has, receiver_skips, same_number}
use Rattle.dch_runlaw.proofs.Sublists.{behind, behind-append, either, front_behind, front_first, past, sub_behind, sub_front}
use Rattle.dch_runlaw.proofs.TextTakes.{Every, hears_all}

-- the lines of a bearer among more
pub lines-append : (b : ℕ) (xs ys : List Line) → lines_of b (xs ++ ys) ≡ lines_of b xs ++ lines_of b ys
lines-append b [] ys = refl
lines-append b (x ∷ xs) ys = either (is_of b x)
    (λ e. rw e (ap (λ l. x ∷ l) (lines-append b xs ys)))
    (λ e. rw e (lines-append b xs ys))

pub units-append : (dir : Dir) (b : ℕ) (us vs : List (List ℕ)) → unit_lines dir b (us ++ vs) ≡ unit_lines dir b us ++ unit_lines dir b vs
units-append dir b [] vs = refl
units-append dir b (u ∷ us) vs = ap (λ l. unit_line dir b u ∷ l) (units-append dir b us vs)

-- lines on units are lines of their bearer
unit_of : (b c : ℕ) (dir : Dir) (u : List ℕ) → is_of b (unit_line dir c u) ≡ (c == b)
unit_of b c dir u = cond_both (nat_lt 1500 (length u)) _ _ (λ l. is_of b l ≡ (c == b)) (λ _. refl) (λ _. refl)

pub own_lines : (b : ℕ) (dir : Dir) (us : List (List ℕ)) → lines_of b (unit_lines dir b us) ≡ unit_lines dir b us
own_lines b dir [] = refl
own_lines b dir (u ∷ us) = rw (unit_of b b dir u, same_number b b refl) (ap (λ l. unit_line dir b u ∷ l) (own_lines b dir us))

-- what comes for another bearer has no line of this one
none_of : (b : ℕ) (xs : List Line) → Every (λ line. is_of b line ≡ false) xs → lines_of b xs ≡ []
none_of b [] h = refl
none_of b (x ∷ xs) h = let e : is_of b x ≡ false = h.0 in rw e (none_of b xs h.1)

pub other_hears : (config : Config) (dir : Dir) (b c : ℕ) (bits : List Bit) (bearing : Bearing) → (c == b) ≡ false → lines_of b (hears config dir c bits bearing).lines ≡ []
other_hears config dir b c bits bearing e = none_of b (hears config dir c bits bearing).lines
    (hears_all (λ line. is_of b line ≡ false) config dir c (record { pdu_bad = λ n. e; outside = e; overlong = e; got = λ octets. e; got_bits = λ bits. e }) bits bearing)

-- a PDU takes no unit back, and the new units are those behind the old ones
view_grown : (rules : Rules) (view : Result AmView PduError) (r : Receiver) → Grown r.reading.units (receiver_of rules view r).reading.units
view_grown rules (Ok view) r = grown_by_pdu rules (pdu_of view) r
view_grown rules (Err e) r = record { more = []; is = sym (append-nil r.reading.units) }

drop-front : (xs ys : List (List ℕ)) → drop (length xs) (xs ++ ys) ≡ ys
drop-front [] ys = refl
drop-front (x ∷ xs) ys = drop-front xs ys

grown_is : (xs ys : List (List ℕ)) → Grown xs ys → ys ≡ xs ++ drop (length xs) ys
grown_is xs ys g = g.is ∙ ap (λ l. xs ++ l) (sym (drop-front xs g.more) ∙ ap (drop (length xs)) (sym g.is))

pub after-append : (rules : Rules) (p : Pair) (xs ys : List At) → after rules p (xs ++ ys) ≡ after rules (after rules p xs) ys
after-append rules p [] ys = refl
after-append rules p (x ∷ xs) ys = after-append rules (happens rules p x) xs ys

pub none_lost-append : (xs ys : List At) → NoneLost xs → NoneLost ys → NoneLost (xs ++ ys)
none_lost-append [] ys h k = k
none_lost-append (x ∷ xs) ys h k = (h.0, none_lost-append xs ys h.1 k)

-- the calls of two lists of events
pub calls-append : (xs ys cs ds : List At) → calls_of xs ≡ cs → calls_of ys ≡ ds → calls_of (xs ++ ys) ≡ cs ++ ds
calls-append xs ys cs ds e f = filter-append (λ event. not (is_loss event)) xs ys ∙ ap₂ (λ (us vs : List At). us ++ vs) e f

-- and a call for each of more blocks
pub each-append : (call : Event) (xs ys : List (List Bit)) → map Near (for_each call (xs ++ ys)) ≡ map Near (for_each call xs) ++ map Near (for_each call ys)
each-append call [] ys = refl
each-append call (x ∷ xs) ys = ap (λ (l : List At). Near call ∷ l) (each-append call xs ys)

pub safe_after : (rules : Rules) (p q : Pair) (events : List At) → after rules p events ≡ q → AlwaysSafe rules p → AlwaysSafe rules q
safe_after rules p q events e safe = λ more. subst (IsSafe rules) (after-append rules p events more ∙ ap (λ x. after rules x more) e) (safe (events ++ more))

-- the bearer after these blocks came: events of the history, its end and what is left of its line, and the units that were handed up
pub record Took (rules : Rules) (into : Dir) (b : ℕ) (near far : End) (out line : List Block) (skip d : ℕ) (blocks rest : List (List Bit)) (new : Outcome) (Fits : Type 0) : Type 0 where
  pub events : List At
  pub called : calls_of events ≡ map Near (for_each Arrive blocks)
  pub end : End
  pub later : List Block
  pub is : after rules (pair_of near far out line) events ≡ pair_of end far out later
  pub octets : end.octets ≡ near.octets
  pub bearing : new.layer.bearings b ≡ Acknowledged end.entity.sender end.entity.receiver
  pub units : List (List ℕ)
  pub grown : end.entity.receiver.reading.units ≡ near.entity.receiver.reading.units ++ units
  pub lines : lines_of b new.lines ≡ unit_lines into b units
  pub wires : Wires skip d later rest
  pub kept : Fits → NoneLost events

-- nothing came for it
nothing : (rules : Rules) (into : Dir) (b : ℕ) (near far : End) (out line : List Block) (skip d : ℕ) (rest : List (List Bit)) (new : Outcome) → new.layer.bearings b ≡ Acknowledged near.entity.sender near.entity.receiver → lines_of b new.lines ≡ [] → Wires skip d line rest → (Fits : Type 0) → Took rules into b near far out line skip d [] rest new Fits
nothing rules into b near far out line skip d rest new e f wires Fits = record {
  events = [];
  called = refl;
  end = near;
  later = line;
  is = refl;
  octets = refl;
  bearing = e;
  units = [];
  grown = sym (append-nil near.entity.receiver.reading.units);
  lines = f;
  wires = wires;
  kept = λ _. tt;
}

-- a block came for it
came_for : (config : Config) (into : Dir) (b i : ℕ) (near far : End) (out line : List Block) (skip d : ℕ) (block : List Bit) (rest : List (List Bit)) (layer : Layer) (Fits : Type 0) → layer.bearings b ≡ Acknowledged near.entity.sender near.entity.receiver → Caught (rules_in config b) near far out line skip d block rest Fits → Took (rules_in config b) into b near far out line skip d (block ∷ []) rest (goes config into i block (To b skip) layer) Fits
came_for config into b i near far out line skip d block rest layer Fits e c = record {
  events = c.events;
  called = c.called;
  end = c.end;
  later = c.later;
  is = c.is;
  octets = c.octets;
  bearing = rw (same_number b b refl) (ap (λ x. (hears config into b (drop skip block) x).bearing) e ∙ ap (λ s. Acknowledged s (receiver_of (rules_in config b) (am_reading (octets_of (drop skip block))) near.entity.receiver)) c.sender ∙ ap (λ r. Acknowledged c.end.entity.sender r) c.receiver);
  units = new_units near.entity.receiver (receiver_of (rules_in config b) (am_reading (octets_of (drop skip block))) near.entity.receiver);
  grown = ap (λ (r : Receiver). r.reading.units) (sym c.receiver) ∙ grown_is near.entity.receiver.reading.units _ (view_grown (rules_in config b) (am_reading (octets_of (drop skip block))) near.entity.receiver);
  lines = ap (λ x. lines_of b (hears config into b (drop skip block) x).lines) e ∙ ap (lines_of b) (c.lines into b _) ∙ own_lines b into _;
  wires = c.wires;
  kept = c.kept;
}

-- one block that came on the channel
one : (config : Config) (into : Dir) (b i : ℕ) (near far : End) (out line : List Block) (bit : Bit) (bits : List Bit) (ys : List (List Bit)) (layer : Layer) (to : Demux) → layer.bearings b ≡ Acknowledged near.entity.sender near.entity.receiver → receiver config into i (bit ∷ bits) ≡ to → AlwaysSafe (rules_in config b) (pair_of near far out line) → Wires (field_bits (ct_of config into b)) (pdu_octets config into b - 2) line ys → IsSublist (cond (is_to b to) ((bit ∷ bits) ∷ []) []) ys → Took (rules_in config b) into b near far out line (field_bits (ct_of config into b)) (pdu_octets config into b - 2) (cond (is_to b to) ((bit ∷ bits) ∷ []) []) (behind (cond (is_to b to) ((bit ∷ bits) ∷ []) []) ys) (goes config into i (bit ∷ bits) to layer) (IsFront (cond (is_to b to) ((bit ∷ bits) ∷ []) []) ys)
one config into b i near far out line bit bits ys layer (To c skip) e to safe wires sub = either (b == c)
    (λ q. let same : b ≡ c = number_same b c q in
    let goes_to : receiver config into i (bit ∷ bits) ≡ To b skip = to ∙ ap (λ x. To x skip) (sym same) in
    let skips : skip ≡ field_bits (ct_of config into b) = receiver_skips config into i b skip (bit ∷ bits) (receiver_has config into i b skip (bit ∷ bits) goes_to) goes_to in
    let sub_is : IsSublist ((bit ∷ bits) ∷ []) ys = subst (λ x. IsSublist (cond x ((bit ∷ bits) ∷ []) []) ys) q sub in
    subst (λ x. Took (rules_in config b) into b near far out line (field_bits (ct_of config into b)) (pdu_octets config into b - 2) (cond x ((bit ∷ bits) ∷ []) []) (behind (cond x ((bit ∷ bits) ∷ []) []) ys) (goes config into i (bit ∷ bits) (To c skip) layer) (IsFront (cond x ((bit ∷ bits) ∷ []) []) ys)) (sym q)
    (subst (λ x. Took (rules_in config b) into b near far out line (field_bits (ct_of config into b)) (pdu_octets config into b - 2) ((bit ∷ bits) ∷ []) (past (bit ∷ bits) ys) (goes config into i (bit ∷ bits) (To x skip) layer) (IsFront ((bit ∷ bits) ∷ []) ys)) same
    (subst (λ x. Took (rules_in config b) into b near far out line (field_bits (ct_of config into b)) (pdu_octets config into b - 2) ((bit ∷ bits) ∷ []) (past (bit ∷ bits) ys) (goes config into i (bit ∷ bits) (To b x) layer) (IsFront ((bit ∷ bits) ∷ []) ys)) (sym skips)
    (came_for config into b i near far out line (field_bits (ct_of config into b)) (pdu_octets config into b - 2) (bit ∷ bits) (past (bit ∷ bits) ys) layer (IsFront ((bit ∷ bits) ∷ []) ys) e
    (catches (rules_in config b) near far out line (field_bits (ct_of config into b)) (pdu_octets config into b - 2) (bit ∷ bits) ys safe wires sub_is)))))
    (λ q. let other : (c == b) ≡ false = other_number c b (λ f. let t : (b == c) ≡ true = same_number b c (sym f) in absurd (cc)) in
    subst (λ x. Took (rules_in config b) into b near far out line (field_bits (ct_of config into b)) (pdu_octets config into b - 2) (cond x ((bit ∷ bits) ∷ []) []) (behind (cond x ((bit ∷ bits) ∷ []) []) ys) (goes config into i (bit ∷ bits) (To c skip) layer) (IsFront (cond x ((bit ∷ bits) ∷ []) []) ys)) (sym q)
    (nothing (rules_in config b) into b near far out line (field_bits (ct_of config into b)) (pdu_octets config into b - 2) ys (goes config into i (bit ∷ bits) (To c skip) layer) (rw q e) (other_hears config into b c (drop skip (bit ∷ bits)) (layer.bearings c) other) wires (IsFront [] ys)))
one config into b i near far out line bit bits ys layer Reserved e to safe wires sub = nothing (rules_in config b) into b near far out line (field_bits (ct_of config into b)) (pdu_octets config into b - 2) ys (goes config into i (bit ∷ bits) Reserved layer) e refl wires (IsFront [] ys)
one config into b i near far out line bit bits ys layer (NoBearer ct) e to safe wires sub = nothing (rules_in config b) into b near far out line (field_bits (ct_of config into b)) (pdu_octets config into b - 2) ys (goes config into i (bit ∷ bits) (NoBearer ct) layer) e refl wires (IsFront [] ys)
one config into b i near far out line bit bits ys layer Nobody e to safe wires sub = nothing (rules_in config b) into b near far out line (field_bits (ct_of config into b)) (pdu_octets config into b - 2) ys (goes config into i (bit ∷ bits) Nobody layer) e refl wires (IsFront [] ys)

-- a good block, a bad one, and one without bits
block : (config : Config) (into : Dir) (b i k : ℕ) (near far : End) (out line : List Block) (bits : List Bit) (good : Bool) (ys : List (List Bit)) (layer : Layer) → layer.bearings b ≡ Acknowledged near.entity.sender near.entity.receiver → AlwaysSafe (rules_in config b) (pair_of near far out line) → Wires (field_bits (ct_of config into b)) (pdu_octets config into b - 2) line ys → IsSublist (filter (is_mine config into b i) (block_if good (has_bits bits) bits)) ys → Took (rules_in config b) into b near far out line (field_bits (ct_of config into b)) (pdu_octets config into b - 2) (filter (is_mine config into b i) (block_if good (has_bits bits) bits)) (behind (filter (is_mine config into b i) (block_if good (has_bits bits) bits)) ys) (takes_one config into i k bits good layer) (IsFront (filter (is_mine config into b i) (block_if good (has_bits bits) bits)) ys)
block config into b i k near far out line [] true ys layer e safe wires sub = nothing (rules_in config b) into b near far out line (field_bits (ct_of config into b)) (pdu_octets config into b - 2) ys (takes_one config into i k [] true layer) e refl wires (IsFront [] ys)
block config into b i k near far out line (bit ∷ bits) true ys layer e safe wires sub = one config into b i near far out line bit bits ys layer (receiver config into i (bit ∷ bits)) e refl safe wires sub
block config into b i k near far out line bits false ys layer e safe wires sub = nothing (rules_in config b) into b near far out line (field_bits (ct_of config into b)) (pdu_octets config into b - 2) ys (takes_one config into i k bits false layer) e refl wires (IsFront [] ys)

-- one after another
took_on : (rules : Rules) (into : Dir) (b : ℕ) (near far : End) (out line : List Block) (skip d : ℕ) (xs ys rest last : List (List Bit)) (mid : Outcome) (new : Layer) (lines : List Line) (One Two Fits : Type 0) (first : Fits → One) (second : Fits → Two) (t : Took rules into b near far out line skip d xs rest mid One) → Took rules into b t.end far out t.later skip d ys last (record { layer = new; lines = lines }) Two → Took rules into b near far out line skip d (xs ++ ys) last (record { layer = new; lines = mid.lines ++ lines }) Fits
took_on rules into b near far out line skip d xs ys rest last mid new lines One Two Fits first second t u = record {
  events = t.events ++ u.events;
  called = calls-append t.events u.events (map Near (for_each Arrive xs)) (map Near (for_each Arrive ys)) t.called u.called ∙ sym (each-append Arrive xs ys);
  end = u.end;
  later = u.later;
  is = after-append rules (pair_of near far out line) t.events u.events ∙ ap (λ x. after rules x u.events) t.is ∙ u.is;
  octets = u.octets ∙ t.octets;
  bearing = u.bearing;
  units = t.units ++ u.units;
  grown = u.grown ∙ ap (λ l. l ++ u.units) t.grown ∙ append_assoc near.entity.receiver.reading.units t.units u.units;
  lines = lines-append b mid.lines lines ∙ ap (λ l. l ++ lines_of b lines) t.lines ∙ ap (λ l. unit_lines into b t.units ++ l) u.lines ∙ sym (units-append into b t.units u.units);
  wires = u.wires;
  kept = λ f. none_lost-append t.events u.events (t.kept (first f)) (u.kept (second f));
}

pub all_taken : (config : Config) (into : Dir) (b i k : ℕ) (near far : End) (out line : List Block) (came : List Came) (ys : List (List Bit)) (layer : Layer) → layer.bearings b ≡ Acknowledged near.entity.sender near.entity.receiver → AlwaysSafe (rules_in config b) (pair_of near far out line) → Wires (field_bits (ct_of config into b)) (pdu_octets config into b - 2) line ys → IsSublist (filter (is_mine config into b i) (good_blocks came)) ys → Took (rules_in config b) into b near far out line (field_bits (ct_of config into b)) (pdu_octets config into b - 2) (filter (is_mine config into b i) (good_blocks came)) (behind (filter (is_mine config into b i) (good_blocks came)) ys) (takes config into i k came layer) (IsFront (filter (is_mine config into b i) (good_blocks came)) ys)
all_taken config into b i k near far out line [] ys layer e safe wires sub = nothing (rules_in config b) into b near far out line (field_bits (ct_of config into b)) (pdu_octets config into b - 2) ys (takes config into i k [] layer) e refl wires (IsFront [] ys)
all_taken config into b i k near far out line (c ∷ came) ys layer e safe wires sub =
    let p = is_mine config into b i in
    let first : List (List Bit) = filter p (block_if c.good (has_bits c.bits) c.bits) in
    let split : filter p (good_blocks (c ∷ came)) ≡ first ++ filter p (good_blocks came) = filter-append p (block_if c.good (has_bits c.bits) c.bits) (good_blocks came) in
    let both : IsSublist (first ++ filter p (good_blocks came)) ys = subst (λ l. IsSublist l ys) split sub in
    let t = block config into b i k near far out line c.bits c.good ys layer e safe wires (sub_front first (filter p (good_blocks came)) ys both) in
    let u = all_taken config into b i (k + 1) t.end far out t.later came (behind first ys) (takes_one config into i k c.bits c.good layer).layer t.bearing (safe_after (rules_in config b) (pair_of near far out line) (pair_of t.end far out t.later) t.events t.is safe) t.wires (sub_behind first (filter p (good_blocks came)) ys both) in
    subst (λ l. Took (rules_in config b) into b near far out line (field_bits (ct_of config into b)) (pdu_octets config into b - 2) l (behind l ys) (takes config into i k (c ∷ came) layer) (IsFront (filter p (good_blocks (c ∷ came))) ys)) (sym split)
    (subst (λ l. Took (rules_in config b) into b near far out line (field_bits (ct_of config into b)) (pdu_octets config into b - 2) (first ++ filter p (good_blocks came)) l (takes config into i k (c ∷ came) layer) (IsFront (filter p (good_blocks (c ∷ came))) ys)) (sym (behind-append first (filter p (good_blocks came)) ys))
    (took_on (rules_in config b) into b near far out line (field_bits (ct_of config into b)) (pdu_octets config into b - 2) first (filter p (good_blocks came)) (behind first ys) (behind (filter p (good_blocks came)) (behind first ys)) (takes_one config into i k c.bits c.good layer) (takes config into i (k + 1) came (takes_one config into i k c.bits c.good layer).layer).layer (takes config into i (k + 1) came (takes_one config into i k c.bits c.good layer).layer).lines (IsFront first ys) (IsFront (filter p (good_blocks came)) (behind first ys)) (IsFront (filter p (good_blocks (c ∷ came))) ys)
    (λ f. front_first first (filter p (good_blocks came)) ys (subst (λ l. IsFront l ys) split f)) (λ f. front_behind first (filter p (good_blocks came)) ys (subst (λ l. IsFront l ys) split f)) t u))
