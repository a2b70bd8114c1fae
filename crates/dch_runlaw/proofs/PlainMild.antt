-- Lines without one of layer 2's trouble, where a bearer's lines are those of units that are not too long.
use Rattle.std.proofs.Common.{◌≡◌, ◌≤◌, ℕ, List, [], ◌∷◌, ◌++◌, true, false, length, arith, refl, sym, subst}
use Rattle.std.specs.Prelude.{nat_lt}
use Rattle.std.proofs.lemmas.Bool.Decides.{nat_tests}
use Rattle.dch_bits.specs.declared.bit.Bit.{Bit}
use Rattle.dch_types.specs.declared.channel.Dir.{Dir}
use Rattle.dch_types.specs.declared.config.Config.{Config}
use Rattle.dch_am.specs.Rules.{Rules}
use Rattle.dch_amlaw.specs.Pair.{At, Pair}
use Rattle.dch_amlaw.proofs.Short.{AreShort, BothRead, always_short}
use Rattle.dch_node.specs.Lines.{Line, Took, Full, Wrong, Bad, Reserved, NoBearer, Nobody, PduBad, Outside, Overlong, Got, GotBits, Iub, IubBad, Phy, PhyNone, BadTti, Differs}
use Rattle.dch_layer2.specs.Bearings.{pdu_octets, rules_in}
use Rattle.dch_layer2.specs.Layers.{Layer}
use Rattle.dch_layer2.specs.UnitLines.{unit_line, unit_lines}
use Rattle.dch_runlaw.specs.History.{IsAmBearer, IsWholeHistory, pair_after}
use Rattle.dch_runlaw.specs.Lines.{is_of, lines_of}
use Rattle.dch_runlaw.specs.TmHistory.{IsTmCarried, bits_lines}
use Rattle.dch_runlaw.specs.UmHistory.{IsUmCarried, got_lines}
use Rattle.dch_runlaw.specs.Worlds.{World}
use Rattle.dch_runlaw.proofs.Names.{same_number}
use Rattle.dch_runlaw.proofs.Sublists.{either}
use Rattle.dch_runlaw.proofs.PlainKnown.{AreKnown, HasChannel, IsKnown}

-- each block has a bearer, each PDU can be read and lies inside its window, and no unit is too long
abbrev pub IsMild : Line → Type 0
IsMild (Took dir b) = Unit {0}
IsMild (Full dir b) = Unit {0}
IsMild (Wrong dir b) = Unit {0}
IsMild (Bad dir i k) = Unit {0}
IsMild (Reserved dir i) = ⊥
IsMild (NoBearer dir i ct) = ⊥
IsMild (Nobody dir i) = ⊥
IsMild (PduBad dir b n) = ⊥
IsMild (Outside dir b) = ⊥
IsMild (Overlong dir b) = ⊥
IsMild (Got dir b octets) = Unit {0}
IsMild (GotBits dir b bits) = Unit {0}
IsMild (Iub dir set octets) = Unit {0}
IsMild (IubBad dir set n) = Unit {0}
IsMild (Phy dir tfci cells) = Unit {0}
IsMild PhyNone = Unit {0}
IsMild (BadTti dir i n) = Unit {0}
IsMild (Differs dir i) = Unit {0}

-- and so of all lines
abbrev pub AreMild : List Line → Type 0
AreMild [] = Unit {0}
AreMild (line ∷ lines) = IsMild line × AreMild lines

pub mild-append : (xs ys : List Line) → AreMild xs → AreMild ys → AreMild (xs ++ ys)
mild-append [] ys first second = second
mild-append (x ∷ xs) ys first second = (first.0, mild-append xs ys first.1 second)

pub mild-front : (xs ys : List Line) → AreMild (xs ++ ys) → AreMild xs
mild-front [] ys all = tt
mild-front (x ∷ xs) ys all = (all.0, mild-front xs ys all.1)

pub mild-back : (xs ys : List Line) → AreMild (xs ++ ys) → AreMild ys
mild-back [] ys all = all
mild-back (x ∷ xs) ys all = mild-back xs ys all.1

-- known lines are mild where those of each bearer that has a channel are
own_none : (b : ℕ) (line : Line) (lines : List Line) → is_of b line ≡ true → (IsMild line → ⊥) → AreMild (lines_of b (line ∷ lines)) → ⊥
own_none b line lines own trouble = rw own (λ all. trouble all.0)

head_mild : (config : Config) (into : Dir) (line : Line) (lines : List Line) → IsKnown config into line → ((b : ℕ) → HasChannel config into b → AreMild (lines_of b (line ∷ lines))) → IsMild line
head_mild config into (Took dir b) lines known each = tt
head_mild config into (Full dir b) lines known each = tt
head_mild config into (Wrong dir b) lines known each = tt
head_mild config into (Bad dir i k) lines known each = tt
head_mild config into (Reserved dir i) lines known each = known
head_mild config into (NoBearer dir i ct) lines known each = known
head_mild config into (Nobody dir i) lines known each = known
head_mild config into (PduBad dir b n) lines known each = own_none b (PduBad dir b n) lines (same_number b b refl) (λ none. none) (each b known)
head_mild config into (Outside dir b) lines known each = own_none b (Outside dir b) lines (same_number b b refl) (λ none. none) (each b known)
head_mild config into (Overlong dir b) lines known each = own_none b (Overlong dir b) lines (same_number b b refl) (λ none. none) (each b known)
head_mild config into (Got dir b octets) lines known each = tt
head_mild config into (GotBits dir b bits) lines known each = tt
head_mild config into (Iub dir set octets) lines known each = tt
head_mild config into (IubBad dir set n) lines known each = tt
head_mild config into (Phy dir tfci cells) lines known each = tt
head_mild config into PhyNone lines known each = tt
head_mild config into (BadTti dir i n) lines known each = tt
head_mild config into (Differs dir i) lines known each = tt

rest_mild : (b : ℕ) (line : Line) (lines : List Line) → AreMild (lines_of b (line ∷ lines)) → AreMild (lines_of b lines)
rest_mild b line lines = either (is_of b line) (λ e. rw e (λ all. all.1)) (λ e. rw e (λ all. all))

pub all_mild : (config : Config) (into : Dir) (lines : List Line) → AreKnown config into lines → ((b : ℕ) → HasChannel config into b → AreMild (lines_of b lines)) → AreMild lines
all_mild config into [] known each = tt
all_mild config into (line ∷ lines) known each = (head_mild config into line lines known.0 each, all_mild config into lines known.1 (λ b has. rest_mild b line lines (each b has)))

-- the lines of units
got_mild : (dir : Dir) (b : ℕ) (units : List (List ℕ)) → AreMild (got_lines dir b units)
got_mild dir b [] = tt
got_mild dir b (unit ∷ units) = (tt, got_mild dir b units)

bits_mild : (dir : Dir) (b : ℕ) (units : List (List Bit)) → AreMild (bits_lines dir b units)
bits_mild dir b [] = tt
bits_mild dir b (unit ∷ units) = (tt, bits_mild dir b units)

unit_mild : (dir : Dir) (b : ℕ) (unit : List ℕ) → length unit ≤ 1500 → IsMild (unit_line dir b unit)
unit_mild dir b unit short =
    let few : nat_lt 1500 (length unit) ≡ false = grind (arith, nat_tests, short) in
    rw few tt

units_mild : (dir : Dir) (b : ℕ) (units : List (List ℕ)) → AreShort units → AreMild (unit_lines dir b units)
units_mild dir b [] short = tt
units_mild dir b (unit ∷ units) short = (unit_mild dir b unit short.0, units_mild dir b units short.1)

-- all lines on a bearer at an end, in each mode
pub record BothMild (b : ℕ) (w : World) : Type 0 where
  pub near : AreMild (lines_of b w.near.said)
  pub far : AreMild (lines_of b w.far.said)

pub am_mild : (config : Config) (out into : Dir) (b up down : ℕ) (calls : List At) (w : World) → IsAmBearer config out into b up down → IsWholeHistory config out into b up down calls w → BothMild b w
am_mild config out into b up down calls w bearer h =
    let rules : Rules = rules_in config b in
    let p : Pair = pair_after config out into b calls in
    let short : BothRead p = always_short rules (pdu_octets config out b) (pdu_octets config into b) calls bearer.window in
    record {
      near = subst AreMild (sym h.pair.near.lines) (units_mild into b p.near.entity.receiver.reading.units short.near);
      far = subst AreMild (sym h.pair.far.lines) (units_mild out b p.far.entity.receiver.reading.units short.far);
    }

pub um_mild : (config : Config) (dir : Dir) (b i : ℕ) (from : Layer) (said : List Line) (running : List (List Bit)) → IsUmCarried config dir b i from said running → AreMild (lines_of b said)
um_mild config dir b i from said running h = subst AreMild (sym h.lines) (got_mild dir b _)

pub tm_mild : (config : Config) (dir : Dir) (b i : ℕ) (from : Layer) (said : List Line) (running : List (List Bit)) → IsTmCarried config dir b i from said running → AreMild (lines_of b said)
tm_mild config dir b i from said running h = subst AreMild (sym h.lines) (bits_mild dir b h.handed)
