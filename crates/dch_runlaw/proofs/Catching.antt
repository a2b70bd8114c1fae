-- A block that comes is the first of its bits in the line: those before it are lost, and it arrives.
use Rattle.std.proofs.Common.{◌≡◌, ℕ, List, [], ◌∷◌, ◌++◌, false, cond, ◌||◌, Result, drop, refl, sym, ap, ◌∙◌, subst, ⊎_elim}
use Rattle.std.proofs.lemmas.List.{append-nil}
use Rattle.dch_bits.specs.declared.bit.Bit.{Bit}
use Rattle.dch_types.specs.declared.channel.Dir.{Dir}
use Rattle.dch_am.specs.Moves.{answer_to}
use Rattle.dch_am.specs.Numbers.{wrapped}
use Rattle.dch_am.specs.Receiver.{after_pdu, taken}
use Rattle.dch_am.specs.Rules.{Rules}
use Rattle.dch_am.specs.declared.answers.StatusTaken.{StatusTaken}
use Rattle.dch_am.specs.declared.answers.StatusTaken.TheVariants.{Taken as Heard, Outside as Unknown}
use Rattle.dch_am.specs.Status.{fields_of}
use Rattle.dch_am.specs.Acknowledging.{status_answer}
use Rattle.dch_rlcpdu.specs.declared.am.AmView.{AmView}
use Rattle.dch_rlcpdu.specs.declared.handed.PduError.{PduError}
use Rattle.dch_rlcpdu.specs.Am.{am_reading}
use Rattle.dch_layer2.specs.Hearing.{receiver_of, sender_of, lines_by}
use Rattle.dch_amlaw.specs.Pair.{Arrive, At, Block, End, IsSafe, Lose, Mrw, Near, Pair, Payload, Report, after, answers_outside, is_beyond, is_refused, takes}
use Rattle.dch_amlaw.proofs.Heard.{told_still}
use Rattle.dch_pair.specs.Answers.{is_unknown}
use Rattle.dch_amlaw.specs.Lossless.{NoneLost}
use Rattle.dch_pair.proofs.Lines.{IsWire}
use Rattle.dch_node.specs.Lines.{Outside}
use Rattle.dch_layer2.specs.UnitLines.{line_if, unit_lines}
use Rattle.dch_layer2.specs.Octets.{octets_of}
use Rattle.dch_linkcmd.specs.Checks.{IsSublist}
use Rattle.dch_runlaw.specs.History.{calls_of}
use Rattle.dch_runlaw.specs.Worlds.{IsFront}
use Rattle.dch_runlaw.proofs.Sublists.{either, past, same, same_false, same_true}

-- blocks of a history, and the bits of blocks that are read as just these
abbrev pub Wires : ℕ → ℕ → List Block → List (List Bit) → Type 0
Wires skip d [] [] = Unit {0}
Wires skip d [] (y ∷ ys) = ⊥
Wires skip d (b ∷ line) [] = ⊥
Wires skip d (b ∷ line) (y ∷ ys) = IsWire d (octets_of (drop skip y)) b × Wires skip d line ys

-- a pair by its parts
abbrev pub pair_of : End → End → List Block → List Block → Pair
pair_of near far out back = record { near = near; far = far; out = out; back = back }

-- whatever happens, it is safe
abbrev pub AlwaysSafe : Rules → Pair → Type 0
AlwaysSafe rules p = (events : List At) → IsSafe rules (after rules p events)

-- octets that are read as a block do to the two sides what the block does
record AreSides (rules : Rules) (view : Result AmView PduError) (e : End) (b : Block) : Type 0 where
  sender : sender_of rules view e.entity.sender ≡ (takes rules e b).entity.sender
  receiver : receiver_of rules view e.entity.receiver ≡ (takes rules e b).entity.receiver

wire_sides : (rules : Rules) (d : ℕ) (out : List ℕ) (e : End) (b : Block) → IsWire d out b → AreSides rules (am_reading out) e b
wire_sides rules d out e (Payload k poll body) is = subst (λ v. AreSides rules v e (Payload k poll body)) (sym is.read) (record {
  sender = refl;
  receiver = ap (λ x. after_pdu rules (taken rules e.entity.receiver (wrapped k)) e.entity.receiver (wrapped k) poll x) is.same;
})
wire_sides rules d out e (Mrw k n end_of_discard) is = subst (λ v. AreSides rules v e (Mrw k n end_of_discard)) (sym is) (record { sender = refl; receiver = refl })
wire_sides rules d out e (Report t) is = subst (λ v. AreSides rules v e (Report t)) (sym is) (record { sender = refl; receiver = refl })

-- the two tests of a status that is outside are one
unknown_is : (a : StatusTaken) → is_unknown a ≡ is_refused a
unknown_is Heard = refl
unknown_is (Unknown i) = refl

-- nothing that came was Outside
record IsQuiet (rules : Rules) (view : Result AmView PduError) (e : End) : Type 0 where
  lines : (dir : Dir) (b : ℕ) (units : List (List ℕ)) → lines_by rules dir b view e.entity.sender e.entity.receiver units ≡ unit_lines dir b units

quiet : (rules : Rules) (d : ℕ) (out : List ℕ) (e : End) (b : Block) → IsWire d out b → answers_outside rules e b ≡ false → IsQuiet rules (am_reading out) e
quiet rules d out e (Payload k poll body) is q = subst (λ v. IsQuiet rules v e) (sym is.read) (record {
  lines = λ dir b units. rw q (append-nil (unit_lines dir b units));
})
quiet rules d out e (Mrw k n end_of_discard) is q = subst (λ v. IsQuiet rules v e) (sym is) (record {
  lines = λ dir b units. ap (λ a. line_if a (Outside dir b) ++ unit_lines dir b units) q;
})
quiet rules d out e (Report t) is q = subst (λ v. IsQuiet rules v e) (sym is) (record {
  lines = λ dir b units. ap (λ o. line_if (is_unknown (status_answer rules e.entity.sender (fields_of t)) || is_beyond (answer_to rules e.entity.receiver o)) (Outside dir b) ++ unit_lines dir b units) (told_still t) ∙ ap (λ a. line_if (a || false) (Outside dir b) ++ unit_lines dir b units) (unknown_is (status_answer rules e.entity.sender (fields_of t)) ∙ q);
})

-- the end and its line after a block came
pub record Caught (rules : Rules) (near far : End) (out line : List Block) (skip d : ℕ) (x : List Bit) (rest : List (List Bit)) (Fits : Type 0) : Type 0 where
  pub events : List At
  pub called : calls_of events ≡ Near Arrive ∷ []
  pub end : End
  pub later : List Block
  pub is : after rules (pair_of near far out line) events ≡ pair_of end far out later
  pub octets : end.octets ≡ near.octets
  pub sender : sender_of rules (am_reading (octets_of (drop skip x))) near.entity.sender ≡ end.entity.sender
  pub receiver : receiver_of rules (am_reading (octets_of (drop skip x))) near.entity.receiver ≡ end.entity.receiver
  pub lines : (dir : Dir) (b : ℕ) (units : List (List ℕ)) → lines_by rules dir b (am_reading (octets_of (drop skip x))) near.entity.sender near.entity.receiver units ≡ unit_lines dir b units
  pub wires : Wires skip d later rest
  pub kept : Fits → NoneLost events  -- where it stands in front

octets_stay : (rules : Rules) (e : End) (b : Block) → (takes rules e b).octets ≡ e.octets
octets_stay rules e (Payload k poll body) = refl
octets_stay rules e (Mrw k n end_of_discard) = refl
octets_stay rules e (Report t) = refl

arrived : (rules : Rules) (near far : End) (out : List Block) (b : Block) (line : List Block) (skip d : ℕ) (x : List Bit) (ys : List (List Bit)) → AlwaysSafe rules (pair_of near far out (b ∷ line)) → IsWire d (octets_of (drop skip x)) b → Wires skip d line ys → (Fits : Type 0) → Caught rules near far out (b ∷ line) skip d x ys Fits
arrived rules near far out b line skip d x ys safe is wires Fits =
    let calm = quiet rules d (octets_of (drop skip x)) near b is (safe []).near_inside in
    let does = wire_sides rules d (octets_of (drop skip x)) near b is in
    record {
      events = Near Arrive ∷ [];
      called = refl;
      end = takes rules near b;
      later = line;
      is = refl;
      octets = octets_stay rules near b;
      sender = does.sender;
      receiver = does.receiver;
      lines = calm.lines;
      wires = wires;
      kept = λ _. (refl, tt);
    }

pub catches : (rules : Rules) (near far : End) (out line : List Block) (skip d : ℕ) (x : List Bit) (ys : List (List Bit)) → AlwaysSafe rules (pair_of near far out line) → Wires skip d line ys → IsSublist (x ∷ []) ys → Caught rules near far out line skip d x (past x ys) (IsFront (x ∷ []) ys)
catches rules near far out [] skip d x [] safe wires h = absurd h
catches rules near far out [] skip d x (y ∷ ys) safe wires h = absurd wires
catches rules near far out (b ∷ line) skip d x [] safe wires h = absurd h
catches rules near far out (b ∷ line) skip d x (y ∷ ys) safe wires h = either (same x y)
    (λ e. subst (λ l. Caught rules near far out (b ∷ line) skip d x l (IsFront (x ∷ []) (y ∷ ys))) (sym (ap (λ c. cond c ys (past x ys)) e))
    (arrived rules near far out b line skip d x ys safe (subst (λ z. IsWire d (octets_of (drop skip z)) b) (sym (same_true x y e)) wires.0) wires.1 (IsFront (x ∷ []) (y ∷ ys))))
    (λ e. subst (λ l. Caught rules near far out (b ∷ line) skip d x l (IsFront (x ∷ []) (y ∷ ys))) (sym (ap (λ c. cond c ys (past x ys)) e))
    (lost e (catches rules near far out line skip d x ys (λ es. safe (Near Lose ∷ es)) wires.1 (⊎_elim (λ (p : (x ≡ y) × Unit {0}). absurd (same_false x y e p.0)) (λ (p : IsSublist (x ∷ []) ys). p) h))))
  where
    lost : same x y ≡ false → Caught rules near far out line skip d x (past x ys) (IsFront (x ∷ []) ys) → Caught rules near far out (b ∷ line) skip d x (past x ys) (IsFront (x ∷ []) (y ∷ ys))
    lost e c = record {
      events = Near Lose ∷ c.events;
      called = c.called;
      end = c.end;
      later = c.later;
      is = c.is;
      octets = c.octets;
      sender = c.sender;
      receiver = c.receiver;
      lines = c.lines;
      wires = c.wires;
      kept = λ f. absurd (same_false x y e f.0);
    }
