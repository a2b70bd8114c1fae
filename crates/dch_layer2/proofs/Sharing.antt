-- The bearers of a channel share its blocks: step by step.
use Rattle.std.proofs.Common.{◌≡◌, ◌<◌, ◌≤◌, ◌+◌, ◌-◌, ◌++◌, ◌∙◌, ℕ, zero, suc, List, [], ◌∷◌, Bool, true, false, cond, ◌&&◌, ◌||◌, length, set, arith, refl, sym, ap, subst, ⊎_elim, append_assoc, length-set, get_or-set_same, get_or-set_other}
use Rattle.std.specs.Prelude.{◌==◌, nat_lt}
use Rattle.std.proofs.lemmas.Bool.{cases_lt}
use Rattle.std.proofs.lemmas.List.{append-nil}
use Rattle.dch_bits.specs.declared.bit.Bit.{Bit}
use Rattle.dch_types.specs.declared.channel.Dir.{Dir}
use Rattle.dch_types.specs.declared.channel.Dir.TheVariants.{Up, Down}
use Rattle.dch_types.specs.declared.channel.Format.{Format}
use Rattle.dch_types.specs.declared.bearer.Bearer.{Bearer as BearerRules}
use Rattle.dch_types.specs.declared.config.Config.{Config}
use Rattle.dch_accept.specs.Blocks.{Held}
use Rattle.dch_tree.specs.Bearers.{bearer_at}
use Rattle.dch_config.specs.Bearers.{names}
use Rattle.dch_types.specs.Parts.{channel_number}
use Rattle.dch_mac.specs.Asked.{priority_of}
use Rattle.dch_mac.specs.Offered.{given}
use Rattle.dch_layer2.specs.Bearings.{Bearing}
use Rattle.dch_layer2.specs.Building.{Gives}
use Rattle.dch_layer2.specs.Starting.{in_turn, is_on, joined, of_priority}
use Rattle.dch_layer2.specs.BearerStanding.{Represents as StandsFor}
use Rattle.dch_layer2.specs.declared.bearer.Bearer.{Bearer}
use Rattle.dch_layer2.specs.Sharing.{AreAllServed, CanShare, Fills, IsSameShape, IsShared, Moment, Offers, asked_by, built_on, front, head_in, share}
use Rattle.dch_layer2.specs.Values.{entity_at}
use Rattle.dch_layer2.proofs.Serving.{AreServed, before, built_to, turns_to}
use Rattle.dch_layer2.proofs.Sums.{before_other, both_true, either, next_tests, number_same, other_number, same_number, share_all, share_first, share_given, share_more, share_next, share_same}
use Rattle.dch_layer2.proofs.Turns.{before_all, before_none, before_same, before_self, joined-append}

pub same_shape : (held : Held) → IsSameShape held held
same_shape held = record { format = refl; size = refl; good = refl; long = refl; room = refl }

pub shape_on : (x y z : Held) → IsSameShape x y → IsSameShape y z → IsSameShape x z
shape_on x y z a b = record {
  format = b.format ∙ a.format;
  size = b.size ∙ a.size;
  good = b.good ∙ a.good;
  long = b.long ∙ a.long;
  room = b.room ∙ a.room;
}

-- a bearer with a channel is there
pub on_there : (m : Moment) (i a : ℕ) → length m.config.bearers ≤ a → is_on (asked_by m) i a ≡ false
on_there m i a past = ap (λ x. names (channel_number m.out x) i) (past_or m.config.bearers a past) ∙ nobody m.out
  where
    past_or : (xs : List BearerRules) (k : ℕ) → length xs ≤ k → bearer_at xs k ≡ bearer_at [] 0
    past_or [] zero l = refl
    past_or [] (suc k) l = refl
    past_or (x ∷ xs) zero l = absurd (omega (arith, l))
    past_or (x ∷ xs) (suc k) l = past_or xs k (omega (arith, l))

    nobody : (dir : Dir) → names (channel_number dir (bearer_at [] 0)) i ≡ false
    nobody Up = refl
    nobody Down = refl

-- at the start none has built a block
none_to : (m : Moment) (i : ℕ) (format : Format) (a : ℕ) → ((b : ℕ) → b < length m.config.bearers → 1 ≤ priority_of (asked_by m) b) → built_to (asked_by m) i format 0 0 a ≡ 0
none_to m i format a least = ⊎_elim
    (λ (l : a < length m.config.bearers). ap (λ c. cond (c && is_on (asked_by m) i a) (given (asked_by m) i format a) 0) (before_none (asked_by m) a (least a l)))
    (λ (l : length m.config.bearers ≤ a). ap (λ c. cond (before (asked_by m) 0 0 a && c) (given (asked_by m) i format a) 0) (on_there m i a l) ∙ never (before (asked_by m) 0 0 a) (given (asked_by m) i format a))
    (cases_lt a (length m.config.bearers))
  where
    never : (c : Bool) (n : ℕ) → cond (c && false) n 0 ≡ 0
    never true n = refl
    never false n = refl

pub none_served : (m : Moment) (i : ℕ) (format : Format) (bearers : List Bearer) (held : Held) → ((b : ℕ) → b < length m.config.bearers → 1 ≤ priority_of (asked_by m) b) → AreServed m i format 0 0 0 bearers bearers held held
none_served m i format bearers held least = record {
  number = share_first (asked_by m) i format least;
  all = refl;
  shape = same_shape held;
  shared = λ into bearings standing. record {
    next = bearings;
    built = λ a. [];
    gives = λ a. subst (λ n. Gives m.config m.out a n (bearings a) (bearings a) []) (sym (none_to m i format a least)) (refl, refl);
    stands = standing.each;
    filled = refl;
  };
}

-- at the next priority
next_to : (m : Moment) (i : ℕ) (format : Format) (q a : ℕ) → built_to (asked_by m) i format q (length m.config.bearers) a ≡ built_to (asked_by m) i format (suc q) 0 a
next_to m i format q a = ⊎_elim
    (λ (l : a < length m.config.bearers). ap (λ c. cond (c && is_on (asked_by m) i a) (given (asked_by m) i format a) 0) (sym (next_tests (priority_of (asked_by m) a) q a (length m.config.bearers) l)))
    (λ (l : length m.config.bearers ≤ a). let off : is_on (asked_by m) i a ≡ false = on_there m i a l in
    never (before (asked_by m) q (length m.config.bearers) a) (is_on (asked_by m) i a) (given (asked_by m) i format a) off ∙ sym (never (before (asked_by m) (suc q) 0 a) (is_on (asked_by m) i a) (given (asked_by m) i format a) off))
    (cases_lt a (length m.config.bearers))
  where
    never : (c d : Bool) (n : ℕ) → d ≡ false → cond (c && d) n 0 ≡ 0
    never true true n e = absurd (cc)
    never true false n e = refl
    never false d n e = refl

pub next_served : (m : Moment) (i : ℕ) (format : Format) (q n : ℕ) (old new : List Bearer) (x y : Held) → AreServed m i format q (length m.config.bearers) n old new x y → AreServed m i format (suc q) 0 n old new x y
next_served m i format q n old new x y served = record {
  number = share_next (asked_by m) i format q n served.number;
  all = served.all;
  shape = served.shape;
  shared = λ into bearings standing.
      let s = served.shared into bearings standing in
      record {
        next = s.next;
        built = s.built;
        gives = λ a. subst (λ k. Gives m.config m.out a k (bearings a) (s.next a) (s.built a)) (next_to m i format q a) (s.gives a);
        stands = s.stands;
        filled = s.filled ∙ ap (joined s.built) (sym (append-nil (in_turn (asked_by m) i (suc q))));
      };
}

-- at the end
all_to : (m : Moment) (i : ℕ) (format : Format) (a : ℕ) → ((b : ℕ) → b < length m.config.bearers → priority_of (asked_by m) b ≤ 8) → built_to (asked_by m) i format 8 0 a ≡ built_on (asked_by m) i format a
all_to m i format a most = ⊎_elim
    (λ (l : a < length m.config.bearers). ap (λ c. cond (c && is_on (asked_by m) i a) (given (asked_by m) i format a) 0) (before_all (asked_by m) a (most a l)))
    (λ (l : length m.config.bearers ≤ a). never (before (asked_by m) 8 0 a) (is_on (asked_by m) i a) (given (asked_by m) i format a) (on_there m i a l))
    (cases_lt a (length m.config.bearers))
  where
    never : (c d : Bool) (n : ℕ) → d ≡ false → cond (c && d) n 0 ≡ cond d n 0
    never c true n e = absurd (cc)
    never true false n e = refl
    never false false n e = refl

pub all_served : (m : Moment) (i : ℕ) (format : Format) (n : ℕ) (old new : List Bearer) (x y : Held) → ((b : ℕ) → b < length m.config.bearers → priority_of (asked_by m) b ≤ 8) → AreServed m i format 8 0 n old new x y → AreAllServed m i format old new x y
all_served m i format n old new x y most served = record {
  all = served.all;
  shape = served.shape;
  shared = λ into bearings standing.
      let s = served.shared into bearings standing in
      record {
        next = s.next;
        built = s.built;
        gives = λ a. subst (λ k. Gives m.config m.out a k (bearings a) (s.next a) (s.built a)) (all_to m i format a most) (s.gives a);
        stands = s.stands;
        filled = ap (front y) (sym (share_all (asked_by m) i format n most served.number)) ∙ (s.filled ∙ ap (joined s.built) (append-nil (in_turn (asked_by m) i 8)));
      };
}

-- a bearer that has no turn
skip_to : (m : Moment) (i : ℕ) (format : Format) (q b a : ℕ) → (priority_of (asked_by m) b == suc q && is_on (asked_by m) i b) ≡ false → built_to (asked_by m) i format q b a ≡ built_to (asked_by m) i format q (suc b) a
skip_to m i format q b a e = either (a == b)
    (λ s. let same : a ≡ b = number_same a b s in
    subst (λ k. built_to (asked_by m) i format q b k ≡ built_to (asked_by m) i format q (suc b) k) (sym same) (go (priority_of (asked_by m) b) (is_on (asked_by m) i b) (given (asked_by m) i format b) e))
    (λ s. ap (λ c. cond (c && is_on (asked_by m) i a) (given (asked_by m) i format a) 0) (sym (before_other (asked_by m) q b a (other_number a b s))))
  where
    last : (c d : Bool) (n : ℕ) (x y z : Bool) → (c && d) ≡ false → cond ((x || (c && y)) && d) n 0 ≡ cond ((x || (c && z)) && d) n 0
    last true true n x y z e = absurd (cc)
    last true false n true y z e = refl
    last true false n false true true e = refl
    last true false n false true false e = refl
    last true false n false false true e = refl
    last true false n false false false e = refl
    last false d n x y z e = refl

    go : (p : ℕ) (d : Bool) (n : ℕ) → (p == suc q && d) ≡ false → cond ((nat_lt p (suc q) || (p == suc q && nat_lt b b)) && d) n 0 ≡ cond ((nat_lt p (suc q) || (p == suc q && nat_lt b (suc b))) && d) n 0
    go p d n e = last (p == suc q) d n (nat_lt p (suc q)) (nat_lt b b) (nat_lt b (suc b)) e

skip_turn : (m : Moment) (i q b : ℕ) → (priority_of (asked_by m) b == suc q && is_on (asked_by m) i b) ≡ false → turns_to (asked_by m) i q b ≡ turns_to (asked_by m) i q (suc b)
skip_turn m i q b e = ap (λ xs. in_turn (asked_by m) i q ++ xs) (sym (ap (λ c. of_priority (asked_by m) i (suc q) b ++ cond c (b ∷ []) []) e ∙ append-nil (of_priority (asked_by m) i (suc q) b)))

pub skip_served : (m : Moment) (i : ℕ) (format : Format) (q b n : ℕ) (old new : List Bearer) (x y : Held) → b < length m.config.bearers → (priority_of (asked_by m) b == suc q && is_on (asked_by m) i b) ≡ false → AreServed m i format q b n old new x y → AreServed m i format q (suc b) n old new x y
skip_served m i format q b n old new x y l e served = record {
  number = share_same (asked_by m) i format q b n l e served.number;
  all = served.all;
  shape = served.shape;
  shared = λ into bearings standing.
      let s = served.shared into bearings standing in
      record {
        next = s.next;
        built = s.built;
        gives = λ a. subst (λ k. Gives m.config m.out a k (bearings a) (s.next a) (s.built a)) (skip_to m i format q b a e) (s.gives a);
        stands = s.stands;
        filled = s.filled ∙ ap (joined s.built) (skip_turn m i q b e);
      };
}

-- a bearer that has its turn: it still offers what it did
count_none : (m : Moment) (i : ℕ) (format : Format) (q b : ℕ) → (priority_of (asked_by m) b == suc q) ≡ true → built_to (asked_by m) i format q b b ≡ 0
count_none m i format q b e = ap (λ c. cond (c && is_on (asked_by m) i b) (given (asked_by m) i format b) 0) (before_self (asked_by m) q b e).0

count_all : (m : Moment) (i : ℕ) (format : Format) (q b : ℕ) → (priority_of (asked_by m) b == suc q) ≡ true → is_on (asked_by m) i b ≡ true → built_to (asked_by m) i format q (suc b) b ≡ given (asked_by m) i format b
count_all m i format q b e on = ap (λ c. cond (c && is_on (asked_by m) i b) (given (asked_by m) i format b) 0) (before_self (asked_by m) q b e).1 ∙ ap (λ c. cond c (given (asked_by m) i format b) 0) on

pub turn_offers : (m : Moment) (i : ℕ) (format : Format) (q b n : ℕ) (old new : List Bearer) (x y : Held) → b < length m.config.bearers → (priority_of (asked_by m) b == suc q && is_on (asked_by m) i b) ≡ true → CanShare m i old → AreServed m i format q b n old new x y →
    Offers (entity_at new b) (head_in m.heads b)
turn_offers m i format q b n old new x y l e can served =
    let both = both_true (priority_of (asked_by m) b == suc q) (is_on (asked_by m) i b) e in
    let s = served.shared can.into can.bearings can.ready.standing in
    let none : Gives m.config m.out b 0 (can.bearings b) (s.next b) (s.built b) = subst (λ k. Gives m.config m.out b k (can.bearings b) (s.next b) (s.built b)) (count_none m i format q b both.0) (s.gives b) in
    record {
      config = m.config;
      out = m.out;
      into = can.into;
      b = b;
      bearing = can.bearings b;
      stands = subst (λ z. StandsFor m.config m.out can.into b z (entity_at new b)) none.0 (s.stands b l);
      head_is = can.ready.heads b l both.1;
    }

-- and it builds what it gives
record Turned (m : Moment) (into : Dir) (i : ℕ) (format : Format) (q b n k : ℕ) (bearings : ℕ → Bearing) (new : List Bearer) (bearer : Bearer) (y z : Held) : Type 0 where
  pub shared : IsShared m into (built_to (asked_by m) i format q b) (turns_to (asked_by m) i q b) n bearings new y
  pub filled : (old : Bearing) → StandsFor m.config m.out into b old (entity_at new b) → Fills m.config m.out into b k n old bearer y z

turn_shared : (m : Moment) (into : Dir) (i : ℕ) (format : Format) (q b n k : ℕ) (bearings : ℕ → Bearing) (new : List Bearer) (bearer : Bearer) (y z : Held) → b < length m.config.bearers → b < length new → (priority_of (asked_by m) b == suc q) ≡ true → is_on (asked_by m) i b ≡ true →
    k ≡ given (asked_by m) i format b → Turned m into i format q b n k bearings new bearer y z →
    IsShared m into (built_to (asked_by m) i format q (suc b)) (turns_to (asked_by m) i q (suc b)) (n + k) bearings (set new b bearer) z
turn_shared m into i format q b n k bearings new bearer y z l inside e on is turned = record {
  next = next;
  built = built;
  gives = gives;
  stands = stands;
  filled = fills.filled ∙ (ap (λ xs. xs ++ fills.blocks) s.filled ∙ (ap (λ xs. xs ++ fills.blocks) order ∙ last));
}
  where
    s : IsShared m into (built_to (asked_by m) i format q b) (turns_to (asked_by m) i q b) n bearings new y
    s = turned.shared

    fills : Fills m.config m.out into b k n (s.next b) bearer y z
    fills = turned.filled (s.next b) (s.stands b l)

    next : ℕ → Bearing
    next a = cond (a == b) fills.next (s.next a)

    built : ℕ → List (List Bit)
    built a = cond (a == b) fills.blocks (s.built a)

    none : Gives m.config m.out b 0 (bearings b) (s.next b) (s.built b)
    none = subst (λ j. Gives m.config m.out b j (bearings b) (s.next b) (s.built b)) (count_none m i format q b e) (s.gives b)

    own : Gives m.config m.out b (built_to (asked_by m) i format q (suc b) b) (bearings b) fills.next fills.blocks
    own = subst (λ j. Gives m.config m.out b j (bearings b) fills.next fills.blocks) (is ∙ sym (count_all m i format q b e on)) (subst (λ old. Gives m.config m.out b k old fills.next fills.blocks) none.0 fills.gives)

    gives : (a : ℕ) → Gives m.config m.out a (built_to (asked_by m) i format q (suc b) a) (bearings a) (next a) (built a)
    gives a = either (a == b)
        (λ same. subst (λ (x : Bool). Gives m.config m.out a (built_to (asked_by m) i format q (suc b) a) (bearings a) (cond x fills.next (s.next a)) (cond x fills.blocks (s.built a))) (sym same)
        (subst (λ c. Gives m.config m.out c (built_to (asked_by m) i format q (suc b) c) (bearings c) fills.next fills.blocks) (sym (number_same a b same)) own))
        (λ other. subst (λ (x : Bool). Gives m.config m.out a (built_to (asked_by m) i format q (suc b) a) (bearings a) (cond x fills.next (s.next a)) (cond x fills.blocks (s.built a))) (sym other)
        (subst (λ j. Gives m.config m.out a j (bearings a) (s.next a) (s.built a))
        (ap (λ c. cond (c && is_on (asked_by m) i a) (given (asked_by m) i format a) 0) (sym (before_other (asked_by m) q b a (other_number a b other)))) (s.gives a)))

    stands : (a : ℕ) → a < length m.config.bearers → StandsFor m.config m.out into a (next a) (entity_at (set new b bearer) a)
    stands a less = either (a == b)
        (λ same. subst (λ (x : Bool). StandsFor m.config m.out into a (cond x fills.next (s.next a)) (entity_at (set new b bearer) a)) (sym same)
        (subst (λ c. StandsFor m.config m.out into c fills.next (entity_at (set new b bearer) c)) (sym (number_same a b same))
        (subst (StandsFor m.config m.out into b fills.next) (sym (get_or-set_same new b bearer (entity_at [] 0) inside)) fills.stands)))
        (λ other. subst (λ (x : Bool). StandsFor m.config m.out into a (cond x fills.next (s.next a)) (entity_at (set new b bearer) a)) (sym other)
        (subst (StandsFor m.config m.out into a (s.next a)) (sym (get_or-set_other new b a bearer (entity_at [] 0) (other_number a b other))) (s.stands a less)))

    order : joined s.built (turns_to (asked_by m) i q b) ≡ joined built (turns_to (asked_by m) i q b)
    order = before_same (asked_by m) i q b s.built built (λ x is_before. sym (ap (λ c. cond c fills.blocks (s.built x)) (differs x is_before)))
      where
        differs : (x : ℕ) → before (asked_by m) q b x ≡ true → (x == b) ≡ false
        differs x h = either (x == b)
            (λ same. let f : before (asked_by m) q b x ≡ false = ap (before (asked_by m) q b) (number_same x b same) ∙ (before_self (asked_by m) q b e).0 in absurd (cc))
            (λ other. other)

    last : joined built (turns_to (asked_by m) i q b) ++ fills.blocks ≡ joined built (turns_to (asked_by m) i q (suc b))
    last =
        let mine : built b ≡ fills.blocks = ap (λ c. cond c fills.blocks (s.built b)) (same_number b b refl) in
        let one : joined built (b ∷ []) ≡ fills.blocks = append-nil (built b) ∙ mine in
        let turns : turns_to (asked_by m) i q (suc b) ≡ turns_to (asked_by m) i q b ++ b ∷ [] =
        ap (λ c. in_turn (asked_by m) i q ++ (of_priority (asked_by m) i (suc q) b ++ cond (c && is_on (asked_by m) i b) (b ∷ []) [])) e
        ∙ (ap (λ c. in_turn (asked_by m) i q ++ (of_priority (asked_by m) i (suc q) b ++ cond c (b ∷ []) [])) on
        ∙ sym (append_assoc (in_turn (asked_by m) i q) (of_priority (asked_by m) i (suc q) b) (b ∷ []))) in
        ap (λ xs. joined built (turns_to (asked_by m) i q b) ++ xs) (sym one) ∙ (sym (joined-append built (turns_to (asked_by m) i q b) (b ∷ [])) ∙ ap (joined built) (sym turns))

pub turn_served : (m : Moment) (i : ℕ) (format : Format) (q b n next : ℕ) (old new : List Bearer) (bearer : Bearer) (x y z : Held) → b < length m.config.bearers → b < length new → (priority_of (asked_by m) b == suc q && is_on (asked_by m) i b) ≡ true → length y.good ≡ format.number →
    CanShare m i old → AreServed m i format q b n old new x y → next ≡ n + share (head_in m.heads b) format.size (length y.good - n) →
    ((config : Config) (out into : Dir) (c : ℕ) (bearing : Bearing) → StandsFor config out into c bearing (entity_at new b) → Fills config out into c (share (head_in m.heads b) format.size (length y.good - n)) n bearing bearer y z) →
    AreServed m i format q (suc b) next old (set new b bearer) x z
turn_served m i format q b n next old new bearer x y z l inside e count can served is fills = record {
  number = is ∙ (ap (λ k. n + share (head_in m.heads b) format.size (k - n)) count ∙ share_more (asked_by m) i format q b n l both.0 both.1 served.number);
  all = length-set new b bearer ∙ served.all;
  shape = shape_on x y z served.shape (fills m.config m.out can.into b (first.next b) (first.stands b l)).shape;
  shared = λ into bearings standing.
      subst (λ j. IsShared m into (built_to (asked_by m) i format q (suc b)) (turns_to (asked_by m) i q (suc b)) j bearings (set new b bearer) z) (sym is)
      (turn_shared m into i format q b n (share (head_in m.heads b) format.size (length y.good - n)) bearings new bearer y z l inside both.0 both.1 given_is
      (record { shared = served.shared into bearings standing; filled = λ bearing stands. fills m.config m.out into b bearing stands }));
}
  where
    both : ((priority_of (asked_by m) b == suc q) ≡ true) × (is_on (asked_by m) i b ≡ true)
    both = both_true (priority_of (asked_by m) b == suc q) (is_on (asked_by m) i b) e

    first : IsShared m can.into (built_to (asked_by m) i format q b) (turns_to (asked_by m) i q b) n can.bearings new y
    first = served.shared can.into can.bearings can.ready.standing

    given_is : share (head_in m.heads b) format.size (length y.good - n) ≡ given (asked_by m) i format b
    given_is = ap (λ k. share (head_in m.heads b) format.size (k - n)) count ∙ share_given (asked_by m) i format q b n both.0 both.1 served.number

-- a bearer that has a channel is there
pub there_on : (m : Moment) (i a : ℕ) → is_on (asked_by m) i a ≡ true → a < length m.config.bearers
there_on m i a on = ⊎_elim
    (λ (l : a < length m.config.bearers). l)
    (λ (l : length m.config.bearers ≤ a). let off : is_on (asked_by m) i a ≡ false = on_there m i a l in absurd (cc))
    (cases_lt a (length m.config.bearers))
