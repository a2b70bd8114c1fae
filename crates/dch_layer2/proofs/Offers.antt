-- A bearer that offers blocks can build them one after another, and offers the rest in between.
use Rattle.std.proofs.Common.{◌≡◌, ◌≤◌, ◌+◌, ◌-◌, ◌++◌, ◌∙◌, ℕ, zero, suc, List, [], ◌∷◌, Bool, true, false, cond, ◌&&◌, Option, Some, None, length, arith, refl, sym, ap, subst}
use Rattle.std.specs.Prelude.{◌==◌, min, not}
use Rattle.std.specs.List.{prefix_len}
use Rattle.std.proofs.lemmas.Bool.{eqb-true}
use Rattle.std.proofs.lemmas.Bool.Decides.{nat_tests}
use Rattle.dch_bits.specs.declared.bit.Bit.{Bit}
use Rattle.dch_types.specs.declared.channel.Dir.{Dir}
use Rattle.dch_types.specs.declared.config.Config.{Config}
use Rattle.dch_mac.specs.declared.head.Head.{Head}
use Rattle.dch_rlctm.specs.Waiting.{front_of}
use Rattle.dch_rlcum.specs.Sending.{Units, builds, is_unsent, units_after}
use Rattle.dch_am.specs.Building.{Again, Choice, Last, New, NoPdu, after_build, after_choice, available, builds_within, choice, gives}
use Rattle.dch_am.specs.Discards.{after_moving, after_mrw, mrw_due}
use Rattle.dch_am.specs.Entities.{Turn, one_if, receiver_after, sender_after, turn}
use Rattle.dch_am.specs.Receiver.{Receiver}
use Rattle.dch_am.specs.Rules.{Rules}
use Rattle.dch_am.specs.Sender.{Discard, Sender}
use Rattle.dch_am.specs.Telling.{after_telling, is_due}
use Rattle.dch_am.proofs.Turns.{turn_moves, turn_sends, turn_tells}
use Rattle.dch_layer2.specs.Bearings.{Acknowledged, Bearing, Transparent, Unacknowledged, head_of, pdu_octets, rules_in}
use Rattle.dch_layer2.specs.Building.{Builds, Gives}
use Rattle.dch_layer2.proofs.Serving.{HasMore}

-- the acknowledged mode: what is told, and what moves the window, is due no more
told_all : (rules : Rules) (r : Receiver) → is_due (after_telling rules r) ≡ false
told_all rules r = none r.owed (r.status_prohibit_timer == 0) refl
  where
    none : (owed free : Bool) → (r.status_prohibit_timer == 0) ≡ free → ((owed && not (owed && free)) && (cond (owed && free) rules.status_prohibit r.status_prohibit_timer == 0)) ≡ false
    none true true e = refl
    none true false e = e
    none false free e = refl

moving_due : (rules : Rules) (s : Sender) (o : Option Discard) → s.discard ≡ o → mrw_due (after_moving rules s o).discard ≡ false
moving_due rules s None e = ap mrw_due e
moving_due rules s (Some x) e = refl

abbrev with_discard : Sender → Option Discard → Sender
with_discard s x = record s { discard = x }

choice_same : (rules : Rules) (d : ℕ) (s : Sender) (x : Option Discard) (c : Choice) → after_choice c rules d (with_discard s x) ≡ with_discard (after_choice c rules d s) x
choice_same rules d s x (Again k) = refl
choice_same rules d s x New = refl
choice_same rules d s x (Last k) = refl
choice_same rules d s x NoPdu = refl

builds_same : (k : ℕ) (rules : Rules) (d : ℕ) (s : Sender) (x : Option Discard) → builds_within k rules d (with_discard s x) ≡ builds_within k rules d s
builds_same zero rules d s x = refl
builds_same (suc k) rules d s x = ap (λ n. cond (gives rules s) (suc n) 0) (ap (builds_within k rules d) (choice_same rules d s x (choice rules s)) ∙ builds_same k rules d (after_build rules d s) x)

moving_same : (k : ℕ) (rules : Rules) (d : ℕ) (s : Sender) (o : Option Discard) → builds_within k rules d (after_moving rules s o) ≡ builds_within k rules d s
moving_same k rules d s None = refl
moving_same k rules d s (Some x) = builds_same k rules d s (after_mrw rules s x).discard

discard_stays : (rules : Rules) (d : ℕ) (s : Sender) (c : Choice) → (after_choice c rules d s).discard ≡ s.discard
discard_stays rules d s (Again k) = refl
discard_stays rules d s New = refl
discard_stays rules d s (Last k) = refl
discard_stays rules d s NoPdu = refl

-- a greater limit counts no fewer
more_or_none : (b : Bool) (m n : ℕ) → m ≤ n → cond b (suc m) 0 ≤ cond b (suc n) 0
more_or_none true m n l = omega (arith, l)
more_or_none false m n l = omega arith

within_more : (k : ℕ) (rules : Rules) (d : ℕ) (s : Sender) → builds_within k rules d s ≤ builds_within (suc k) rules d s
within_more zero rules d s = omega arith
within_more (suc k) rules d s = more_or_none (gives rules s) (builds_within k rules d (after_build rules d s)) (builds_within (suc k) rules d (after_build rules d s)) (within_more k rules d (after_build rules d s))

abbrev count : Rules → ℕ → Sender → Receiver → ℕ
count rules size s r = one_if (is_due r) + one_if (mrw_due s.discard) + available rules (size - 2) s

am_next : (rules : Rules) (size n : ℕ) (s : Sender) (r : Receiver) (due mrw some : Bool) → is_due r ≡ due → mrw_due s.discard ≡ mrw → gives rules s ≡ some → suc n ≤ count rules size s r →
    n ≤ count rules size (sender_after (turn rules s r) rules size s) (receiver_after (turn rules s r) rules r)
unfolding available
am_next rules size n s r true mrw some e f g l =
    subst (λ (t : Turn). n ≤ count rules size (sender_after t rules size s) (receiver_after t rules r)) (sym (turn_tells rules s r e))
    (let one : one_if (is_due r) ≡ 1 = ap one_if e in
    omega (arith, l, one))
am_next rules size n s r false true some e f g l =
    subst (λ (t : Turn). n ≤ count rules size (sender_after t rules size s) (receiver_after t rules r)) (sym (turn_moves rules s r e f))
    (let one : one_if (mrw_due s.discard) ≡ 1 = ap one_if f in
    let same : builds_within 64 rules (size - 2) (after_moving rules s s.discard) ≡ builds_within 64 rules (size - 2) s = moving_same 64 rules (size - 2) s s.discard in
    omega (arith, l, one, same))
am_next rules size n s r false false true e f g l =
    subst (λ (t : Turn). n ≤ count rules size (sender_after t rules size s) (receiver_after t rules r)) (sym (turn_sends rules s r e f g))
    (let one : one_if (is_due r) ≡ 0 = ap one_if e in
    let two : one_if (mrw_due s.discard) ≡ 0 = ap one_if f in
    let all : builds_within 64 rules (size - 2) s ≡ suc (builds_within 63 rules (size - 2) (after_build rules (size - 2) s)) = ap (λ b. cond b (suc (builds_within 63 rules (size - 2) (after_build rules (size - 2) s))) 0) g in
    let more : builds_within 63 rules (size - 2) (after_build rules (size - 2) s) ≤ builds_within 64 rules (size - 2) (after_build rules (size - 2) s) = within_more 63 rules (size - 2) (after_build rules (size - 2) s) in
    omega (arith, l, one, two, all, more))
am_next rules size n s r false false false e f g l =
    let one : one_if (is_due r) ≡ 0 = ap one_if e in
    let two : one_if (mrw_due s.discard) ≡ 0 = ap one_if f in
    let all : builds_within 64 rules (size - 2) s ≡ 0 = ap (λ b. cond b (suc (builds_within 63 rules (size - 2) (after_build rules (size - 2) s))) 0) g in
    absurd (omega (arith, l, one, two, all))

-- the unacknowledged mode
um_more : (k pdu : ℕ) (mark_start : Bool) (u : Units) → builds k pdu mark_start u ≤ builds (suc k) pdu mark_start u
unfolding builds
um_more zero pdu mark_start u = omega arith
um_more (suc k) pdu mark_start u = more_or_none (is_unsent u) (builds k pdu mark_start (units_after pdu mark_start u)) (builds (suc k) pdu mark_start (units_after pdu mark_start u)) (um_more k pdu mark_start (units_after pdu mark_start u))

um_next : (n k pdu : ℕ) (mark_start : Bool) (u : Units) → is_unsent u ≡ true → suc n ≤ builds (suc k) pdu mark_start u → n ≤ builds (suc k) pdu mark_start (units_after pdu mark_start u)
unfolding builds
um_next n k pdu mark_start u some l =
    let all : builds (suc k) pdu mark_start u ≡ suc (builds k pdu mark_start (units_after pdu mark_start u)) = ap (λ b. cond b (suc (builds k pdu mark_start (units_after pdu mark_start u))) 0) some in
    let more : builds k pdu mark_start (units_after pdu mark_start u) ≤ builds (suc k) pdu mark_start (units_after pdu mark_start u) = um_more k pdu mark_start (units_after pdu mark_start u) in
    omega (arith, l, all, more)

-- the transparent mode
abbrev front : List (List Bit) → Head
front units = record { size = (front_of units).0; count = (front_of units).1 }

least : (n k : ℕ) → n ≤ min 64 k → n ≤ k
least n k l = grind (arith, nat_tests, l)

less : (n k : ℕ) → suc n ≤ min 64 (1 + k) → n ≤ min 64 k
less n k l = grind (arith, nat_tests, l)

front_next : (n size : ℕ) (u : List Bit) (units : List (List Bit)) → HasMore (front (u ∷ units)) size (suc n) → HasMore (front units) size n
front_next zero size u units has = record { count = omega arith; size = λ l. absurd (omega (arith, l)) }
front_next (suc n) size u [] has =
    let one : prefix_len (λ v. length v == length u) (u ∷ []) ≤ 1 = at_most (length u == length u) in
    absurd (omega (arith, one, least (suc (suc n)) (prefix_len (λ v. length v == length u) (u ∷ [])) has.count))
  where
    at_most : (b : Bool) → cond b (1 + 0) 0 ≤ 1
    at_most true = omega arith
    at_most false = omega arith
front_next (suc n) size u (v ∷ units) has = go (length v == length u) refl (length u == length u) refl
  where
    all : suc (suc n) ≤ min 64 (cond (length u == length u) (1 + prefix_len (λ w. length w == length u) (v ∷ units)) 0)
    all = has.count

    go : (b : Bool) → (length v == length u) ≡ b → (c : Bool) → (length u == length u) ≡ c → HasMore (front (v ∷ units)) size (suc n)
    go true e true f =
        let same : length v ≡ length u = eqb-true (length v) (length u) e in
        let some : suc (suc n) ≤ min 64 (1 + prefix_len (λ w. length w == length u) (v ∷ units)) = subst (λ c. suc (suc n) ≤ min 64 (cond c (1 + prefix_len (λ w. length w == length u) (v ∷ units)) 0)) f all in
        record {
          count = subst (λ k. suc n ≤ min 64 (prefix_len (λ w. length w == k) (v ∷ units))) (sym same) (less (suc n) (prefix_len (λ w. length w == length u) (v ∷ units)) some);
          size = λ l. same ∙ has.size (omega arith);
        }
    go true e false f = absurd (omega (arith, least (suc (suc n)) 0 (subst (λ c. suc (suc n) ≤ min 64 (cond c (1 + prefix_len (λ w. length w == length u) (v ∷ units)) 0)) f all)))
    go false e c f =
        let none : prefix_len (λ w. length w == length u) (v ∷ units) ≡ 0 = ap (λ b. cond b (1 + prefix_len (λ w. length w == length u) units) 0) e in
        let one : cond c (1 + prefix_len (λ w. length w == length u) (v ∷ units)) 0 ≤ 1 = at_most c none in
        absurd (omega (arith, one, least (suc (suc n)) (cond c (1 + prefix_len (λ w. length w == length u) (v ∷ units)) 0) (subst (λ c. suc (suc n) ≤ min 64 (cond c (1 + prefix_len (λ w. length w == length u) (v ∷ units)) 0)) f all)))
      where
        at_most : (c : Bool) → prefix_len (λ w. length w == length u) (v ∷ units) ≡ 0 → cond c (1 + prefix_len (λ w. length w == length u) (v ∷ units)) 0 ≤ 1
        at_most true none = omega (arith, none)
        at_most false none = omega arith

-- after a block one less is offered
pub has_next : (config : Config) (out : Dir) (b n size : ℕ) (old next : Bearing) (block : List Bit) → Builds config out b old next block → HasMore (head_of config out b old) size (suc n) → HasMore (head_of config out b next) size n
has_next config out b n size (Transparent w us) next block built has =
    subst (λ x. HasMore (head_of config out b x) size n) (sym built.next_is) (front_next n size built.unit built.later (subst (λ units. HasMore (front units) size (suc n)) built.units has))
has_next config out b n size (Unacknowledged s r) next block built has =
    subst (λ x. HasMore (head_of config out b x) size n) (sym built.next_is) (record { count = um_next n 63 s.sending.pdu s.sending.mark_start s.sending.units built.some has.count; size = λ l. has.size (omega arith) })
has_next config out b n size (Acknowledged s r) next block built has =
    subst (λ x. HasMore (head_of config out b x) size n) (sym built.next_is)
    (record { count = am_next (rules_in config b) (pdu_octets config out b) n s r (is_due r) (mrw_due s.discard) (gives (rules_in config b) s) refl refl refl has.count; size = λ l. has.size (omega arith) })

-- and after some
pub gives_has : (config : Config) (out : Dir) (b k n size : ℕ) (old next : Bearing) (blocks : List (List Bit)) → Gives config out b k old next blocks → HasMore (head_of config out b old) size (k + n) → HasMore (head_of config out b next) size n
gives_has config out b zero n size old next blocks given has =
    let same : 0 + n ≡ n = omega arith in
    subst (λ x. HasMore (head_of config out b x) size n) (sym given.0) (subst (λ m. HasMore (head_of config out b old) size m) same has)
gives_has config out b (suc k) n size old next blocks given has =
    let same : suc k + n ≡ suc (k + n) = omega arith in
    gives_has config out b k n size given.next next given.rest given.later (has_next config out b (k + n) size old given.next given.block given.first (subst (λ m. HasMore (head_of config out b old) size m) same has))

gives_front : (config : Config) (out : Dir) (b n : ℕ) (old next last : Bearing) (block : List Bit) (rest blocks : List (List Bit)) → Builds config out b old next block → Gives config out b n next last rest → blocks ≡ block ∷ rest → Gives config out b (suc n) old last blocks
gives_front config out b n old next last block rest blocks first later all = record { next = next; block = block; rest = rest; first = first; later = later; all = all }

-- blocks behind others
pub gives_join : (config : Config) (out : Dir) (b m n : ℕ) (old mid next : Bearing) (xs ys : List (List Bit)) → Gives config out b m old mid xs → Gives config out b n mid next ys → Gives config out b (m + n) old next (xs ++ ys)
gives_join config out b zero n old mid next xs ys given later =
    let same : n ≡ 0 + n = omega arith in
    subst (λ m. Gives config out b m old next (xs ++ ys)) same
    (subst (λ zs. Gives config out b n old next (zs ++ ys)) (sym given.1) (subst (λ x. Gives config out b n x next ys) given.0 later))
gives_join config out b (suc m) n old mid next xs ys given later =
    let same : suc (m + n) ≡ suc m + n = omega arith in
    subst (λ k. Gives config out b k old next (xs ++ ys)) same
    (gives_front config out b (m + n) old given.next next given.block (given.rest ++ ys) (xs ++ ys) given.first (gives_join config out b m n given.next mid next given.rest ys given.later later) (ap (λ zs. zs ++ ys) given.all))

pub gives_one : (config : Config) (out : Dir) (b : ℕ) (old next : Bearing) (block : List Bit) → Builds config out b old next block → Gives config out b 1 old next (block ∷ [])
gives_one config out b old next block built = record { next = next; block = block; rest = []; first = built; later = (refl, refl); all = refl }

pub gives_none : (config : Config) (out : Dir) (b : ℕ) (old next : Bearing) (blocks : List (List Bit)) → Gives config out b 0 old next blocks → blocks ≡ []
gives_none config out b old next blocks given = given.1
