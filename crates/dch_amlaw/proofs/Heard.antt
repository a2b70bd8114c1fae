-- What a receiver tells, as its peer hears it: the fields of an MRW_ACK and of a status.
use Rattle.std.proofs.Common.{◌≡◌, ◌+◌, ◌≤◌, ℕ, zero, suc, List, [], ◌∷◌, ◌++◌, Bool, true, false, cond, ◌||◌, length, take, drop, length-drop, Option, Some, None, arith, refl, sym, ap, ◌∙◌, append_assoc}
use Rattle.std.specs.Prelude.{not, nat_lt, nat_le, map}
use Rattle.std.proofs.lemmas.List.{take-append-drop}
use Rattle.dch_am.specs.Numbers.{range, wrapped}
use Rattle.dch_am.specs.Rules.{Rules}
use Rattle.dch_rlcpdu.specs.Fields.{Field, AckField, ListField, MrwAckField, fifteens, status_fields}
use Rattle.dch_am.specs.Names.{named}
use Rattle.dch_am.specs.Bodies.{is_empty}
use Rattle.dch_am.specs.Moves.{move_in}
use Rattle.dch_am.specs.Status.{Status, wrapped_pair, wrapped_status, wrapped_ack, Told, OnlyAck, OnlyStatus, AckAndStatus, fields_of}
use Rattle.dch_am.specs.Sender.{Sender, vt_s, vt_a}
use Rattle.dch_am.specs.Acknowledging.{read_from, unwrap, told, after_ack, after_acks, first_beyond, offending, first_of_both, all_names, lsn_of, reports, outside_of, status_answer, after_telling_of, after_answer, after_fields}
use Rattle.dch_amlaw.specs.Pair.{is_refused}

-- some of these are n or more
abbrev pub reaches : ℕ → List ℕ → Bool
reaches n [] = false
reaches n (x ∷ xs) = nat_le n x || reaches n xs

-- a status, in 12 bits, names a number that was never sent or lies below the window
abbrev pub is_outside : Sender → Status → Bool
is_outside s t = nat_lt (vt_s s) (read_from (vt_a s) t.lsn) || reaches (vt_s s) (unwrap (vt_a s) (named t.pairs))

abbrev pub after_status : Sender → Status → Sender
after_status s t = told s (unwrap (vt_a s) (named t.pairs)) (read_from (vt_a s) t.lsn)

abbrev pub told_outside : Sender → Told → Bool
told_outside s (OnlyAck a) = false
told_outside s (OnlyStatus t) = is_outside s (wrapped_status t)
told_outside s (AckAndStatus a t) = is_outside (after_ack s (wrapped_ack a)) (wrapped_status t)

abbrev pub after_inside : Sender → Told → Sender
after_inside s (OnlyAck a) = after_ack s (wrapped_ack a)
after_inside s (OnlyStatus t) = after_status s (wrapped_status t)
after_inside s (AckAndStatus a t) = after_status (after_ack s (wrapped_ack a)) (wrapped_status t)

abbrev pub after_told : Sender → Told → Sender
after_told s t = cond (told_outside s t) s (after_inside s t)

abbrev is_some : Option ℕ → Bool
is_some None = false
is_some (Some i) = true

-- what is read in fields
record IsHeard (base next lsn : ℕ) (names : List ℕ) (fields : List Field) : Type 0 where
  offends : (window : ℕ) → is_some (offending window base next fields) ≡ (nat_lt next (read_from base lsn) || reaches next names)
  names_are : all_names base next fields ≡ names
  lsn_is : lsn_of base fields ≡ read_from base lsn
  reports_some : reports fields ≡ true
  no_ack : (s : Sender) → after_acks s fields ≡ s

unwrap-append : (base : ℕ) (xs ys : List ℕ) → unwrap base (xs ++ ys) ≡ unwrap base xs ++ unwrap base ys
unwrap-append base [] ys = refl
unwrap-append base (x ∷ xs) ys = ap (λ zs. read_from base x ∷ zs) (unwrap-append base xs ys)

named-append : (ps qs : List (ℕ × ℕ)) → named (ps ++ qs) ≡ named ps ++ named qs
named-append [] qs = refl
named-append (p ∷ ps) qs = ap (λ xs. range p.0 (p.1 + 1) ++ xs) (named-append ps qs) ∙ sym (append_assoc (range p.0 (p.1 + 1)) (named ps) (named qs))

reaches-append : (n : ℕ) (xs ys : List ℕ) → reaches n (xs ++ ys) ≡ (reaches n xs || reaches n ys)
reaches-append n [] ys = refl
reaches-append n (x ∷ xs) ys = go (nat_le n x) (reaches-append n xs ys)
  where
    go : (b : Bool) → reaches n (xs ++ ys) ≡ (reaches n xs || reaches n ys) → (b || reaches n (xs ++ ys)) ≡ ((b || reaches n xs) || reaches n ys)
    go true e = refl
    go false e = e

some_or : (a b : Option ℕ) → is_some (first_of_both a b) ≡ (is_some a || is_some b)
some_or None b = refl
some_or (Some i) b = refl

some_cond : (c : Bool) (i : ℕ) (o : Option ℕ) → is_some (cond c (Some i) o) ≡ (c || is_some o)
some_cond true i o = refl
some_cond false i o = refl

some-beyond : (base next : ℕ) (xs : List ℕ) → is_some (first_beyond base next xs) ≡ reaches next (unwrap base xs)
some-beyond base next [] = refl
some-beyond base next (x ∷ xs) = some_cond (nat_le next (read_from base x)) (wrapped x) (first_beyond base next xs) ∙ ap (λ b. nat_le next (read_from base x) || b) (some-beyond base next xs)

or_swap : (a b c : Bool) → (a || (b || c)) ≡ (b || (a || c))
or_swap true true c = refl
or_swap true false c = refl
or_swap false true c = refl
or_swap false false c = refl

heard_ack : (base next lsn : ℕ) → IsHeard base next lsn [] (AckField lsn ∷ [])
heard_ack base next lsn = record {
  offends = λ window. some_or (cond (nat_lt next (read_from base lsn)) (Some (wrapped lsn)) None) None ∙ ap (λ b. b || false) (some_cond (nat_lt next (read_from base lsn)) (wrapped lsn) None) ∙ twice (nat_lt next (read_from base lsn));
  names_are = refl;
  lsn_is = refl;
  reports_some = refl;
  no_ack = λ s. refl;
}
  where
    twice : (b : Bool) → ((b || false) || false) ≡ (b || false)
    twice true = refl
    twice false = refl

or_true : (b : Bool) → (b || true) ≡ true
or_true true = refl
or_true false = refl

heard_list : (base next lsn : ℕ) (names : List ℕ) (pairs : List (ℕ × ℕ)) (fields : List Field) → IsHeard base next lsn names fields → IsHeard base next lsn (unwrap base (named pairs) ++ names) (ListField pairs ∷ fields)
heard_list base next lsn names pairs fields h = record {
  offends = λ window.
      some_or (first_beyond base next (named pairs)) (offending window base next fields)
      ∙ ap (λ b. b || is_some (offending window base next fields)) (some-beyond base next (named pairs))
      ∙ ap (λ b. reaches next (unwrap base (named pairs)) || b) (h.offends window)
      ∙ or_swap (reaches next (unwrap base (named pairs))) (nat_lt next (read_from base lsn)) (reaches next names)
      ∙ ap (λ b. nat_lt next (read_from base lsn) || b) (sym (reaches-append next (unwrap base (named pairs)) names));
  names_are = ap (λ xs. unwrap base (named pairs) ++ xs) h.names_are;
  lsn_is = h.lsn_is;
  reports_some = ap (λ b. not (is_empty pairs) || b) h.reports_some ∙ or_true (not (is_empty pairs));
  no_ack = h.no_ack;
}

renamed : (base next lsn : ℕ) (xs ys : List ℕ) (fields : List Field) → xs ≡ ys → IsHeard base next lsn xs fields → IsHeard base next lsn ys fields
renamed base next lsn xs ys fields e h = record {
  offends = λ window. h.offends window ∙ ap (λ zs. nat_lt next (read_from base lsn) || reaches next zs) e;
  names_are = h.names_are ∙ e;
  lsn_is = h.lsn_is;
  reports_some = h.reports_some;
  no_ack = h.no_ack;
}

heard : (base next lsn k : ℕ) (pairs : List (ℕ × ℕ)) → length pairs ≤ k → IsHeard base next lsn (unwrap base (named pairs)) (map ListField (fifteens k pairs) ++ AckField lsn ∷ [])
heard base next lsn zero [] le = heard_ack base next lsn
heard base next lsn zero (p ∷ ps) le = absurd (omega arith)
heard base next lsn (suc k) [] le = heard_ack base next lsn
heard base next lsn (suc k) (p ∷ ps) le =
    renamed base next lsn _ _ (ListField (take 15 (p ∷ ps)) ∷ (map ListField (fifteens k (drop 15 (p ∷ ps))) ++ AckField lsn ∷ []))
    (sym (unwrap-append base (named (take 15 (p ∷ ps))) (named (drop 15 (p ∷ ps)))) ∙ ap (unwrap base) (sym (named-append (take 15 (p ∷ ps)) (drop 15 (p ∷ ps)))) ∙ ap (λ qs. unwrap base (named qs)) (take-append-drop 15 (p ∷ ps)))
    (heard_list base next lsn _ (take 15 (p ∷ ps)) (map ListField (fifteens k (drop 15 (p ∷ ps))) ++ AckField lsn ∷ []) (heard base next lsn k (drop 15 (p ∷ ps)) (omega (arith, length-drop 15 (p ∷ ps)))))

-- what fields with such contents do to a sender, where their MRW_ACKs leave this one
record Does (rules : Rules) (s after : Sender) (t : Status) (fields : List Field) : Type 0 where
  answer : is_refused (status_answer rules s fields) ≡ is_outside after t
  effect : after_fields rules s fields ≡ cond (is_outside after t) s (after_status after t)

does : (rules : Rules) (s after : Sender) (t : Status) (fields : List Field) → after_acks s fields ≡ after → ((window : ℕ) → is_some (offending window (vt_a after) (vt_s after) fields) ≡ is_outside after t) → all_names (vt_a after) (vt_s after) fields ≡ unwrap (vt_a after) (named t.pairs) → lsn_of (vt_a after) fields ≡ read_from (vt_a after) t.lsn → reports fields ≡ true → Does rules s after t fields
does rules s after t fields e offends names lsn some = go (offending rules.window (vt_a after) (vt_s after) fields) (ap (λ x. outside_of (offending rules.window (vt_a x) (vt_s x) fields)) e) (offends rules.window)
  where
    one : after_telling_of (after_acks s fields) fields ≡ after_status after t
    one = ap (λ x. after_telling_of x fields) e ∙ ap (λ b. cond b (told after (all_names (vt_a after) (vt_s after) fields) (lsn_of (vt_a after) fields)) after) some ∙ ap (λ xs. told after xs (lsn_of (vt_a after) fields)) names ∙ ap (told after (unwrap (vt_a after) (named t.pairs))) lsn

    go : (o : Option ℕ) → status_answer rules s fields ≡ outside_of o → is_some o ≡ is_outside after t → Does rules s after t fields
    go None a q = record {
      answer = ap is_refused a ∙ q;
      effect = ap (λ x. after_answer x s fields) a ∙ one ∙ ap (λ b. cond b s (after_status after t)) q;
    }
    go (Some i) a q = record {
      answer = ap is_refused a ∙ q;
      effect = ap (λ x. after_answer x s fields) a ∙ ap (λ b. cond b s (after_status after t)) q;
    }

status_does : (rules : Rules) (s : Sender) (t : Status) → Does rules s s t (status_fields t.pairs t.lsn)
status_does rules s t =
    let h = heard (vt_a s) (vt_s s) t.lsn (length t.pairs) t.pairs (omega arith) in
    does rules s s t (status_fields t.pairs t.lsn) (h.no_ack s) h.offends h.names_are h.lsn_is h.reports_some

both_do : (rules : Rules) (s after : Sender) (t : Status) (n sn : ℕ) → after_ack s (record { number = sn; n = n }) ≡ after → Does rules s after t (MrwAckField n sn ∷ status_fields t.pairs t.lsn)
both_do rules s after t n sn e =
    let h = heard (vt_a after) (vt_s after) t.lsn (length t.pairs) t.pairs (omega arith) in
    does rules s after t (MrwAckField n sn ∷ status_fields t.pairs t.lsn) (h.no_ack (after_ack s (record { number = sn; n = n })) ∙ e) h.offends h.names_are h.lsn_is h.reports_some

-- on what an honest receiver writes, the answer and the sender after it
pub fields_answer : (rules : Rules) (s : Sender) (t : Told) → is_refused (status_answer rules s (fields_of t)) ≡ told_outside s t
fields_answer rules s (OnlyAck a) = refl
fields_answer rules s (OnlyStatus t) = (status_does rules s (wrapped_status t)).answer
fields_answer rules s (AckAndStatus a t) = (both_do rules s (after_ack s (wrapped_ack a)) (wrapped_status t) a.n (wrapped a.number) refl).answer

pub fields_effect : (rules : Rules) (s : Sender) (t : Told) → after_fields rules s (fields_of t) ≡ after_told s t
fields_effect rules s (OnlyAck a) = refl
fields_effect rules s (OnlyStatus t) = (status_does rules s (wrapped_status t)).effect
fields_effect rules s (AckAndStatus a t) = (both_do rules s (after_ack s (wrapped_ack a)) (wrapped_status t) a.n (wrapped a.number) refl).effect

-- a status moves nothing
lists_still : (ls : List (List (ℕ × ℕ))) (fields : List Field) → move_in (map ListField ls ++ fields) ≡ move_in fields
lists_still [] fields = refl
lists_still (l ∷ ls) fields = lists_still ls fields

status_still : (pairs : List (ℕ × ℕ)) (lsn : ℕ) → move_in (status_fields pairs lsn) ≡ None
status_still pairs lsn = lists_still (fifteens (length pairs) pairs) (AckField lsn ∷ [])

pub told_still : (t : Told) → move_in (fields_of t) ≡ None
told_still (OnlyAck a) = refl
told_still (OnlyStatus t) = status_still (map wrapped_pair t.pairs) (wrapped t.lsn)
told_still (AckAndStatus a t) = status_still (map wrapped_pair t.pairs) (wrapped t.lsn)
