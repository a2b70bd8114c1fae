-- Of the blocks of a channel that starts, those of a bearer are just what it built.
use Rattle.std.proofs.Common.{◌≡◌, ◌<◌, ◌≤◌, ℕ, zero, suc, List, [], ◌∷◌, ◌++◌, Bool, true, false, cond, ◌&&◌, Some, length, arith, refl, sym, ap, ◌∙◌, subst}
use Rattle.std.specs.Prelude.{◌==◌, filter}
use Rattle.std.proofs.lemmas.List.{append-nil}
use Rattle.std.proofs.lemmas.List.Elements.{filter-append}
use Rattle.dch_bits.specs.declared.bit.Bit.{Bit}
use Rattle.dch_types.specs.declared.channel.Dir.{Dir}
use Rattle.dch_types.specs.declared.config.Config.{Config}
use Rattle.dch_mac.specs.Asked.{Asked, priority_of, starts}
use Rattle.dch_layer2.specs.Bearings.{bearer_in, channel_of}
use Rattle.dch_layer2.specs.Building.{Gives}
use Rattle.dch_layer2.specs.Layers.{Layer}
use Rattle.dch_layer2.specs.Starting.{IsStart, asked_in, count_on, in_turn, is_on, joined, of_priority}
use Rattle.dch_layer2.proofs.Good.{there}
use Rattle.dch_runlaw.specs.Doings.{given_by, Starts}
use Rattle.dch_runlaw.specs.History.{AreApart, is_mine}
use Rattle.dch_runlaw.proofs.Giving.{joined-append, mine_all}
use Rattle.dch_runlaw.proofs.Names.{both_true, is_named_by, named_is, number_same, other_number, same_number}
use Rattle.dch_runlaw.proofs.Sublists.{either}

-- a test keeps all blocks of bearer b, and none of another one that is on the channel
pub record Keeps (asked : Asked) (i b : ℕ) (p : List Bit → Bool) (built : ℕ → List (List Bit)) : Type 0 where
  pub own : filter p (built b) ≡ built b
  pub other : (c : ℕ) → is_on asked i c ≡ true → (b == c) ≡ false → filter p (built c) ≡ []
  pub on : is_on asked i b ≡ true

filter_joined : (p : List Bit → Bool) (built : ℕ → List (List Bit)) (xs ys : List ℕ) → filter p (joined built (xs ++ ys)) ≡ filter p (joined built xs) ++ filter p (joined built ys)
filter_joined p built xs ys = ap (filter p) (joined-append built xs ys) ∙ filter-append p (joined built xs) (joined built ys)

one_of : (p : List Bit → Bool) (built : ℕ → List (List Bit)) (c : ℕ) → filter p (joined built (c ∷ [])) ≡ filter p (built c)
one_of p built c = ap (filter p) (append-nil (built c))

-- where b is past the first bearers or has another priority
absent : (asked : Asked) (i b : ℕ) (p : List Bit → Bool) (built : ℕ → List (List Bit)) (q n : ℕ) → Keeps asked i b p built → (b < n → priority_of asked b ≡ q → ⊥) → filter p (joined built (of_priority asked i q n)) ≡ []
absent asked i b p built q zero k f = refl
absent asked i b p built q (suc c) k f = either (priority_of asked c == q && is_on asked i c)
    (λ e. let both = both_true (priority_of asked c == q) (is_on asked i c) e in
    let differ : (b == c) ≡ false = other_number b c (λ same. f (omega arith) (ap (priority_of asked) same ∙ number_same (priority_of asked c) q both.0)) in
    subst (λ t. filter p (joined built (of_priority asked i q c ++ cond t (c ∷ []) [])) ≡ []) (sym e)
    (filter_joined p built (of_priority asked i q c) (c ∷ []) ∙ rw (absent asked i b p built q c k (λ l. f (omega arith)), one_of p built c) (k.other c both.1 differ)))
    (λ e. subst (λ t. filter p (joined built (of_priority asked i q c ++ cond t (c ∷ []) [])) ≡ []) (sym e)
    (ap (λ l. filter p (joined built l)) (append-nil (of_priority asked i q c)) ∙ absent asked i b p built q c k (λ l. f (omega arith))))

present : (asked : Asked) (i b : ℕ) (p : List Bit → Bool) (built : ℕ → List (List Bit)) (q n : ℕ) → Keeps asked i b p built → b < n → priority_of asked b ≡ q → filter p (joined built (of_priority asked i q n)) ≡ built b
present asked i b p built q zero k l e = absurd (omega arith)
present asked i b p built q (suc c) k l e = either (b == c)
    (λ s. let same : b ≡ c = number_same b c s in
    let test : (priority_of asked c == q && is_on asked i c) ≡ true = subst (λ x. (priority_of asked x == q && is_on asked i x) ≡ true) same (rw (same_number (priority_of asked b) q e) k.on) in
    subst (λ t. filter p (joined built (of_priority asked i q c ++ cond t (c ∷ []) [])) ≡ built b) (sym test)
    (filter_joined p built (of_priority asked i q c) (c ∷ []) ∙ rw (absent asked i b p built q c k (λ m. absurd (omega (arith, m, same))), one_of p built c) (subst (λ x. filter p (built x) ≡ built b) same k.own)))
    (λ s. let differ : b < c = less s in
    either (priority_of asked c == q && is_on asked i c)
    (λ t. let both = both_true (priority_of asked c == q) (is_on asked i c) t in
    subst (λ t. filter p (joined built (of_priority asked i q c ++ cond t (c ∷ []) [])) ≡ built b) (sym t)
    (filter_joined p built (of_priority asked i q c) (c ∷ []) ∙ rw (present asked i b p built q c k differ e, one_of p built c, k.other c both.1 s) (append-nil (built b))))
    (λ t. subst (λ t. filter p (joined built (of_priority asked i q c ++ cond t (c ∷ []) [])) ≡ built b) (sym t)
    (ap (λ l. filter p (joined built l)) (append-nil (of_priority asked i q c)) ∙ present asked i b p built q c k differ e)))
  where
    less : (b == c) ≡ false → b < c
    less s =
        let differs : b ≡ c → ⊥ = λ same. let t : (b == c) ≡ true = same_number b c same in absurd (cc) in
        omega (arith, l, differs)

absent_turns : (asked : Asked) (i b : ℕ) (p : List Bit → Bool) (built : ℕ → List (List Bit)) (q : ℕ) → Keeps asked i b p built → q < priority_of asked b → filter p (joined built (in_turn asked i q)) ≡ []
absent_turns asked i b p built zero k l = refl
absent_turns asked i b p built (suc q) k l =
    filter_joined p built (in_turn asked i q) (of_priority asked i (suc q) (length asked.bearers))
    ∙ rw (absent_turns asked i b p built q k (omega arith)) (absent asked i b p built (suc q) (length asked.bearers) k (λ _ e. absurd (omega (arith, l, e))))

pub present_turns : (asked : Asked) (i b : ℕ) (p : List Bit → Bool) (built : ℕ → List (List Bit)) (q : ℕ) → Keeps asked i b p built → b < length asked.bearers → 1 ≤ priority_of asked b → priority_of asked b ≤ q → filter p (joined built (in_turn asked i q)) ≡ built b
present_turns asked i b p built zero k there low high = absurd (omega arith)
present_turns asked i b p built (suc q) k there low high = either (priority_of asked b == suc q)
    (λ e. let same : priority_of asked b ≡ suc q = number_same (priority_of asked b) (suc q) e in
    filter_joined p built (in_turn asked i q) (of_priority asked i (suc q) (length asked.bearers))
    ∙ rw (absent_turns asked i b p built q k (omega (arith, same))) (present asked i b p built (suc q) (length asked.bearers) k there same))
    (λ e. let differs : priority_of asked b ≡ suc q → ⊥ = λ same. let t : (priority_of asked b == suc q) ≡ true = same_number (priority_of asked b) (suc q) same in absurd (cc) in
    filter_joined p built (in_turn asked i q) (of_priority asked i (suc q) (length asked.bearers))
    ∙ rw (present_turns asked i b p built q k there low (omega (arith, high, differs)), absent asked i b p built (suc q) (length asked.bearers) k (λ _ f. differs f)) (append-nil (built b)))

-- what a start gives to a channel, as far as it is the bearer's
pub start_mine : (config : Config) (out : Dir) (cfn b i : ℕ) (old new : Layer) (st : IsStart config out cfn old new) → AreApart config out i → channel_of config out b ≡ Some i → 1 ≤ (bearer_in config b).priority → (bearer_in config b).priority ≤ 8 → filter (is_mine config out b i) (given_by config out old (Starts cfn) new i) ≡ st.built b
start_mine config out cfn b i old new st apart on low high = either (starts asked i)
    (λ e. rw (e, st.given i, e) (present_turns asked i b (is_mine config out b i) st.built 8 keeps (there config out b i on) low high))
    (λ e. rw e (sym (none e)))
  where
    asked : Asked
    asked = asked_in config out cfn old

    gives : (c : ℕ) → Gives config out c (count_on asked new.running c (channel_of config out c)) (old.bearings c) (new.bearings c) (st.built c)
    gives = st.gives

    keeps : Keeps asked i b (is_mine config out b i) st.built
    keeps = record {
      own = mine_all config out b b i (count_on asked new.running b (channel_of config out b)) (old.bearings b) (new.bearings b) (st.built b) true (same_number b b refl) apart on (gives b);
      other = λ c t f. mine_all config out b c i (count_on asked new.running c (channel_of config out c)) (old.bearings c) (new.bearings c) (st.built c) false f apart (named_is (channel_of config out c) i t) (gives c);
      on = is_named_by (channel_of config out b) i on;
    }

    none : starts asked i ≡ false → st.built b ≡ []
    none e =
        let n : count_on asked new.running b (channel_of config out b) ≡ 0 = ap (count_on asked new.running b) on ∙ rw e refl in
        let g : (new.bearings b ≡ old.bearings b) × (st.built b ≡ []) = subst (λ n. Gives config out b n (old.bearings b) (new.bearings b) (st.built b)) n (gives b) in
        g.1
