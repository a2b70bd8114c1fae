-- A PDU that arrives at an end, and what is told of it.
use Rattle.std.proofs.Common.{◌≡◌, ◌++◌, ◌∙◌, ℕ, List, [], ◌∷◌, Bool, true, false, length, map, take, arith, refl, sym, subst, ap, ap₂, length-take}
use Rattle.std.specs.Prelude.{nat_lt}
use Rattle.std.proofs.lemmas.Bool.{lt-ltb, ltb-false, ltb-true}
use Rattle.std.proofs.lemmas.List.{take_all}
use Rattle.dch_am.specs.Rules.{Rules}
use Rattle.dch_pair.specs.Answers.{waiting}
use Rattle.dch_rlcpdu.specs.Am.{am_reading}
use Rattle.dch_reset.specs.Answers.{answer_read, came_read}
use Rattle.dch_reset.specs.History.{handed_up}
use Rattle.dch_reset.specs.Standing.{Represents, Running, size_of, waiting_in}
use Rattle.dch_reset.specs.State.{State}
use Rattle.dch_reset.specs.declared.answers.Got.{Got}
use Rattle.dch_paircmd.specs.Ends.{PairEnd}
use Rattle.dch_paircmd.specs.Rules.{arrives_from}
use Rattle.dch_paircmd.specs.Handlers.{Arrives, IsSide, IsTold, SideValue}
use Rattle.dch_paircmd.specs.Texts.{got_text, unit_text, units_text}

-- more than 1,501 octets of a unit aren't wanted
units_cut : (n : ℕ) (us : List (List ℕ)) → units_text n (map (take 1501) us) ≡ units_text n us
units_cut n [] = refl
units_cut n (u ∷ us) = ap₂ (λ text texts. text ++ texts) (go (nat_lt 1500 (length u)) refl) (units_cut n us)
  where
    go : (c : Bool) → nat_lt 1500 (length u) ≡ c → unit_text n (take 1501 u) ≡ unit_text n u
    go true e =
        let l = ltb-true 1500 (length u) e in
        let long : nat_lt 1500 (length (take 1501 u)) ≡ true = lt-ltb 1500 (length (take 1501 u)) (omega (arith, length-take 1501 u, l)) in
        rw (e, long) refl
    go false e =
        let l = ltb-false 1500 (length u) e in
        ap (unit_text n) (take_all 1501 u (omega (arith, l)))

-- what is told of the units that wait
pub waiting_told : (n : ℕ) (rules : Rules) (v : Running) (e : State) → Represents rules v e → units_text n (waiting_in v) ≡ units_text n (waiting e.entity)
waiting_told n rules v e is = ap (units_text n) is.entity.receiver.units.waiting ∙ units_cut n (waiting e.entity)

-- the first PDU arrived, and what waited was handed up
pub arrived : {P : Type 0} (writes : P → List ℕ → P → Type 0) (n : ℕ) (rules : Rules) (v : SideValue) (mid last : Running) (later : List (List ℕ)) (octets : List ℕ) (s : PairEnd) (got : Got) (before one now : P) → ((a b c : P) (x y : List ℕ) → writes a x b → writes b y c → writes a (x ++ y) c) → IsSide rules v s → v.coming ≡ octets ∷ later → v.size ≡ size_of v.end
    → got ≡ answer_read rules s.state (am_reading octets) → Represents rules mid (came_read rules (size_of v.end) s.state (am_reading octets)) → Represents rules last (handed_up (came_read rules (size_of v.end) s.state (am_reading octets)))
    → writes before (got_text n got) one → writes one (units_text n (waiting_in mid)) now → Arrives writes rules n s (record { end = last; coming = later; size = v.size }) before now
arrived writes n rules v mid last later octets s got before one now joined is coming size answer came handed one_is now_is =
    let all : s.coming ≡ octets ∷ later = sym is.coming ∙ coming in
    let sizes : size_of v.end ≡ s.size = sym size ∙ is.size in
    let after : State = came_read rules s.size s.state (am_reading octets) in
    let mid_is : Represents rules mid after = subst (λ m. Represents rules mid (came_read rules m s.state (am_reading octets))) sizes came in
    let last_is : Represents rules last (handed_up after) = subst (λ m. Represents rules last (handed_up (came_read rules m s.state (am_reading octets)))) sizes handed in
    subst (λ line. IsTold writes rules (arrives_from rules n s line) (record { end = last; coming = later; size = v.size }) before now) (sym all) (record {
      side = record { end = last_is; size = is.size; coming = refl };
      wrote = joined before one now (got_text n (answer_read rules s.state (am_reading octets))) (units_text n (waiting after.entity))
          (subst (λ g. writes before (got_text n g) one) answer one_is) (subst (λ t. writes one t now) (waiting_told n rules mid after mid_is) now_is);
    })

-- none is in flight
pub none_arrived : {P : Type 0} (writes : P → List ℕ → P → Type 0) (n : ℕ) (rules : Rules) (v : SideValue) (s : PairEnd) (page : P) → writes page [] page → IsSide rules v s → v.coming ≡ [] → Arrives writes rules n s v page page
none_arrived writes n rules v s page nothing is coming =
    subst (λ line. IsTold writes rules (arrives_from rules n s line) v page page) (sym (sym is.coming ∙ coming)) (record { side = is; wrote = nothing })
