-- The events of lines, as the rules of `pair` have them.
use Rattle.std.proofs.Common.{◌≡◌, ◌≢◌, ◌<◌, ◌≤◌, ◌++◌, ◌∙◌, ℕ, List, [], ◌∷◌, Bool, true, false, not, ◌&&◌, drop, length, refl, sym, subst, ap, ap₂}
use Rattle.std.specs.Prelude.{◌==◌, Result, Ok, Err, OnOk, IfErr, codes, nat_lt}
use Rattle.std.proofs.lemmas.Bool.{eq-eqb, lt-ltb, le-ltb, ne_eqb}
use Rattle.dch_am.specs.Rules.{Rules}
use Rattle.dch_am.specs.Sender.{offered}
use Rattle.dch_bits.specs.declared.offer.Offer.{Offer}
use Rattle.dch_reset.specs.State.{Build, IsWritten, Offer as Offers, Reset, Tick, step, turn, writes}
use Rattle.dch_script.specs.declared.event.LineError.{LineError}
use Rattle.dch_script.specs.declared.event.LineError.TheVariants.{When}
use Rattle.dch_script.specs.Pair.{ParsedPair, arrive, build, lose, offer, reset, tick}
use Rattle.dch_lines.specs.Texts.{octets_of}
use Rattle.dch_paircmd.specs.Ends.{Sides}
use Rattle.dch_paircmd.specs.Rules.{Happened, HappensAs, arrives_at, builds, is_early, may_build, offers, steps_to, told_near, with_coming}
use Rattle.dch_paircmd.specs.Handlers.{Answers, AreSides, Arrives, IsSide, LeadsTo, SideValue}
use Rattle.dch_paircmd.specs.Texts.{octets_text, offer_text}

-- nothing is told of an event
abbrev pub untold : Sides → Happened
untold s = record { sides = s; text = [] }

pub silent : {P : Type 0} (writes : P → List ℕ → P → Type 0) (rules : Rules) (s new : Sides) (line : ParsedPair) (near far : SideValue) (page : P) → writes page [] page → is_early rules s line ≡ false → HappensAs rules s line (untold new) → AreSides rules near far new → LeadsTo writes rules s line near far page page
silent writes rules s new line near far page nothing timely happens sides = record { timely = timely; after = untold new; happens = happens; sides = sides; wrote = nothing }

pub ticked : {P : Type 0} (writes : P → List ℕ → P → Type 0) (rules : Rules) (s : Sides) (end : ℕ) (near far new : SideValue) (page : P) → writes page [] page → AreSides rules near far s → IsSide rules new (record s.near { state = step rules s.near.size s.near.state Tick }) → LeadsTo writes rules s (tick end) new far page page
ticked writes rules s end near far new page nothing are is = silent writes rules s (steps_to rules s Tick) (tick end) new far page nothing refl refl (record { one = is; other = are.other })

pub began_reset : {P : Type 0} (writes : P → List ℕ → P → Type 0) (rules : Rules) (s : Sides) (end : ℕ) (near far new : SideValue) (page : P) → writes page [] page → AreSides rules near far s → IsSide rules new (record s.near { state = step rules s.near.size s.near.state Reset }) → LeadsTo writes rules s (reset end) new far page page
began_reset writes rules s end near far new page nothing are is = silent writes rules s (steps_to rules s Reset) (reset end) new far page nothing refl refl (record { one = is; other = are.other })

-- a PDU is lost
pub lost : {P : Type 0} (writes : P → List ℕ → P → Type 0) (rules : Rules) (s : Sides) (end : ℕ) (near far : SideValue) (page : P) → writes page [] page → AreSides rules near far s → (length near.coming == 0) ≡ false → LeadsTo writes rules s (lose end) (record near { coming = drop 1 near.coming }) far page page
lost writes rules s end near far page nothing are some =
    silent writes rules s (with_coming s (drop 1 s.near.coming)) (lose end) (record near { coming = drop 1 near.coming }) far page nothing (ap (λ (line : List (List ℕ)). length line == 0) (sym are.one.coming) ∙ some) refl (record {
      one = record { end = are.one.end; size = are.one.size; coming = ap (λ line. drop 1 line) are.one.coming };
      other = are.other;
    })

-- none is in flight
pub none_coming : (rules : Rules) (s : Sides) (near far : SideValue) → AreSides rules near far s → (length near.coming == 0) ≡ true → (length s.near.coming == 0) ≡ true
none_coming rules s near far are none = ap (λ (line : List (List ℕ)). length line == 0) (sym are.one.coming) ∙ none

-- it is lost, or none is in flight
pub lost_or_none : {P : Type 0} (writes : P → List ℕ → P → Type 0) (result : Result (Unit {0}) LineError) (rules : Rules) (s : Sides) (end : ℕ) (near new far : SideValue) (page : P) → writes page [] page → AreSides rules near far s
    → OnOk result ((length near.coming ≢ 0) × (new ≡ record near { coming = drop 1 near.coming })) → IfErr result (λ why. (why ≡ When) × (length near.coming ≡ 0)) → Answers writes result rules s (lose end) new far page page
lost_or_none writes (Ok done) rules s end near new far page nothing are is none =
    subst (λ (v : SideValue). LeadsTo writes rules s (lose end) v far page page) (sym is.1) (lost writes rules s end near far page nothing are (ne_eqb (length near.coming) 0 is.0))
lost_or_none writes (Err why) rules s end near new far page nothing are is none = (none.0, none_coming rules s near far are (eq-eqb (length near.coming) 0 none.1))

-- and one arrives
pub brought : {P : Type 0} (writes : P → List ℕ → P → Type 0) (rules : Rules) (s : Sides) (end : ℕ) (near far new : SideValue) (before now : P) → AreSides rules near far s → (length near.coming == 0) ≡ false → Arrives writes rules end s.near new before now → LeadsTo writes rules s (arrive end) new far before now
brought writes rules s end near far new before now are some arrives = record {
  timely = ap (λ (line : List (List ℕ)). length line == 0) (sym are.one.coming) ∙ some;
  after = told_near s (arrives_at rules end s.near);
  happens = refl;
  sides = record { one = arrives.side; other = are.other };
  wrote = arrives.wrote;
}

-- a unit is offered
pub given : {P : Type 0} (writes : P → List ℕ → P → Type 0) (rules : Rules) (s : Sides) (end : ℕ) (hex unit : List ℕ) (near far new : SideValue) (answer : Offer) (before now : P) → AreSides rules near far s → unit ≡ octets_of hex → answer ≡ offered rules s.near.state.entity.sender unit
    → IsSide rules new (record s.near { state = step rules s.near.size s.near.state (Offers unit) }) → writes before (offer_text end answer) now → LeadsTo writes rules s (offer end hex) new far before now
given writes rules s end hex unit near far new answer before now are same is new_is now_is = record {
  timely = refl;
  after = offers rules end s unit;
  happens = ap (offers rules end s) same;
  sides = record { one = new_is; other = are.other };
  wrote = subst (λ a. writes before (offer_text end a) now) is now_is;
}

-- a PDU is built
pub built : {P : Type 0} (puts : P → List ℕ → P → Type 0) (rules : Rules) (s : Sides) (end : ℕ) (near far new : SideValue) (out : List ℕ) (before now : P) → AreSides rules near far s → true ≡ writes (turn rules s.near.state) → length far.coming < 1024 → length out ≡ near.size
    → IsWritten (turn rules s.near.state) rules s.near.size out s.near.state → IsSide rules new (record s.near { state = step rules s.near.size s.near.state Build })
    → puts before (octets_text (codes "sent ") end out) now → LeadsTo puts rules s (build end) new (record far { coming = far.coming ++ out ∷ [] }) before now
built puts rules s end near far new out before now are due few long written new_is now_is = record {
  timely = ap₂ (λ a b. not (a && b)) (sym due) (ap (λ (line : List (List ℕ)). nat_lt (length line) 1024) (sym are.other.coming) ∙ lt-ltb (length far.coming) 1024 few);
  after = record { sides = builds rules s out; text = octets_text (codes "sent ") end out };
  happens = record { out = out; size = long ∙ are.one.size; is = written; holds = refl };
  sides = record { one = new_is; other = record { end = are.other.end; size = are.other.size; coming = ap (λ line. line ++ out ∷ []) are.other.coming } };
  wrote = now_is;
}

-- nothing is due, or too many are in flight
pub not_due : (rules : Rules) (s : Sides) → false ≡ writes (turn rules s.near.state) → not (may_build rules s) ≡ true
not_due rules s none = ap (λ a. not (a && nat_lt (length s.far.coming) 1024)) (sym none)

pub all_in_flight : (rules : Rules) (s : Sides) (far : SideValue) → IsSide rules far s.far → 1024 ≤ length far.coming → not (may_build rules s) ≡ true
all_in_flight rules s far is many = go (writes (turn rules s.near.state)) (ap (λ (line : List (List ℕ)). nat_lt (length line) 1024) (sym is.coming) ∙ le-ltb (length far.coming) 1024 many)
  where
    go : (a : Bool) → nat_lt (length s.far.coming) 1024 ≡ false → not (a && nat_lt (length s.far.coming) 1024) ≡ true
    go true e = ap not e
    go false e = refl
