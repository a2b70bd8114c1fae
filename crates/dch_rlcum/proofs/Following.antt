-- PDUs that could follow one another.
use Rattle.std.proofs.Common.{◌≡◌, ◌+◌, ◌-◌, ◌<◌, ℕ, zero, suc, List, Bool, true, false, cond, arith, refl, ap, ◌∙◌}
use Rattle.std.specs.Prelude.{nat_lt}
use Rattle.std.proofs.lemmas.Bool.{le-ltb, lt-ltb}
use Rattle.dch_txbuf.specs.declared.taken.Start.{Start}
use Rattle.dch_rlcum.specs.Queue.{units_at, IsPlace}
use Rattle.dch_rlcum.specs.Sending.{builds, is_unsent, units_after, Sending, Units}

-- so many PDUs are counted, and those that could follow begin at the place
pub record Follows (pdu : ℕ) (mark_start : Bool) (sdus : List (List ℕ)) (first : Start) (first_owed : Bool) (start : Start) (owed : Bool) (count : ℕ) : Type 0 where
  pub next : IsPlace sdus start owed
  pub all : count + builds (64 - count) pdu mark_start (units_at sdus start owed) ≡ builds 64 pdu mark_start (units_at sdus first first_owed)

pub no_more : (most pdu : ℕ) (mark_start : Bool) (u : Units) → is_unsent u ≡ false → builds most pdu mark_start u ≡ 0
unfolding builds
no_more zero pdu mark_start u none = refl
no_more (suc most) pdu mark_start u none = ap (λ b. cond b (suc (builds most pdu mark_start (units_after pdu mark_start u))) 0) none

pub one_more : (left most pdu : ℕ) (mark_start : Bool) (u : Units) → left ≡ suc most → is_unsent u ≡ true → builds left pdu mark_start u ≡ suc (builds most pdu mark_start (units_after pdu mark_start u))
unfolding builds
one_more zero most pdu mark_start u is some = absurd (omega arith)
one_more (suc left) most pdu mark_start u is some =
    let e : left ≡ most = omega arith in
    rw e (ap (λ b. cond b (suc (builds most pdu mark_start (units_after pdu mark_start u))) 0) some)

pub builds_none : (pdu : ℕ) (mark_start : Bool) (u : Units) → builds 0 pdu mark_start u ≡ 0
unfolding builds
builds_none pdu mark_start u = refl

zero_more : (n : ℕ) → 0 + n ≡ n
zero_more n = omega arith

pub follows_from : (pdu : ℕ) (mark_start : Bool) (sdus : List (List ℕ)) (first : Start) (owed : Bool) → IsPlace sdus first owed → Follows pdu mark_start sdus first owed first owed 0
follows_from pdu mark_start sdus first owed next = record { next = next; all = zero_more _ }

pub follows_on : (pdu : ℕ) (mark_start : Bool) (sdus : List (List ℕ)) (first : Start) (first_owed : Bool) (start : Start) (owed : Bool) (count : ℕ) (next : Start) (debt : Bool) → Follows pdu mark_start sdus first first_owed start owed count → count < 64 → is_unsent (units_at sdus start owed) ≡ true → IsPlace sdus next debt → units_at sdus next debt ≡ units_after pdu mark_start (units_at sdus start owed) → Follows pdu mark_start sdus first first_owed next debt (count + 1)
follows_on pdu mark_start sdus first first_owed start owed count next debt follows few some inside is =
    let step : builds (64 - count) pdu mark_start (units_at sdus start owed) ≡ suc (builds (64 - (count + 1)) pdu mark_start (units_after pdu mark_start (units_at sdus start owed))) = one_more (64 - count) (64 - (count + 1)) pdu mark_start (units_at sdus start owed) (omega (arith, few)) some in
    record { next = inside; all = ap (λ u. count + 1 + builds (64 - (count + 1)) pdu mark_start u) is ∙ omega (arith, step, follows.all) }

-- a place with nothing behind it
pub follows_end : (pdu : ℕ) (mark_start : Bool) (sdus : List (List ℕ)) (first : Start) (first_owed : Bool) (start : Start) (owed : Bool) (count : ℕ) → Follows pdu mark_start sdus first first_owed start owed count → is_unsent (units_at sdus start owed) ≡ false → count ≡ builds 64 pdu mark_start (units_at sdus first first_owed)
follows_end pdu mark_start sdus first first_owed start owed count follows none = omega (arith, follows.all, no_more (64 - count) pdu mark_start (units_at sdus start owed) none)

pub follows_all : (pdu : ℕ) (mark_start : Bool) (sdus : List (List ℕ)) (first : Start) (first_owed : Bool) (start : Start) (owed : Bool) (count : ℕ) → Follows pdu mark_start sdus first first_owed start owed count → count ≡ 64 → 64 ≡ builds 64 pdu mark_start (units_at sdus first first_owed)
follows_all pdu mark_start sdus first first_owed start owed count follows many =
    let e : 64 - count ≡ 0 = omega (arith, many) in
    let none : builds (64 - count) pdu mark_start (units_at sdus start owed) ≡ 0 = rw e (builds_none pdu mark_start (units_at sdus start owed)) in
    omega (arith, follows.all, none, many)

-- there is one exactly where octets are left or an indicator is owed
pub some_follow : (s : Sending) (count : ℕ) → count ≡ builds 64 s.pdu s.mark_start s.units → nat_lt 0 count ≡ is_unsent s.units
some_follow s count is = either (is_unsent s.units) refl
  where
    either : (b : Bool) → is_unsent s.units ≡ b → nat_lt 0 count ≡ b
    either true some = lt-ltb 0 count (omega (arith, is, one_more 64 63 s.pdu s.mark_start s.units (omega arith) some))
    either false none = le-ltb 0 count (omega (arith, is, no_more 64 s.pdu s.mark_start s.units none))
