-- What two ends have done is delivered.
use Rattle.std.proofs.Common.{◌≡◌, ℕ, List, [], ◌∷◌, false, length, refl, ap}
use Rattle.std.specs.Prelude.{nat_lt}
use Rattle.std.proofs.lemmas.Bool.{le-ltb}
use Rattle.dch_am.specs.Rules.{Rules}
use Rattle.dch_pair.specs.Standing.{whole}
use Rattle.dch_reset.specs.Ends.{ResetPair}
use Rattle.dch_reset.specs.Law.{AreShort, IsSafe}
use Rattle.dch_reset.specs.Running.{AreDelivered, IsOutcome, Outcome}

-- units of at most 1,500 octets are whole
pub whole_short : (us : List (List ℕ)) → AreShort us → whole us ≡ us
whole_short [] f = refl
whole_short (u ∷ us) f = let e : nat_lt 1500 (length u) ≡ false = le-ltb 1500 (length u) f.0 in rw e (ap (λ vs. u ∷ vs) (whole_short us f.1))

-- what was done is delivered
pub delivered_is : (rules : Rules) (p : ResetPair) (o : Outcome) → IsSafe rules p → IsOutcome o p → AreDelivered o p
delivered_is rules p o safe is = record {
  to_second = record { all = is.second.units; delivered = safe.near_far };
  to_first = record { all = is.first.units; delivered = safe.far_near };
}
