-- Better combinations, one after another.
use Rattle.std.proofs.Common.{◌≡◌, ◌<◌, ◌+◌, ℕ, true, false, refl, ap, sym, ◌∙◌, arith, below_more}
use Rattle.std.specs.Prelude.{Option, Some, None}
use Rattle.std.specs.Ordering.{ordering_then, ordering_reverse, nat_cmp, is_gt}
use Rattle.std.specs.declared.cmp.Ordering.{Ordering}
use Rattle.std.specs.declared.cmp.Ordering.TheVariants.{Less, Equal, Greater}
use Rattle.std.specs.Cmp.{IsTotalOrder, then_total, back_total, on_total, nat_cmp_total}
use Rattle.std.specs.Cmp.Lexicographic.{slice_cmp, nat_list_cmp_total}
use Rattle.std.proofs.lemmas.Bool.Decides.{nat_tests}
use Rattle.std.proofs.lemmas.Cmp.{upto, tied_itself}
use Rattle.dch_mac.specs.Asked.{Asked}
use Rattle.dch_mac.specs.Best.{carried, bits_of, compared}
use Rattle.dch_mac.specs.Candidates.{IsCandidate}
use Rattle.dch_mac.specs.Choices.{IsChoice, IsBestBelow, IsBestOf}
use Rattle.dch_mac.specs.declared.best.Choice.{Choice}

pub compared_total : (asked : Asked) → IsTotalOrder (compared asked)
compared_total asked =
    then_total (on_total (carried asked) nat_list_cmp_total) (then_total (back_total (on_total (bits_of asked) nat_cmp_total)) (back_total nat_cmp_total))

then_less : (o p r : Ordering) → r ≡ Less → is_gt (ordering_then o (ordering_then p r)) ≡ is_gt (ordering_then o p)
then_less Less p r e = refl
then_less Greater p r e = refl
then_less Equal Less r e = refl
then_less Equal Greater r e = refl
then_less Equal Equal r e = ap is_gt e

earlier_less : (a b : ℕ) → a < b → nat_cmp a b ≡ Less
earlier_less a b less = grind (arith, nat_tests)

-- a later combination, by its list and its bits alone
pub later : (asked : Asked) (choice earlier : Choice) → IsChoice asked choice → IsChoice asked earlier → earlier.combination < choice.combination
    → is_gt (compared asked choice.combination earlier.combination) ≡ is_gt (ordering_then (slice_cmp nat_cmp choice.carried earlier.carried) (nat_cmp earlier.bits choice.bits))
later asked choice earlier is_choice is_earlier less =
    then_less (slice_cmp nat_cmp (carried asked choice.combination) (carried asked earlier.combination)) (nat_cmp (bits_of asked earlier.combination) (bits_of asked choice.combination)) (nat_cmp earlier.combination choice.combination) (earlier_less earlier.combination choice.combination less)
    ∙ rw (← is_choice.carried, ← is_choice.bits, ← is_earlier.carried, ← is_earlier.bits) refl

not_both : (o p : Ordering) → p ≡ ordering_reverse o → is_gt o ≡ true → is_gt p ≡ false
not_both Less p e greater = cc
not_both Equal p e greater = cc
not_both Greater p e greater = ap is_gt e

-- the best stays, since the next one is no candidate or no better
pub stays : (asked : Asked) (c : ℕ) (best : Choice) → IsBestBelow asked c best → (IsCandidate asked c → is_gt (compared asked c best.combination) ≡ false) → IsBestBelow asked (c + 1) best
stays asked c best below worse = record {
  what = below.what;
  below = let less = below.below in omega arith;
  candidate = below.candidate;
  best = below_more _ _ below.best worse;
}

-- the next one is better than the best of those before
pub replaced : (asked : Asked) (c : ℕ) (best choice : Choice) → IsBestBelow asked c best → IsChoice asked choice → choice.combination ≡ c → IsCandidate asked choice.combination
    → is_gt (compared asked choice.combination best.combination) ≡ true → IsBestBelow asked (c + 1) choice
replaced asked c best choice below what number candidate better = record {
  what = what;
  below = omega arith;
  candidate = candidate;
  best = below_more _ _
      (λ other less may. upto (compared_total asked) other best.combination choice.combination (below.best other less may)
      (not_both (compared asked choice.combination best.combination) (compared asked best.combination choice.combination) ((compared_total asked).antisymm best.combination choice.combination) better))
      (λ may. ap (λ k. is_gt (compared asked k choice.combination)) (sym number) ∙ ap is_gt (tied_itself (compared_total asked) choice.combination));
}

-- the next one is the first
pub begun : (asked : Asked) (c : ℕ) (choice : Choice) → ((other : ℕ) → other < c → ¬ IsCandidate asked other) → IsChoice asked choice → choice.combination ≡ c → IsCandidate asked choice.combination
    → IsBestBelow asked (c + 1) choice
begun asked c choice none what number candidate = record {
  what = what;
  below = omega arith;
  candidate = candidate;
  best = below_more _ _ (λ other less may. absurd (none other less may))
      (λ may. ap (λ k. is_gt (compared asked k choice.combination)) (sym number) ∙ ap is_gt (tied_itself (compared_total asked) choice.combination));
}

-- the next one may not be chosen
pub passed : (asked : Asked) (c : ℕ) (best : Option Choice) → IsBestOf asked c best → ¬ IsCandidate asked c → IsBestOf asked (c + 1) best
passed asked c None none not_this = below_more _ _ none not_this
passed asked c (Some choice) below not_this = stays asked c choice below (λ may. absurd (not_this may))
