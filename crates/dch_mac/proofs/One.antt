-- One combination is the best.
use Rattle.std.proofs.Common.{◌≡◌, ◌∙◌, ℕ, true, false, arith, refl, ap, sym}
use Rattle.std.specs.Ordering.{ordering_then, ordering_reverse, nat_cmp, is_gt}
use Rattle.std.specs.Cmp.Lexicographic.{slice_cmp}
use Rattle.std.specs.declared.cmp.Ordering.{Ordering}
use Rattle.std.specs.declared.cmp.Ordering.TheVariants.{Less, Equal, Greater}
use Rattle.std.proofs.lemmas.Bool.Decides.{nat_tests}
use Rattle.dch_mac.specs.Asked.{Asked}
use Rattle.dch_mac.specs.Best.{IsBest, bits_of, carried, compared}
use Rattle.dch_mac.proofs.Order.{compared_total}

-- what is alike in all is alike in the last
equal_last : (o p r : Ordering) → ordering_then o (ordering_then p r) ≡ Equal → r ≡ Equal
equal_last Less p r e = cc
equal_last Greater p r e = cc
equal_last Equal Less r e = cc
equal_last Equal Greater r e = cc
equal_last Equal Equal r e = e

equal_numbers : (a b : ℕ) → nat_cmp a b ≡ Equal → a ≡ b
equal_numbers a b e = grind (arith, nat_tests, e)

never : (a b : ℕ) → true ≡ false → a ≡ b
never a b e = cc

pub one_best : (asked : Asked) (a b : ℕ) → IsBest asked a → IsBest asked b → b ≡ a
one_best asked a b first second = go (compared asked a b) refl
  where
    back : compared asked b a ≡ ordering_reverse (compared asked a b)
    back = (compared_total asked).antisymm b a

    go : (o : Ordering) → compared asked a b ≡ o → b ≡ a
    go Less e = never b a (sym (ap is_gt (back ∙ ap ordering_reverse e)) ∙ first.best b second.candidate)
    go Greater e = never b a (sym (ap is_gt e) ∙ second.best a first.candidate)
    go Equal e = equal_numbers b a (equal_last (slice_cmp nat_cmp (carried asked a) (carried asked b)) (nat_cmp (bits_of asked b) (bits_of asked a)) (nat_cmp b a) e)
