-- The bearers of a channel in turn give just as many blocks as a format has, where so many wait.
use Rattle.std.proofs.Common.{◌≡◌, ◌<◌, ◌≤◌, ◌+◌, ℕ, zero, suc, List, [], ◌∷◌, ◌++◌, Bool, true, false, cond, ◌&&◌, length, arith, refl, sym, ap, ◌∙◌}
use Rattle.std.specs.Prelude.{◌==◌, min}
use Rattle.std.proofs.lemmas.List.{append-nil}
use Rattle.dch_types.specs.declared.channel.Format.{Format}
use Rattle.dch_mac.specs.Asked.{Asked, priority_of}
use Rattle.dch_mac.specs.Offered.{given, waiting}
use Rattle.dch_layer2.specs.Starting.{in_turn, is_on, of_priority}
use Rattle.dch_layer2.proofs.Serving.{served}
use Rattle.dch_layer2.proofs.Sums.{both_true, share_all, share_first, share_given, share_more, share_next, share_same}

-- the sum over a list of bearers
abbrev pub sum_on : (ℕ → ℕ) → List ℕ → ℕ
sum_on f [] = 0
sum_on f (b ∷ bs) = f b + sum_on f bs

pub sum_on-append : (f : ℕ → ℕ) (xs ys : List ℕ) → sum_on f (xs ++ ys) ≡ sum_on f xs + sum_on f ys
sum_on-append f [] ys = omega arith
sum_on-append f (x ∷ xs) ys = omega (arith, sum_on-append f xs ys)

-- the next bearer of a priority, if it is on the channel, gives what is left to it
given_more : (asked : Asked) (i : ℕ) (format : Format) (q b n : ℕ) → b < length asked.bearers → (priority_of asked b == suc q) ≡ true → is_on asked i b ≡ true → n ≡ min format.number (served asked i format.size q b) →
    n + given asked i format b ≡ min format.number (served asked i format.size q (suc b))
given_more asked i format q b n l e on is = ap (λ m. n + m) (sym (share_given asked i format q b n e on is)) ∙ share_more asked i format q b n l e on is

of_some : (asked : Asked) (i : ℕ) (format : Format) (q b : ℕ) (front : List ℕ) → b ≤ length asked.bearers → sum_on (given asked i format) front ≡ min format.number (served asked i format.size q 0)
    → sum_on (given asked i format) (front ++ of_priority asked i (suc q) b) ≡ min format.number (served asked i format.size q b)
of_some asked i format q zero front l e = ap (sum_on (given asked i format)) (append-nil front) ∙ e
of_some asked i format q (suc b) front l e =
    let so : sum_on (given asked i format) front + sum_on (given asked i format) (of_priority asked i (suc q) b) ≡ min format.number (served asked i format.size q b) = sym (sum_on-append (given asked i format) front (of_priority asked i (suc q) b)) ∙ of_some asked i format q b front (omega arith) e in
    sum_on-append (given asked i format) front (of_priority asked i (suc q) (suc b)) ∙ go so (priority_of asked b == suc q && is_on asked i b) refl
  where
    go : sum_on (given asked i format) front + sum_on (given asked i format) (of_priority asked i (suc q) b) ≡ min format.number (served asked i format.size q b) → (c : Bool) → (priority_of asked b == suc q && is_on asked i b) ≡ c
        → sum_on (given asked i format) front + sum_on (given asked i format) (of_priority asked i (suc q) b ++ cond c (b ∷ []) []) ≡ min format.number (served asked i format.size q (suc b))
    go so true f =
        let both = both_true (priority_of asked b == suc q) (is_on asked i b) f in
        let more : sum_on (given asked i format) (of_priority asked i (suc q) b ++ b ∷ []) ≡ sum_on (given asked i format) (of_priority asked i (suc q) b) + (given asked i format b + 0) = sum_on-append (given asked i format) (of_priority asked i (suc q) b) (b ∷ []) in
        let shape : sum_on (given asked i format) front + sum_on (given asked i format) (of_priority asked i (suc q) b ++ b ∷ []) ≡ sum_on (given asked i format) front + sum_on (given asked i format) (of_priority asked i (suc q) b) + given asked i format b = omega (arith, more) in
        shape ∙ given_more asked i format q b (sum_on (given asked i format) front + sum_on (given asked i format) (of_priority asked i (suc q) b)) (omega arith) both.0 both.1 so
    go so false f =
        ap (λ l. sum_on (given asked i format) front + sum_on (given asked i format) l) (append-nil (of_priority asked i (suc q) b))
        ∙ share_same asked i format q b (sum_on (given asked i format) front + sum_on (given asked i format) (of_priority asked i (suc q) b)) (omega arith) f so

turns_give : (asked : Asked) (i : ℕ) (format : Format) (q : ℕ) → ((a : ℕ) → a < length asked.bearers → 1 ≤ priority_of asked a) → sum_on (given asked i format) (in_turn asked i q) ≡ min format.number (served asked i format.size q 0)
turns_give asked i format zero least = share_first asked i format least
turns_give asked i format (suc q) least = share_next asked i format q (sum_on (given asked i format) (in_turn asked i (suc q))) (of_some asked i format q (length asked.bearers) (in_turn asked i q) (omega arith) (turns_give asked i format q least))

-- all bearers together give the blocks of a format, as far as they wait
pub all_give : (asked : Asked) (i : ℕ) (format : Format) → ((a : ℕ) → a < length asked.bearers → 1 ≤ priority_of asked a) → ((a : ℕ) → a < length asked.bearers → priority_of asked a ≤ 8)
    → sum_on (given asked i format) (in_turn asked i 8) ≡ min format.number (waiting asked i format.size)
all_give asked i format least most = share_all asked i format (sum_on (given asked i format) (in_turn asked i 8)) most (turns_give asked i format 8 least)
