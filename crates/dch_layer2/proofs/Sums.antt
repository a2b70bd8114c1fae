-- Bearers served in turn give just as many blocks as a format has, where so many wait.
use Rattle.std.proofs.Common.{◌≡◌, ◌≢◌, ◌<◌, ◌≤◌, ◌+◌, ◌-◌, ℕ, zero, suc, Bool, true, false, cond, ◌&&◌, ◌||◌, length, arith, refl, sym, ap, ◌∙◌, subst}
use Rattle.std.specs.Prelude.{◌==◌, min, nat_lt}
use Rattle.std.proofs.lemmas.Bool.{eqb-true}
use Rattle.std.proofs.lemmas.Bool.Decides.{nat_tests}
use Rattle.dch_types.specs.declared.channel.Format.{Format}
use Rattle.dch_types.specs.Sums.{total}
use Rattle.dch_types.proofs.Sums.{total_same}
use Rattle.dch_mac.specs.Asked.{Asked, priority_of}
use Rattle.dch_mac.specs.Offered.{ahead, given, head_at, offered, waiting}
use Rattle.dch_layer2.specs.Starting.{is_on}
use Rattle.dch_layer2.specs.Sharing.{share}
use Rattle.dch_layer2.proofs.Serving.{before, served}

-- a Bool is one of the two
pub either : {A : Type 0} (b : Bool) → (b ≡ true → A) → (b ≡ false → A) → A
either true f g = f refl
either false f g = g refl

pub number_same : (a b : ℕ) → (a == b) ≡ true → a ≡ b
number_same a b e = eqb-true a b e

pub same_number : (a b : ℕ) → a ≡ b → (a == b) ≡ true
same_number a b e = grind (arith, nat_tests)

pub other_number : (a b : ℕ) → (a == b) ≡ false → a ≢ b
other_number a b e s = let t : (a == b) ≡ true = same_number a b s in absurd (cc)

pub both_true : (a b : Bool) → a && b ≡ true → (a ≡ true) × (b ≡ true)
both_true true b e = (refl, e)
both_true false b e = absurd (cc)

-- one weight changes
total_step : (v w : ℕ → ℕ) (b d n : ℕ) → ((a : ℕ) → (a ≡ b → ⊥) → v a ≡ w a) → v b ≡ w b + d → b < n → total v n ≡ total w n + d
unfolding total
total_step v w b d zero other own l = absurd (omega arith)
total_step v w b d (suc n) other own l = either (b == n)
    (λ e. let same : b ≡ n = number_same b n e in
    let below : total v n ≡ total w n = total_same v w n (λ a m. other a (λ q. absurd (omega (arith, m, q, same)))) in
    let here : v n ≡ w n + d = subst (λ x. v x ≡ w x + d) same own in
    omega (arith, below, here))
    (λ e. let differ : b ≡ n → ⊥ = λ s. let t : (b == n) ≡ true = same_number b n s in absurd (cc) in
    let below : total v n ≡ total w n + d = total_step v w b d n other own (omega (arith, l, differ)) in
    let here : v n ≡ w n = other n (λ s. differ (sym s)) in
    omega (arith, below, here))

total_none : (v : ℕ → ℕ) (n : ℕ) → ((a : ℕ) → a < n → v a ≡ 0) → total v n ≡ 0
unfolding total
total_none v zero each = refl
total_none v (suc n) each = omega (arith, total_none v n (λ a l. each a (omega arith)), each n (omega arith))

-- those of the bearers that are served before
abbrev weight : Asked → ℕ → ℕ → ℕ → ℕ → ℕ → ℕ
weight asked i size q b a = cond (before asked q b a) (offered asked i size a) 0

pub before_other : (asked : Asked) (q b a : ℕ) → (a ≡ b → ⊥) → before asked q (suc b) a ≡ before asked q b a
before_other asked q b a differ = ap (λ t. nat_lt (priority_of asked a) (suc q) || (priority_of asked a == suc q && t)) same
  where
    same : nat_lt a (suc b) ≡ nat_lt a b
    same = either (nat_lt a b)
        (λ e. let x : nat_lt a (suc b) ≡ true = grind (arith, nat_tests) in x ∙ sym e)
        (λ e. let x : nat_lt a (suc b) ≡ false = grind (arith, nat_tests) in x ∙ sym e)

tests : (p q b : ℕ) → (p == suc q) ≡ true → ((nat_lt p (suc q) || (p == suc q && nat_lt b (suc b))) ≡ true) × ((nat_lt p (suc q) || (p == suc q && nat_lt b b)) ≡ false)
tests p q b e =
    let x : nat_lt p (suc q) ≡ false = grind (arith, nat_tests) in
    let y : nat_lt b (suc b) ≡ true = grind (arith, nat_tests) in
    let z : nat_lt b b ≡ false = grind (arith, nat_tests) in
    (rw (x, e, y) refl, rw (x, e, z) refl)

-- the next bearer of that priority
pub served_more : (asked : Asked) (i size q b : ℕ) → b < length asked.bearers → (priority_of asked b == suc q) ≡ true → served asked i size q (suc b) ≡ served asked i size q b + offered asked i size b
served_more asked i size q b l e =
    let t = tests (priority_of asked b) q b e in
    total_step (weight asked i size q (suc b)) (weight asked i size q b) b (offered asked i size b) (length asked.bearers)
    (λ a differ. ap (λ c. cond c (offered asked i size a) 0) (before_other asked q b a differ))
    (let x : weight asked i size q (suc b) b ≡ offered asked i size b = ap (λ c. cond c (offered asked i size b) 0) t.0 in
    let y : weight asked i size q b b ≡ 0 = ap (λ c. cond c (offered asked i size b) 0) t.1 in
    omega (arith, x, y))
    l

-- one of another priority
pub served_same : (asked : Asked) (i size q b : ℕ) → (priority_of asked b == suc q) ≡ false → served asked i size q (suc b) ≡ served asked i size q b
served_same asked i size q b e = total_same (weight asked i size q (suc b)) (weight asked i size q b) (length asked.bearers) (λ a l. ap (λ c. cond c (offered asked i size a) 0) (either (a == b)
    (λ s. let same : a ≡ b = number_same a b s in
    let f : (priority_of asked a == suc q) ≡ false = ap (λ x. priority_of asked x == suc q) same ∙ e in
    ap (λ t. nat_lt (priority_of asked a) (suc q) || (t && nat_lt a (suc b))) f ∙ sym (ap (λ t. nat_lt (priority_of asked a) (suc q) || (t && nat_lt a b)) f))
    (λ s. before_other asked q b a (λ same. let t : (a == b) ≡ true = same_number a b same in absurd (cc)))))

-- all of a priority
pub next_tests : (p q a n : ℕ) → a < n → (nat_lt p (suc (suc q)) || (p == suc (suc q) && nat_lt a 0)) ≡ (nat_lt p (suc q) || (p == suc q && nat_lt a n))
next_tests p q a n l =
    let z : nat_lt a 0 ≡ false = grind (arith, nat_tests) in
    let y : nat_lt a n ≡ true = grind (arith, nat_tests) in
    rw (z, y) (go p q)
  where
    go : (p q : ℕ) → (nat_lt p (suc (suc q)) || (p == suc (suc q) && false)) ≡ (nat_lt p (suc q) || (p == suc q && true))
    go p q = either (p == suc q)
        (λ e. let a : nat_lt p (suc (suc q)) ≡ true = grind (arith, nat_tests) in let b : nat_lt p (suc q) ≡ false = grind (arith, nat_tests) in rw (a, b, e) refl)
        (λ e. either (nat_lt p (suc q))
        (λ f. let a : nat_lt p (suc (suc q)) ≡ true = grind (arith, nat_tests) in rw (a, f) refl)
        (λ f. let a : nat_lt p (suc (suc q)) ≡ false = grind (arith, nat_tests) in rw (a, f, e) (never (p == suc (suc q)))))
      where
        never : (x : Bool) → (x && false) ≡ false
        never true = refl
        never false = refl

pub served_next : (asked : Asked) (i size q : ℕ) → served asked i size (suc q) 0 ≡ served asked i size q (length asked.bearers)
served_next asked i size q = total_same (weight asked i size (suc q) 0) (weight asked i size q (length asked.bearers)) (length asked.bearers) (λ a l. ap (λ c. cond c (offered asked i size a) 0) (next_tests (priority_of asked a) q a (length asked.bearers) l))

pub served_none : (asked : Asked) (i size : ℕ) → ((a : ℕ) → a < length asked.bearers → 1 ≤ priority_of asked a) → served asked i size 0 0 ≡ 0
served_none asked i size least = total_none (weight asked i size 0 0) (length asked.bearers) (λ a l. ap (λ c. cond c (offered asked i size a) 0) (none (priority_of asked a) a (least a l)))
  where
    none : (p a : ℕ) → 1 ≤ p → (nat_lt p 1 || (p == 1 && nat_lt a 0)) ≡ false
    none p a l =
        let x : nat_lt p 1 ≡ false = grind (arith, nat_tests) in
        let y : nat_lt a 0 ≡ false = grind (arith, nat_tests) in
        rw (x, y) (never (p == 1))
      where
        never : (x : Bool) → (x && false) ≡ false
        never true = refl
        never false = refl

pub served_all : (asked : Asked) (i size : ℕ) → ((a : ℕ) → a < length asked.bearers → priority_of asked a ≤ 8) → served asked i size 8 0 ≡ waiting asked i size
served_all asked i size most = total_same (weight asked i size 8 0) (offered asked i size) (length asked.bearers) (λ a l. ap (λ c. cond c (offered asked i size a) 0) (all (priority_of asked a) a (most a l)))
  where
    all : (p a : ℕ) → p ≤ 8 → (nat_lt p 9 || (p == 9 && nat_lt a 0)) ≡ true
    all p a l = let x : nat_lt p 9 ≡ true = grind (arith, nat_tests) in rw x refl

-- a bearer that is not on the channel has nothing for it
pub offered_off : (asked : Asked) (i size b : ℕ) → is_on asked i b ≡ false → offered asked i size b ≡ 0
unfolding offered
offered_off asked i size b e = rw e refl

-- what is left to a bearer
left_to : (n s o : ℕ) → min n s + min o (n - min n s) ≡ min n (s + o)
left_to n s o = grind (arith, nat_tests)

left_of : (n s : ℕ) → n - min n s ≡ n - s
left_of n s = grind (arith, nat_tests)

-- what it builds is what it gives
offered_on : (asked : Asked) (i size b : ℕ) → is_on asked i b ≡ true → offered asked i size b ≡ cond ((head_at asked b).size == size) (head_at asked b).count 0
unfolding offered
offered_on asked i size b e = ap (λ c. cond (c && ((head_at asked b).size == size)) (head_at asked b).count 0) e

ahead_is : (asked : Asked) (i size q b : ℕ) → (priority_of asked b == suc q) ≡ true → ahead asked i size b ≡ served asked i size q b
ahead_is asked i size q b e = ap (λ p. total (λ a. cond (nat_lt (priority_of asked a) p || (priority_of asked a == p && nat_lt a b)) (offered asked i size a) 0) (length asked.bearers)) (number_same (priority_of asked b) (suc q) e)

pub share_given : (asked : Asked) (i : ℕ) (format : Format) (q b n : ℕ) → (priority_of asked b == suc q) ≡ true → is_on asked i b ≡ true → n ≡ min format.number (served asked i format.size q b) →
    share (head_at asked b) format.size (format.number - n) ≡ given asked i format b
share_given asked i format q b n e on is =
    let same : ahead asked i format.size b ≡ served asked i format.size q b = ahead_is asked i format.size q b e in
    let left : format.number - n ≡ format.number - ahead asked i format.size b = ap (λ m. format.number - m) is ∙ (left_of format.number (served asked i format.size q b) ∙ ap (λ m. format.number - m) (sym same)) in
    ap (λ m. min (cond ((head_at asked b).size == format.size) (head_at asked b).count 0) m) left ∙ ap (λ m. min m (format.number - ahead asked i format.size b)) (sym (offered_on asked i format.size b on))

pub share_more : (asked : Asked) (i : ℕ) (format : Format) (q b n : ℕ) → b < length asked.bearers → (priority_of asked b == suc q) ≡ true → is_on asked i b ≡ true → n ≡ min format.number (served asked i format.size q b) →
    n + share (head_at asked b) format.size (format.number - n) ≡ min format.number (served asked i format.size q (suc b))
share_more asked i format q b n l e on is =
    subst (λ (m : ℕ). m + share (head_at asked b) format.size (format.number - m) ≡ min format.number (served asked i format.size q (suc b))) (sym is)
    (ap (λ m. min format.number (served asked i format.size q b) + min m (format.number - min format.number (served asked i format.size q b))) (sym (offered_on asked i format.size b on))
    ∙ (left_to format.number (served asked i format.size q b) (offered asked i format.size b) ∙ ap (min format.number) (sym (served_more asked i format.size q b l e))))

-- a bearer that isn't on the channel, or has another priority, leaves the number
pub share_same : (asked : Asked) (i : ℕ) (format : Format) (q b n : ℕ) → b < length asked.bearers → (priority_of asked b == suc q && is_on asked i b) ≡ false → n ≡ min format.number (served asked i format.size q b) →
    n ≡ min format.number (served asked i format.size q (suc b))
share_same asked i format q b n l e is = is ∙ ap (min format.number) (sym (either (priority_of asked b == suc q)
    (λ f. let off : is_on asked i b ≡ false = ap (λ c. c && is_on asked i b) (sym f) ∙ e in
    let none : offered asked i format.size b ≡ 0 = offered_off asked i format.size b off in
    let more : served asked i format.size q (suc b) ≡ served asked i format.size q b + offered asked i format.size b = served_more asked i format.size q b l f in
    omega (arith, more, none))
    (λ f. served_same asked i format.size q b f)))

-- at the start, at the next priority, and at the end
zero_min : (n : ℕ) → min n 0 ≡ 0
zero_min n = grind (arith, nat_tests)

pub share_first : (asked : Asked) (i : ℕ) (format : Format) → ((a : ℕ) → a < length asked.bearers → 1 ≤ priority_of asked a) → 0 ≡ min format.number (served asked i format.size 0 0)
share_first asked i format least = sym (ap (min format.number) (served_none asked i format.size least) ∙ zero_min format.number)

pub share_next : (asked : Asked) (i : ℕ) (format : Format) (q n : ℕ) → n ≡ min format.number (served asked i format.size q (length asked.bearers)) → n ≡ min format.number (served asked i format.size (suc q) 0)
share_next asked i format q n is = is ∙ ap (min format.number) (sym (served_next asked i format.size q))

pub share_all : (asked : Asked) (i : ℕ) (format : Format) (n : ℕ) → ((a : ℕ) → a < length asked.bearers → priority_of asked a ≤ 8) → n ≡ min format.number (served asked i format.size 8 0) → n ≡ min format.number (waiting asked i format.size)
share_all asked i format n most is = is ∙ ap (min format.number) (served_all asked i format.size most)
