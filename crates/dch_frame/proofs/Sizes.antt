-- The choice of the size of an uplink frame.
use Rattle.std.proofs.Common.{◌≡◌, ◌+◌, ◌<◌, ◌≤◌, ℕ, Bool, true, false, List, [], ◌∷◌, Option, Some, None, length, drop, get_or, cond, refl, ap, sym, ◌∙◌, arith, filter, find, nat_le, ◌==◌, ◌&&◌, ◌*◌, inl, inr, min, add-one, Contains, rules}
use Rattle.std.proofs.lemmas.Bool.{le-leb, lt-leb, leb-true, ltb-true, ltb-false, cases_eq, ne_eqb, eq-eqb}
use Rattle.std.proofs.lemmas.List.{drop_more, drop_all}
use Rattle.std.proofs.lemmas.List.Elements.{All-contains}
use Rattle.std.proofs.lemmas.Nat.{mul-le}
use Rattle.std.proofs.Math.Nat.{mul-zero}
use Rattle.dch_types.specs.declared.channel.Side.{Side}
use Rattle.dch_types.specs.Limits.{frame_sizes}
use Rattle.dch_types.specs.Parts.{channel_at}
use Rattle.dch_frame.specs.declared.uplink_plan.Demand.{Demand}
use Rattle.dch_frame.specs.Uplinks.{least_rm, codes, raised, first_raised, needs_more, one_code, chosen, in_set1, in_set2, set2}
use Rattle.dch_frame.proofs.Turns.{and_both}

pub least-zero : (side : Side) → least_rm side 0 ≡ (channel_at side 0).rm
unfolding least_rm
least-zero side = refl

pub least-more : (side : Side) (i : ℕ) → least_rm side (i + 1) ≡ min (least_rm side i) (channel_at side i).rm
unfolding least_rm
least-more side i = rw add-one refl

-- the largest size is one of the frame sizes
pub largest_least : (n : ℕ) → Contains frame_sizes n → 150 ≤ n
largest_least n among = All-contains (λ m. 150 ≤ m) frame_sizes n (search rules) among

pub largest_most : (n : ℕ) → Contains frame_sizes n → n ≤ 57600
largest_most n among = All-contains (λ m. m ≤ 57600) frame_sizes n (search rules) among

-- the choice among what is left, where a size is held
abbrev pub resumed : Option ℕ → List ℕ → Option ℕ
resumed None rest = first_raised rest
resumed (Some size) rest = Some (raised size rest)

-- one size on: it is passed over
pub pass_over : (p : ℕ → Bool) (held : Option ℕ) (sizes : List ℕ) (i size : ℕ) → i < length sizes → size ≡ get_or sizes i 0 → p size ≡ false → resumed held (filter p (drop i sizes)) ≡ resumed held (filter p (drop (i + 1) sizes))
pass_over p held sizes i size inside is test = rw (drop_more sizes i 0 inside, sym is, test) refl

-- or it is held
pub hold : (p : ℕ → Bool) (held : Option ℕ) (sizes : List ℕ) (i size : ℕ) → i < length sizes → size ≡ get_or sizes i 0 → p size ≡ true → needs_more held size ≡ false → resumed held (filter p (drop i sizes)) ≡ resumed (Some size) (filter p (drop (i + 1) sizes))
hold p None sizes i size inside is test few = rw (drop_more sizes i 0 inside, sym is, test) refl
hold p (Some before) sizes i size inside is test few = rw (drop_more sizes i 0 inside, sym is, test) (
    ap (λ less. Some (cond less (raised size (filter p (drop (i + 1) sizes))) before)) (le-leb (codes size) (codes before) (ltb-false (codes before) (codes size) few)))

-- or the one before is the last
pub keep : (p : ℕ → Bool) (held : Option ℕ) (sizes : List ℕ) (i size : ℕ) → i < length sizes → size ≡ get_or sizes i 0 → p size ≡ true → needs_more held size ≡ true → resumed held (filter p (drop i sizes)) ≡ held
keep p None sizes i size inside is test more = absurd (cc)
keep p (Some before) sizes i size inside is test more = rw (drop_more sizes i 0 inside, sym is, test) (
    ap (λ less. Some (cond less (raised size (filter p (drop (i + 1) sizes))) before)) (lt-leb (codes size) (codes before) (ltb-true (codes before) (codes size) more)))

-- at the end what is held is the choice
pub all_passed : (p : ℕ → Bool) (held : Option ℕ) (sizes : List ℕ) (i : ℕ) → length sizes ≤ i → resumed held (filter p (drop i sizes)) ≡ held
all_passed p None sizes i past = rw (drop_all i sizes past) refl
all_passed p (Some before) sizes i past = rw (drop_all i sizes past) refl

-- which sizes can be chosen
abbrev pub picked : Bool → Option ℕ → List ℕ → Option ℕ
picked none least second = cond none (Some 0) (cond (one_code least) least (first_raised second))

chosen_is : (demand : Demand) → chosen demand ≡ picked (demand.weight == 0) (find (in_set1 demand) frame_sizes) (set2 demand)
unfolding chosen
chosen_is demand = refl

picked_none : (none : Bool) (least : Option ℕ) (second : List ℕ) (n : ℕ) → none ≡ true → picked none least second ≡ Some n → n ≡ 0
picked_none true least second n is e = let same : 0 ≡ n = cc in sym same
picked_none false least second n is e = absurd (cc)

-- where there is nothing to send the frame has no bits
pub nothing_chosen : (demand : Demand) (n : ℕ) → demand.weight ≡ 0 → chosen demand ≡ Some n → n ≡ 0
nothing_chosen demand n none e = picked_none (demand.weight == 0) (find (in_set1 demand) frame_sizes) (set2 demand) n (eq-eqb demand.weight 0 none) (sym (chosen_is demand) ∙ e)

nothing_raised : (second : List ℕ) → first_raised second ≡ None → second ≡ []
nothing_raised [] e = refl
nothing_raised (s ∷ rest) e = absurd (cc)

nothing_after : (b : Bool) (s : ℕ) (second : List ℕ) → cond b (Some s) (first_raised second) ≡ None → second ≡ []
nothing_after true s second e = absurd (cc)
nothing_after false s second e = nothing_raised second e

nothing_picked : (none : Bool) (least : Option ℕ) (second : List ℕ) → picked none least second ≡ None → second ≡ []
nothing_picked true least second e = absurd (cc)
nothing_picked false None second e = nothing_raised second e
nothing_picked false (Some s) second e = nothing_after (nat_le (codes s) 1) s second e

-- where a filter keeps nothing, a search by a stronger test finds nothing
missed : (p q : ℕ → Bool) (x : ℕ) (xs : List ℕ) (b c : Bool) → (c ≡ true → b ≡ true) → (filter p xs ≡ [] → find q xs ≡ None) → cond b (x ∷ filter p xs) (filter p xs) ≡ [] → cond c (Some x) (find q xs) ≡ None
missed p q x xs true c less rest e = absurd (cc)
missed p q x xs false true less rest e = let wrong : false ≡ true = less refl in absurd (cc)
missed p q x xs false false less rest e = rest e

not_found : (p q : ℕ → Bool) → ((x : ℕ) → q x ≡ true → p x ≡ true) → (xs : List ℕ) → filter p xs ≡ [] → find q xs ≡ None
not_found p q less [] e = refl
not_found p q less (x ∷ xs) e = missed p q x xs (p x) (q x) (less x) (not_found p q less xs) e

set1_less : (demand : Demand) → demand.pl ≤ 100 → (x : ℕ) → in_set1 demand x ≡ true → in_set2 demand x ≡ true
set1_less demand limit x test =
    let both = and_both (nat_le x demand.largest) (nat_le demand.weight (demand.least * x)) test in
    let scaled : demand.pl * demand.weight ≤ 100 * (demand.least * x) = mul-le demand.pl demand.weight 100 (demand.least * x) limit (leb-true demand.weight (demand.least * x) both.1) in
    ap (λ b. b && nat_le (demand.pl * demand.weight) (100 * (demand.least * x))) both.0 ∙ le-leb (demand.pl * demand.weight) (100 * (demand.least * x)) scaled

nothing_less : (demand : Demand) → 150 ≤ demand.largest → demand.weight ≡ 0 → (x : ℕ) → nat_le x 150 ≡ true → in_set2 demand x ≡ true
nothing_less demand some none x small =
    let low : x ≤ demand.largest = omega (arith, leb-true x 150 small) in
    let clear : demand.pl * demand.weight ≡ 0 = rw none (mul-zero demand.pl) in
    ap (λ b. b && nat_le (demand.pl * demand.weight) (100 * (demand.least * x))) (le-leb x demand.largest low) ∙ le-leb (demand.pl * demand.weight) (100 * (demand.least * x)) (omega (arith, clear))

-- there is no size just where the second set is empty
pub no_size : (demand : Demand) → chosen demand ≡ None → set2 demand ≡ []
no_size demand e = nothing_picked (demand.weight == 0) (find (in_set1 demand) frame_sizes) (set2 demand) (sym (chosen_is demand) ∙ e)

pub no_choice : (demand : Demand) → 150 ≤ demand.largest → demand.pl ≤ 100 → set2 demand ≡ [] → chosen demand ≡ None
unfolding set2
no_choice demand some limit empty =
    let first : find (in_set1 demand) frame_sizes ≡ None = not_found (in_set2 demand) (in_set1 demand) (set1_less demand limit) frame_sizes empty in
    let weighs : (demand.weight == 0) ≡ false = elim (cases_eq demand.weight 0) [
      | inl none ↦ let wrong : find (λ x. nat_le x 150) frame_sizes ≡ None = not_found (in_set2 demand) (λ x. nat_le x 150) (nothing_less demand some none) frame_sizes empty in absurd (cc)
      | inr differ ↦ ne_eqb demand.weight 0 differ
    ] in
    chosen_is demand ∙ rw (weighs, first, empty) refl

-- each size that is chosen is at most the greatest
found_first : (q : ℕ → Bool) (m x : ℕ) (xs : List ℕ) (n : ℕ) (b : Bool) → (b ≡ true → x ≤ m) → (find q xs ≡ Some n → n ≤ m) → cond b (Some x) (find q xs) ≡ Some n → n ≤ m
found_first q m x xs n true here rest e = let is : x ≡ n = cc in omega (arith, here refl)
found_first q m x xs n false here rest e = rest e

found_le : (q : ℕ → Bool) (m : ℕ) → ((x : ℕ) → q x ≡ true → x ≤ m) → (xs : List ℕ) (n : ℕ) → find q xs ≡ Some n → n ≤ m
found_le q m each [] n e = absurd (cc)
found_le q m each (x ∷ xs) n e = found_first q m x xs n (q x) (each x) (found_le q m each xs n) e

raised_choice : (b : Bool) (m s t : ℕ) → s ≤ m → t ≤ m → cond b t s ≤ m
raised_choice true m s t low high = high
raised_choice false m s t low high = low

-- one size more, held or not
raised_step : (p : ℕ → Bool) (m s x : ℕ) (xs : List ℕ) → s ≤ m → ((s : ℕ) → s ≤ m → raised s (filter p xs) ≤ m) → (b : Bool) → (b ≡ true → x ≤ m) → raised s (cond b (x ∷ filter p xs) (filter p xs)) ≤ m
raised_step p m s x xs low rest true here = raised_choice (nat_le (codes x) (codes s)) m s (raised x (filter p xs)) low (rest x (here refl))
raised_step p m s x xs low rest false here = rest s low

raised_le : (p : ℕ → Bool) (m : ℕ) → ((x : ℕ) → p x ≡ true → x ≤ m) → (xs : List ℕ) (s : ℕ) → s ≤ m → raised s (filter p xs) ≤ m
raised_le p m each [] s low = low
raised_le p m each (x ∷ xs) s low = raised_step p m s x xs low (raised_le p m each xs) (p x) (each x)

first_step : (p : ℕ → Bool) (m x n : ℕ) → ((x : ℕ) → p x ≡ true → x ≤ m) → (xs : List ℕ) (b : Bool) → (b ≡ true → x ≤ m) → (first_raised (filter p xs) ≡ Some n → n ≤ m) → first_raised (cond b (x ∷ filter p xs) (filter p xs)) ≡ Some n → n ≤ m
first_step p m x n each xs true here rest e = let is : raised x (filter p xs) ≡ n = cc in omega (arith, raised_le p m each xs x (here refl))
first_step p m x n each xs false here rest e = rest e

first_le : (p : ℕ → Bool) (m n : ℕ) → ((x : ℕ) → p x ≡ true → x ≤ m) → (xs : List ℕ) → first_raised (filter p xs) ≡ Some n → n ≤ m
first_le p m n each [] e = absurd (cc)
first_le p m n each (x ∷ xs) e = first_step p m x n each xs (p x) (each x) (first_le p m n each xs) e

picked_cases : (none one : Bool) (least : Option ℕ) (second : List ℕ) (m n : ℕ) → (least ≡ Some n → n ≤ m) → (first_raised second ≡ Some n → n ≤ m) → cond none (Some 0) (cond one least (first_raised second)) ≡ Some n → n ≤ m
picked_cases true one least second m n first other e = let is : 0 ≡ n = cc in omega arith
picked_cases false true least second m n first other e = first e
picked_cases false false least second m n first other e = other e

pub chosen_le : (demand : Demand) (n : ℕ) → chosen demand ≡ Some n → n ≤ demand.largest
unfolding set2
chosen_le demand n e =
    let first : (x : ℕ) → in_set1 demand x ≡ true → x ≤ demand.largest = λ x test. leb-true x demand.largest (and_both (nat_le x demand.largest) (nat_le demand.weight (demand.least * x)) test).0 in
    let second : (x : ℕ) → in_set2 demand x ≡ true → x ≤ demand.largest = λ x test. leb-true x demand.largest (and_both (nat_le x demand.largest) (nat_le (demand.pl * demand.weight) (100 * (demand.least * x))) test).0 in
    picked_cases (demand.weight == 0) (one_code (find (in_set1 demand) frame_sizes)) (find (in_set1 demand) frame_sizes) (set2 demand) demand.largest n
    (found_le (in_set1 demand) demand.largest first frame_sizes n) (first_le (in_set2 demand) demand.largest n second frame_sizes) (sym (chosen_is demand) ∙ e)
