-- What the values of keys keep by their rules.
use Rattle.std.proofs.Common.{◌≡◌, ◌<◌, ◌≤◌, ◌==◌, ℕ, suc, Bool, true, false, ◌&&◌, List, [], ◌∷◌, min, cond, nat_lt, nat_le, Option, Some, None, option_map, is_some, refl, sym, ⊎_elim, arith}
use Rattle.std.specs.Prelude.{Contains, find, option_and_then}
use Rattle.std.proofs.Common.{inl, inr, ◌⊎◌}
use Rattle.std.proofs.lemmas.Bool.{cases_Bool}
use Rattle.std.proofs.lemmas.Bool.Decides.{nat_tests}
use Rattle.toml.specs.Data.{Data, Members, get_member}
use Rattle.dch_types.specs.Limits.{IsFrames}
use Rattle.dch_tree.specs.Rules.{number_of, only_if, number_within, number_among, frames_of_time, frames_of_tti, channel_of}
use Rattle.dch_tree.specs.Tables.{reading, value_or, required, optional, field}

value_keeps : {A : Type 0} (P : A → Type 0) (other : A) (r : Option (Option A)) → P other → ((x : A) → r ≡ Some (Some x) → P x) → P (value_or other r)
value_keeps P other None here there = here
value_keeps P other (Some None) here there = here
value_keeps P other (Some (Some x)) here there = there x refl

-- the value that a rule gave
pub read_by : {A : Type 0} (rule : Data → Option A) (o : Option Data) (x : A) → option_map rule o ≡ Some (Some x) → (d : Data) × (rule d ≡ Some x)
read_by rule None x e = cc
read_by rule (Some d) x e = (d, cc)

-- what the rule's values and the other value keep, the field keeps
pub field_keeps : {A : Type 0} (P : A → Type 0) (other : A) (rule : Data → Option A) (key : List ℕ) (ms : Members) → P other → ((d : Data) (x : A) → rule d ≡ Some x → P x) → P (field other rule key ms)
field_keeps P other rule key ms here there =
    value_keeps P other (reading rule key ms) here (λ x e. let (d, at) = read_by rule (get_member key ms) x e in there d x at)

-- a key that must be there has its value
pub required_some : {A : Type 0} (path : List ℕ) (r : Option (Option A)) (other : A) → required path r ≡ [] → r ≡ Some (Some (value_or other r))
required_some path None other e = cc
required_some path (Some None) other e = cc
required_some path (Some (Some x)) other e = refl

optional_there : {A : Type 0} (path : List ℕ) (r : Option A) (other : A) → optional path (Some r) ≡ [] → Some r ≡ Some (Some (value_or other (Some r)))
optional_there path None other e = cc
optional_there path (Some x) other e = refl

pub optional_some : {A : Type 0} (path : List ℕ) (rule : Data → Option A) (o : Option Data) (other : A) → optional path (option_map rule o) ≡ [] → is_some o ≡ true → option_map rule o ≡ Some (Some (value_or other (option_map rule o)))
optional_some path rule None other e there = cc
optional_some path rule (Some d) other e there = optional_there path (rule d) other e

within_keeps : (least most n x : ℕ) → only_if (λ m. nat_le least m && nat_le m most) n ≡ Some x → (least ≤ x) × (x ≤ most)
within_keeps least most n x e =
    ⊎_elim
    (λ passes. let same : n ≡ x = some_same (rw passes at e) in let low : least ≤ n = grind (arith, nat_tests) in let high : n ≤ most = grind (arith, nat_tests) in (omega arith, omega arith))
    (λ fails. let no = rw fails at e in cc no)
    (cases_Bool (nat_le least n && nat_le n most))
  where
    some_same : Some n ≡ Some x → n ≡ x
    some_same q = cc

-- a number from the least to the most
pub number_within_keeps : (least most : ℕ) (d : Data) (x : ℕ) → number_within least most d ≡ Some x → (least ≤ x) × (x ≤ most)
number_within_keeps least most d x e = inner (number_of d) e
  where
    inner : (o : Option ℕ) → option_and_then (only_if (λ m. nat_le least m && nat_le m most)) o ≡ Some x → (least ≤ x) × (x ≤ most)
    inner None e = cc
    inner (Some n) e = within_keeps least most n x e

find_listed : (p : ℕ → Bool) (xs : List ℕ) (x : ℕ) → find p xs ≡ Some x → Contains xs x
find_listed p [] x e = cc
find_listed p (y ∷ ys) x e =
    ⊎_elim
    (λ here. let same : y ≡ x = some_same (rw here at e) in (0, omega arith, same))
    (λ not_here. let (k, inside, at) = find_listed p ys x (rw not_here at e) in (suc k, omega arith, at))
    (cases_Bool (p y))
  where
    some_same : Some y ≡ Some x → y ≡ x
    some_same q = cc

-- a number of a list
pub number_among_keeps : (allowed : List ℕ) (d : Data) (x : ℕ) → number_among allowed d ≡ Some x → Contains allowed x
number_among_keeps allowed d x e = inner (number_of d) e
  where
    inner : (o : Option ℕ) → option_and_then (λ n. find (λ a. a == n) allowed) o ≡ Some x → Contains allowed x
    inner None e = cc
    inner (Some n) e = find_listed (λ a. a == n) allowed x e

choose : (b : Bool) (y x : ℕ) (rest : Option ℕ) → cond b (Some y) rest ≡ Some x → (y ≡ x) ⊎ (rest ≡ Some x)
choose true y x rest e = inl cc
choose false y x rest e = inr e

time_keeps : (time x : ℕ) → frames_of_time time ≡ Some x → IsFrames x
time_keeps time x e =
    ⊎_elim (λ one. inl (sym one))
    (λ more. ⊎_elim (λ two. inr (inl (sym two)))
    (λ more2. ⊎_elim (λ four. inr (inr (inl (sym four))))
    (λ more3. ⊎_elim (λ eight. inr (inr (inr (sym eight)))) (λ none. absurd (none_some none)) (choose (time == 80) 8 x None more3))
    (choose (time == 40) 4 x _ more2))
    (choose (time == 20) 2 x _ more))
    (choose (time == 10) 1 x _ e)
  where
    none_some : None ≡ Some x → ⊥
    none_some q = cc

-- a TTI has 1, 2, 4 or 8 frames
pub frames_keep : (d : Data) (x : ℕ) → frames_of_tti d ≡ Some x → IsFrames x
frames_keep d x e = inner (number_of d) e
  where
    inner : (o : Option ℕ) → option_and_then frames_of_time o ≡ Some x → IsFrames x
    inner None e = cc
    inner (Some n) e = time_keeps n x e

-- a channel of so many
pub channel_of_keeps : (count : ℕ) (d : Data) (x : Option ℕ) → channel_of count d ≡ Some x → (i : ℕ) × (x ≡ Some i) × (i < count)
channel_of_keeps count d x e = inner (number_of d) e
  where
    low : (n : ℕ) → option_map (λ m. Some (min m 255)) (only_if (λ m. nat_lt m count) n) ≡ Some x → (i : ℕ) × (x ≡ Some i) × (i < count)
    low n e =
        ⊎_elim
        (λ passes. let q = rw passes at e in let below : n < count = grind (arith, nat_tests) in (min n 255, cc q, omega arith))
        (λ fails. let no = rw fails at e in cc no)
        (cases_Bool (nat_lt n count))

    inner : (o : Option ℕ) → option_map (λ n. Some (min n 255)) (option_and_then (only_if (λ n. nat_lt n count)) o) ≡ Some x → (i : ℕ) × (x ≡ Some i) × (i < count)
    inner None e = cc
    inner (Some n) e = low n e
