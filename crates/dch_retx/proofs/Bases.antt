-- What is outside where the PDU at another place is the lowest open one.
use Rattle.std.proofs.Common.{◌≡◌, ◌+◌, ◌-◌, ◌%◌, ◌<◌, ◌≤◌, ℕ, List, [], ◌∷◌, Bool, true, false, cond, ◌&&◌, length, Option, Some, None, arith, refl, sym, ap, ap₂, ◌∙◌, ⊎_elim}
use Rattle.std.specs.Prelude.{nat_le, nat_lt, unwrap_or}
use Rattle.std.proofs.lemmas.Bool.{cases_lt, le-leb, le-ltb, lt-leb, lt-ltb}
use Rattle.std.proofs.lemmas.Bool.Decides.{nat_tests}
use Rattle.dch_am.specs.Numbers.{wrapped}
use Rattle.dch_retx.specs.StatusItems.{StatusItem, Missing, Unset, Set, Below, Obeyed}
use Rattle.dch_retx.specs.declared.tell.Told.{Told}
use Rattle.dch_retx.specs.RetxBuffer.{RetxBuffer, after_answer, after_ending, after_hearing, answered, base_after, below_from, first_number, listened, outside_from}
use Rattle.dch_retx.specs.Telling.{IsTold}
use Rattle.dch_retx.specs.StatusItem.{below_said, first_outside, limit_in, limit_of, number_in, offends, place_of, reports_some}

-- the place behind another one
place_ahead : (first b x : ℕ) → b ≤ 2048 → place_of (wrapped (first + b)) x ≡ (place_of first x + 4096 - b) % 4096
place_ahead first b x l = omega arith

-- where the lowest open PDU stands at a place, this is outside
missing_at : (count b p : ℕ) → b ≤ count → count ≤ 2048 → p < 4096 → nat_le (count - b) ((p + 4096 - b) % 4096) ≡ nat_le (cond (nat_lt p count) (p + 1) 0) b
missing_at count b p l most small = ⊎_elim
    (λ (h : p < count). ⊎_elim
    (λ (g : p < b). le-leb (count - b) ((p + 4096 - b) % 4096) (omega arith) ∙ sym (ap (λ c. nat_le (cond c (p + 1) 0) b) (lt-ltb p count h) ∙ le-leb (p + 1) b (omega arith)))
    (λ (g : b ≤ p). lt-leb (count - b) ((p + 4096 - b) % 4096) (omega arith) ∙ sym (ap (λ c. nat_le (cond c (p + 1) 0) b) (lt-ltb p count h) ∙ lt-leb (p + 1) b (omega arith)))
    (cases_lt p b))
    (λ (h : count ≤ p). le-leb (count - b) ((p + 4096 - b) % 4096) (omega arith) ∙ sym (ap (λ c. nat_le (cond c (p + 1) 0) b) (le-ltb p count h) ∙ le-leb 0 b (omega arith)))
    (cases_lt p count)

below_at : (count b p : ℕ) → b ≤ count → count ≤ 2048 → p < 4096 → nat_lt (count - b) ((p + 4096 - b) % 4096) ≡ nat_le (cond (nat_le p count) (p + 1) 0) b
below_at count b p l most small = ⊎_elim
    (λ (h : count < p). lt-ltb (count - b) ((p + 4096 - b) % 4096) (omega arith) ∙ sym (ap (λ c. nat_le (cond c (p + 1) 0) b) (lt-leb p count h) ∙ le-leb 0 b (omega arith)))
    (λ (h : p ≤ count). ⊎_elim
    (λ (g : p < b). lt-ltb (count - b) ((p + 4096 - b) % 4096) (omega arith) ∙ sym (ap (λ c. nat_le (cond c (p + 1) 0) b) (le-leb p count h) ∙ le-leb (p + 1) b (omega arith)))
    (λ (g : b ≤ p). le-ltb (count - b) ((p + 4096 - b) % 4096) (omega arith) ∙ sym (ap (λ c. nat_le (cond c (p + 1) 0) b) (le-leb p count h) ∙ lt-leb (p + 1) b (omega arith)))
    (cases_lt p b))
    (cases_lt count p)

set_at : (window count b p : ℕ) → b ≤ count → count ≤ window → window ≤ 2048 → p < 4096 → (nat_le (count - b) ((p + 4096 - b) % 4096) && nat_lt ((p + 4096 - b) % 4096) (4096 - window)) ≡ nat_le (cond (nat_lt p count) 4097 (p + 1 - (4096 - window))) b
set_at window count b p l few most small = ⊎_elim
    (λ (h : p < count). out p h ∙ sym (ap (λ c. nat_le (cond c 4097 (p + 1 - (4096 - window))) b) (lt-ltb p count h) ∙ lt-leb 4097 b (omega arith)))
    (λ (h : count ≤ p). ⊎_elim
    (λ (g : p - b < 4096 - window). ap₂ (λ x y. x && y) (le-leb (count - b) ((p + 4096 - b) % 4096) (omega arith)) (lt-ltb ((p + 4096 - b) % 4096) (4096 - window) (omega arith)) ∙ sym (ap (λ c. nat_le (cond c 4097 (p + 1 - (4096 - window))) b) (le-ltb p count h) ∙ le-leb (p + 1 - (4096 - window)) b (omega arith)))
    (λ (g : 4096 - window ≤ p - b). ap (λ y. nat_le (count - b) ((p + 4096 - b) % 4096) && y) (le-ltb ((p + 4096 - b) % 4096) (4096 - window) (omega arith)) ∙ (none (nat_le (count - b) ((p + 4096 - b) % 4096)) ∙ sym (ap (λ c. nat_le (cond c 4097 (p + 1 - (4096 - window))) b) (le-ltb p count h) ∙ lt-leb (p + 1 - (4096 - window)) b (omega arith))))
    (cases_lt (p - b) (4096 - window)))
    (cases_lt p count)
  where
    none : (c : Bool) → (c && false) ≡ false
    none true = refl
    none false = refl

    out : (p : ℕ) → p < count → (nat_le (count - b) ((p + 4096 - b) % 4096) && nat_lt ((p + 4096 - b) % 4096) (4096 - window)) ≡ false
    out p h = ⊎_elim
        (λ (g : p < b). ap (λ y. nat_le (count - b) ((p + 4096 - b) % 4096) && y) (le-ltb ((p + 4096 - b) % 4096) (4096 - window) (omega arith)) ∙ none (nat_le (count - b) ((p + 4096 - b) % 4096)))
        (λ (g : b ≤ p). ap (λ x. x && nat_lt ((p + 4096 - b) % 4096) (4096 - window)) (lt-leb (count - b) ((p + 4096 - b) % 4096) (omega arith)))
        (cases_lt p b)

place_small : (first x : ℕ) → place_of first x < 4096
place_small first x = omega arith

-- one thing that is said
offends_at : (window first count b : ℕ) → b ≤ count → count ≤ window → window ≤ 2048 → (x : StatusItem) → offends window (wrapped (first + b)) (count - b) x ≡ nat_le (limit_of window first count x) b
offends_at window first count b l few most (Missing x) = ap (nat_le (count - b)) (place_ahead first b x (omega arith)) ∙ missing_at count b (place_of first x) l (omega arith) (place_small first x)
offends_at window first count b l few most (Unset x) = sym (lt-leb 4097 b (omega arith))
offends_at window first count b l few most (Set x) = ap (λ q. nat_le (count - b) q && nat_lt q (4096 - window)) (place_ahead first b x (omega arith)) ∙ set_at window count b (place_of first x) l few most (place_small first x)
offends_at window first count b l few most (Below x) = ap (nat_lt (count - b)) (place_ahead first b x (omega arith)) ∙ below_at count b (place_of first x) l (omega arith) (place_small first x)
offends_at window first count b l few most (Obeyed n sn) = sym (lt-leb 4097 b (omega arith))

-- below its limit nothing is outside, and from there on something is
pub none_below : (window first count b : ℕ) → b ≤ count → count ≤ window → window ≤ 2048 → (said : List StatusItem) → b < limit_in window first count said → first_outside window (wrapped (first + b)) (count - b) said ≡ None
none_below window first count b l few most [] h = refl
none_below window first count b l few most (x ∷ said) h =
    ap (λ c. cond c (Some (number_in x)) (first_outside window (wrapped (first + b)) (count - b) said)) (offends_at window first count b l few most x ∙ lt-leb (limit_of window first count x) b (omega arith))
    ∙ none_below window first count b l few most said (omega arith)

-- the LSN by its place behind another one, where nothing is outside
pub below_ahead : (window first count b : ℕ) → b ≤ count → count ≤ 2048 → (said : List StatusItem) → first_outside window (wrapped (first + b)) (count - b) said ≡ None → below_said (wrapped (first + b)) said ≡ below_said first said - b
below_ahead window first count b l most [] e = omega arith
below_ahead window first count b l most (Below x ∷ said) e = go (nat_lt (count - b) (place_of (wrapped (first + b)) x)) refl e
  where
    go : (c : Bool) → nat_lt (count - b) (place_of (wrapped (first + b)) x) ≡ c → cond c (Some (wrapped x)) (first_outside window (wrapped (first + b)) (count - b) said) ≡ None → place_of (wrapped (first + b)) x ≡ place_of first x - b
    go true q n = absurd (cc)
    go false q n = inside (place_of first x) (place_of (wrapped (first + b)) x) (place_small first x) (place_ahead first b x (omega arith)) (within (count - b) (place_of (wrapped (first + b)) x) q)
      where
        within : (m n : ℕ) → nat_lt m n ≡ false → n ≤ m
        within m n h = grind (arith, nat_tests)

        inside : (p q : ℕ) → p < 4096 → q ≡ (p + 4096 - b) % 4096 → q ≤ count - b → q ≡ p - b
        inside p q s e h = omega arith
below_ahead window first count b l most (Missing x ∷ said) e = below_ahead window first count b l most said (passed (offends window (wrapped (first + b)) (count - b) (Missing x)) e)
  where
    passed : (c : Bool) → cond c (Some x) (first_outside window (wrapped (first + b)) (count - b) said) ≡ None → first_outside window (wrapped (first + b)) (count - b) said ≡ None
    passed true n = absurd (cc)
    passed false n = n
below_ahead window first count b l most (Unset x ∷ said) e = below_ahead window first count b l most said e
below_ahead window first count b l most (Set x ∷ said) e = below_ahead window first count b l most said (passed (offends window (wrapped (first + b)) (count - b) (Set x)) e)
  where
    passed : (c : Bool) → cond c (Some x) (first_outside window (wrapped (first + b)) (count - b) said) ≡ None → first_outside window (wrapped (first + b)) (count - b) said ≡ None
    passed true n = absurd (cc)
    passed false n = n
below_ahead window first count b l most (Obeyed n sn ∷ said) e = below_ahead window first count b l most said e

-- the same of what is kept
number_behind : (next n b : ℕ) → b ≤ n → n ≤ 2048 → wrapped (next + 4096 - (n - b)) ≡ wrapped (wrapped (next + 4096 - (n - 0)) + b)
number_behind next n b l most = omega arith

pub outside_none : (l : RetxBuffer) (b : ℕ) (said : List StatusItem) → b ≤ length l.in_flight → length l.in_flight ≤ l.window → l.window ≤ 2048 → b < limit_in l.window (first_number l) (length l.in_flight) said → outside_from b said l ≡ None
outside_none l b said le few most h =
    ap (λ f. first_outside l.window f (length l.in_flight - b) said) (number_behind l.next (length l.in_flight) b le (omega arith))
    ∙ none_below l.window (first_number l) (length l.in_flight) b le few most said h

-- what is told is heard
pub heard_after : (l now : RetxBuffer) (said : List StatusItem) (told : Told) (b below : ℕ) → b ≤ length l.in_flight → length l.in_flight ≤ l.window → l.window ≤ 2048 → IsTold told l.window (first_number l) (length l.in_flight) l.running said → b ≡ base_after told.ending l → outside_from b said l ≡ None → told.reports ≡ true → below ≡ unwrap_or told.below 0 - b → now ≡ listened below said (after_ending told.ending l) → now ≡ after_hearing said l
heard_after l now said told b below le few most is base none reports below_is e = sym
    (ap (λ a. after_answer a said l) (ap answered (ap (λ o. outside_from (base_after o l) said l) (sym is.ending) ∙ (ap (λ k. outside_from k said l) (sym base) ∙ none)))
    ∙ (ap after (sym is.ending)
    ∙ (ap (λ c. cond c (listened (below_from (base_after told.ending l) said l) said (after_ending told.ending l)) (after_ending told.ending l)) (sym is.reports ∙ reports)
    ∙ (ap (λ k. listened k said (after_ending told.ending l)) (ap (λ k. below_from k said l) (sym base) ∙ place)
    ∙ sym e))))
  where
    after : Option ℕ → RetxBuffer
    after o = cond (reports_some said) (listened (below_from (base_after o l) said l) said (after_ending o l)) (after_ending o l)

    place : below_from b said l ≡ below
    place =
        ap (λ f. below_said f said) (number_behind l.next (length l.in_flight) b le (omega arith))
        ∙ (below_ahead l.window (first_number l) (length l.in_flight) b le (omega arith) said (ap (λ f. first_outside l.window f (length l.in_flight - b) said) (sym (number_behind l.next (length l.in_flight) b le (omega arith))) ∙ none)
        ∙ (ap (λ k. k - b) (sym is.below) ∙ sym below_is))

pub none_of : (o : Option ℕ) → ((k : ℕ) → o ≡ Some k → ⊥) → o ≡ None
none_of None h = refl
none_of (Some k) h = absurd (h k refl)
