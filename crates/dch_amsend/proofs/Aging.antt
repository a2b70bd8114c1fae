-- Ages, read off the ticks that are kept.
use Rattle.std.proofs.Common.{◌≡◌, ◌+◌, ◌-◌, ◌<◌, ◌≤◌, ℕ, zero, suc, List, [], ◌∷◌, ◌++◌, length, drop, arith, refl, sym, ap, ap₂, ◌∙◌, subst, length-drop}
use Rattle.std.specs.Prelude.{◌%◌, min, slice_index}
use Rattle.std.proofs.lemmas.List.{get_or-drop}
use Rattle.dch_amsend.specs.Ages.{AreAges, AreFalling, aged, ages_at, all_since, since}

-- no SDU comes or goes at a tick
pub length-aged : (ages : List ℕ) → length (aged ages) ≡ length ages
length-aged [] = refl
length-aged (a ∷ ages) = ap suc (length-aged ages)

-- the SDU at a place is older
pub at_aged : (ages : List ℕ) (i : ℕ) → i < length ages → slice_index (aged ages) i ≡ min (slice_index ages i + 1) 65535
at_aged [] i l = absurd (omega arith)
at_aged (a ∷ ages) zero l = refl
at_aged (a ∷ ages) (suc i) l = at_aged ages i (omega arith)

length-since : (now : ℕ) (ts : List ℕ) → length (all_since now ts) ≡ length ts
length-since now [] = refl
length-since now (t ∷ ts) = ap suc (length-since now ts)

pub length-ages : (n now : ℕ) (ts : List ℕ) → length (ages_at n now ts) ≡ length ts
length-ages zero now ts = length-since now ts
length-ages (suc n) now [] = refl
length-ages (suc n) now (t ∷ ts) = ap suc (length-ages n now ts)

-- one that is accepted now
since_now : (now : ℕ) → now < 65536 → since now now ≡ 0
since_now now l = omega arith

pub ages_push : (n now : ℕ) (ts : List ℕ) → now < 65536 → n ≤ length ts → ages_at n now (ts ++ now ∷ []) ≡ ages_at n now ts ++ 0 ∷ []
ages_push zero now [] l m = ap (λ a. a ∷ []) (since_now now l)
ages_push zero now (t ∷ ts) l m = ap (λ xs. since now t ∷ xs) (ages_push zero now ts l (omega arith))
ages_push (suc n) now [] l m = absurd (omega arith)
ages_push (suc n) now (t ∷ ts) l m = ap (λ xs. 65535 ∷ xs) (ages_push n now ts l (omega arith))

-- those in front leave
pub ages-drop : (k n now : ℕ) (ts : List ℕ) → ages_at (n - k) now (drop k ts) ≡ drop k (ages_at n now ts)
ages-drop zero n now ts = let e : n - 0 ≡ n = omega arith in ap (λ m. ages_at m now ts) e
ages-drop (suc k) zero now [] = let e : 0 - suc k ≡ 0 = omega arith in ap (λ m. ages_at m now []) e
ages-drop (suc k) zero now (t ∷ ts) =
    let e : 0 - suc k ≡ 0 - k = omega arith in
    ap (λ m. ages_at m now (drop k ts)) e ∙ ages-drop k zero now ts
ages-drop (suc k) (suc n) now [] = none (suc n - suc k)
  where
    none : (m : ℕ) → ages_at m now [] ≡ []
    none zero = refl
    none (suc m) = refl
ages-drop (suc k) (suc n) now (t ∷ ts) =
    let e : suc n - suc k ≡ n - k = omega arith in
    ap (λ m. ages_at m now (drop k ts)) e ∙ ages-drop k n now ts

-- the age at a place
pub age_old : (n now : ℕ) (ts : List ℕ) (i : ℕ) → i < n → i < length ts → slice_index (ages_at n now ts) i ≡ 65535
age_old zero now ts i l m = absurd (omega arith)
age_old (suc n) now [] i l m = absurd (omega arith)
age_old (suc n) now (t ∷ ts) zero l m = refl
age_old (suc n) now (t ∷ ts) (suc i) l m = age_old n now ts i (omega arith) (omega arith)

pub age_new : (n now : ℕ) (ts : List ℕ) (i : ℕ) → n ≤ i → i < length ts → slice_index (ages_at n now ts) i ≡ since now (slice_index ts i)
age_new zero now [] i l m = absurd (omega arith)
age_new zero now (t ∷ ts) zero l m = refl
age_new zero now (t ∷ ts) (suc i) l m = age_new zero now ts i (omega arith) (omega arith)
age_new (suc n) now [] i l m = absurd (omega arith)
age_new (suc n) now (t ∷ ts) zero l m = absurd (omega arith)
age_new (suc n) now (t ∷ ts) (suc i) l m = age_new n now ts i (omega arith) (omega arith)

-- one more in front is 65,535 ticks old
pub ages_next : (i now : ℕ) (ts : List ℕ) → i < length ts → since now (slice_index ts i) ≡ 65535 → ages_at (i + 1) now ts ≡ ages_at i now ts
ages_next i now [] l e = absurd (omega arith)
ages_next zero now (t ∷ ts) l e = ap (λ a. a ∷ all_since now ts) (sym e)
ages_next (suc i) now (t ∷ ts) l e = let n : suc i + 1 ≡ suc (i + 1) = omega arith in ap (λ m. ages_at m now (t ∷ ts)) n ∙ ap (λ xs. 65535 ∷ xs) (ages_next i now ts (omega arith) e)

-- no SDU behind is older
pub falling_at : (most : ℕ) (ages : List ℕ) (i j : ℕ) → i ≤ j → AreFalling most ages → slice_index ages j ≤ slice_index ages i
falling_at most [] i j l f = omega arith
falling_at most (a ∷ ages) zero zero l f = omega arith
falling_at most (a ∷ ages) zero (suc j) l f = below a ages j f.1
  where
    below : (a : ℕ) (xs : List ℕ) (j : ℕ) → AreFalling a xs → slice_index xs j ≤ a
    below a [] j f = omega arith
    below a (x ∷ xs) zero f = f.0
    below a (x ∷ xs) (suc j) f = omega (arith, below x xs j f.1, f.0)
falling_at most (a ∷ ages) (suc i) zero l f = absurd (omega arith)
falling_at most (a ∷ ages) (suc i) (suc j) l f = falling_at a ages i j (omega arith) f.1

falling_less : (a b : ℕ) (ages : List ℕ) → a ≤ b → AreFalling a ages → AreFalling b ages
falling_less a b [] l f = tt
falling_less a b (x ∷ ages) l f = (omega (arith, f.0), f.1)

falling_push : (most : ℕ) (ages : List ℕ) → AreFalling most ages → AreFalling most (ages ++ 0 ∷ [])
falling_push most [] f = (omega arith, tt)
falling_push most (a ∷ ages) f = (f.0, falling_push a ages f.1)

falling_drop : (k most : ℕ) (ages : List ℕ) → AreFalling most ages → AreFalling most (drop k ages)
falling_drop zero most ages f = f
falling_drop (suc k) most [] f = tt
falling_drop (suc k) most (a ∷ ages) f = falling_less a most (drop k ages) f.0 (falling_drop k a ages f.1)

falling_aged : (most : ℕ) (ages : List ℕ) → AreFalling most ages → AreFalling (min (most + 1) 65535) (aged ages)
falling_aged most [] f = tt
falling_aged most (a ∷ ages) f = (omega (arith, f.0), falling_aged a ages f.1)

-- none is kept
pub no_ages : (now : ℕ) → AreAges 0 now []
no_ages now = record { within = omega arith; falling = tt; younger = omega arith }

-- what is kept fits together behind each call
young_push : (ages : List ℕ) (n : ℕ) → slice_index ages n < 65535 → slice_index (ages ++ 0 ∷ []) n < 65535
young_push [] zero l = omega arith
young_push [] (suc n) l = omega arith
young_push (a ∷ ages) zero l = l
young_push (a ∷ ages) (suc n) l = young_push ages n l

pub push_ages : (n now : ℕ) (ts : List ℕ) → now < 65536 → AreAges n now ts → AreAges n now (ts ++ now ∷ [])
push_ages n now ts small is =
    let e = ages_push n now ts small is.within in
    record {
      within = omega (arith, is.within, longer ts);
      falling = subst (AreFalling 65535) (sym e) (falling_push 65535 (ages_at n now ts) is.falling);
      younger = subst (λ xs. slice_index xs n < 65535) (sym e) (young_push (ages_at n now ts) n is.younger);
    }
  where
    longer : (us : List ℕ) → length us ≤ length (us ++ now ∷ [])
    longer [] = omega arith
    longer (u ∷ us) = omega (arith, longer us)

pub drop_ages : (k n now : ℕ) (ts : List ℕ) → AreAges n now ts → AreAges (n - k) now (drop k ts)
drop_ages k n now ts is =
    let e = ages-drop k n now ts in
    record {
      within = omega (arith, is.within, length-drop k ts);
      falling = subst (AreFalling 65535) (sym e) (falling_drop k 65535 (ages_at n now ts) is.falling);
      younger = subst (λ xs. slice_index xs (n - k) < 65535) (sym e) (omega (arith, get_or-drop k (ages_at n now ts) (n - k) 0, falling_at 65535 (ages_at n now ts) n (k + (n - k)) (omega arith) is.falling, is.younger));
    }

-- one tick more
one_older : (now t : ℕ) → since now t < 65535 → since ((now + 1) % 65536) t ≡ min (since now t + 1) 65535
one_older now t l = omega arith

pub ages_tick : (n now most : ℕ) (ts : List ℕ) → AreFalling most (ages_at n now ts) → slice_index (ages_at n now ts) n < 65535 → ages_at n ((now + 1) % 65536) ts ≡ aged (ages_at n now ts)
ages_tick zero now most [] f l = refl
ages_tick zero now most (t ∷ ts) f l = ap₂ (λ a xs. a ∷ xs) (one_older now t l) (ages_tick zero now (since now t) ts f.1 (omega (arith, l, falling_at most (since now t ∷ all_since now ts) 0 1 (omega arith) f)))
ages_tick (suc n) now most [] f l = refl
ages_tick (suc n) now most (t ∷ ts) f l = ap (λ xs. 65535 ∷ xs) (ages_tick n now 65535 ts f.1 l)

-- those that are 65,535 ticks old then
pub tick_ages : (n m now next : ℕ) (ts : List ℕ) → next ≡ (now + 1) % 65536 → AreAges n now ts → m ≤ length ts → ages_at m next ts ≡ ages_at n next ts → slice_index (ages_at n next ts) m < 65535 → AreAges m next ts
tick_ages n m now next ts e is within same younger = record {
  within = within;
  falling = subst (AreFalling 65535) (sym (same ∙ (ap (λ k. ages_at n k ts) e ∙ ages_tick n now 65535 ts is.falling is.younger))) (falling_less 65535 65535 (aged (ages_at n now ts)) (omega arith) (falling_aged 65535 (ages_at n now ts) is.falling));
  younger = subst (λ xs. slice_index xs m < 65535) (sym same) younger;
}
