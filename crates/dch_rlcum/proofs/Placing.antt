-- Where the SDUs begin that no PDU has taken.
use Rattle.std.proofs.Common.{◌≡◌, ◌+◌, ◌-◌, ◌<◌, ◌≤◌, ℕ, zero, suc, List, [], ◌∷◌, ◌++◌, Bool, true, false, cond, length, get_or, drop, take, arith, refl, sym, ap, ap₂, ◌∙◌, subst, not, ⊎_elim, append_assoc, length-append, length-drop}
use mir.Val.{bool_byte}
use Rattle.std.specs.Prelude.{Option, None, Some, is_some as is_one, ◌||◌, ◌==◌, nat_le, nat_lt}
use Rattle.std.proofs.lemmas.Bool.{cases_lt, le-leb, le-ltb, lt-leb, lt-ltb, ltb-false, ltb-true}
use Rattle.std.proofs.lemmas.List.{append-nil, drop-append-le, drop-drop, get_or-drop, get_or_append_left}
use Rattle.std.proofs.Math.Seq.{drop-append_seam, take-append_seam}
use Rattle.dch_bits.specs.declared.offer.Offer.TheVariants.{Accepted, Full, WrongSize}
use Rattle.dch_am.specs.Bodies.{joined, sizes}
use Rattle.dch_am.specs.Cuts.{AllFull}
use Rattle.dch_txbuf.specs.declared.taken.Cut.{Cut}
use Rattle.dch_txbuf.specs.declared.taken.Start.{Start}
use Rattle.dch_txbuf.specs.Cuts.{IsStart, IsThere, after_cut, cut_of, first_of, is_padded, led_by, left_at, indicators_with, next_start, octets_of, trimmed}
use Rattle.dch_txbuf.proofs.Cutting.{cut_is_padded, length-trimmed, placed_cut}
use Rattle.dch_txbuf.proofs.Following.{left_next, start_next}
use Rattle.dch_txbuf.specs.Chunks.{blocks_for}
use Rattle.dch_txbuf.specs.Sdus.{blocks_in}
use Rattle.dch_rlcum.specs.Queue.{IsPlace, IsQueue, units_at}
use Rattle.dch_rlcum.specs.Receiving.{is_some}
use Rattle.dch_rlcum.specs.Sending.{Sending, answer_of, blocks, blocks_of, carried, held_by, leading, left_by, indicators_in, room_of, units_after, with_unit}
use Rattle.dch_rlcum.proofs.Cutting.{IsCutOf, cuts_are, indicators_are, octets_are, sent_after}

past : (us : List (List ℕ)) (k : ℕ) → length us ≤ k → length (get_or us k []) ≡ 0
past [] zero l = refl
past [] (suc k) l = refl
past (u ∷ us) zero l = absurd (omega (arith, l))
past (u ∷ us) (suc k) l = past us k (omega (arith, l))

pub first_at : (us : List (List ℕ)) (k : ℕ) → first_of (drop k us) ≡ get_or us k []
first_at [] zero = refl
first_at [] (suc k) = refl
first_at (u ∷ us) zero = refl
first_at (u ∷ us) (suc k) = first_at us k

-- no SDU is begun where none is left
none_begun : (sdus : List (List ℕ)) (start : Start) → IsStart sdus start → length (left_at start sdus) ≡ 0 → start.used ≡ 0
none_begun sdus start is e = omega (arith, is.used, past sdus start.sdu (omega (arith, e, length-trimmed start.used (drop start.sdu sdus), length-drop start.sdu sdus)))

-- an SDU is left where the place isn't behind all
pub some_left : (sdus : List (List ℕ)) (start : Start) → is_some (sizes (left_at start sdus)) ≡ nat_lt start.sdu (length sdus)
some_left sdus start = go (left_at start sdus) (length-trimmed start.used (drop start.sdu sdus) ∙ length-drop start.sdu sdus)
  where
    go : (us : List (List ℕ)) → length us ≡ length sdus - start.sdu → is_some (sizes us) ≡ nat_lt start.sdu (length sdus)
    go [] e = sym (le-ltb start.sdu (length sdus) (omega (arith, e)))
    go (u ∷ us) e = sym (lt-ltb start.sdu (length sdus) (omega (arith, e)))

-- a length indicator is owed where the place says so
pub owed_at : (sdus : List (List ℕ)) (start : Start) (owed : Bool) → IsPlace sdus start owed → nat_lt 0 (units_at sdus start owed).owed ≡ owed
owed_at sdus start true is = lt-ltb 0 _ (is.owed_is refl)
owed_at sdus start false is = refl

-- the size of the SDU whose length indicator is owed
owed_size : (free : ℕ) (sdus : List (List ℕ)) (start : Start) (c : Cut) → IsStart sdus start → AllFull (left_at start sdus) → c ≡ cut_of free (left_at start sdus) → c.owed ≡ true → length (get_or sdus (start.sdu + c.pieces) []) ≡ sent_after start.used c
owed_size free sdus start c is full e owed = go (nat_lt 0 c.pieces) refl
  where
    cut : IsCutOf free start.used 0 (left_at start sdus) c
    cut = subst (IsCutOf free start.used 0 (left_at start sdus)) (sym e) (cuts_are free start.used 0 (left_at start sdus) full (none_begun sdus start is))

    rest : c.rest ≡ length (first_of (drop c.pieces (left_at start sdus)))
    rest = (cut.owed owed).0

    go : (b : Bool) → nat_lt 0 c.pieces ≡ b → length (get_or sdus (start.sdu + c.pieces) []) ≡ cond b c.rest (start.used + c.rest)
    go true q = sym (rest ∙ ap (λ (xs : List ℕ). length xs) (ap first_of (behind c.pieces (drop start.sdu sdus) (ltb-true _ _ q) ∙ drop-drop c.pieces start.sdu sdus) ∙ first_at sdus (start.sdu + c.pieces)))
      where
        behind : (k : ℕ) (us : List (List ℕ)) → 0 < k → drop k (trimmed start.used us) ≡ drop k us
        behind zero us l = absurd (omega (arith, l))
        behind (suc k) [] l = refl
        behind (suc k) (u ∷ us) l = refl
    go false q =
        let none : c.pieces ≡ 0 = omega (arith, ltb-false _ _ q) in
        let same : start.sdu + c.pieces ≡ start.sdu = omega (arith, none) in
        omega (arith, rest, is.used, ap (λ k. length (get_or sdus k [])) same, ap (λ k. length (first_of (drop k (left_at start sdus)))) none, short start.used (drop start.sdu sdus), ap (λ (xs : List ℕ). length xs) (first_at sdus start.sdu))
      where
        short : (n : ℕ) (us : List (List ℕ)) → length (first_of (trimmed n us)) ≡ length (first_of us) - n
        short n [] = omega arith
        short n (u ∷ us) = length-drop n u

next_sdu : (start : Start) (c : Cut) → (next_start start c).sdu ≡ start.sdu + c.pieces + cond c.owed 1 0
next_sdu start c = go c.owed
  where
    go : (b : Bool) → (cond {A = Start} b (record { sdu = start.sdu + c.pieces + 1; used = 0 }) (record { sdu = start.sdu + c.pieces; used = cond (nat_lt 0 c.pieces) c.rest (start.used + c.rest) })).sdu ≡ start.sdu + c.pieces + cond b 1 0
    go true = refl
    go false = omega arith

next_used : (start : Start) (c : Cut) → (next_start start c).used ≡ cond c.owed 0 (sent_after start.used c)
next_used start c = go c.owed
  where
    go : (b : Bool) → (cond {A = Start} b (record { sdu = start.sdu + c.pieces + 1; used = 0 }) (record { sdu = start.sdu + c.pieces; used = cond (nat_lt 0 c.pieces) c.rest (start.used + c.rest) })).used ≡ cond b 0 (sent_after start.used c)
    go true = refl
    go false = refl

-- what is left behind a PDU of so many octets for SDUs and length indicators
pub left_behind : (free : ℕ) (sdus : List (List ℕ)) (start : Start) (c : Cut) → IsStart sdus start → AllFull (left_at start sdus) → c ≡ cut_of free (left_at start sdus) → units_at sdus (next_start start c) c.owed ≡ left_by free start.used (sizes (left_at start sdus))
left_behind free sdus start c is full e =
    ap₂ (λ (us : List (List ℕ)) n. record { lengths = sizes us; sent = n; owed = cond c.owed (length (get_or sdus ((next_start start c).sdu - 1) [])) 0 }) (left_next sdus start c) (next_used start c)
    ∙ (ap (λ n. record { lengths = sizes (after_cut c (left_at start sdus)).units; sent = cond c.owed 0 (sent_after start.used c); owed = n }) (go c.owed refl)
    ∙ sym cut.left)
  where
    cut : IsCutOf free start.used 0 (left_at start sdus) c
    cut = subst (IsCutOf free start.used 0 (left_at start sdus)) (sym e) (cuts_are free start.used 0 (left_at start sdus) full (none_begun sdus start is))

    go : (b : Bool) → c.owed ≡ b → cond b (length (get_or sdus ((next_start start c).sdu - 1) [])) 0 ≡ cond b (sent_after start.used c) 0
    go true q =
        let n : (next_start start c).sdu - 1 ≡ start.sdu + c.pieces = omega (arith, next_sdu start c, ap (λ b. cond {A = ℕ} b 1 0) q) in
        ap (λ k. length (get_or sdus k [])) n ∙ owed_size free sdus start c is full e q
    go false q = refl

pub place_behind : (free : ℕ) (sdus : List (List ℕ)) (start : Start) (owed : Bool) (c : Cut) → IsPlace sdus start owed → c ≡ cut_of free (left_at start sdus) → IsPlace sdus (next_start start c) c.owed
place_behind free sdus start owed c is e = record {
  start_is = subst (λ (k : Cut). IsStart sdus (next_start start k)) (sym e) (start_next sdus start free is.start_is);
  left = subst AllFull (sym (left_next sdus start c)) cut.full;
  owed_is = λ q.
      let n : (next_start start c).sdu - 1 ≡ start.sdu + c.pieces = omega (arith, next_sdu start c, ap (λ b. cond {A = ℕ} b 1 0) q) in
      omega (arith, ap (λ k. length (get_or sdus k [])) n, owed_size free sdus start c is.start_is is.left e q, some (nat_lt 0 c.pieces), (cut.owed q).1);
}
  where
    cut : IsCutOf free start.used 0 (left_at start sdus) c
    cut = subst (IsCutOf free start.used 0 (left_at start sdus)) (sym e) (cuts_are free start.used 0 (left_at start sdus) is.left (none_begun sdus start is.start_is))

    some : (b : Bool) → c.rest ≤ cond b c.rest (start.used + c.rest)
    some true = omega arith
    some false = omega arith

-- a PDU of the SDUs from a place on
pub record IsTaken (pdu : ℕ) (mark_start : Bool) (sdus : List (List ℕ)) (start : Start) (owed : Bool) (lead : Option ℕ) (c : Cut) : Type 0 where
  pub indicators : indicators_with lead (pdu - 1) c (left_at start sdus) ≡ indicators_in pdu mark_start (units_at sdus start owed)
  pub count : length (octets_of c (left_at start sdus)) ≡ carried (room_of pdu mark_start (units_at sdus start owed)) (units_at sdus start owed).lengths
  pub octets : octets_of c (left_at start sdus) ≡ take (carried (room_of pdu mark_start (units_at sdus start owed)) (units_at sdus start owed).lengths) (joined (left_at start sdus))
  pub row : joined (left_at (next_start start c) sdus) ≡ drop (carried (room_of pdu mark_start (units_at sdus start owed)) (units_at sdus start owed).lengths) (joined (left_at start sdus))
  pub units : units_at sdus (next_start start c) c.owed ≡ units_after pdu mark_start (units_at sdus start owed)
  pub place : IsPlace sdus (next_start start c) c.owed
  pub few : length (led_by lead) + length (octets_of c (left_at start sdus)) + c.pieces ≤ pdu - 1

pub taken : (pdu : ℕ) (mark_start : Bool) (sdus : List (List ℕ)) (start : Start) (owed : Bool) (lead : Option ℕ) (c : Cut) → length (led_by lead) ≤ pdu - 1 → IsPlace sdus start owed → led_by lead ≡ leading mark_start (units_at sdus start owed) → c ≡ cut_of (pdu - 1 - length (led_by lead)) (left_at start sdus) → IsTaken pdu mark_start sdus start owed lead c
taken pdu mark_start sdus start owed lead c few is led e =
    let us : List (List ℕ) = left_at start sdus in
    let room : pdu - 1 - length (led_by lead) ≡ room_of pdu mark_start (units_at sdus start owed) = ap (λ (xs : List ℕ). pdu - 1 - length xs) led in
    let cut : IsCutOf (pdu - 1 - length (led_by lead)) start.used 0 (left_at start sdus) c = subst (IsCutOf (pdu - 1 - length (led_by lead)) start.used 0 (left_at start sdus)) (sym e) (cuts_are (pdu - 1 - length (led_by lead)) start.used 0 (left_at start sdus) is.left (none_begun sdus start is.start_is)) in
    let count : length (octets_of c (left_at start sdus)) ≡ carried (room_of pdu mark_start (units_at sdus start owed)) (units_at sdus start owed).lengths = ap (λ (k : Cut). length (octets_of k (left_at start sdus))) e ∙ (sym (octets_are (pdu - 1 - length (led_by lead)) (left_at start sdus) is.left) ∙ ap (λ n. carried n (sizes (left_at start sdus))) room) in
    record {
      indicators = ap (λ (k : Cut). indicators_with lead (pdu - 1) k (left_at start sdus)) e ∙ indicators_are pdu mark_start (units_at sdus start owed) lead (left_at start sdus) refl is.left few led;
      count = count;
      octets = sym (ap₂ (λ n xs. take n xs) (sym count) cut.row ∙ take-append_seam (octets_of c (left_at start sdus)) (joined (after_cut c (left_at start sdus)).units));
      row = ap joined (left_next sdus start c) ∙ sym (ap₂ (λ n xs. drop n xs) (sym count) cut.row ∙ drop-append_seam (octets_of c (left_at start sdus)) (joined (after_cut c (left_at start sdus)).units));
      units = left_behind (pdu - 1 - length (led_by lead)) sdus start c is.start_is is.left e ∙ ap (λ n. left_by n start.used (sizes (left_at start sdus))) room;
      place = place_behind (pdu - 1 - length (led_by lead)) sdus start owed c is e;
      few = omega (arith, cut.fits, few);
    }

-- SDUs before a place leave
pub left_same : (sdus : List (List ℕ)) (start : Start) (n : ℕ) → n ≤ start.sdu → left_at (record { sdu = start.sdu - n; used = start.used }) (drop n sdus) ≡ left_at start sdus
left_same sdus start n l = let e : n + (start.sdu - n) ≡ start.sdu = omega (arith, l) in ap (trimmed start.used) (drop-drop (start.sdu - n) n sdus ∙ ap (λ k. drop k sdus) e)

pub units_same : (sdus : List (List ℕ)) (start : Start) (owed : Bool) (n : ℕ) → n + cond owed 1 0 ≤ start.sdu → units_at (drop n sdus) (record { sdu = start.sdu - n; used = start.used }) owed ≡ units_at sdus start owed
units_same sdus start owed n l = ap₂ (λ us k. record { lengths = sizes us; sent = start.used; owed = k }) (left_same sdus start n (omega (arith, l))) (go owed l)
  where
    go : (b : Bool) → n + cond b 1 0 ≤ start.sdu → cond b (length (get_or (drop n sdus) (start.sdu - n - 1) [])) 0 ≡ cond b (length (get_or sdus (start.sdu - 1) [])) 0
    go true m = let e : n + (start.sdu - n - 1) ≡ start.sdu - 1 = omega (arith, m) in ap (λ (xs : List ℕ). length xs) (get_or-drop n sdus (start.sdu - n - 1) []) ∙ ap (λ k. length (get_or sdus k [])) e
    go false m = refl

pub place_same : (sdus : List (List ℕ)) (start : Start) (owed : Bool) (n : ℕ) → n + cond owed 1 0 ≤ start.sdu → IsPlace sdus start owed → IsPlace (drop n sdus) (record { sdu = start.sdu - n; used = start.used }) owed
place_same sdus start owed n l is =
    let e : n + (start.sdu - n) ≡ start.sdu = omega (arith, l) in
    record {
      start_is = record {
        sdu = omega (arith, is.start_is.sdu, length-drop n sdus);
        used = omega (arith, is.start_is.used, ap (λ (xs : List ℕ). length xs) (get_or-drop n sdus (start.sdu - n) []), ap (λ k. length (get_or sdus k [])) e);
      };
      left = subst AllFull (sym (left_same sdus start n (omega (arith, l)))) is.left;
      owed_is = λ q. let m : n + (start.sdu - n - 1) ≡ start.sdu - 1 = omega (arith, l, ap (λ b. cond {A = ℕ} b 1 0) q) in omega (arith, is.owed_is q, ap (λ (xs : List ℕ). length xs) (get_or-drop n sdus (start.sdu - n - 1) []), ap (λ k. length (get_or sdus k [])) m);
    }

-- the blocks that are held
blocks_left : (us : List (List ℕ)) → blocks_of 0 (sizes us) ≡ blocks_in us
blocks_left [] = refl
blocks_left (u ∷ us) = let none : 0 + length u ≡ length u = omega arith in ap₂ (λ a b. blocks a + b) none (blocks_left us)

pub held_is : (sdus : List (List ℕ)) (start : Start) (owed : Bool) → IsQueue sdus start owed → held_by (units_at sdus start owed) ≡ blocks_in sdus
held_is sdus start owed q = go owed q.first (q.place.owed_is)
  where
    part : (us : List (List ℕ)) → start.used ≤ length (first_of us) → blocks_of start.used (sizes (trimmed start.used us)) ≡ blocks_in us
    part [] l = refl
    part (u ∷ us) l = let whole : start.used + length (drop start.used u) ≡ length u = omega (arith, l, length-drop start.used u) in ap₂ (λ a b. blocks a + b) whole (blocks_left us)

    begun_is : (k : ℕ) → start.sdu ≡ k → start.used ≤ length (first_of (drop k sdus))
    begun_is k e = omega (arith, q.place.start_is.used, ap (λ (xs : List ℕ). length xs) (first_at sdus k), ap (λ n. length (get_or sdus n [])) e)

    go : (b : Bool) → start.sdu ≡ cond b 1 0 → (b ≡ true → 0 < length (get_or sdus (start.sdu - 1) [])) → blocks (cond b (length (get_or sdus (start.sdu - 1) [])) 0) + blocks_of start.used (sizes (left_at start sdus)) ≡ blocks_in sdus
    go true e some =
        let z : start.sdu - 1 ≡ 0 = omega (arith, e) in
        ap₂ (λ a us. blocks (length (get_or sdus a [])) + blocks_of start.used (sizes (trimmed start.used us))) z (ap (λ n. drop n sdus) e)
        ∙ (ap (λ n. blocks (length (get_or sdus 0 [])) + n) (part (drop 1 sdus) (begun_is 1 e)) ∙ split sdus (omega (arith, some refl, ap (λ n. length (get_or sdus n [])) z)))
      where
        split : (us : List (List ℕ)) → 0 < length (get_or us 0 []) → blocks (length (get_or us 0 [])) + blocks_in (drop 1 us) ≡ blocks_in us
        split [] l = absurd (omega (arith, l))
        split (u ∷ us) l = refl
    go false e some =
        ap (λ n. blocks 0 + blocks_of start.used (sizes (trimmed start.used (drop n sdus)))) e
        ∙ (ap (λ n. blocks 0 + n) (part sdus (begun_is 0 e)) ∙ plain (blocks_in sdus))
      where
        plain : (n : ℕ) → blocks 0 + n ≡ n
        plain n = omega arith

-- one SDU more
pub more_left : (sdus : List (List ℕ)) (start : Start) (sdu : List ℕ) → IsStart sdus start → left_at start (sdus ++ sdu ∷ []) ≡ left_at start sdus ++ sdu ∷ []
more_left sdus start sdu is = ap (trimmed start.used) (drop-append-le start.sdu sdus (sdu ∷ []) is.sdu) ∙ go (drop start.sdu sdus) refl
  where
    go : (us : List (List ℕ)) → drop start.sdu sdus ≡ us → trimmed start.used (us ++ sdu ∷ []) ≡ trimmed start.used us ++ sdu ∷ []
    go [] e =
        let all : length sdus ≤ start.sdu = omega (arith, ap (λ (vs : List (List ℕ)). length vs) e, length-drop start.sdu sdus) in
        let none : start.used ≡ 0 = omega (arith, is.used, past sdus start.sdu all) in
        ap (λ n. drop n sdu ∷ []) none
    go (u ∷ us) e = refl

pub owed_more : (sdus : List (List ℕ)) (start : Start) (owed : Bool) (sdu : List ℕ) → IsQueue sdus start owed → units_at (sdus ++ sdu ∷ []) start owed ≡ with_unit (length sdu) (units_at sdus start owed)
owed_more sdus start owed sdu q = ap₂ (λ us k. record { lengths = us; sent = start.used; owed = k }) (ap sizes (more_left sdus start sdu q.place.start_is) ∙ sizes_more (left_at start sdus)) (same owed q.first)
  where
    sizes_more : (us : List (List ℕ)) → sizes (us ++ sdu ∷ []) ≡ sizes us ++ length sdu ∷ []
    sizes_more [] = refl
    sizes_more (u ∷ us) = ap (λ ns. length u ∷ ns) (sizes_more us)

    same : (b : Bool) → start.sdu ≡ cond b 1 0 → cond b (length (get_or (sdus ++ sdu ∷ []) (start.sdu - 1) [])) 0 ≡ cond b (length (get_or sdus (start.sdu - 1) [])) 0
    same true e = ap (λ (xs : List ℕ). length xs) (get_or_append_left sdus (sdu ∷ []) [] (start.sdu - 1) (omega (arith, e, q.place.start_is.sdu)))
    same false e = refl

pub joined_more : (us : List (List ℕ)) (sdu : List ℕ) → joined (us ++ sdu ∷ []) ≡ joined us ++ sdu
joined_more [] sdu = append-nil sdu
joined_more (u ∷ us) sdu = ap (λ xs. u ++ xs) (joined_more us sdu) ∙ sym (append_assoc u (joined us) sdu)

pub queue_more : (sdus : List (List ℕ)) (start : Start) (owed : Bool) (sdu : List ℕ) → 0 < length sdu → IsQueue sdus start owed → IsQueue (sdus ++ sdu ∷ []) start owed
queue_more sdus start owed sdu some q = record {
  place = record {
    start_is = record { sdu = omega (arith, q.place.start_is.sdu, length-append sdus (sdu ∷ [])); used = omega (arith, q.place.start_is.used, longer sdus start.sdu) };
    left = subst AllFull (sym (more_left sdus start sdu q.place.start_is)) (full_more (left_at start sdus) q.place.left);
    owed_is = λ e. omega (arith, q.place.owed_is e, longer sdus (start.sdu - 1));
  };
  first = q.first;
}
  where
    longer : (vs : List (List ℕ)) (k : ℕ) → length (get_or vs k []) ≤ length (get_or (vs ++ sdu ∷ []) k [])
    longer [] zero = omega arith
    longer [] (suc k) = omega arith
    longer (v ∷ vs) zero = omega arith
    longer (v ∷ vs) (suc k) = longer vs k

    full_more : (us : List (List ℕ)) → AllFull us → AllFull (us ++ sdu ∷ [])
    full_more [] full = (some, tt)
    full_more (u ∷ us) full = (full.0, full_more us full.1)

-- an SDU is taken where its blocks find room
pub room_is : (a b c : ℕ) → nat_lt c (a + b) ≡ not (nat_le (a + b) c)
room_is a b c = ⊎_elim
    (λ (m : c < a + b). lt-ltb c (a + b) m ∙ sym (ap not (lt-leb (a + b) c m)))
    (λ (m : a + b ≤ c). le-ltb c (a + b) m ∙ sym (ap not (le-leb (a + b) c m)))
    (cases_lt c (a + b))

pub byte_is : (b : Bool) → bool_byte b ≡ cond b 1 0
byte_is true = refl
byte_is false = refl

-- what a PDU takes is there, and it tells whether octets are left
pub record IsReady (pdu : ℕ) (mark_start : Bool) (sdus : List (List ℕ)) (start : Start) (owed : Bool) (lead : Option ℕ) (c : Cut) : Type 0 where
  pub taken : IsTaken pdu mark_start sdus start owed lead c
  pub there : IsThere c (left_at start sdus)
  pub padded : c.padded ≡ is_padded (pdu - 1) lead c (left_at start sdus)

led_long : (lead : Option ℕ) → cond (is_one lead) 1 0 ≡ length (led_by lead)
led_long None = refl
led_long (Some m) = refl

pub ready : (pdu : ℕ) (mark_start : Bool) (sdus : List (List ℕ)) (start : Start) (owed : Bool) (lead : Option ℕ) (c : Cut) (spent : ℕ) → 3 ≤ pdu → IsPlace sdus start owed → led_by lead ≡ leading mark_start (units_at sdus start owed) → length (led_by lead) ≤ 1 → spent ≡ cond (is_one lead) 1 0 → c ≡ cut_of (pdu - 1 - spent) (left_at start sdus) → IsReady pdu mark_start sdus start owed lead c
ready pdu mark_start sdus start owed lead c spent from is led few long e =
    let cut : c ≡ cut_of (pdu - 1 - length (led_by lead)) (left_at start sdus) = e ∙ ap (λ n. cut_of (pdu - 1 - n) (left_at start sdus)) (long ∙ led_long lead) in
    let t : IsTaken pdu mark_start sdus start owed lead c = taken pdu mark_start sdus start owed lead c (omega (arith, few, from)) is led cut in
    record {
      taken = t;
      there = subst (λ (k : Cut). IsThere k (left_at start sdus)) (sym e) (placed_cut (pdu - 1 - spent) (left_at start sdus)).there;
      padded = subst (λ (k : Cut). k.padded ≡ is_padded (pdu - 1) lead k (left_at start sdus)) (sym cut) (cut_is_padded (length (led_by lead)) (pdu - 1 - length (led_by lead)) (pdu - 1) (left_at start sdus) (omega (arith, few, from)));
    }

-- the SDUs behind it, once those that have left are released
pub record IsMoved (pdu : ℕ) (mark_start : Bool) (sdus : List (List ℕ)) (start : Start) (owed : Bool) (c : Cut) (n ahead : ℕ) : Type 0 where
  pub queue : IsQueue (drop n sdus) (record { sdu = ahead; used = (next_start start c).used }) c.owed
  pub units : units_at (drop n sdus) (record { sdu = ahead; used = (next_start start c).used }) c.owed ≡ units_after pdu mark_start (units_at sdus start owed)
  pub row : joined (left_at (record { sdu = ahead; used = (next_start start c).used }) (drop n sdus)) ≡ drop (carried (room_of pdu mark_start (units_at sdus start owed)) (units_at sdus start owed).lengths) (joined (left_at start sdus))

pub advanced : (pdu : ℕ) (mark_start : Bool) (sdus : List (List ℕ)) (start : Start) (owed : Bool) (lead : Option ℕ) (c : Cut) (n ahead : ℕ) → IsTaken pdu mark_start sdus start owed lead c → ahead ≡ cond c.owed 1 0 → n ≡ (next_start start c).sdu - ahead → IsMoved pdu mark_start sdus start owed c n ahead
advanced pdu mark_start sdus start owed lead c n ahead is a e =
    let enough : n + cond c.owed 1 0 ≤ (next_start start c).sdu = omega (arith, a, e, next_sdu start c) in
    let at : (next_start start c).sdu - n ≡ ahead = omega (arith, a, e, next_sdu start c) in
    record {
      queue = record { place = subst (λ k. IsPlace (drop n sdus) (record { sdu = k; used = (next_start start c).used }) c.owed) at (place_same sdus (next_start start c) c.owed n enough is.place); first = a };
      units = ap (λ k. units_at (drop n sdus) (record { sdu = k; used = (next_start start c).used }) c.owed) (sym at) ∙ (units_same sdus (next_start start c) c.owed n enough ∙ is.units);
      row = ap (λ k. joined (left_at (record { sdu = k; used = (next_start start c).used }) (drop n sdus))) (sym at) ∙ (ap joined (left_same sdus (next_start start c) n (omega (arith, enough))) ∙ is.row);
    }

pub leaves_few : (sdus : List (List ℕ)) (start : Start) (c : Cut) (ahead : ℕ) → IsPlace sdus (next_start start c) c.owed → (next_start start c).sdu - ahead ≤ length sdus
leaves_few sdus start c ahead is = omega (arith, is.start_is.sdu)

-- what an offer is answered
pub answered : (s : Sending) (unit : List ℕ) (sdus : List (List ℕ)) (room : Bool) → (length unit == 0) ≡ false → length unit ≤ 1500 → held_by s.units ≡ blocks_in sdus → room ≡ nat_le (blocks_in sdus + blocks_for (length unit)) s.buffer → answer_of unit s ≡ cond room Accepted Full
answered s unit sdus room some few held e =
    ap₂ (λ a b. cond (a || b) WrongSize (cond (nat_lt s.buffer (held_by s.units + blocks (length unit))) Full Accepted)) some (le-ltb 1500 (length unit) few)
    ∙ (ap (λ n. cond (nat_lt s.buffer (n + blocks (length unit))) Full Accepted) held
    ∙ (ap (λ b. cond b Full Accepted) (room_is (blocks_in sdus) (blocks (length unit)) s.buffer)
    ∙ (flip (nat_le (blocks_in sdus + blocks (length unit)) s.buffer) ∙ ap (λ b. cond b Accepted Full) (sym e))))
  where
    flip : (b : Bool) → cond (not b) Full Accepted ≡ cond b Accepted Full
    flip true = refl
    flip false = refl

pub some_unit : (unit : List ℕ) → (length unit == 0) ≡ false → 0 < length unit
some_unit [] e = absurd (cc)
some_unit (x ∷ xs) e = omega arith
