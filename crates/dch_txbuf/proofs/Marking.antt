-- The length indicators of a PDU, as they are written.
use Rattle.std.proofs.Common.{◌≡◌, ◌+◌, ◌-◌, ◌*◌, ◌<◌, ◌≤◌, ℕ, zero, suc, List, [], ◌∷◌, ◌++◌, Bool, true, false, cond, length, get_or, drop, take, Option, Some, None, arith, refl, sym, ap, ap₂, ◌∙◌, subst, ⊎_elim, length-append, length-drop}
use Rattle.std.specs.Prelude.{nat_lt}
use mir.Val.{bool_byte}
use Rattle.std.proofs.Math.ListN.{length-set}
use Rattle.std.proofs.lemmas.Bool.{cases_lt, le-ltb, lt-ltb}
use Rattle.std.proofs.lemmas.List.{get_or-append-add, get_or_append_left, length-take-le, take-take, take_more, take_more_set}
use Rattle.dch_sar.specs.Pdus.{padding}
use Rattle.dch_am.specs.Bodies.{ends_at, joined}
use Rattle.dch_rlcpdu.specs.Indicators.{indicator_octets}
use Rattle.dch_txbuf.specs.declared.taken.Cut.{Cut}
use Rattle.dch_txbuf.specs.declared.taken.Start.{Start}
use Rattle.dch_txbuf.specs.Cuts.{IsThere, is_padded, led_by, left_at, indicators_with, octets_of, trimmed, with_lead, with_indicator}
use Rattle.dch_txbuf.proofs.Cutting.{Carries, inside_items, joined_next, joined_within, piece_at}

-- the end of a piece
get_or-ends : (at : ℕ) (ps : List (List ℕ)) (j : ℕ) → j < length ps → get_or (ends_at at ps) j 0 ≡ at + length (joined (take (j + 1) ps))
get_or-ends at [] j l = absurd (omega (arith, l))
get_or-ends at (p ∷ ps) zero l = omega (arith, length-append p [])
get_or-ends at (p ∷ ps) (suc j) l =
    let q : suc j + 1 ≡ suc (j + 1) = omega arith in
    let e : at + length p + length (joined (take (j + 1) ps)) ≡ at + length (p ++ joined (take (j + 1) ps)) = omega (arith, length-append p (joined (take (j + 1) ps))) in
    get_or-ends (at + length p) ps j (omega (arith, l)) ∙ (e ∙ ap (λ k. at + length (joined (take k (p ∷ ps)))) (sym q))

length-ends : (at : ℕ) (ps : List (List ℕ)) → length (ends_at at ps) ≡ length ps
length-ends at [] = refl
length-ends at (p ∷ ps) = ap suc (length-ends (at + length p) ps)

-- what a PDU spends but for the length indicator of padding
abbrev pub spent : Option ℕ → Cut → List (List ℕ) → ℕ
spent lead c us = length (led_by lead) + length (octets_of c us) + c.pieces

pub length-indicators : (lead : Option ℕ) (room : ℕ) (c : Cut) (us : List (List ℕ)) → IsThere c us → length (indicators_with lead room c us) ≡ length (led_by lead) + c.pieces + length (padding room (spent lead c us))
length-indicators lead room c us there = omega (
  arith,
  length-append (led_by lead) (ends_at 0 (take c.pieces us) ++ padding room (spent lead c us)),
  length-append (ends_at 0 (take c.pieces us)) (padding room (spent lead c us)),
  length-ends 0 (take c.pieces us),
  length-take-le c.pieces us there.pieces,
)

-- how many length indicators a PDU has, with that of padding or without
indicators_count : (lead : Option ℕ) (room : ℕ) (c : Cut) (us : List (List ℕ)) → IsThere c us → c.padded ≡ is_padded room lead c us → length (indicators_with lead room c us) ≡ length (led_by lead) + c.pieces + cond c.padded 1 0
indicators_count lead room c us there told = length-indicators lead room c us there ∙ ap (λ k. length (led_by lead) + c.pieces + k) (padding_long (nat_lt (spent lead c us) room) ∙ ap (λ t. cond t 1 0) (sym told))
  where
    padding_long : (t : Bool) → length (cond {A = List ℕ} t (127 ∷ []) []) ≡ cond t 1 0
    padding_long true = refl
    padding_long false = refl

-- that of the end of a piece
pub indicator_at : (lead : Option ℕ) (room j : ℕ) (c : Cut) (us : List (List ℕ)) → IsThere c us → j < c.pieces → get_or (indicators_with lead room c us) (length (led_by lead) + j) 0 ≡ length (joined (take (j + 1) us))
indicator_at lead room j c us there l =
    let n : length (take c.pieces us) ≡ c.pieces = length-take-le c.pieces us there.pieces in
    get_or-append-add (led_by lead) (ends_at 0 (take c.pieces us) ++ padding room (spent lead c us)) j 0
    ∙ (get_or_append_left (ends_at 0 (take c.pieces us)) (padding room (spent lead c us)) 0 j (omega (arith, l, n, length-ends 0 (take c.pieces us)))
    ∙ omega (arith, get_or-ends 0 (take c.pieces us) j (omega (arith, l, n)), ap (λ xs. length (joined xs)) (take-take (j + 1) c.pieces us (omega (arith, l)))))

-- that of padding
pub indicator_last : (lead : Option ℕ) (room : ℕ) (c : Cut) (us : List (List ℕ)) → IsThere c us → length (led_by lead) + c.pieces < length (indicators_with lead room c us) → get_or (indicators_with lead room c us) (length (led_by lead) + c.pieces) 0 ≡ 127
indicator_last lead room c us there l =
    let n : c.pieces ≡ length (ends_at 0 (take c.pieces us)) + 0 = omega (arith, length-ends 0 (take c.pieces us), length-take-le c.pieces us there.pieces) in
    get_or-append-add (led_by lead) (ends_at 0 (take c.pieces us) ++ padding room (spent lead c us)) c.pieces 0
    ∙ (ap (λ k. get_or (ends_at 0 (take c.pieces us) ++ padding room (spent lead c us)) k 0) n
    ∙ (get_or-append-add (ends_at 0 (take c.pieces us)) (padding room (spent lead c us)) 0 0
    ∙ go (nat_lt (spent lead c us) room) (omega (arith, l, length-indicators lead room c us there))))
  where
    go : (t : Bool) → 0 < length (cond {A = List ℕ} t (127 ∷ []) []) → get_or (cond {A = List ℕ} t (127 ∷ []) []) 0 0 ≡ 127
    go true l = refl
    go false l = absurd (omega (arith, l))

-- length indicators as octets
pub length-indicator_octets : (ms : List ℕ) → length (indicator_octets ms) ≡ length ms
length-indicator_octets [] = refl
length-indicator_octets (m ∷ ms) = ap suc (length-indicator_octets ms)

get_or-indicators : (ms : List ℕ) (k : ℕ) → k < length ms → get_or (indicator_octets ms) k 0 ≡ 2 * get_or ms k 0 + cond (nat_lt (k + 1) (length ms)) 1 0
get_or-indicators [] k l = absurd (omega (arith, l))
get_or-indicators (m ∷ []) zero l = refl
get_or-indicators (m ∷ n ∷ ms) zero l = ap (λ t. 2 * m + cond t 1 0) (sym (lt-ltb (zero + 1) (length (m ∷ n ∷ ms)) (omega arith)))
get_or-indicators (m ∷ ms) (suc k) l = get_or-indicators ms k (omega (arith, l)) ∙ ap (λ t. 2 * get_or ms k 0 + cond t 1 0) same
  where
    same : nat_lt (k + 1) (length ms) ≡ nat_lt (suc k + 1) (suc (length ms))
    same = ⊎_elim
        (λ (a : k + 1 < length ms). lt-ltb (k + 1) (length ms) a ∙ sym (lt-ltb (suc k + 1) (suc (length ms)) (omega (arith, a))))
        (λ (a : length ms ≤ k + 1). le-ltb (k + 1) (length ms) a ∙ sym (le-ltb (suc k + 1) (suc (length ms)) (omega (arith, a))))
        (cases_lt (k + 1) (length ms))

-- the first of them are written, so many
pub record IsPlaced (ms : List ℕ) (k : ℕ) (out : List ℕ) : Type 0 where
  pub same : length out ≡ length ms
  pub front : take k out ≡ take k (indicator_octets ms)

pub placed_more : (ms : List ℕ) (k m : ℕ) (out now : List ℕ) → IsPlaced ms k out → k < length ms → get_or ms k 0 ≡ m → now ≡ with_indicator m k out → IsPlaced ms (k + 1) now
placed_more ms k m out now is l e n = subst (λ xs. IsPlaced ms (k + 1) xs) (sym n) (record {
  same = length-set out k (2 * m + cond (nat_lt (k + 1) (length out)) 1 0) ∙ is.same;
  front = take_more_set out k (2 * m + cond (nat_lt (k + 1) (length out)) 1 0) (omega (arith, l, is.same)) ∙ (ap₂ (λ xs x. xs ++ x ∷ []) is.front value ∙ sym (take_more (indicator_octets ms) k 0 (omega (arith, l, length-indicator_octets ms))));
})
  where
    value : 2 * m + cond (nat_lt (k + 1) (length out)) 1 0 ≡ get_or (indicator_octets ms) k 0
    value = ap₂ (λ a b. 2 * a + cond (nat_lt (k + 1) b) 1 0) (sym e) is.same ∙ sym (get_or-indicators ms k l)

pub placed_lead : (lead : Option ℕ) (rest out now : List ℕ) → length out ≡ length (led_by lead ++ rest) → now ≡ with_lead lead out → IsPlaced (led_by lead ++ rest) (length (led_by lead)) now
placed_lead None rest out now l e = record { same = ap (λ xs. length xs) e ∙ l; front = refl }
placed_lead (Some m) rest out now l e = placed_more (m ∷ rest) 0 m out now (record { same = l; front = refl }) (omega arith) refl e

-- all of them are written
pub placed_all : (ms out : List ℕ) → IsPlaced ms (length ms) out → out ≡ indicator_octets ms
placed_all ms out is = sym (take_whole (length ms) out (omega (arith, is.same))) ∙ (is.front ∙ take_whole (length ms) (indicator_octets ms) (omega (arith, length-indicator_octets ms)))
  where
    take_whole : (n : ℕ) (xs : List ℕ) → length xs ≤ n → take n xs ≡ xs
    take_whole zero [] l = refl
    take_whole (suc n) [] l = refl
    take_whole zero (x ∷ xs) l = absurd (omega (arith, l))
    take_whole (suc n) (x ∷ xs) l = ap (λ ys. x ∷ ys) (take_whole n xs (omega (arith, l)))

-- the walk over pieces at SDU i
pub record Counts (items : List (List ℕ)) (start : Start) (at used i : ℕ) : Type 0 where
  pub from : start.sdu ≤ i
  pub count : at ≡ length (joined (take (i - start.sdu) (left_at start items)))
  pub left : trimmed used (drop i items) ≡ drop (i - start.sdu) (left_at start items)
  pub used_is : used ≤ length (get_or items i [])

-- the next piece is there, and how many octets there are with it
pub record IsEnd (items : List (List ℕ)) (start : Start) (at used i pieces : ℕ) : Type 0 where
  pub inside : i < length items
  pub sum : at + (length (get_or items i []) - used) ≡ length (joined (take (i - start.sdu + 1) (left_at start items)))
  pub most : at + (length (get_or items i []) - used) ≤ length (joined (take pieces (left_at start items)))

pub next_end : (items : List (List ℕ)) (start : Start) (at used i pieces : ℕ) → Counts items start at used i → i < start.sdu + pieces → pieces ≤ length (left_at start items) → IsEnd items start at used i pieces
next_end items start at used i pieces k l there =
    let n : i - start.sdu < length (left_at start items) = omega (arith, k.from, l, there) in
    let inside = inside_items items (left_at start items) i (i - start.sdu) used k.left n in
    let is = piece_at items (left_at start items) i (i - start.sdu) used k.left inside in
    let sum : at + (length (get_or items i []) - used) ≡ length (joined (take (i - start.sdu + 1) (left_at start items))) = omega (
      arith,
      k.count,
      ap (λ (xs : List ℕ). length xs) (joined_next (left_at start items) (i - start.sdu) n),
      length-append (joined (take (i - start.sdu) (left_at start items))) (get_or (left_at start items) (i - start.sdu) []),
      ap (λ (xs : List ℕ). length xs) is.here,
      length-drop used (get_or items i []),
    ) in
    record { inside = inside; sum = sum; most = omega (arith, sum, joined_within (left_at start items) (i - start.sdu + 1) pieces (omega (arith, k.from, l))) }

pub counts_of : {items : List (List ℕ)} {start : Start} {first out : List ℕ} {at used i : ℕ} → Carries items start first out at used i → Counts items start at used i
counts_of k = record { from = k.from; count = k.count; left = k.left; used_is = k.used_is }

-- the length indicator of the next piece's end is written
pub placed_on : (items : List (List ℕ)) (start : Start) (lead : Option ℕ) (room : ℕ) (c : Cut) (indicators now : List ℕ) (at used i more before : ℕ) → Counts items start at used i → IsPlaced (indicators_with lead room c (left_at start items)) (length (led_by lead) + (i - start.sdu)) indicators → IsThere c (left_at start items) → i < start.sdu + c.pieces → more ≡ length (get_or items i []) - used → before ≡ length (led_by lead) → now ≡ with_indicator (at + more) (before + (i - start.sdu)) indicators → IsPlaced (indicators_with lead room c (left_at start items)) (length (led_by lead) + (i + 1 - start.sdu)) now
placed_on items start lead room c indicators now at used i more before k is there l e b n =
    let q : length (led_by lead) + (i + 1 - start.sdu) ≡ length (led_by lead) + (i - start.sdu) + 1 = omega (arith, k.from) in
    let next = next_end items start at used i c.pieces k l there.pieces in
    let inside : length (led_by lead) + (i - start.sdu) < length (indicators_with lead room c (left_at start items)) = omega (arith, length-indicators lead room c (left_at start items) there, l, k.from) in
    let here : get_or (indicators_with lead room c (left_at start items)) (length (led_by lead) + (i - start.sdu)) 0 ≡ at + more = indicator_at lead room (i - start.sdu) c (left_at start items) there (omega (arith, l, k.from)) ∙ (sym next.sum ∙ ap (λ m. at + m) (sym e)) in
    subst (λ m. IsPlaced (indicators_with lead room c (left_at start items)) m now) (sym q)
    (placed_more (indicators_with lead room c (left_at start items)) (length (led_by lead) + (i - start.sdu)) (at + more) indicators now is inside here (n ∙ ap (λ m. with_indicator (at + more) (m + (i - start.sdu)) indicators) b))

-- all length indicators are written, with that of padding or without
pub all_padded : (lead : Option ℕ) (room at : ℕ) (c : Cut) (us : List (List ℕ)) (out now : List ℕ) → IsThere c us → length out ≡ length (indicators_with lead room c us) → take (length (led_by lead) + c.pieces) out ≡ take (length (led_by lead) + c.pieces) (indicator_octets (indicators_with lead room c us)) → c.padded ≡ is_padded room lead c us → c.padded ≡ true → at ≡ length out - 1 → now ≡ with_indicator 127 at out → now ≡ indicator_octets (indicators_with lead room c us)
all_padded lead room at c us out now there same front told some e n =
    let all : length (led_by lead) + c.pieces + 1 ≡ length (indicators_with lead room c us) = sym (indicators_count lead room c us there told ∙ ap (λ b. length (led_by lead) + c.pieces + cond b 1 0) some) in
    let last : at ≡ length (led_by lead) + c.pieces = omega (arith, e, same, all) in
    let more : length (led_by lead) + c.pieces < length (indicators_with lead room c us) = omega (arith, all) in
    let is = placed_more (indicators_with lead room c us) (length (led_by lead) + c.pieces) 127 out now (record { same = same; front = front }) more (indicator_last lead room c us there more) (n ∙ ap (λ k. with_indicator 127 k out) last) in
    placed_all (indicators_with lead room c us) now (subst (λ k. IsPlaced (indicators_with lead room c us) k now) all is)

pub all_ended : (lead : Option ℕ) (room : ℕ) (c : Cut) (us : List (List ℕ)) (out : List ℕ) → IsThere c us → length out ≡ length (indicators_with lead room c us) → take (length (led_by lead) + c.pieces) out ≡ take (length (led_by lead) + c.pieces) (indicator_octets (indicators_with lead room c us)) → c.padded ≡ is_padded room lead c us → c.padded ≡ false → out ≡ indicator_octets (indicators_with lead room c us)
all_ended lead room c us out there same front told none =
    let all : length (led_by lead) + c.pieces + 0 ≡ length (indicators_with lead room c us) = sym (indicators_count lead room c us there told ∙ ap (λ b. length (led_by lead) + c.pieces + cond b 1 0) none) in
    let e : length (led_by lead) + c.pieces ≡ length (indicators_with lead room c us) = omega (arith, all) in
    placed_all (indicators_with lead room c us) out (subst (λ k. IsPlaced (indicators_with lead room c us) k out) e (record { same = same; front = front }))

byte_is : (b : Bool) → bool_byte b ≡ cond b 1 0
byte_is true = refl
byte_is false = refl

-- a PDU's room is split into length indicators and octets
pub record IsSplit (lead : Option ℕ) (room n m : ℕ) (c : Cut) (us : List (List ℕ)) : Type 0 where
  pub whole : n + m ≡ room
  pub count : n ≡ length (indicators_with lead (n + m) c us)
  pub rest : m ≡ room - length (indicators_with lead room c us)

pub split_is : (lead : Option ℕ) (room n m ends b : ℕ) (c : Cut) (us : List (List ℕ)) → IsThere c us → n ≡ ends + b → n + m ≡ room → ends ≡ length (led_by lead) + c.pieces → b ≡ bool_byte c.padded → c.padded ≡ is_padded room lead c us → IsSplit lead room n m c us
split_is lead room n m ends b c us there e whole f g told =
    let count : n ≡ length (indicators_with lead room c us) = omega (arith, e, f, g, byte_is c.padded, indicators_count lead room c us there told) in
    record { whole = whole; count = count ∙ ap (λ r. length (indicators_with lead r c us)) (sym whole); rest = omega (arith, count, whole) }
