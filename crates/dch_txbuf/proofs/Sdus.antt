-- SDUs in blocks behind each call.
use Rattle.std.proofs.Common.{◌≡◌, ◌+◌, ◌-◌, ◌*◌, ◌<◌, ◌≤◌, ℕ, zero, suc, List, [], ◌∷◌, ◌++◌, length, get_or, drop, take, arith, refl, sym, ap, ap₂, ◌∙◌, ⊎_elim, append_assoc, length-append, length-drop}
use Rattle.std.specs.Prelude.{◌%◌, Some, nat_le, slice_get}
use Rattle.circular_buffer.specs.Buffer.{Buffer, buffer}
use Rattle.std.proofs.lemmas.Bool.{cases_lt, le-leb, lt-leb}
use Rattle.std.proofs.lemmas.List.{drop-append-le, drop-drop, drop-take, length-take, length-take-le, take-append-le, take-take}
use Rattle.dch_txbuf.specs.declared.sdu.Sdu.{Sdu}
use Rattle.dch_txbuf.specs.Chunks.{AreWhole, blocks_for, chunked, joined}
use Rattle.dch_txbuf.specs.Sdus.{ArePlaced, AreSized, IsStored, blocks_in, blocks_of, no_sdu, sdus_of}
use Rattle.dch_txbuf.proofs.Chunks.{chunked_whole, length-chunked, read_back}

-- whole blocks
pub length-joined : (bs : List (List ℕ)) → AreWhole bs → length (joined bs) ≡ 64 * length bs
length-joined [] w = refl
length-joined (b ∷ bs) w = omega (arith, length-append b (joined bs), w.0, length-joined bs w.1)

joined-append : (bs cs : List (List ℕ)) → joined (bs ++ cs) ≡ joined bs ++ joined cs
joined-append [] cs = refl
joined-append (b ∷ bs) cs = ap (λ xs. b ++ xs) (joined-append bs cs) ∙ sym (append_assoc b (joined bs) (joined cs))

pub whole_append : (bs cs : List (List ℕ)) → AreWhole bs → AreWhole cs → AreWhole (bs ++ cs)
whole_append [] cs v w = w
whole_append (b ∷ bs) cs v w = (v.0, whole_append bs cs v.1 w)

pub whole_drop : (n : ℕ) (bs : List (List ℕ)) → AreWhole bs → AreWhole (drop n bs)
whole_drop zero bs w = w
whole_drop (suc n) [] w = w
whole_drop (suc n) (b ∷ bs) w = whole_drop n bs w.1

-- octets in their blocks
pub in_blocks : (n : ℕ) → n ≤ 64 * blocks_for n
in_blocks n = omega arith

pub some_block : (n : ℕ) → 1 ≤ n → 1 ≤ blocks_for n
some_block n l = omega (arith, l)

-- how many there are
pub length-sdus : (ss : List Sdu) (bs : List (List ℕ)) → length (sdus_of ss bs) ≡ length ss
length-sdus [] bs = refl
length-sdus (s ∷ ss) bs = ap suc (length-sdus ss (drop (blocks_for s.octets) bs))

pub few_sdus : (ss : List Sdu) → AreSized ss → length ss ≤ blocks_of ss
few_sdus [] z = omega arith
few_sdus (s ∷ ss) z = omega (arith, some_block s.octets z.0, few_sdus ss z.1.1)

-- the octets of the first one
first_long : (s : Sdu) (ss : List Sdu) (bs : List (List ℕ)) → AreWhole bs → length bs ≡ blocks_of (s ∷ ss) → s.octets ≤ length (joined bs)
first_long s ss bs w e = omega (arith, in_blocks s.octets, length-joined bs w, e)

rest_long : (s : Sdu) (ss : List Sdu) (bs : List (List ℕ)) → length bs ≡ blocks_of (s ∷ ss) → length (drop (blocks_for s.octets) bs) ≡ blocks_of ss
rest_long s ss bs e = omega (arith, length-drop (blocks_for s.octets) bs, e)

-- the blocks of all
pub blocks_same : (ss : List Sdu) (bs : List (List ℕ)) → AreWhole bs → length bs ≡ blocks_of ss → blocks_in (sdus_of ss bs) ≡ blocks_of ss
blocks_same [] bs w e = refl
blocks_same (s ∷ ss) bs w e = ap₂ (λ a b. blocks_for a + b) (length-take-le s.octets (joined bs) (first_long s ss bs w e)) (blocks_same ss (drop (blocks_for s.octets) bs) (whole_drop (blocks_for s.octets) bs w) (rest_long s ss bs e))

pub blocks_push : (ss : List Sdu) (s : Sdu) → blocks_of (ss ++ s ∷ []) ≡ blocks_of ss + blocks_for s.octets
blocks_push [] s = omega arith
blocks_push (t ∷ ss) s = omega (arith, blocks_push ss s)

pub blocks_before : (ss : List Sdu) (i : ℕ) → i < length ss → blocks_of (take i ss) + blocks_for (get_or ss i no_sdu).octets ≤ blocks_of ss
blocks_before [] i l = absurd (omega arith)
blocks_before (s ∷ ss) zero l = omega arith
blocks_before (s ∷ ss) (suc i) l = omega (arith, blocks_before ss i (omega arith))

-- one more behind the others
pub sized_push : (ss : List Sdu) (s : Sdu) → AreSized ss → 1 ≤ s.octets → s.octets ≤ 1500 → AreSized (ss ++ s ∷ [])
sized_push [] s z l m = (l, (m, tt))
sized_push (t ∷ ss) s z l m = (z.0, (z.1.0, sized_push ss s z.1.1 l m))

pub placed_push : (at : ℕ) (ss : List Sdu) (s : Sdu) → ArePlaced at ss → s.first ≡ (at + blocks_of ss) % 65536 → ArePlaced at (ss ++ s ∷ [])
placed_push at [] s p e = let q : at + 0 ≡ at = omega arith in (e ∙ ap (λ n. n % 65536) q, tt)
placed_push at (t ∷ ss) s p e = let q : at + (blocks_for t.octets + blocks_of ss) ≡ at + blocks_for t.octets + blocks_of ss = omega arith in (p.0, placed_push (at + blocks_for t.octets) ss s p.1 (e ∙ ap (λ n. n % 65536) q))

no_blocks : (bs : List (List ℕ)) → length bs ≡ 0 → bs ≡ []
no_blocks [] e = refl
no_blocks (b ∷ bs) e = absurd (omega (arith, e))

pub sdus_push : (ss : List Sdu) (s : Sdu) (bs cs : List (List ℕ)) → AreWhole bs → length bs ≡ blocks_of ss → sdus_of (ss ++ s ∷ []) (bs ++ cs) ≡ sdus_of ss bs ++ take s.octets (joined cs) ∷ []
sdus_push [] s bs cs w e = ap (λ (xs : List (List ℕ)). take s.octets (joined (xs ++ cs)) ∷ []) (no_blocks bs e)
sdus_push (t ∷ ss) s bs cs w e =
    ap₂ (λ u us. u ∷ us)
    (ap (λ xs. take t.octets xs) (joined-append bs cs) ∙ take-append-le t.octets (joined bs) (joined cs) (first_long t ss bs w e))
    (ap (λ xs. sdus_of (ss ++ s ∷ []) xs) (drop-append-le (blocks_for t.octets) bs cs (omega (arith, e)))
    ∙ sdus_push ss s (drop (blocks_for t.octets) bs) cs (whole_drop (blocks_for t.octets) bs w) (rest_long t ss bs e))

-- the one at a place
pub sized_at : (ss : List Sdu) (i : ℕ) → i < length ss → AreSized ss → (1 ≤ (get_or ss i no_sdu).octets) × ((get_or ss i no_sdu).octets ≤ 1500)
sized_at [] i l z = absurd (omega arith)
sized_at (s ∷ ss) zero l z = (z.0, z.1.0)
sized_at (s ∷ ss) (suc i) l z = sized_at ss i (omega arith) z.1.1

pub placed_at : (at : ℕ) (ss : List Sdu) (i : ℕ) → i < length ss → ArePlaced at ss → (get_or ss i no_sdu).first ≡ (at + blocks_of (take i ss)) % 65536
placed_at at [] i l p = absurd (omega arith)
placed_at at (s ∷ ss) zero l p = let q : at ≡ at + 0 = omega arith in p.0 ∙ ap (λ n. n % 65536) q
placed_at at (s ∷ ss) (suc i) l p = let q : at + blocks_for s.octets + blocks_of (take i ss) ≡ at + (blocks_for s.octets + blocks_of (take i ss)) = omega arith in placed_at (at + blocks_for s.octets) ss i (omega arith) p.1 ∙ ap (λ n. n % 65536) q

pub sdus_at : (ss : List Sdu) (bs : List (List ℕ)) (i : ℕ) → i < length ss → get_or (sdus_of ss bs) i [] ≡ take (get_or ss i no_sdu).octets (joined (drop (blocks_of (take i ss)) bs))
sdus_at [] bs i l = absurd (omega arith)
sdus_at (s ∷ ss) bs zero l = refl
sdus_at (s ∷ ss) bs (suc i) l =
    sdus_at ss (drop (blocks_for s.octets) bs) i (omega arith)
    ∙ ap (λ xs. take (get_or ss i no_sdu).octets (joined xs)) (drop-drop (blocks_of (take i ss)) (blocks_for s.octets) bs ∙ ap (λ n. drop n bs) (swap (blocks_of (take i ss)) (blocks_for s.octets)))
  where
    swap : (a b : ℕ) → b + a ≡ b + a
    swap a b = refl

-- its octets
pub octets_at : (ss : List Sdu) (bs : List (List ℕ)) (i : ℕ) → i < length ss → AreWhole bs → length bs ≡ blocks_of ss → length (get_or (sdus_of ss bs) i []) ≡ (get_or ss i no_sdu).octets
octets_at ss bs i l w e =
    ap (λ (xs : List ℕ). length xs) (sdus_at ss bs i l)
    ∙ length-take-le (get_or ss i no_sdu).octets (joined (drop (blocks_of (take i ss)) bs))
    (omega (arith, blocks_before ss i l, in_blocks (get_or ss i no_sdu).octets, length-joined (drop (blocks_of (take i ss)) bs) (whole_drop (blocks_of (take i ss)) bs w), length-drop (blocks_of (take i ss)) bs, e))

pub small_at : (ss : List Sdu) (bs : List (List ℕ)) (i : ℕ) → AreSized ss → length (get_or (sdus_of ss bs) i []) ≤ 1500
small_at [] bs zero z = omega arith
small_at [] bs (suc i) z = omega arith
small_at (s ∷ ss) bs zero z = omega (arith, length-take s.octets (joined bs), z.1.0)
small_at (s ∷ ss) bs (suc i) z = small_at ss (drop (blocks_for s.octets) bs) i z.1.1

-- a part of the octets of an SDU
pub part_of : (from n octets : ℕ) (xs : List ℕ) → from + n ≤ octets → take n (drop from (take octets xs)) ≡ take n (drop from xs)
part_of from n octets xs l =
    let e : octets ≡ from + (octets - from) = omega (arith, l) in
    ap (λ k. take n (drop from (take k xs))) e ∙ (ap (λ ys. take n ys) (drop-take from (octets - from) xs) ∙ take-take n (octets - from) (drop from xs) (omega (arith, l)))

-- the first one leaves
pub placed_wrap : (a b : ℕ) (ss : List Sdu) → a % 65536 ≡ b % 65536 → ArePlaced a ss → ArePlaced b ss
placed_wrap a b [] e p = tt
placed_wrap a b (s ∷ ss) e p = (p.0 ∙ e, placed_wrap (a + blocks_for s.octets) (b + blocks_for s.octets) ss (omega (arith, e)) p.1)

-- so many blocks are spare
pub le_spare : (a b c : ℕ) → b ≤ c → nat_le a (c - b) ≡ nat_le (b + a) c
le_spare a b c l = ⊎_elim
    (λ (m : c < b + a). lt-leb a (c - b) (omega (arith, l, m)) ∙ sym (lt-leb (b + a) c m))
    (λ (m : b + a ≤ c). le-leb a (c - b) (omega (arith, l, m)) ∙ sym (le-leb (b + a) c m))
    (cases_lt c (b + a))

-- the buffer with one SDU more
pub ring_room : (row : Buffer (List ℕ)) (sdus : Buffer Sdu) (freed n : ℕ) → IsStored row sdus freed → 1 ≤ n → length row.items + blocks_for n ≤ row.capacity → length sdus.items < sdus.capacity
ring_room row sdus freed n is l room = omega (arith, few_sdus sdus.items is.sized, is.filled, is.room, some_block n l, room)

pub stored_push : (row : Buffer (List ℕ)) (sdus : Buffer Sdu) (freed first : ℕ) (sdu : List ℕ) → IsStored row sdus freed → first ≡ (freed + length row.items) % 65536 → 1 ≤ length sdu → length sdu ≤ 1500 → length row.items + blocks_for (length sdu) ≤ row.capacity → IsStored (buffer (row.items ++ chunked (blocks_for (length sdu)) sdu) row.capacity) (buffer (sdus.items ++ record { first = first; octets = length sdu } ∷ []) sdus.capacity) freed
stored_push row sdus freed first sdu is e l m room = record {
  whole = whole_append row.items (chunked (blocks_for (length sdu)) sdu) is.whole (chunked_whole (blocks_for (length sdu)) sdu);
  sized = sized_push sdus.items (record { first = first; octets = length sdu }) is.sized l m;
  placed = placed_push freed sdus.items (record { first = first; octets = length sdu }) is.placed (e ∙ ap (λ n. (freed + n) % 65536) is.filled);
  filled = omega (arith, is.filled, length-append row.items (chunked (blocks_for (length sdu)) sdu), length-chunked (blocks_for (length sdu)) sdu, blocks_push sdus.items (record { first = first; octets = length sdu }));
  fits = omega (arith, room, length-append row.items (chunked (blocks_for (length sdu)) sdu), length-chunked (blocks_for (length sdu)) sdu);
  few = is.few;
  room = is.room;
  small = is.small;
}

pub pushed_view : (row : Buffer (List ℕ)) (sdus : Buffer Sdu) (freed first : ℕ) (sdu : List ℕ) → IsStored row sdus freed → sdus_of (sdus.items ++ record { first = first; octets = length sdu } ∷ []) (row.items ++ chunked (blocks_for (length sdu)) sdu) ≡ sdus_of sdus.items row.items ++ sdu ∷ []
pushed_view row sdus freed first sdu is =
    sdus_push sdus.items (record { first = first; octets = length sdu }) row.items (chunked (blocks_for (length sdu)) sdu) is.whole is.filled
    ∙ ap (λ xs. sdus_of sdus.items row.items ++ xs ∷ []) (read_back (blocks_for (length sdu)) sdu (in_blocks (length sdu)))

-- the blocks of the SDU at a place
pub place_at : (row : Buffer (List ℕ)) (sdus : Buffer Sdu) (freed i : ℕ) → IsStored row sdus freed → i < length sdus.items → ((get_or sdus.items i no_sdu).first + (65536 - freed)) % 65536 ≡ blocks_of (take i sdus.items)
place_at row sdus freed i is l = omega (arith, placed_at freed sdus.items i l is.placed, blocks_before sdus.items i l, is.filled, is.fits, is.few, is.small)

pub copied : (row : Buffer (List ℕ)) (sdus : Buffer Sdu) (freed i first from n : ℕ) → IsStored row sdus freed → i < length sdus.items → first ≡ (get_or sdus.items i no_sdu).first → from + n ≤ length (get_or (sdus_of sdus.items row.items) i []) → take n (drop from (joined (drop ((first + (65536 - freed)) % 65536) row.items))) ≡ take n (drop from (get_or (sdus_of sdus.items row.items) i []))
copied row sdus freed i first from n is l e inside =
    ap (λ b. take n (drop from (joined (drop b row.items)))) (ap (λ f. (f + (65536 - freed)) % 65536) e ∙ place_at row sdus freed i is l)
    ∙ (sym (part_of from n (get_or sdus.items i no_sdu).octets (joined (drop (blocks_of (take i sdus.items)) row.items)) (omega (arith, inside, octets_at sdus.items row.items i l is.whole is.filled)))
    ∙ ap (λ xs. take n (drop from xs)) (sym (sdus_at sdus.items row.items i l)))

-- the buffer without the first SDU
pub front_of : (ss : List Sdu) (s : Sdu) → Some s ≡ slice_get ss 0 → ss ≡ s ∷ drop 1 ss
front_of [] s e = absurd (cc)
front_of (t ∷ ss) s e = let q : t ≡ s = cc in ap (λ x. x ∷ ss) q

pub stored_pop : (row : Buffer (List ℕ)) (s : Sdu) (ss : List Sdu) (room freed : ℕ) → IsStored row (buffer (s ∷ ss) room) freed → IsStored (buffer (drop (blocks_for s.octets) row.items) row.capacity) (buffer ss room) ((freed + blocks_for s.octets) % 65536)
stored_pop row s ss room freed is = record {
  whole = whole_drop (blocks_for s.octets) row.items is.whole;
  sized = is.sized.1.1;
  placed = placed_wrap (freed + blocks_for s.octets) ((freed + blocks_for s.octets) % 65536) ss (omega arith) is.placed.1;
  filled = rest_long s ss row.items is.filled;
  fits = omega (arith, is.fits, length-drop (blocks_for s.octets) row.items);
  few = is.few;
  room = is.room;
  small = omega arith;
}
