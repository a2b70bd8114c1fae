-- The blocks in which PDUs stand, as PDUs come and leave.
use Rattle.std.proofs.Common.{◌≡◌, ◌≢◌, ◌+◌, ◌-◌, ◌<◌, ◌≤◌, ℕ, zero, suc, List, [], ◌∷◌, false, cond, Option, Some, None, map, length, drop, set, get_or, slice_get, arith, refl, sym, ap, ap₂, ◌∙◌, subst}
use Rattle.std.specs.Prelude.{IsSome, IfSome, is_none, count_by}
use Rattle.std.proofs.lemmas.List.{length-drop}
use Rattle.std.specs.Option.{option_flatten}
use Rattle.std.proofs.lemmas.List.{length-set, get_or-set_same, get_or-set_other}
use Rattle.std.proofs.lemmas.List.Sums.{sum_by-set}
use Rattle.circular_buffer.specs.Buffer.{buffer}
use Rattle.dch_am.specs.Contents.{body_in}
use Rattle.dch_rlcpdu.specs.Parts.{Content}
use Rattle.dch_pool.specs.Blocks.{Blocks, IsLent, octets_of, spare_of, with_octets, without}
use Rattle.dch_amrecv.specs.Places.{is_kept, put, with_ring}
use Rattle.dch_amrecv.specs.Stored.{IsStored, Stores}
use Rattle.dch_amrecv.specs.Kept.{IsKept, Left, Lends, blocks_in, given, kept, seen}
use Rattle.dch_amrecv.proofs.Putting.{length-put}
use Rattle.dch_amrecv.proofs.Seeing.{drop-seen, put-seen}

set_twice : {A : Type 0} (xs : List A) (i : ℕ) (x y : A) → set (set xs i x) i y ≡ set xs i y
set_twice [] i x y = refl
set_twice (z ∷ xs) zero x y = refl
set_twice (z ∷ xs) (suc i) x y = ap (λ r. z ∷ r) (set_twice xs i x y)

set_same : {A : Type 0} (xs : List A) (i : ℕ) (d : A) → i < length xs → set xs i (get_or xs i d) ≡ xs
set_same [] i d l = absurd (omega arith)
set_same (z ∷ xs) zero d l = refl
set_same (z ∷ xs) (suc i) d l = ap (λ r. z ∷ r) (set_same xs i d (omega arith))

set_other : {A : Type 0} (xs : List A) (i j : ℕ) (x y : A) → i ≢ j → set (set xs i x) j y ≡ set (set xs j y) i x
set_other [] i j x y ne = refl
set_other (z ∷ xs) zero zero x y ne = absurd (ne refl)
set_other (z ∷ xs) zero (suc j) x y ne = refl
set_other (z ∷ xs) (suc i) zero x y ne = refl
set_other (z ∷ xs) (suc i) (suc j) x y ne = ap (λ r. z ∷ r) (set_other xs i j x y (λ e. ne (ap suc e)))

there : (contents : List (Option (List ℕ))) (a : ℕ) → IsSome (get_or contents a None) → a < length contents
there [] a h = cc
there (x ∷ xs) zero h = omega arith
there (x ∷ xs) (suc a) h = let ih = there xs a h in omega arith

-- a block that is lent is another one than one that isn't
other_than : (pool : Blocks) (a b : ℕ) → IsLent pool a → get_or pool.contents b None ≡ None → a ≢ b
other_than pool a b lent none e = let was : get_or pool.contents a None ≡ None = rw e none in let absent = rw was at lent in cc

-- the block that was given back isn't lent
given_none : (pool : Blocks) (b : ℕ) → get_or (without pool b).contents b None ≡ None
given_none pool b = none pool.contents b
  where
    none : (xs : List (Option (List ℕ))) (i : ℕ) → get_or (set xs i None) i None ≡ None
    none [] i = refl
    none (x ∷ xs) zero = refl
    none (x ∷ xs) (suc i) = none xs i

lent_without : (pool : Blocks) (b a : ℕ) → IsLent (without pool b) a → (a ≢ b) × IsLent pool a
lent_without pool b a lent =
    let ne : a ≢ b = other_than (without pool b) a b lent (given_none pool b) in
    (ne, rw (get_or-set_other pool.contents b a None None ne) at lent)

-- all of these are lent
abbrev pub AreLent : Blocks → List ℕ → Type 0
AreLent pool [] = Unit {0}
AreLent pool (b ∷ bs) = IsLent pool b × AreLent pool bs

are_without : (pool : Blocks) (b : ℕ) (bs : List ℕ) → AreLent (without pool b) bs → AreLent pool bs
are_without pool b [] lent = tt
are_without pool b (a ∷ bs) lent = ((lent_without pool b a lent.0).1, are_without pool b bs lent.1)

pub are_lent : (pool : Blocks) (bs : List ℕ) → Lends pool bs → AreLent pool bs
are_lent pool [] lends = tt
are_lent pool (b ∷ bs) lends = (lends.0, are_without pool b bs (are_lent (without pool b) bs lends.2))

-- how many blocks are spare
spare_without : (pool : Blocks) (b : ℕ) → IsLent pool b → spare_of (without pool b) ≡ spare_of pool + 1
spare_without pool b lent = count (get_or pool.contents b None) refl lent
  where
    count : (o : Option (List ℕ)) → get_or pool.contents b None ≡ o → IsSome o → spare_of (without pool b) ≡ spare_of pool + 1
    count None is some = cc
    count (Some x) is some =
        let inside : b < length pool.contents = there pool.contents b (rw is refl) in
        let step : count_by is_none (set pool.contents b None) + cond (is_none (get_or pool.contents b None)) 1 0 ≡ count_by is_none pool.contents + 1 = sum_by-set (λ l. cond (is_none l) 1 0) pool.contents b None None inside in
        let simpler = rw is at step in
        omega arith

pub lends_count : (pool : Blocks) (bs : List ℕ) → Lends pool bs → spare_of pool + length bs ≡ length pool.contents
lends_count pool [] lends = omega arith
lends_count pool (b ∷ bs) lends =
    let rest = lends_count (without pool b) bs lends.2 in
    omega (arith, spare_without pool b lends.0, length-set pool.contents b None)

-- fewer blocks are lent than there are places where one is vacant
fewer : (items : List (Option ℕ)) → length (blocks_in items) ≤ length items
fewer [] = omega arith
fewer (None ∷ ps) = omega (arith, fewer ps)
fewer (Some b ∷ ps) = omega (arith, fewer ps)

few_blocks : (items : List (Option ℕ)) (i capacity : ℕ) → is_kept items i ≡ false → i < capacity → length items ≤ capacity → length (blocks_in items) < capacity
few_blocks [] i capacity vacant inside few = omega arith
few_blocks (None ∷ ps) i capacity vacant inside few = omega (arith, fewer ps)
few_blocks (Some b ∷ ps) zero capacity vacant inside few = absurd (cc)
few_blocks (Some b ∷ ps) (suc i) capacity vacant inside few = let rest = few_blocks ps i (capacity - 1) vacant (omega arith) (omega arith) in omega arith

-- so one is spare
pub some_spare : (pool : Blocks) (items : List (Option ℕ)) (i capacity : ℕ) → IsKept pool items capacity → is_kept items i ≡ false → i < capacity → 0 < spare_of pool
some_spare pool items i capacity k vacant inside =
    omega (arith, lends_count pool (blocks_in items) k.blocks, few_blocks items i capacity vacant inside k.few, k.count)

-- what a block holds where another one is written
octets_other : (pool : Blocks) (b a : ℕ) (text : List ℕ) → a ≢ b → octets_of (with_octets pool b text) a ≡ octets_of pool a
octets_other pool b a text ne = rw (get_or-set_other pool.contents b a (Some text) None ne) refl

seen_with : (pool : Blocks) (b : ℕ) (text : List ℕ) (items : List (Option ℕ)) → get_or pool.contents b None ≡ None → AreLent pool (blocks_in items) → map (seen (with_octets pool b text)) items ≡ map (seen pool) items
seen_with pool b text [] none lent = refl
seen_with pool b text (None ∷ ps) none lent = ap (λ r. None ∷ r) (seen_with pool b text ps none lent)
seen_with pool b text (Some a ∷ ps) none lent =
    let same : seen (with_octets pool b text) (Some a) ≡ seen pool (Some a) = rw (octets_other pool b a text (other_than pool a b lent.0 none)) refl in
    ap₂ (λ x r. x ∷ r) same (seen_with pool b text ps none lent.1)

-- what a block holds where another one was given back
octets_left : (pool : Blocks) (b a : ℕ) → a ≢ b → octets_of (without pool b) a ≡ octets_of pool a
octets_left pool b a ne = rw (get_or-set_other pool.contents b a None None ne) refl

seen_without : (pool : Blocks) (b : ℕ) (items : List (Option ℕ)) → AreLent (without pool b) (blocks_in items) → map (seen (without pool b)) items ≡ map (seen pool) items
seen_without pool b [] lent = refl
seen_without pool b (None ∷ ps) lent = ap (λ r. None ∷ r) (seen_without pool b ps lent)
seen_without pool b (Some a ∷ ps) lent =
    let same : seen (without pool b) (Some a) ≡ seen pool (Some a) = rw (octets_left pool b a (lent_without pool b a lent.0).0) refl in
    ap₂ (λ x r. x ∷ r) same (seen_without pool b ps lent.1)

-- a block is lent that was spare, and holds a PDU
record Written (pool : Blocks) (b : ℕ) (text : List ℕ) : Type 0 where
  there : b < length pool.contents
  was : get_or pool.contents b None ≡ None
  stored : IsStored text

back : (pool : Blocks) (b : ℕ) (text : List ℕ) → Written pool b text → without (with_octets pool b text) b ≡ pool
back pool b text w =
    let contents : set (set pool.contents b (Some text)) b None ≡ pool.contents = set_twice pool.contents b (Some text) None ∙ (ap (set pool.contents b) (sym w.was) ∙ set_same pool.contents b None w.there) in
    ap (λ (c : List (Option (List ℕ))). record pool { contents = c }) contents

turned : (pool : Blocks) (b a : ℕ) (text : List ℕ) → a ≢ b → with_octets (without pool a) b text ≡ without (with_octets pool b text) a
turned pool b a text ne = ap (λ (c : List (Option (List ℕ))). record pool { contents = c }) (set_other pool.contents a b None (Some text) ne)

here : (pool : Blocks) (b : ℕ) (text : List ℕ) → Written pool b text → octets_of (with_octets pool b text) b ≡ text
here pool b text w = rw (get_or-set_same pool.contents b (Some text) None w.there) refl

lends_first : (pool : Blocks) (b : ℕ) (text : List ℕ) (bs : List ℕ) → Written pool b text → Lends pool bs → Lends (with_octets pool b text) (b ∷ bs)
lends_first pool b text bs w lends =
    (rw (get_or-set_same pool.contents b (Some text) None w.there) refl, rw (here pool b text w) w.stored, rw (back pool b text w) lends)

written_without : (pool : Blocks) (b a : ℕ) (text : List ℕ) → a ≢ b → Written pool b text → Written (without pool a) b text
written_without pool b a text ne w = record {
  there = rw (length-set pool.contents a None) w.there;
  was = get_or-set_other pool.contents a b None None (λ e. ne (sym e)) ∙ w.was;
  stored = w.stored;
}

lends_put : (pool : Blocks) (b : ℕ) (text : List ℕ) (items : List (Option ℕ)) (i : ℕ) → Written pool b text → is_kept items i ≡ false → Lends pool (blocks_in items) → Lends (with_octets pool b text) (blocks_in (put i b items))
lends_put pool b text [] zero w vacant lends = lends_first pool b text [] w lends
lends_put pool b text [] (suc i) w vacant lends = lends_put pool b text [] i w refl lends
lends_put pool b text (None ∷ ps) zero w vacant lends = lends_first pool b text (blocks_in ps) w lends
lends_put pool b text (None ∷ ps) (suc i) w vacant lends = lends_put pool b text ps i w vacant lends
lends_put pool b text (Some a ∷ ps) zero w vacant lends = absurd (cc)
lends_put pool b text (Some a ∷ ps) (suc i) w vacant lends =
    let ne : a ≢ b = other_than pool a b lends.0 w.was in (
      rw (get_or-set_other pool.contents b a (Some text) None ne) lends.0,
      rw (octets_other pool b a text ne) lends.1,
      subst (λ p. Lends p (blocks_in (put i b ps))) (turned pool b a text ne) (lends_put (without pool a) b text ps i (written_without pool b a text ne w) vacant lends.2),
    )

-- a PDU comes to a vacant place
pub kept_more : (old new : Blocks) (items : List (Option ℕ)) (i capacity b : ℕ) (body : Content) → IsKept old items capacity → Stores old new body b → is_kept items i ≡ false → i < capacity
    → IsKept new (put i b items) capacity × (kept new (put i b items) capacity ≡ with_ring (buffer (put i (body_in body) (map (seen old) items)) capacity) (kept old items capacity))
kept_more old new items i capacity b body k s vacant inside =
    let text : List ℕ = octets_of new b in
    let w : Written old b text = record { there = s.there; was = s.was; stored = s.stored } in
    let lends : Lends new (blocks_in (put i b items)) = subst (λ p. Lends p (blocks_in (put i b items))) (sym s.now) (lends_put old b text items i w vacant k.blocks) in
    let others : map (seen new) items ≡ map (seen old) items = ap (λ p. map (seen p) items) s.now ∙ seen_with old b text items s.was (are_lent old (blocks_in items) k.blocks) in
    let these : map (seen new) (put i b items) ≡ put i (body_in body) (map (seen old) items) = put-seen new i b items ∙ ap₂ (λ x r. put i x r) (ap body_in s.content) others in
    let size : new.size ≡ old.size = ap (λ p. p.size) s.now in (
      record {
        few = omega (arith, length-put i b items, k.few);
        count = ap (λ p. length p.contents) s.now ∙ (length-set old.contents b (Some text) ∙ k.count);
        blocks = lends;
      },
      ap₂ (λ r n. record { ring = buffer r capacity; pdu = n }) these size,
    )

-- the first place leaves
pub first_lent : (pool : Blocks) (ps : List (Option ℕ)) → Lends pool (blocks_in ps) → IfSome (option_flatten (slice_get ps 0)) (λ b. IsLent pool b)
first_lent pool [] lends = tt
first_lent pool (None ∷ ps) lends = tt
first_lent pool (Some b ∷ ps) lends = lends.0

left_first : (old pool : Blocks) (ps : List (Option ℕ)) → 0 < length ps → Left old pool ps → Left old (given (option_flatten (slice_get ps 0)) pool) (drop 1 ps)
left_first old pool [] some l = absurd (omega arith)
left_first old pool (None ∷ ps) some l = record { blocks = l.blocks; same = ap (drop 1) l.same; size = l.size; count = l.count }
left_first old pool (Some b ∷ ps) some l = record {
  blocks = l.blocks.2;
  same = seen_without pool b ps (are_lent (without pool b) (blocks_in ps) l.blocks.2) ∙ ap (drop 1) l.same;
  size = l.size;
  count = length-set pool.contents b None ∙ l.count;
}

pub drop_one : {A : Type 0} (n : ℕ) (ps : List A) → drop 1 (drop n ps) ≡ drop (n + 1) ps
drop_one zero ps = refl
drop_one (suc n) [] = let e : suc n + 1 ≡ suc (n + 1) = omega arith in rw e refl
drop_one (suc n) (p ∷ ps) = let e : suc n + 1 ≡ suc (n + 1) = omega arith in drop_one n ps ∙ ap (λ k. drop k (p ∷ ps)) (sym e)

pub left_more : (old pool : Blocks) (items : List (Option ℕ)) (n : ℕ) → 0 < length (drop n items) → Left old pool (drop n items) → Left old (given (option_flatten (slice_get (drop n items) 0)) pool) (drop (n + 1) items)
left_more old pool items n some l = subst (λ ps. Left old (given (option_flatten (slice_get (drop n items) 0)) pool) ps) (drop_one n items) (left_first old pool (drop n items) some l)

pub left_none : (pool : Blocks) (items : List (Option ℕ)) → Lends pool (blocks_in items) → Left pool pool items
left_none pool items lends = record { blocks = lends; same = refl; size = refl; count = refl }

-- places in front leave
pub left_kept : (old new : Blocks) (items : List (Option ℕ)) (n capacity : ℕ) → IsKept old items capacity → Left old new (drop n items)
    → IsKept new (drop n items) capacity × (kept new (drop n items) capacity ≡ with_ring (buffer (drop n (map (seen old) items)) capacity) (kept old items capacity))
left_kept old new items n capacity k l = (
  record {
    few = omega (arith, length-drop n items, k.few);
    count = l.count ∙ k.count;
    blocks = l.blocks;
  },
  ap₂ (λ r m. record { ring = buffer r capacity; pdu = m }) (l.same ∙ drop-seen old n items) l.size,
)

-- the block of the first place is lent, and holds a PDU
pub first_stored : (pool : Blocks) (items : List (Option ℕ)) (b : ℕ) → Lends pool (blocks_in items) → slice_get items 0 ≡ Some (Some b) → IsLent pool b × IsStored (octets_of pool b)
first_stored pool [] b lends e = absurd (cc)
first_stored pool (None ∷ ps) b lends e = absurd (cc)
first_stored pool (Some a ∷ ps) b lends e = let same : a ≡ b = cc in subst (λ x. IsLent pool x × IsStored (octets_of pool x)) same (lends.0, lends.1)
