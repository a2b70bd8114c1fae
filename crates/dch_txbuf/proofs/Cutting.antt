-- What a PDU takes of SDUs, and what is left.
use Rattle.std.proofs.Common.{◌≡◌, ◌+◌, ◌-◌, ◌<◌, ◌≤◌, ℕ, zero, suc, List, [], ◌∷◌, ◌++◌, Bool, true, false, cond, length, get_or, drop, take, arith, refl, sym, ap, ap₂, ◌∙◌, subst, ⊎_elim, append_assoc, length-append, length-drop}
use Rattle.std.specs.Prelude.{nat_lt, ◌==◌}
use Rattle.std.proofs.lemmas.Bool.{cases_lt, eqb-true, le-ltb, lt-ltb, ltb-false, ltb-true}
use Rattle.std.proofs.lemmas.Bool.Decides.{nat_tests}
use Rattle.std.proofs.lemmas.List.{append-nil, length-take-le, take_all, take_at}
use Rattle.dch_am.specs.Bodies.{Filled, joined, one_more_piece, place}
use Rattle.dch_txbuf.specs.declared.taken.Cut.{Cut}
use Rattle.dch_txbuf.specs.declared.taken.Start.{Start}
use Rattle.dch_txbuf.specs.Cuts.{IsStart, IsThere, after_cut, cut_of, first_of, left_at, octets_of, trimmed, with_pieces}

-- SDUs placed into free octets are this cut
pub record IsCutAs (f : Filled) (c : Cut) (us : List (List ℕ)) : Type 0 where
  pub pieces : f.pieces ≡ take c.pieces us
  pub rest : f.rest ≡ take c.rest (first_of (drop c.pieces us))
  pub after : f.unsent ≡ after_cut c us
  pub there : IsThere c us

pub placed_cut : (free : ℕ) (us : List (List ℕ)) → IsCutAs (place free us) (cut_of free us) us
placed_cut free [] = record { pieces = refl; rest = refl; after = refl; there = record { pieces = omega arith; rest = omega arith } }
placed_cut free (u ∷ us) = go (nat_lt (length u) free) refl (placed_cut (free - length u - 1) us)
  where
    last : (b : Bool) → (length u == free) ≡ b → free ≤ length u → IsCutAs (cond (length u == free) (record { pieces = []; rest = u; unsent = record { owed = true; units = us } }) (record { pieces = []; rest = take free u; unsent = record { owed = false; units = drop free u ∷ us } })) (record { pieces = 0; rest = free; owed = length u == free; padded = false }) (u ∷ us)
    last true e le = rw e (record { pieces = refl; rest = sym (take_all free u (omega (arith, eqb-true (length u) free e))); after = refl; there = record { pieces = omega arith; rest = le } })
    last false e le = rw e (record { pieces = refl; rest = refl; after = refl; there = record { pieces = omega arith; rest = le } })

    more : IsCutAs (place (free - length u - 1) us) (cut_of (free - length u - 1) us) us → IsCutAs (one_more_piece u (place (free - length u - 1) us)) (with_pieces 1 (cut_of (free - length u - 1) us)) (u ∷ us)
    more is =
        let e : 1 + (cut_of (free - length u - 1) us).pieces ≡ suc (cut_of (free - length u - 1) us).pieces = omega arith in
        let q : with_pieces 1 (cut_of (free - length u - 1) us) ≡ record { pieces = suc (cut_of (free - length u - 1) us).pieces; rest = (cut_of (free - length u - 1) us).rest; owed = (cut_of (free - length u - 1) us).owed; padded = (cut_of (free - length u - 1) us).padded } = ap (λ p. record { pieces = p; rest = (cut_of (free - length u - 1) us).rest; owed = (cut_of (free - length u - 1) us).owed; padded = (cut_of (free - length u - 1) us).padded }) e in
        subst (λ c. IsCutAs (one_more_piece u (place (free - length u - 1) us)) c (u ∷ us)) (sym q) (record {
          pieces = ap (λ ps. u ∷ ps) is.pieces;
          rest = is.rest;
          after = is.after ∙ later (cut_of (free - length u - 1) us);
          there = record { pieces = omega (arith, is.there.pieces); rest = is.there.rest };
        })
      where
        later : (c : Cut) → after_cut c us ≡ after_cut (record { pieces = suc c.pieces; rest = c.rest; owed = c.owed; padded = c.padded }) (u ∷ us)
        later c = let e : suc c.pieces + 1 ≡ suc (c.pieces + 1) = omega arith in ap (λ n. record { owed = c.owed; units = cond c.owed (drop n (u ∷ us)) (trimmed c.rest (drop c.pieces us)) }) (sym e)

    go : (b : Bool) → nat_lt (length u) free ≡ b → IsCutAs (place (free - length u - 1) us) (cut_of (free - length u - 1) us) us → IsCutAs (place free (u ∷ us)) (cut_of free (u ∷ us)) (u ∷ us)
    go true less is = rw less (more is)
    go false most is = rw most (last (length u == free) refl (ltb-false (length u) free most))

-- octets are left behind what the next PDU takes, or none, as it tells
cut_padded : (free : ℕ) (us : List (List ℕ)) → (cut_of free us).padded ≡ nat_lt (length (octets_of (cut_of free us) us) + (cut_of free us).pieces) free
cut_padded free [] = refl
cut_padded free (u ∷ us) = go (nat_lt (length u) free) refl (cut_padded (free - length u - 1) us)
  where
    same_room : (n o p room : ℕ) → n < room → nat_lt (o + p) (room - n - 1) ≡ nat_lt (n + o + (1 + p)) room
    same_room n o p room l = grind (arith, nat_tests)

    more : (c : Cut) → length u < free → c.padded ≡ nat_lt (length (octets_of c us) + c.pieces) (free - length u - 1) → c.padded ≡ nat_lt (length (octets_of (with_pieces 1 c) (u ∷ us)) + (1 + c.pieces)) free
    more c less is =
        let e : 1 + c.pieces ≡ suc c.pieces = omega arith in
        let same : octets_of (with_pieces 1 c) (u ∷ us) ≡ u ++ octets_of c us = ap (λ p. joined (take p (u ∷ us)) ++ take c.rest (first_of (drop p (u ∷ us)))) e ∙ append_assoc u (joined (take c.pieces us)) (take c.rest (first_of (drop c.pieces us))) in
        let n : length (octets_of (with_pieces 1 c) (u ∷ us)) ≡ length u + length (octets_of c us) = ap (λ (xs : List ℕ). length xs) same ∙ length-append u (octets_of c us) in
        is ∙ (same_room (length u) (length (octets_of c us)) c.pieces free less ∙ ap (λ k. nat_lt (k + (1 + c.pieces)) free) (sym n))

    go : (b : Bool) → nat_lt (length u) free ≡ b → (cut_of (free - length u - 1) us).padded ≡ nat_lt (length (octets_of (cut_of (free - length u - 1) us) us) + (cut_of (free - length u - 1) us).pieces) (free - length u - 1) → (cut_of free (u ∷ us)).padded ≡ nat_lt (length (octets_of (cut_of free (u ∷ us)) (u ∷ us)) + (cut_of free (u ∷ us)).pieces) free
    go true less is = rw less (more (cut_of (free - length u - 1) us) (ltb-true (length u) free less) is)
    go false most is = rw most (sym (le-ltb (length (take free u) + 0) free (omega (arith, length-take-le free u (ltb-false (length u) free most)))))

-- the same of the whole room, of which so many octets are not for it
pub cut_is_padded : (n free room : ℕ) (us : List (List ℕ)) → n + free ≡ room → (cut_of free us).padded ≡ nat_lt (n + length (octets_of (cut_of free us) us) + (cut_of free us).pieces) room
cut_is_padded n free room us e = cut_padded free us ∙ same_room (length (octets_of (cut_of free us) us)) (cut_of free us).pieces
  where
    same_room : (o p : ℕ) → nat_lt (o + p) free ≡ nat_lt (n + o + p) room
    same_room o p = grind (arith, nat_tests)

-- the SDU at a place stands in front of those behind it
pub drop_at : (us : List (List ℕ)) (i : ℕ) → i < length us → drop i us ≡ get_or us i [] ∷ drop (i + 1) us
drop_at [] i l = absurd (omega arith)
drop_at (u ∷ us) zero l = refl
drop_at (u ∷ us) (suc i) l = let e : suc i + 1 ≡ suc (i + 1) = omega arith in drop_at us i (omega arith) ∙ ap (λ n. get_or us i [] ∷ drop n (u ∷ us)) (sym e)

pub drop_end : (us : List (List ℕ)) (i : ℕ) → length us ≤ i → drop i us ≡ []
drop_end [] zero l = refl
drop_end [] (suc i) l = refl
drop_end (u ∷ us) zero l = absurd (omega (arith, l))
drop_end (u ∷ us) (suc i) l = drop_end us i (omega (arith, l))

pub trimmed_none : (us : List (List ℕ)) → trimmed 0 us ≡ us
trimmed_none [] = refl
trimmed_none (u ∷ us) = refl

-- one step of the walk
with_more : (n : ℕ) (c : Cut) → with_pieces n (with_pieces 1 c) ≡ with_pieces (n + 1) c
with_more n c = let e : n + (1 + c.pieces) ≡ n + 1 + c.pieces = omega arith in ap (λ p. record { pieces = p; rest = c.rest; owed = c.owed; padded = c.padded }) e

pub cut_more : (us : List (List ℕ)) (i used free : ℕ) → i < length us → length (get_or us i []) - used < free → cut_of free (trimmed used (drop i us)) ≡ with_pieces 1 (cut_of (free - (length (get_or us i []) - used) - 1) (trimmed 0 (drop (i + 1) us)))
cut_more us i used free l less =
    let n : length (drop used (get_or us i [])) ≡ length (get_or us i []) - used = length-drop used (get_or us i []) in
    ap (λ xs. cut_of free (trimmed used xs)) (drop_at us i l)
    ∙ (step (drop used (get_or us i [])) (omega (arith, n, less))
    ∙ ap₂ (λ k xs. with_pieces 1 (cut_of (free - k - 1) xs)) n (sym (trimmed_none (drop (i + 1) us))))
  where
    step : (u : List ℕ) → length u < free → cut_of free (u ∷ drop (i + 1) us) ≡ with_pieces 1 (cut_of (free - length u - 1) (drop (i + 1) us))
    step u m = rw (lt-ltb (length u) free m) refl

pub cut_last : (us : List (List ℕ)) (i used free : ℕ) → i < length us → free ≤ length (get_or us i []) - used → cut_of free (trimmed used (drop i us)) ≡ record { pieces = 0; rest = free; owed = (length (get_or us i []) - used) == free; padded = false }
cut_last us i used free l most =
    let n : length (drop used (get_or us i [])) ≡ length (get_or us i []) - used = length-drop used (get_or us i []) in
    ap (λ xs. cut_of free (trimmed used xs)) (drop_at us i l)
    ∙ (step (drop used (get_or us i [])) (omega (arith, n, most))
    ∙ ap (λ k. record { pieces = 0; rest = free; owed = k == free; padded = false }) n)
  where
    step : (u : List ℕ) → free ≤ length u → cut_of free (u ∷ drop (i + 1) us) ≡ record { pieces = 0; rest = free; owed = length u == free; padded = false }
    step u m = rw (le-ltb (length u) free m) refl

-- the walk of `next_cut` at SDU i
pub record Walks (items : List (List ℕ)) (start : Start) (room free used i : ℕ) : Type 0 where
  pub cut : cut_of room (left_at start items) ≡ with_pieces (i - start.sdu) (cut_of free (trimmed used (drop i items)))
  pub used_is : used ≤ length (get_or items i [])
  pub few : free + (i - start.sdu) ≤ room
  pub from : start.sdu ≤ i

none_more : (n : ℕ) (c : Cut) → n ≡ 0 → c ≡ with_pieces n c
none_more n c e = let q : c.pieces ≡ n + c.pieces = omega (arith, e) in ap (λ p. record { pieces = p; rest = c.rest; owed = c.owed; padded = c.padded }) q

pub walks_first : (items : List (List ℕ)) (start : Start) (room : ℕ) → IsStart items start → Walks items start room room start.used start.sdu
walks_first items start room is = record { cut = none_more (start.sdu - start.sdu) (cut_of room (left_at start items)) (omega arith); used_is = is.used; few = omega arith; from = omega arith }

pub walks_on : (items : List (List ℕ)) (start : Start) (room free used i left : ℕ) → Walks items start room free used i → i < length items → left ≡ length (get_or items i []) - used → left < free → Walks items start room (free - (left + 1)) 0 (i + 1)
walks_on items start room free used i left w l e less = record {
  cut =
      let n : i + 1 - start.sdu ≡ i - start.sdu + 1 = omega (arith, w.from) in
      let k : free - (length (get_or items i []) - used) - 1 ≡ free - (left + 1) = omega (arith, e) in
      w.cut
      ∙ (ap (with_pieces (i - start.sdu)) (cut_more items i used free l (omega (arith, e, less)) ∙ ap (λ m. with_pieces 1 (cut_of m (trimmed 0 (drop (i + 1) items)))) k)
      ∙ (with_more (i - start.sdu) (cut_of (free - (left + 1)) (trimmed 0 (drop (i + 1) items)))
      ∙ ap (λ m. with_pieces m (cut_of (free - (left + 1)) (trimmed 0 (drop (i + 1) items)))) (sym n)));
  used_is = omega arith;
  few = omega (arith, w.few, w.from, less);
  from = omega (arith, w.from);
}

pub walks_last : (items : List (List ℕ)) (start : Start) (room free used i left : ℕ) → Walks items start room free used i → i < length items → left ≡ length (get_or items i []) - used → free ≤ left → record { pieces = i - start.sdu; rest = free; owed = left == free; padded = false } ≡ cut_of room (left_at start items)
walks_last items start room free used i left w l e most =
    let n : i - start.sdu ≡ i - start.sdu + 0 = omega arith in
    sym (w.cut ∙ (ap (with_pieces (i - start.sdu)) (cut_last items i used free l (omega (arith, e, most)) ∙ ap (λ m. record { pieces = 0; rest = free; owed = m == free; padded = false }) (sym e))
    ∙ ap (λ m. record { pieces = m; rest = free; owed = left == free; padded = false }) (sym n)))

pub walks_end : (items : List (List ℕ)) (start : Start) (room free used i : ℕ) → Walks items start room free used i → length items ≡ i → record { pieces = length items - start.sdu; rest = 0; owed = false; padded = nat_lt 0 free } ≡ cut_of room (left_at start items)
walks_end items start room free used i w e =
    let n : length items - start.sdu ≡ i - start.sdu + 0 = omega (arith, e) in
    sym (w.cut ∙ (ap (λ xs. with_pieces (i - start.sdu) (cut_of free (trimmed used xs))) (drop_end items i (omega (arith, e)))
    ∙ ap (λ m. record { pieces = m; rest = 0; owed = false; padded = nat_lt 0 free }) (sym n)))

-- what stands at a place of what is left
pub record IsPiece (us : List (List ℕ)) (n : ℕ) (y : List ℕ) (ys : List (List ℕ)) : Type 0 where
  pub inside : n < length us
  pub here : get_or us n [] ≡ y
  pub behind : drop (n + 1) us ≡ ys

piece_from : (us : List (List ℕ)) (n : ℕ) (y : List ℕ) (ys : List (List ℕ)) → drop n us ≡ y ∷ ys → IsPiece us n y ys
piece_from [] zero y ys e = absurd (cc)
piece_from [] (suc n) y ys e = absurd (cc)
piece_from (u ∷ us) zero y ys e = record { inside = omega arith; here = cc; behind = cc }
piece_from (u ∷ us) (suc n) y ys e =
    let is = piece_from us n y ys e in
    let q : suc n + 1 ≡ suc (n + 1) = omega arith in
    record { inside = omega (arith, is.inside); here = is.here; behind = ap (λ k. drop k (u ∷ us)) q ∙ is.behind }

pub piece_at : (items us : List (List ℕ)) (i n used : ℕ) → trimmed used (drop i items) ≡ drop n us → i < length items → IsPiece us n (drop used (get_or items i [])) (drop (i + 1) items)
piece_at items us i n used e l = piece_from us n (drop used (get_or items i [])) (drop (i + 1) items) (sym e ∙ ap (trimmed used) (drop_at items i l))

pub length-trimmed : (n : ℕ) (us : List (List ℕ)) → length (trimmed n us) ≡ length us
length-trimmed n [] = refl
length-trimmed n (u ∷ us) = refl

pub inside_items : (items us : List (List ℕ)) (i n used : ℕ) → trimmed used (drop i items) ≡ drop n us → n < length us → i < length items
inside_items items us i n used e l = omega (arith, l, ap (λ (xs : List (List ℕ)). length xs) e, length-trimmed used (drop i items), length-drop i items, length-drop n us)

-- the octets of pieces
pub joined_next : (us : List (List ℕ)) (n : ℕ) → n < length us → joined (take (n + 1) us) ≡ joined (take n us) ++ get_or us n []
joined_next [] n l = absurd (omega (arith, l))
joined_next (u ∷ us) zero l = append-nil u
joined_next (u ∷ us) (suc n) l =
    let q : suc n + 1 ≡ suc (n + 1) = omega arith in
    ap (λ k. joined (take k (u ∷ us))) q ∙ (ap (λ xs. u ++ xs) (joined_next us n (omega (arith, l))) ∙ sym (append_assoc u (joined (take n us)) (get_or us n [])))

pub joined_within : (us : List (List ℕ)) (n m : ℕ) → n ≤ m → length (joined (take n us)) ≤ length (joined (take m us))
joined_within us zero m l = omega arith
joined_within [] (suc n) m l = omega arith
joined_within (u ∷ us) (suc n) zero l = absurd (omega (arith, l))
joined_within (u ∷ us) (suc n) (suc m) l = omega (arith, joined_within us n m (omega (arith, l)), length-append u (joined (take n us)), length-append u (joined (take m us)))

-- octets behind others
pub record IsAppended (out now piece : List ℕ) (at count : ℕ) : Type 0 where
  pub front : take (at + count) now ≡ take at out ++ piece
  pub same : length now ≡ length out

pub appended : (out now piece : List ℕ) (at count : ℕ) → now ≡ take at out ++ (piece ++ drop (at + count) out) → at + count ≤ length out → length piece ≡ count → IsAppended out now piece at count
appended out now piece at count e fits long = record {
  front =
      ap (λ xs. take (at + count) xs) (e ∙ sym (append_assoc (take at out) piece (drop (at + count) out)))
      ∙ take_at (take at out ++ piece) (drop (at + count) out) (at + count) (omega (arith, length-append (take at out) piece, length-take-le at out (omega (arith, fits)), long));
  same = omega (arith, ap (λ (xs : List ℕ). length xs) e, fits, long, length-take-le at out (omega (arith, fits)), length-append (take at out) (piece ++ drop (at + count) out), length-append piece (drop (at + count) out), length-drop (at + count) out);
}

-- the octets that were copied at SDU i
pub record Carries (items : List (List ℕ)) (start : Start) (first out : List ℕ) (at used i : ℕ) : Type 0 where
  pub from : start.sdu ≤ i
  pub count : at ≡ length (joined (take (i - start.sdu) (left_at start items)))
  pub octets : take at out ≡ joined (take (i - start.sdu) (left_at start items))
  pub same : length out ≡ length first
  pub left : trimmed used (drop i items) ≡ drop (i - start.sdu) (left_at start items)
  pub used_is : used ≤ length (get_or items i [])

pub carries_first : (items : List (List ℕ)) (start : Start) (out : List ℕ) → IsStart items start → Carries items start out out 0 start.used start.sdu
carries_first items start out is =
    let z : start.sdu - start.sdu ≡ 0 = omega arith in
    record {
      from = omega arith;
      count = sym (ap (λ n. length (joined (take n (left_at start items)))) z);
      octets = sym (ap (λ n. joined (take n (left_at start items))) z);
      same = refl;
      left = sym (ap (λ n. drop n (left_at start items)) z);
      used_is = is.used;
    }

-- the next piece is there, and finds room
pub record IsNext (items : List (List ℕ)) (start : Start) (cut : Cut) (out : List ℕ) (at used i : ℕ) : Type 0 where
  pub inside : i < length items
  pub room : at + (length (get_or items i []) - used) ≤ length out

pub next_piece : (items : List (List ℕ)) (start : Start) (cut : Cut) (first out : List ℕ) (at used i : ℕ) → Carries items start first out at used i → i < start.sdu + cut.pieces → IsThere cut (left_at start items) → length (octets_of cut (left_at start items)) ≤ length first → IsNext items start cut out at used i
next_piece items start cut first out at used i k l there room =
    let n : i - start.sdu < length (left_at start items) = omega (arith, k.from, l, there.pieces) in
    let inside = inside_items items (left_at start items) i (i - start.sdu) used k.left n in
    let is = piece_at items (left_at start items) i (i - start.sdu) used k.left inside in
    record {
      inside = inside;
      room = omega (
        arith,
        k.count,
        k.same,
        room,
        ap (λ (xs : List ℕ). length xs) (joined_next (left_at start items) (i - start.sdu) n),
        length-append (joined (take (i - start.sdu) (left_at start items))) (get_or (left_at start items) (i - start.sdu) []),
        ap (λ (xs : List ℕ). length xs) is.here,
        length-drop used (get_or items i []),
        joined_within (left_at start items) (i - start.sdu + 1) cut.pieces (omega (arith, k.from, l)),
        length-append (joined (take cut.pieces (left_at start items))) (take cut.rest (first_of (drop cut.pieces (left_at start items)))),
      );
    }

pub carries_on : (items : List (List ℕ)) (start : Start) (first out now : List ℕ) (at used i count : ℕ) → Carries items start first out at used i → i < length items → count ≡ length (get_or items i []) - used → at + count ≤ length out → now ≡ take at out ++ (take count (drop used (get_or items i [])) ++ drop (at + count) out) → Carries items start first now (at + count) 0 (i + 1)
carries_on items start first out now at used i count k l e room n =
    let m : i + 1 - start.sdu ≡ i - start.sdu + 1 = omega (arith, k.from) in
    let is = piece_at items (left_at start items) i (i - start.sdu) used k.left l in
    let whole : take count (drop used (get_or items i [])) ≡ drop used (get_or items i []) = take_all count (drop used (get_or items i [])) (omega (arith, e, length-drop used (get_or items i []))) in
    let more = appended out now (take count (drop used (get_or items i []))) at count n room (ap (λ (xs : List ℕ). length xs) whole ∙ omega (arith, e, length-drop used (get_or items i []))) in
    let next : take (at + count) now ≡ joined (take (i + 1 - start.sdu) (left_at start items)) =
    more.front ∙ (ap₂ (λ xs ys. xs ++ ys) k.octets (whole ∙ sym is.here)
    ∙ (sym (joined_next (left_at start items) (i - start.sdu) is.inside) ∙ ap (λ j. joined (take j (left_at start items))) (sym m))) in
    record {
      from = omega (arith, k.from);
      count = sym (ap (λ (xs : List ℕ). length xs) (sym next) ∙ length-take-le (at + count) now (omega (arith, room, more.same)));
      octets = next;
      same = more.same ∙ k.same;
      left = trimmed_none (drop (i + 1) items) ∙ (sym is.behind ∙ ap (λ j. drop j (left_at start items)) (sym m));
      used_is = omega arith;
    }

-- the SDU that goes on behind the pieces
pub record IsRest (items : List (List ℕ)) (start : Start) (cut : Cut) (used i : ℕ) : Type 0 where
  pub inside : i < length items
  pub same : first_of (drop cut.pieces (left_at start items)) ≡ drop used (get_or items i [])

pub rest_there : (items : List (List ℕ)) (start : Start) (cut : Cut) (used i : ℕ) → trimmed used (drop i items) ≡ drop (i - start.sdu) (left_at start items) → i ≡ start.sdu + cut.pieces → 0 < cut.rest → IsThere cut (left_at start items) → IsRest items start cut used i
rest_there items start cut used i e at some there =
    let n : i - start.sdu ≡ cut.pieces = omega (arith, at) in
    let q : drop cut.pieces (left_at start items) ≡ trimmed used (drop i items) = sym (e ∙ ap (λ k. drop k (left_at start items)) n) in
    ⊎_elim
    (λ (l : i < length items). record { inside = l; same = ap first_of q ∙ ap (λ xs. first_of (trimmed used xs)) (drop_at items i l) })
    (λ (m : length items ≤ i). absurd (omega (arith, some, there.rest, ap (λ xs. length (first_of xs)) (q ∙ ap (trimmed used) (drop_end items i m)))))
    (cases_lt i (length items))

pub all_carried : (items : List (List ℕ)) (start : Start) (cut : Cut) (first out now : List ℕ) (at used i : ℕ) → Carries items start first out at used i → i ≡ start.sdu + cut.pieces → IsThere cut (left_at start items) → length (octets_of cut (left_at start items)) ≤ length first → 0 < cut.rest → now ≡ take at out ++ (take cut.rest (drop used (get_or items i [])) ++ drop (at + cut.rest) out) → take (at + cut.rest) now ≡ octets_of cut (left_at start items)
all_carried items start cut first out now at used i k here there room some e =
    let n : i - start.sdu ≡ cut.pieces = omega (arith, here) in
    let is = rest_there items start cut used i k.left here some there in
    let long : length (take cut.rest (drop used (get_or items i []))) ≡ cut.rest = length-take-le cut.rest (drop used (get_or items i [])) (omega (arith, there.rest, ap (λ (xs : List ℕ). length xs) is.same)) in
    let same : length (take cut.rest (first_of (drop cut.pieces (left_at start items)))) ≡ cut.rest = length-take-le cut.rest (first_of (drop cut.pieces (left_at start items))) there.rest in
    let fits : at + cut.rest ≤ length out = omega (arith, room, same, k.same, k.count, ap (λ m. length (joined (take m (left_at start items)))) n, length-append (joined (take cut.pieces (left_at start items))) (take cut.rest (first_of (drop cut.pieces (left_at start items))))) in
    (appended out now (take cut.rest (drop used (get_or items i []))) at cut.rest e fits long).front
    ∙ ap₂ (λ xs ys. xs ++ ys) (k.octets ∙ ap (λ m. joined (take m (left_at start items))) n) (ap (λ xs. take cut.rest xs) (sym is.same))

pub none_carried : (items : List (List ℕ)) (start : Start) (cut : Cut) (first out : List ℕ) (at used i : ℕ) → Carries items start first out at used i → i ≡ start.sdu + cut.pieces → cut.rest ≡ 0 → take (at + cut.rest) out ≡ octets_of cut (left_at start items)
none_carried items start cut first out at used i k here none =
    let n : i - start.sdu ≡ cut.pieces = omega (arith, here) in
    let m : at + cut.rest ≡ at = omega (arith, none) in
    ap (λ j. take j out) m ∙ (k.octets ∙ (ap (λ j. joined (take j (left_at start items))) n ∙ (sym (append-nil (joined (take cut.pieces (left_at start items))))
    ∙ ap (λ j. joined (take cut.pieces (left_at start items)) ++ take j (first_of (drop cut.pieces (left_at start items)))) (sym none))))
