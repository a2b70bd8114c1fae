-- A row of blocks behind each call.
use Rattle.std.proofs.Common.{◌≡◌, ◌≢◌, ◌+◌, ◌<◌, ◌≤◌, ℕ, zero, suc, List, [], ◌∷◌, ◌++◌, false, cond, length, set, get_or, drop, Option, Some, None, arith, refl, sym, ap, ap₂, ◌∙◌, subst, get_or-set_other, get_or-set_same, length-append}
use Rattle.std.specs.Prelude.{◌==◌, IsSome, count_by, is_none, replicate, slice_get, unwrap_or}
use Rattle.std.proofs.Math.ListN.{length-set}
use Rattle.std.proofs.lemmas.Bool.{both_ways, eqb-false, ne_eqb, or_from, or_parts}
use Rattle.std.proofs.lemmas.List.{drop-replicate}
use Rattle.std.proofs.lemmas.List.Sums.{sum_by-cons}
use Rattle.dch_pool.specs.Blocks.{Blocks, IsLent, Takes, octets_of, overwritten, spare_of, with_octets, without, written}
use Rattle.dch_txbuf.specs.Rows.{AreApart, AreLent, IsRow, is_among, padded, texts_of}

-- a number that isn't among others
among_other : (n m : ℕ) (ms : List ℕ) → is_among n (m ∷ ms) ≡ false → n ≢ m
among_other n m ms e = eqb-false n m (or_parts (n == m) (is_among n ms) e).0

among_rest : (n m : ℕ) (ms : List ℕ) → is_among n (m ∷ ms) ≡ false → is_among n ms ≡ false
among_rest n m ms e = (or_parts (n == m) (is_among n ms) e).1

-- a block that isn't lent isn't among lent ones
not_among : (pool : Blocks) (b : ℕ) (ns : List ℕ) → get_or pool.contents b None ≡ None → AreLent pool ns → is_among b ns ≡ false
not_among pool b [] was lent = refl
not_among pool b (n ∷ ns) was lent = or_from (b == n) (is_among b ns) (ne_eqb b n (λ e. no_some (subst (λ k. IsSome (get_or pool.contents k None)) (sym e) lent.0))) (not_among pool b ns was lent.1)
  where
    no_some : IsSome (get_or pool.contents b None) → ⊥
    no_some s = both_ways false refl (subst IsSome was s)

-- what changes one place leaves the others
other_text : (pool : Blocks) (b n : ℕ) (x : Option (List ℕ)) → n ≢ b → octets_of (record pool { contents = set pool.contents b x }) n ≡ octets_of pool n
other_text pool b n x ne = ap (λ o. unwrap_or o []) (get_or-set_other pool.contents b n x None ne)

other_lent : (pool : Blocks) (b n : ℕ) (x : Option (List ℕ)) → n ≢ b → IsLent pool n → IsLent (record pool { contents = set pool.contents b x }) n
other_lent pool b n x ne is = subst IsSome (sym (get_or-set_other pool.contents b n x None ne)) is

pub texts_other : (pool : Blocks) (b : ℕ) (ns : List ℕ) (x : Option (List ℕ)) → is_among b ns ≡ false → texts_of (record pool { contents = set pool.contents b x }) ns ≡ texts_of pool ns
texts_other pool b [] x e = refl
texts_other pool b (n ∷ ns) x e = ap₂ (λ t ts. t ∷ ts) (other_text pool b n x (λ q. among_other b n ns e (sym q))) (texts_other pool b ns x (among_rest b n ns e))

pub lent_other : (pool : Blocks) (b : ℕ) (ns : List ℕ) (x : Option (List ℕ)) → is_among b ns ≡ false → AreLent pool ns → AreLent (record pool { contents = set pool.contents b x }) ns
lent_other pool b [] x e lent = tt
lent_other pool b (n ∷ ns) x e lent = (other_lent pool b n x (λ q. among_other b n ns e (sym q)) lent.0, lent_other pool b ns x (among_rest b n ns e) lent.1)

-- one more behind the others
texts_push : (pool : Blocks) (ns : List ℕ) (b : ℕ) → texts_of pool (ns ++ b ∷ []) ≡ texts_of pool ns ++ octets_of pool b ∷ []
texts_push pool [] b = refl
texts_push pool (n ∷ ns) b = ap (λ ts. octets_of pool n ∷ ts) (texts_push pool ns b)

lent_push : (pool : Blocks) (ns : List ℕ) (b : ℕ) → AreLent pool ns → IsLent pool b → AreLent pool (ns ++ b ∷ [])
lent_push pool [] b are is = (is, tt)
lent_push pool (n ∷ ns) b are is = (are.0, lent_push pool ns b are.1 is)

among_push : (n b : ℕ) (ns : List ℕ) → is_among n ns ≡ false → n ≢ b → is_among n (ns ++ b ∷ []) ≡ false
among_push n b [] e ne = or_from (n == b) false (ne_eqb n b ne) refl
among_push n b (m ∷ ms) e ne = or_from (n == m) (is_among n (ms ++ b ∷ [])) (or_parts (n == m) (is_among n ms) e).0 (among_push n b ms (or_parts (n == m) (is_among n ms) e).1 ne)

apart_push : (ns : List ℕ) (b : ℕ) → is_among b ns ≡ false → AreApart ns → AreApart (ns ++ b ∷ [])
apart_push [] b e are = (refl, tt)
apart_push (n ∷ ns) b e are = (among_push n b ns are.0 (λ q. among_other b n ns e (sym q)), apart_push ns b (among_rest b n ns e) are.1)

-- how many are spare where one place changes
cons_count : (x : Option (List ℕ)) (xs : List (Option (List ℕ))) → count_by is_none (x ∷ xs) ≡ cond (is_none x) 1 0 + count_by is_none xs
cons_count x xs = sum_by-cons (λ y. cond (is_none y) 1 0) x xs

count_set : (xs : List (Option (List ℕ))) (b : ℕ) (y : Option (List ℕ)) → b < length xs → count_by is_none (set xs b y) + cond (is_none (get_or xs b None)) 1 0 ≡ count_by is_none xs + cond (is_none y) 1 0
count_set [] b y l = absurd (omega arith)
count_set (x ∷ xs) zero y l = omega (arith, cons_count x xs, cons_count y xs)
count_set (x ∷ xs) (suc b) y l = omega (arith, cons_count x xs, cons_count x (set xs b y), count_set xs b y (omega arith))

pub spare_all : (n : ℕ) → count_by is_none (replicate {A = Option (List ℕ)} n None) ≡ n
spare_all zero = refl
spare_all (suc n) = cons_count None (replicate n None) ∙ omega (arith, spare_all n)

-- the written octets
pub text_written : (octets : List ℕ) → overwritten (replicate 64 0) 0 octets ≡ padded octets
text_written octets = let e : 0 + length octets ≡ length octets = omega arith in ap (λ n. octets ++ drop n (replicate 64 0)) e ∙ ap (λ xs. octets ++ xs) (drop-replicate (length octets) 64 0)

-- a pool in which one spare block was lent, and then written
pub record IsTaken (old now : Blocks) (b : ℕ) (ns : List ℕ) : Type 0 where
  pub texts : texts_of now ns ≡ texts_of old ns
  pub lent : AreLent now ns
  pub here : IsLent now b
  pub apart : is_among b ns ≡ false
  pub size : now.size ≡ old.size
  pub spare : spare_of now + 1 ≡ spare_of old
  pub whole : length now.contents ≡ length old.contents
  pub inside : b < length old.contents

taken_with : (old : Blocks) (b : ℕ) (ns octets : List ℕ) → b < length old.contents → get_or old.contents b None ≡ None → AreLent old ns → IsTaken old (with_octets old b octets) b ns
taken_with old b ns octets l was lent = record {
  texts = texts_other old b ns (Some octets) apart;
  lent = lent_other old b ns (Some octets) apart lent;
  here = subst IsSome (sym (get_or-set_same old.contents b (Some octets) None l)) refl;
  apart = apart;
  size = refl;
  spare = omega (arith, count_set old.contents b (Some octets) l, ap (λ o. cond {A = ℕ} (is_none o) 1 0) was);
  whole = length-set old.contents b (Some octets);
  inside = l;
}
  where
    apart : is_among b ns ≡ false
    apart = not_among old b ns was lent

pub taken : (old now : Blocks) (b : ℕ) (ns : List ℕ) → Takes old now b → AreLent old ns → IsTaken old now b ns
taken old now b ns t lent = subst (λ p. IsTaken old p b ns) (sym t.now) (taken_with old b ns (replicate old.size 0) t.there t.was lent)

zeros_taken : (old now : Blocks) (b : ℕ) → Takes old now b → octets_of now b ≡ replicate old.size 0
zeros_taken old now b t = ap (λ p. octets_of p b) t.now ∙ ap (λ o. unwrap_or o []) (get_or-set_same old.contents b (Some (replicate old.size 0)) None t.there)

-- a block with its octets comes behind a row
pub record IsPushed (old now : Blocks) (ns : List ℕ) (b capacity : ℕ) (octets : List ℕ) : Type 0 where
  pub row : IsRow now (ns ++ b ∷ []) capacity
  pub texts : texts_of now (ns ++ b ∷ []) ≡ texts_of old ns ++ padded octets ∷ []

pub pushed : (old lent now : Blocks) (ns : List ℕ) (b capacity : ℕ) (octets : List ℕ) → IsRow old ns capacity → Takes old lent b → now ≡ written lent b 0 octets → IsPushed old now ns b capacity octets
unfolding written
pushed old lent now ns b capacity octets row t e = subst (λ p. IsPushed old p ns b capacity octets) (sym e) (record {
  row = record {
    size = is.size ∙ row.size;
    lent = lent_push after ns b (lent_other lent b ns (Some text) is.apart is.lent) (subst IsSome (sym here) refl);
    apart = apart_push ns b is.apart row.apart;
    count = omega (arith, row.count, is.spare, count_set lent.contents b (Some text) inside, ap (λ o. cond {A = ℕ} (is_none o) 1 0) was, length-append ns (b ∷ []));
    whole = length-set lent.contents b (Some text) ∙ (is.whole ∙ row.whole);
  };
  texts = texts_push after ns b ∙ ap₂ (λ ts x. ts ++ x ∷ []) (texts_other lent b ns (Some text) is.apart ∙ is.texts) (ap (λ o. unwrap_or o []) here ∙ text_is);
})
  where
    is : IsTaken old lent b ns
    is = taken old lent b ns t row.lent

    text : List ℕ
    text = overwritten (octets_of lent b) 0 octets

    after : Blocks
    after = with_octets lent b (overwritten (octets_of lent b) 0 octets)

    inside : b < length lent.contents
    inside = omega (arith, is.inside, is.whole)

    here : get_or (set lent.contents b (Some (overwritten (octets_of lent b) 0 octets))) b None ≡ Some (overwritten (octets_of lent b) 0 octets)
    here = get_or-set_same lent.contents b (Some (overwritten (octets_of lent b) 0 octets)) None inside

    was : get_or lent.contents b None ≡ Some (replicate old.size 0)
    was = ap (λ (p : Blocks). get_or p.contents b None) t.now ∙ get_or-set_same old.contents b (Some (replicate old.size 0)) None t.there

    text_is : overwritten (octets_of lent b) 0 octets ≡ padded octets
    text_is = ap (λ xs. overwritten xs 0 octets) (zeros_taken old lent b t ∙ ap (λ n. replicate n 0) row.size) ∙ text_written octets

-- a block that fits is lent where one is spare
pub some_spare : (pool : Blocks) (ns : List ℕ) (capacity : ℕ) → IsRow pool ns capacity → length ns < capacity → spare_of pool ≢ 0
some_spare pool ns capacity row l none = omega (arith, row.count, l, none)

-- the first block leaves
pub record IsPopped (old now : Blocks) (ns : List ℕ) (capacity : ℕ) : Type 0 where
  pub row : IsRow now ns capacity
  pub texts : texts_of now ns ≡ texts_of old ns

inside_lent : (xs : List (Option (List ℕ))) (b : ℕ) → IsSome (get_or xs b None) → b < length xs
inside_lent [] b s = absurd (both_ways false refl s)
inside_lent (x ∷ xs) zero s = omega arith
inside_lent (x ∷ xs) (suc b) s = omega (arith, inside_lent xs b s)

counted_some : (o : Option (List ℕ)) → IsSome o → cond {A = ℕ} (is_none o) 1 0 ≡ 0
counted_some None s = absurd (both_ways false refl s)
counted_some (Some x) s = refl

pub popped : (old now : Blocks) (b : ℕ) (ns : List ℕ) (capacity : ℕ) → IsRow old (b ∷ ns) capacity → now ≡ without old b → IsPopped old now ns capacity
popped old now b ns capacity row e = subst (λ p. IsPopped old p ns capacity) (sym e) (record {
  row = record {
    size = row.size;
    lent = lent_other old b ns None row.apart.0 row.lent.1;
    apart = row.apart.1;
    count = omega (arith, row.count, count_set old.contents b None inside, counted_some (get_or old.contents b None) row.lent.0);
    whole = length-set old.contents b None ∙ row.whole;
  };
  texts = texts_other old b ns None row.apart.0;
})
  where
    inside : b < length old.contents
    inside = inside_lent old.contents b row.lent.0

-- the text of a block at a place
pub text_at : (pool : Blocks) (ns : List ℕ) (i : ℕ) → i < length ns → get_or (texts_of pool ns) i [] ≡ octets_of pool (get_or ns i 0)
text_at pool [] i l = absurd (omega arith)
text_at pool (n ∷ ns) zero l = refl
text_at pool (n ∷ ns) (suc i) l = text_at pool ns i (omega arith)

pub lent_at : (pool : Blocks) (ns : List ℕ) (i : ℕ) → i < length ns → AreLent pool ns → IsLent pool (get_or ns i 0)
lent_at pool [] i l are = absurd (omega arith)
lent_at pool (n ∷ ns) zero l are = are.0
lent_at pool (n ∷ ns) (suc i) l are = lent_at pool ns i (omega arith) are.1

pub length-texts : (pool : Blocks) (ns : List ℕ) → length (texts_of pool ns) ≡ length ns
length-texts pool [] = refl
length-texts pool (n ∷ ns) = ap suc (length-texts pool ns)

-- the number at a place
pub got : (ns : List ℕ) (i b : ℕ) → Some b ≡ slice_get ns i → (i < length ns) × (get_or ns i 0 ≡ b)
got [] i b e = absurd (cc)
got (n ∷ ns) zero b e = (omega arith, cc)
got (n ∷ ns) (suc i) b e = let g = got ns i b e in (omega (arith, g.0), g.1)

pub got_none : (ns : List ℕ) (i : ℕ) → None ≡ slice_get ns i → length ns ≤ i
got_none [] i e = omega arith
got_none (n ∷ ns) zero e = absurd (cc)
got_none (n ∷ ns) (suc i) e = omega (arith, got_none ns i e)

pub front : (ns : List ℕ) (b : ℕ) → Some b ≡ slice_get ns 0 → ns ≡ b ∷ drop 1 ns
front [] b e = absurd (cc)
front (n ∷ ns) b e = let q : n ≡ b = cc in ap (λ x. x ∷ ns) q

pub texts_behind : (pool : Blocks) (ns : List ℕ) → texts_of pool (drop 1 ns) ≡ drop 1 (texts_of pool ns)
texts_behind pool [] = refl
texts_behind pool (n ∷ ns) = refl

pub none_left : (ns : List ℕ) → length ns ≡ 0 → ns ≡ []
none_left [] e = refl
none_left (n ∷ ns) e = absurd (omega (arith, e))
