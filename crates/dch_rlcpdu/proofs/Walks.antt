-- Going over the fields one by one.
use Rattle.std.proofs.Common.{◌≡◌, ◌+◌, ◌-◌, ◌*◌, ◌<◌, ◌≤◌, ℕ, zero, suc, List, [], ◌∷◌, Bool, true, false, Option, Some, None, length, get_or, drop, arith, refl, sym, ap, ap₂, ◌∙◌, cond, drop-drop, length-drop, subst}
use Rattle.std.specs.Prelude.{◌||◌, ◌&&◌, ◌==◌, not, nat_lt}
use Rattle.std.proofs.lemmas.Bool.Decides.{nat_tests}
use Rattle.std.proofs.lemmas.List.{drop_all}
use Rattle.dch_rlcpdu.specs.Fields.{Field, NoMoreField, pairs_of, bits_of}
use Rattle.dch_rlcpdu.specs.Halves.{halves}
use Rattle.dch_rlcpdu.specs.Reading.{are_whole, field_of, fields_of, is_cut, is_last, listed, size_of, status_of, whole_size, with_field}
use Rattle.dch_rlcpdu.proofs.Halves.{length-halves}

pub length-listed : (k : ℕ) (ns : List ℕ) → length (listed k ns) ≡ k
length-listed zero ns = refl
length-listed (suc k) ns = ap suc (length-listed k (drop (size_of ns) ns))

-- a whole field has a size within what is left
pub uncut : (size : ℕ) (ns : List ℕ) → (size == 0 || nat_lt (length ns) size) ≡ false → (0 < size) × (size ≤ length ns)
uncut size ns h = (grind (arith, nat_tests), grind (arith, nat_tests))

cut_empty : (size rest : ℕ) → size ≡ 0 → (size == 0 || nat_lt rest size) ≡ true
cut_empty size rest h = grind (arith, nat_tests)

cut_short : (size rest : ℕ) → rest < size → (size == 0 || nat_lt rest size) ≡ true
cut_short size rest h = grind (arith, nat_tests)

cut_not : (size rest : ℕ) → 0 < size → size ≤ rest → (size == 0 || nat_lt rest size) ≡ false
cut_not size rest some h = grind (arith, nat_tests)

-- the size is told where the field is whole
pub size_empty : (ns : List ℕ) (size : ℕ) → size ≡ size_of ns → size ≡ 0 → None ≡ whole_size ns
size_empty ns size is none = sym (ap (λ b. cond {A = Option ℕ} b None (Some (size_of ns))) (cut_empty (size_of ns) (length ns) (omega arith)))

pub size_short : (ns : List ℕ) (size : ℕ) → size ≡ size_of ns → length ns < size → None ≡ whole_size ns
size_short ns size is short = sym (ap (λ b. cond {A = Option ℕ} b None (Some (size_of ns))) (cut_short (size_of ns) (length ns) (omega arith)))

pub size_whole : (ns : List ℕ) (size : ℕ) → size ≡ size_of ns → 0 < size → size ≤ length ns → Some size ≡ whole_size ns
size_whole ns size is some long = ap Some is ∙ sym (ap (λ b. cond {A = Option ℕ} b None (Some (size_of ns))) (cut_not (size_of ns) (length ns) (omega arith) (omega arith)))

whole_first : (b rest : Bool) → (not b && rest) ≡ true → (b ≡ false) × (rest ≡ true)
whole_first false rest h = (refl, h)
whole_first true rest h = absurd (cc)

-- the first of the fields that are left
pub record Front (octets : List ℕ) (at left : ℕ) (now : List Field) : Type 0 where
  pub known : 0 < size_of (drop at (halves octets))
  pub whole : at + size_of (drop at (halves octets)) ≤ 2 * length octets
  pub here : at < 2 * length octets
  pub some : 0 < left
  pub first : get_or now 0 NoMoreField ≡ field_of (drop at (halves octets))
  pub rest : listed (left - 1) (drop (at + size_of (drop at (halves octets))) (halves octets)) ≡ drop 1 now
  pub others : are_whole (left - 1) (drop (at + size_of (drop at (halves octets))) (halves octets)) ≡ true

pub front : (octets : List ℕ) (at left : ℕ) (now : List Field) → listed left (drop at (halves octets)) ≡ now → are_whole left (drop at (halves octets)) ≡ true → 0 < length now → Front octets at left now
front octets at zero now view whole some = let none : length now ≡ 0 = sym (ap length view) in absurd (omega arith)
front octets at (suc k) now view whole some =
    let parts = whole_first (is_cut (drop at (halves octets))) (are_whole k (drop (size_of (drop at (halves octets))) (drop at (halves octets)))) whole in
    let size = uncut (size_of (drop at (halves octets))) (drop at (halves octets)) parts.0 in
    let known : 0 < size_of (drop at (halves octets)) = size.0 in
    let within : size_of (drop at (halves octets)) ≤ length (drop at (halves octets)) = size.1 in
    let less : suc k - 1 ≡ k = omega arith in
    let next : drop (size_of (drop at (halves octets))) (drop at (halves octets)) ≡ drop (at + size_of (drop at (halves octets))) (halves octets) = drop-drop (size_of (drop at (halves octets))) at (halves octets) in
    record {
      known = known;
      whole = omega (arith, length-drop at (halves octets), length-halves octets);
      here = omega (arith, length-drop at (halves octets), length-halves octets);
      some = omega arith;
      first = sym (ap (λ fs. get_or fs 0 NoMoreField) view);
      rest = ap₂ (λ n ns. listed n ns) less (sym next) ∙ ap (drop 1) view;
      others = ap₂ (λ n ns. are_whole n ns) less (sym next) ∙ parts.1;
    }

-- a field with pairs or bits is there
pub some_pairs : (now : List Field) (j : ℕ) → j < length (pairs_of (get_or now 0 NoMoreField)) → 0 < length now
some_pairs [] j below = absurd (omega arith)
some_pairs (f ∷ fs) j below = omega arith

pub some_bits : (now : List Field) (j : ℕ) → j < length (bits_of (get_or now 0 NoMoreField)) → 0 < length now
some_bits [] j below = absurd (omega arith)
some_bits (f ∷ fs) j below = omega arith

-- so many whole fields stand at the front, of which the last ends the list
pub record Tail (k m : ℕ) (ns : List ℕ) : Type 0 where
  pub is : fields_of k ns ≡ Some (listed m ns)
  pub whole : are_whole m ns ≡ true

pub tail_last : (k : ℕ) (ns : List ℕ) → is_cut ns ≡ false → is_last ns ≡ true → Tail (suc k) 1 ns
tail_last k ns whole last = record { is = rw (whole, last) refl; whole = rw whole refl }

pub tail_more : (k m : ℕ) (ns : List ℕ) → is_cut ns ≡ false → is_last ns ≡ false → Tail k m (drop (size_of ns) ns) → Tail (suc k) (suc m) ns
tail_more k m ns whole last rest = record { is = rw (whole, last) (ap (with_field (field_of ns)) rest.is); whole = rw whole rest.whole }

pub none_cut : (k : ℕ) (ns : List ℕ) → is_cut ns ≡ true → fields_of k ns ≡ None
none_cut zero ns cut = refl
none_cut (suc k) ns cut = rw cut refl

pub none_more : (k : ℕ) (ns : List ℕ) → is_cut ns ≡ false → is_last ns ≡ false → fields_of k (drop (size_of ns) ns) ≡ None → fields_of (suc k) ns ≡ None
none_more k ns whole last rest = rw (whole, last) (ap (with_field (field_of ns)) rest)

-- so many whole fields, none of them the last, stand before a place
pub record Walk (octets : List ℕ) (at n : ℕ) : Type 0 where
  pub found : (k m : ℕ) → Tail k m (drop at (halves octets)) → Tail (n + k) (n + m) (drop 1 (halves octets))
  pub missing : (k : ℕ) → fields_of k (drop at (halves octets)) ≡ None → fields_of (n + k) (drop 1 (halves octets)) ≡ None
  pub few : n < at
  pub room : n ≤ 2 * length octets

pub walk_start : (octets : List ℕ) → Walk octets 1 0
walk_start octets = record {
  found = λ k m t. let e : 0 + k ≡ k = omega arith in let f : 0 + m ≡ m = omega arith in rw (e, f) t;
  missing = λ k t. let e : 0 + k ≡ k = omega arith in rw e t;
  few = omega arith;
  room = omega arith;
}

whole_case : (b : Bool) (size s : ℕ) → cond {A = Option ℕ} b None (Some size) ≡ Some s → (b ≡ false) × (size ≡ s)
whole_case false size s is = (refl, cc)
whole_case true size s is = absurd (cc)

cut_case : (b : Bool) (size : ℕ) → cond {A = Option ℕ} b None (Some size) ≡ None → b ≡ true
cut_case true size is = refl
cut_case false size is = absurd (cc)

pub walk_next : (octets : List ℕ) (at n size : ℕ) → Walk octets at n → at < 2 * length octets → whole_size (drop at (halves octets)) ≡ Some size → is_last (drop at (halves octets)) ≡ false → Walk octets (at + size) (n + 1)
walk_next octets at n size w here is last =
    let parts = whole_case (is_cut (drop at (halves octets))) (size_of (drop at (halves octets))) size is in
    let whole : is_cut (drop at (halves octets)) ≡ false = parts.0 in
    let sizes : size_of (drop at (halves octets)) ≡ size = parts.1 in
    let some : 0 < size_of (drop at (halves octets)) = (uncut (size_of (drop at (halves octets))) (drop at (halves octets)) whole).0 in
    let next : drop (at + size) (halves octets) ≡ drop (size_of (drop at (halves octets))) (drop at (halves octets)) =
    sym (drop-drop (size_of (drop at (halves octets))) at (halves octets) ∙ ap (λ s. drop (at + s) (halves octets)) sizes) in
    record {
      found = λ k m t.
          let a : n + 1 + k ≡ n + suc k = omega arith in
          let b : n + 1 + m ≡ n + suc m = omega arith in
          rw (a, b) (w.found (suc k) (suc m) (tail_more k m (drop at (halves octets)) whole last (subst (Tail k m) next t)));
      missing = λ k t.
          let a : n + 1 + k ≡ n + suc k = omega arith in
          rw a (w.missing (suc k) (none_more k (drop at (halves octets)) whole last (ap (fields_of k) (sym next) ∙ t)));
      few = omega (arith, w.few);
      room = omega (arith, w.few);
    }

-- a field that ends the list
pub walk_last : (octets : List ℕ) (at n size : ℕ) → Walk octets at n → at < 2 * length octets → whole_size (drop at (halves octets)) ≡ Some size → is_last (drop at (halves octets)) ≡ true → Tail (2 * length octets) (n + 1) (drop 1 (halves octets))
walk_last octets at n size w here is last =
    let whole : is_cut (drop at (halves octets)) ≡ false = (whole_case (is_cut (drop at (halves octets))) (size_of (drop at (halves octets))) size is).0 in
    let fuel : n + suc (2 * length octets - n - 1) ≡ 2 * length octets = omega (arith, w.few) in
    subst (λ (f : ℕ). Tail f (n + 1) (drop 1 (halves octets))) fuel (w.found (suc (2 * length octets - n - 1)) 1 (tail_last (2 * length octets - n - 1) (drop at (halves octets)) whole last))

-- no field that stands there whole
pub walk_cut : (octets : List ℕ) (at n : ℕ) → Walk octets at n → is_cut (drop at (halves octets)) ≡ true → status_of octets ≡ None
walk_cut octets at n w cut =
    let fuel : n + (2 * length octets - n) ≡ 2 * length octets = omega (arith, w.room) in
    sym (ap (λ f. fields_of f (drop 1 (halves octets))) fuel) ∙ w.missing (2 * length octets - n) (none_cut (2 * length octets - n) (drop at (halves octets)) cut)

pub walk_no : (octets : List ℕ) (at n : ℕ) → Walk octets at n → whole_size (drop at (halves octets)) ≡ None → status_of octets ≡ None
walk_no octets at n w is = walk_cut octets at n w (cut_case (is_cut (drop at (halves octets))) (size_of (drop at (halves octets))) is)

pub walk_past : (octets : List ℕ) (at n : ℕ) → Walk octets at n → 2 * length octets ≤ at → status_of octets ≡ None
walk_past octets at n w past =
    let empty : drop at (halves octets) ≡ [] = drop_all at (halves octets) (omega (arith, length-halves octets)) in
    walk_cut octets at n w (ap is_cut empty)

pub walk_room : (octets : List ℕ) (at size : ℕ) → at < 2 * length octets → whole_size (drop at (halves octets)) ≡ Some size → (at + size ≤ 2 * length octets) × (0 < size)
walk_room octets at size here is =
    let parts = whole_case (is_cut (drop at (halves octets))) (size_of (drop at (halves octets))) size is in
    let sizes : size_of (drop at (halves octets)) ≡ size = parts.1 in
    let fit = uncut (size_of (drop at (halves octets))) (drop at (halves octets)) parts.0 in
    let some : 0 < size_of (drop at (halves octets)) = fit.0 in
    let within : size_of (drop at (halves octets)) ≤ length (drop at (halves octets)) = fit.1 in
    (omega (arith, length-drop at (halves octets), length-halves octets), omega arith)
