-- Texts that are written half octet by half octet.
use Rattle.std.proofs.Common.{◌≡◌, ◌+◌, ◌-◌, ◌*◌, ◌<◌, ◌≤◌, ℕ, zero, suc, List, [], ◌∷◌, ◌++◌, length, get_or, set, take, drop, replicate, arith, refl, sym, ap, ap₂, ◌∙◌, append_assoc, length-append, length-take, length-drop, min, subst}
use Rattle.std.proofs.Math.Seq.{set-append_seam}
use Rattle.std.proofs.Math.ListN.{length-set}
use Rattle.std.proofs.lemmas.List.{append-nil, drop_min, get_or-drop, get_or-take, take_min, take_more}
use Rattle.std.specs.Int.{div_ceil}
use Rattle.std.specs.Prelude.{All}
use Rattle.dch_rlcpdu.specs.Fields.{fifteens}
use Rattle.dch_rlcpdu.specs.Halves.{halves}
use Rattle.dch_rlcpdu.specs.Writing.{IsText, digits, list_text, lists_text, pairs_text}
use Rattle.dch_rlcpdu.proofs.Halves.{length-halves}

halves-replicate : (n : ℕ) → halves (replicate n 0) ≡ replicate (2 * n) 0
halves-replicate zero = refl
halves-replicate (suc n) = let e : 2 * suc n ≡ suc (suc (2 * n)) = omega arith in rw e (ap (λ rest. 0 ∷ 0 ∷ rest) (halves-replicate n))

pub text_start : (out : List ℕ) (n : ℕ) → 0 < n → length out ≡ n → out ≡ replicate n 0 → IsText out (0 ∷ [])
text_start out n some long is =
    let more : 2 * n ≡ suc (2 * length out - 1) = omega arith in
    record { is = ap halves is ∙ (halves-replicate n ∙ ap (λ k. replicate k 0) more) }

-- one half octet more
pub text_more : (xs ys t : List ℕ) (at v : ℕ) → halves ys ≡ set (halves xs) at v → length t ≡ at → at < 2 * length xs → IsText xs t → IsText ys (t ++ v ∷ [])
text_more xs ys t at v is long inside text =
    let same : 2 * length ys ≡ 2 * length xs = sym (length-halves ys) ∙ (ap length is ∙ (length-set (halves xs) at v ∙ length-halves xs)) in
    let more : 2 * length xs - length t ≡ suc (2 * length xs - length t - 1) = omega arith in
    let less : 2 * length xs - length t - 1 ≡ 2 * length ys - length (t ++ v ∷ []) = omega (arith, length-append t (v ∷ [])) in
    record {
      is =
          is ∙ (ap₂ (λ hs i. set hs i v) (text.is ∙ ap (λ k. t ++ replicate k 0) more) (sym long)
          ∙ (set-append_seam t 0 (replicate (2 * length xs - length t - 1) 0) v
          ∙ (sym (append_assoc (t) (v ∷ []) (replicate (2 * length xs - length t - 1) 0)) ∙ ap (λ k. (t ++ v ∷ []) ++ replicate k 0) less)));
    }

pub length-pairs_text : (ps : List (ℕ × ℕ)) → length (pairs_text ps) ≡ 4 * length ps
length-pairs_text [] = refl
length-pairs_text (p ∷ ps) = omega (arith, length-pairs_text ps)

pub pairs_text-append : (ps qs : List (ℕ × ℕ)) → pairs_text (ps ++ qs) ≡ pairs_text ps ++ pairs_text qs
pairs_text-append [] qs = refl
pairs_text-append (p ∷ ps) qs = ap (λ rest. digits p.0 ++ (p.1 ∷ rest)) (pairs_text-append ps qs)

-- a part of a text is written behind what stands before
abbrev pub Adds : ℕ → List ℕ → List ℕ → List ℕ → Type 0
Adds at part old now = (text : List ℕ) → length text ≡ at → IsText old text → IsText now (text ++ part)

-- two parts, one behind the other
pub both : (front back : List ℕ) (at next : ℕ) (a b c : List ℕ) → next ≡ at + length front → Adds at front a b → Adds next back b c → Adds at (front ++ back) a c
both front back at next a b c far first second text start is =
    subst (IsText c) (append_assoc text front back) (second (text ++ front) (omega (arith, length-append text front)) (first text start is))

pub nothing : (at : ℕ) (a : List ℕ) → Adds at [] a a
nothing at a text start is = subst (IsText a) (sym (append-nil text)) is

-- one pair more
pub pair_next : (ps : List (ℕ × ℕ)) (i at : ℕ) (p : ℕ × ℕ) (a b c : List ℕ) → i < length ps → p ≡ get_or ps i (0, 0) → Adds at (pairs_text (take i ps)) a b → Adds (at + 4 * i) (pairs_text (p ∷ [])) b c → Adds at (pairs_text (take (i + 1) ps)) a c
pair_next ps i at p a b c inside is first second =
    let long : length (take i ps) ≡ i = omega (arith, length-take i ps) in
    let whole : pairs_text (take i ps) ++ pairs_text (p ∷ []) ≡ pairs_text (take (i + 1) ps) =
    sym (pairs_text-append (take i ps) (p ∷ [])) ∙ (ap (λ q. pairs_text (take i ps ++ q ∷ [])) is ∙ ap pairs_text (sym (take_more ps i (0, 0) inside))) in
    subst (λ (t : List ℕ). Adds at t a c) whole
    (both (pairs_text (take i ps)) (pairs_text (p ∷ [])) at (at + 4 * i) a b c (omega (arith, length-pairs_text (take i ps))) first second)

-- lists of fifteen pairs
abbrev pub lists_of : List (ℕ × ℕ) → List ℕ
lists_of ps = lists_text (fifteens (length ps) ps)

fifteens-fuel : (k m : ℕ) (ps : List (ℕ × ℕ)) → length ps ≤ k → length ps ≤ m → fifteens k ps ≡ fifteens m ps
fifteens-fuel zero zero ps within enough = refl
fifteens-fuel zero (suc m) [] within enough = refl
fifteens-fuel (suc k) zero [] within enough = refl
fifteens-fuel (suc k) (suc m) [] within enough = refl
fifteens-fuel zero (suc m) (p ∷ ps) within enough = absurd (omega arith)
fifteens-fuel (suc k) zero (p ∷ ps) within enough = absurd (omega arith)
fifteens-fuel (suc k) (suc m) (p ∷ ps) within enough =
    ap (λ rest. take 15 (p ∷ ps) ∷ rest) (fifteens-fuel k m (drop 14 ps) (omega (arith, length-drop 14 ps)) (omega (arith, length-drop 14 ps)))

pub lists_next : (ps : List (ℕ × ℕ)) → 0 < length ps → lists_of ps ≡ list_text (take 15 ps) ++ lists_of (drop 15 ps)
lists_next [] some = absurd (omega arith)
lists_next (p ∷ ps) some =
    ap (λ rest. list_text (take 15 (p ∷ ps)) ++ lists_text rest)
    (fifteens-fuel (length ps) (length (drop 14 ps)) (drop 14 ps) (omega (arith, length-drop 14 ps)) (omega arith))

pub length-lists : (k : ℕ) (ps : List (ℕ × ℕ)) → length ps ≤ k → length (lists_text (fifteens k ps)) ≡ 2 * div_ceil (length ps) 15 + 4 * length ps
length-lists zero [] within = refl
length-lists (suc k) [] within = refl
length-lists zero (p ∷ ps) within = absurd (omega arith)
length-lists (suc k) (p ∷ ps) within =
    let rest : length (lists_text (fifteens k (drop 14 ps))) ≡ 2 * div_ceil (length (drop 14 ps)) 15 + 4 * length (drop 14 ps) = length-lists k (drop 14 ps) (omega (arith, length-drop 14 ps)) in
    let less : length (drop 14 ps) ≡ length ps - 14 = length-drop 14 ps in
    let front : length (take 14 ps) ≡ min 14 (length ps) = length-take 14 ps in
    let texts : length (pairs_text (take 15 (p ∷ ps))) ≡ 4 * length (take 15 (p ∷ ps)) = length-pairs_text (take 15 (p ∷ ps)) in
    omega (arith, length-append (list_text (take 15 (p ∷ ps))) (lists_text (fifteens k (drop 14 ps))))

-- lists that are written, of those of all pairs, and the pairs that are left
pub record Progress (old now : List ℕ) (at end : ℕ) (all rest : List (ℕ × ℕ)) : Type 0 where
  pub done : List ℕ
  pub far : end ≡ at + length done
  pub whole : done ++ lists_of rest ≡ lists_of all
  pub written : Adds at done old now
  pub small : All (λ p. (p.0 < 4096) × (p.1 < 16)) rest

pub progress_start : (out : List ℕ) (at : ℕ) (all : List (ℕ × ℕ)) → All (λ p. (p.0 < 4096) × (p.1 < 16)) all → Progress out out at at all all
progress_start out at all small = record { done = []; far = omega arith; whole = refl; written = nothing at out; small = small }

-- the list that comes next
pub record Next (size at : ℕ) (rest list others : List (ℕ × ℕ)) : Type 0 where
  pub list_is : list ≡ take 15 rest
  pub others_are : others ≡ drop 15 rest
  pub few : length list < 16
  pub room : at + 2 + 4 * length list ≤ size
  pub less : length others < length rest
  pub small : All (λ p. (p.0 < 4096) × (p.1 < 16)) list
  pub others_small : All (λ p. (p.0 < 4096) × (p.1 < 16)) others

take_most : (k : ℕ) (ps : List (ℕ × ℕ)) → k ≡ min 15 (length ps) → (take k ps ≡ take 15 ps) × (drop k ps ≡ drop 15 ps)
take_most k ps is = (ap (λ n. take n ps) is ∙ take_min 15 ps, ap (λ n. drop n ps) is ∙ drop_min 15 ps)

pub next_list : (old now : List ℕ) (at end size k : ℕ) (all rest list others : List (ℕ × ℕ)) → Progress old now at end all rest → at + length (lists_of all) ≤ size → 0 < length rest → k ≡ min 15 (length rest) → list ≡ take k rest → others ≡ drop k rest → Next size end rest list others
next_list old now at end size k all rest list others w room some most list_is others_are =
    let both_are = take_most k rest most in
    let front : list ≡ take 15 rest = list_is ∙ both_are.0 in
    let back : others ≡ drop 15 rest = others_are ∙ both_are.1 in
    let long : length list ≡ min 15 (length rest) = ap length front ∙ length-take 15 rest in
    let left : length others ≡ length rest - 15 = ap length back ∙ length-drop 15 rest in
    let parts : length (lists_of rest) ≡ length (list_text (take 15 rest)) + length (lists_of (drop 15 rest)) = ap length (lists_next rest some) ∙ length-append (list_text (take 15 rest)) (lists_of (drop 15 rest)) in
    let texts : length (list_text (take 15 rest)) ≡ 2 + 4 * length list = ap (λ n. suc (suc n)) (length-pairs_text (take 15 rest)) ∙ (ap (λ n. suc (suc (4 * n))) (ap length (sym front)) ∙ omega arith) in
    let all_long : length w.done + length (lists_of rest) ≡ length (lists_of all) = sym (length-append w.done (lists_of rest)) ∙ ap length w.whole in
    record {
      list_is = front;
      others_are = back;
      few = omega arith;
      room = omega (arith, w.far);
      less = omega arith;
      small = λ i d below. subst (λ (p : ℕ × ℕ). (p.0 < 4096) × (p.1 < 16)) (sym (ap (λ l. get_or l i d) front ∙ get_or-take 15 rest i d (omega arith))) (w.small i d (omega arith));
      others_small = λ i d below. subst (λ (p : ℕ × ℕ). (p.0 < 4096) × (p.1 < 16)) (sym (ap (λ l. get_or l i d) back ∙ get_or-drop 15 rest i d)) (w.small (15 + i) d (omega arith));
    }

pub progress_next : (old now new : List ℕ) (at end next size : ℕ) (all rest list others : List (ℕ × ℕ)) → Progress old now at end all rest → 0 < length rest → Next size end rest list others → next ≡ end + (2 + 4 * length list) → Adds end (list_text list) now new → Progress old new at next all others
progress_next old now new at end next size all rest list others w some n far added = record {
  done = w.done ++ list_text list;
  far = omega (arith, w.far, length-append w.done (list_text list), length-pairs_text list);
  whole =
      append_assoc w.done (list_text list) (lists_of others)
      ∙ (ap₂ (λ l o. w.done ++ (list_text l ++ lists_of o)) n.list_is n.others_are
      ∙ (ap (λ t. w.done ++ t) (sym (lists_next rest some)) ∙ w.whole));
  written = both w.done (list_text list) at end old now new w.far w.written added;
  small = n.others_small;
}
