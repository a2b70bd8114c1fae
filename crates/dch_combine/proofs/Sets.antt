-- What is kept for each set, of which one is written or new.
use Rattle.std.proofs.Common.{◌≡◌, ◌≢◌, ◌<◌, ◌+◌, ◌++◌, ◌∙◌, ℕ, List, [], ◌∷◌, length, None, get_or, arith, sym, ap, subst, inl, inr, length-append, get_or-set_same, get_or-set_other}
use Rattle.std.specs.Prelude.{slice_set}
use Rattle.std.proofs.lemmas.Bool.{cases_lt}
use Rattle.std.proofs.lemmas.Bool.Decides.{eqb_tells}
use Rattle.std.proofs.lemmas.List.{get_or_append_left, get_or_past, get_or_push, get_or_read, length-set}
use Rattle.dch_types.specs.declared.config.Config.{Config}
use Rattle.dch_combine.specs.Opened.{AreSetCombiners, IsSetCombinerOf}
use Rattle.dch_combine.specs.Steps.{AreNewSets}
use Rattle.dch_combine.specs.Values.{SetCombiner, frames_in, set_at}

pub own_set : (sets : List SetCombiner) (s : ℕ) (new : SetCombiner) → s < length sets → set_at (slice_set sets s new) s ≡ new
own_set sets s new inside = get_or-set_same sets s new _ inside

pub other_set : (sets : List SetCombiner) (s j : ℕ) (new : SetCombiner) → j ≢ s → set_at (slice_set sets s new) j ≡ set_at sets j
other_set sets s j new other = get_or-set_other sets s j new _ other

pub still_sets : (config : Config) (count sets s : ℕ) (combiners : List SetCombiner) (new : SetCombiner) → AreSetCombiners config count sets combiners → s < sets → IsSetCombinerOf config s count new → AreSetCombiners config count sets (slice_set combiners s new)
still_sets config count sets s combiners new are inside is = record {
  all = length-set combiners s new ∙ are.all;
  each = λ j less. elim (eqb_tells j s) [
    | inl same ↦ subst (λ n. IsSetCombinerOf config n count (set_at (slice_set combiners s new) n)) (sym same.1) (subst (λ (c : SetCombiner). IsSetCombinerOf config s count c) (sym (own_set combiners s new (omega (arith, inside, are.all)))) is)
    | inr other ↦ subst (λ (c : SetCombiner). IsSetCombinerOf config j count c) (sym (other_set combiners s j new other.1)) (are.each j less)
  ];
}

-- a new one at the end
pub new_set : (config : Config) (count sets : ℕ) (combiners : List SetCombiner) (new : SetCombiner) → AreNewSets config count sets combiners → ((k : ℕ) → frames_in new.legs k ≡ None) → IsSetCombinerOf config sets count new
    → AreNewSets config count (sets + 1) (combiners ++ new ∷ [])
new_set config count sets combiners new are none is =
    let own : set_at (combiners ++ new ∷ []) sets ≡ new = get_or_push combiners new _ sets are.opened.all in
    let others : (s : ℕ) → s < sets → set_at (combiners ++ new ∷ []) s ≡ set_at combiners s = λ s early. get_or_append_left combiners (new ∷ []) _ s (omega (arith, early, are.opened.all)) in
    let long : length (combiners ++ new ∷ []) ≡ sets + 1 = omega (arith, length-append combiners (new ∷ []), are.opened.all) in
    record {
      empty = λ s k. elim (eqb_tells s sets) [
        | inl same ↦ ap (λ n. frames_in (set_at (combiners ++ new ∷ []) n).legs k) same.1 ∙ (ap (λ (c : SetCombiner). frames_in c.legs k) own ∙ none k)
        | inr other ↦ elim (cases_lt s sets) [
          | inl early ↦ ap (λ (c : SetCombiner). frames_in c.legs k) (others s early) ∙ are.empty s k
          | inr late ↦ (let apart : s ≢ sets = other.1 in ap (λ (c : SetCombiner). frames_in c.legs k) (get_or_past (combiners ++ new ∷ []) s _ (omega (arith, long, late))))
        ]
      ];
      opened = record {
        all = long;
        each = λ s less. elim (eqb_tells s sets) [
          | inl same ↦ subst (λ n. IsSetCombinerOf config n count (set_at (combiners ++ new ∷ []) n)) (sym same.1) (subst (λ (c : SetCombiner). IsSetCombinerOf config sets count c) (sym own) is)
          | inr other ↦ (let apart : s ≢ sets = other.1 in let early : s < sets = omega (arith, less) in subst (λ (c : SetCombiner). IsSetCombinerOf config s count c) (sym (others s early)) (are.opened.each s early))
        ];
      };
    }

-- what is kept for a set that there is, whatever stands for one past the end
pub set_is : (config : Config) (count : ℕ) (combiners : List SetCombiner) (at set : ℕ) (it : SetCombiner) → AreSetCombiners config count 8 combiners → at ≡ set → at < 8 → it ≡ get_or combiners at it → it ≡ set_at combiners set
set_is config count combiners at set it are same few is = get_or_read combiners at it (omega (arith, few, are.all)) is _ ∙ ap (λ s. set_at combiners s) same

count_is : (config : Config) (count : ℕ) (combiners : List SetCombiner) (at set : ℕ) (it : SetCombiner) → AreSetCombiners config count 8 combiners → at ≡ set → at < 8 → it ≡ get_or combiners at it → IsSetCombinerOf config set count it
count_is config count combiners at set it are same few is =
    subst (λ (c : SetCombiner). IsSetCombinerOf config set count c) (sym (set_is config count combiners at set it are same few is)) (are.each set (omega (arith, same, few)))

pub set_here : (config : Config) (count : ℕ) (combiners : List SetCombiner) (at set : ℕ) (it : SetCombiner) → AreSetCombiners config count 8 combiners → at ≡ set → at < 8 → it ≡ get_or combiners at it → IsSetCombinerOf config set (length it.legs) it
set_here config count combiners at set it are same few is =
    let kept : IsSetCombinerOf config set count it = count_is config count combiners at set it are same few is in
    subst (λ n. IsSetCombinerOf config set n it) (sym kept.all) kept

-- it changes, and is of its set still
pub set_changed : (config : Config) (count : ℕ) (combiners : List SetCombiner) (at set : ℕ) (it new : SetCombiner) → AreSetCombiners config count 8 combiners → at ≡ set → at < 8 → it ≡ get_or combiners at it
    → IsSetCombinerOf config set (length it.legs) new → AreSetCombiners config count 8 (slice_set combiners at new)
set_changed config count combiners at set it new are same few is kept =
    let own : IsSetCombinerOf config set count it = count_is config count combiners at set it are same few is in
    let now : IsSetCombinerOf config set count new = subst (λ n. IsSetCombinerOf config set n new) own.all kept in
    subst (λ s. AreSetCombiners config count 8 (slice_set combiners s new)) (sym same) (still_sets config count 8 set combiners new are (omega (arith, same, few)) now)
