-- The sizes of the blocks of formats, one format after another.
use Rattle.std.proofs.Common.{◌≡◌, ◌+◌, ◌<◌, ◌++◌, ◌∙◌, ℕ, zero, suc, List, [], ◌∷◌, true, false, cond, get_or, length, drop, arith, refl, sym, ap, append_assoc}
use Rattle.std.proofs.lemmas.List.{append-nil}
use Rattle.dch_types.specs.declared.channel.Format.{Format}
use Rattle.dch_types.specs.Limits.{is_idle}
use Rattle.dch_layer2.specs.Bearings.{size_in, sizes_in}

drop_step : (fs : List Format) (i : ℕ) (d : Format) → i < length fs → drop i fs ≡ get_or fs i d ∷ drop (i + 1) fs
drop_step [] i d inside = absurd (omega arith)
drop_step (f ∷ fs) zero d inside = refl
drop_step (f ∷ fs) (suc i) d inside = let next : suc i + 1 ≡ suc (i + 1) = omega arith in drop_step fs i d (omega arith) ∙ sym (ap (λ n. get_or fs i d ∷ drop n (f ∷ fs)) next)

pub size_idle : (fs : List Format) (i : ℕ) (d : Format) → i < length fs → is_idle (get_or fs i d) ≡ true → size_in (drop i fs) ≡ size_in (drop (i + 1) fs)
size_idle fs i d inside idle = ap size_in (drop_step fs i d inside) ∙ ap (λ c. cond c (size_in (drop (i + 1) fs)) (get_or fs i d).size) idle

pub size_sent : (fs : List Format) (i : ℕ) (d : Format) → i < length fs → is_idle (get_or fs i d) ≡ false → size_in (drop i fs) ≡ (get_or fs i d).size
size_sent fs i d inside sent = ap size_in (drop_step fs i d inside) ∙ ap (λ c. cond c (size_in (drop (i + 1) fs)) (get_or fs i d).size) sent

pub sizes_idle : (fs : List Format) (i : ℕ) (d : Format) (sizes : List ℕ) → i < length fs → is_idle (get_or fs i d) ≡ true → sizes ++ sizes_in (drop i fs) ≡ sizes ++ sizes_in (drop (i + 1) fs)
sizes_idle fs i d sizes inside idle = ap (λ xs. sizes ++ xs) (ap sizes_in (drop_step fs i d inside) ∙ ap (λ c. cond c (sizes_in (drop (i + 1) fs)) ((get_or fs i d).size ∷ sizes_in (drop (i + 1) fs))) idle)

pub sizes_sent : (fs : List Format) (i : ℕ) (d : Format) (sizes : List ℕ) → i < length fs → is_idle (get_or fs i d) ≡ false → sizes ++ sizes_in (drop i fs) ≡ (sizes ++ (get_or fs i d).size ∷ []) ++ sizes_in (drop (i + 1) fs)
sizes_sent fs i d sizes inside sent =
    ap (λ xs. sizes ++ xs) (ap sizes_in (drop_step fs i d inside) ∙ ap (λ c. cond c (sizes_in (drop (i + 1) fs)) ((get_or fs i d).size ∷ sizes_in (drop (i + 1) fs))) sent)
    ∙ sym (append_assoc sizes ((get_or fs i d).size ∷ []) (sizes_in (drop (i + 1) fs)))

pub sizes_all : (fs : List Format) (i : ℕ) (sizes : List ℕ) → length fs ≡ i → sizes ++ sizes_in (drop i fs) ≡ sizes
sizes_all fs i sizes e = ap (λ xs. sizes ++ sizes_in xs) (none fs i e) ∙ append-nil sizes
  where
    none : (fs : List Format) (i : ℕ) → length fs ≡ i → drop i fs ≡ []
    none [] zero e = refl
    none [] (suc i) e = absurd (omega (arith, e))
    none (f ∷ fs) zero e = absurd (omega (arith, e))
    none (f ∷ fs) (suc i) e = none fs i (omega (arith, e))
