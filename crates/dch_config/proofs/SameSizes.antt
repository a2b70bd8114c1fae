-- Formats whose blocks have the same sizes.
use Rattle.std.proofs.Common.{◌≡◌, ℕ, Bool, true, false, not, ◌&&◌, ◌||◌, List, [], ◌∷◌, refl, sym, ◌∙◌, subst, ⊎_elim}
use Rattle.std.specs.Prelude.{◌==◌, ◌↔◌}
use Rattle.std.specs.List.{list_all}
use Rattle.std.proofs.lemmas.Bool.{and_from, and_parts, both_ways, cases_Bool, eq-eqb, eqb-true, not-true, not_from_false, or_cases, or_left, or_right}
use Rattle.dch_types.specs.declared.channel.Format.{Format}
use Rattle.dch_types.specs.Limits.{is_idle}
use Rattle.dch_config.specs.Changes.{HaveSameSizes, sends_size}

-- a test of a format's size by others
abbrev pub is_among : List Format → Format → Bool
is_among others format = is_idle format || sends_size others format.size

-- a format that is idle or among others gives those its size, where it has it
one_among : (format : Format) (others : List Format) (size : ℕ) → is_among others format ≡ true → (not (is_idle format) && format.size == size) ≡ true → sends_size others size ≡ true
one_among format others size among has =
    let sends = and_parts (not (is_idle format)) (format.size == size) has in
    let same : format.size ≡ size = eqb-true format.size size sends.1 in
    ⊎_elim (λ idle. absurd (both_ways (is_idle format) (not-true (is_idle format) sends.0) idle)) (λ there. subst (λ n. sends_size others n ≡ true) same there)
    (or_cases (is_idle format) (sends_size others format.size) among)

-- all sizes of some formats are sizes of others
all_among : (formats others : List Format) → list_all (is_among others) formats ≡ true → (size : ℕ) → sends_size formats size ≡ true → sends_size others size ≡ true
all_among [] others among size has = cc
all_among (format ∷ formats) others among size has =
    let both = and_parts (is_among others format) (list_all (is_among others) formats) among in
    ⊎_elim (λ here. one_among format others size both.0 here) (λ later. all_among formats others both.1 size later) (or_cases (not (is_idle format) && format.size == size) (sends_size formats size) has)

-- and the other way round
among_all : (formats others : List Format) → ((size : ℕ) → sends_size formats size ≡ true → sends_size others size ≡ true) → list_all (is_among others) formats ≡ true
among_all [] others each = refl
among_all (format ∷ formats) others each =
    and_from (is_among others format) (list_all (is_among others) formats)
    (⊎_elim (λ idle. or_left (is_idle format) (sends_size others format.size) idle)
    (λ busy. or_right (is_idle format) (sends_size others format.size) (each format.size (or_left (not (is_idle format) && format.size == format.size) (sends_size formats format.size)
    (and_from (not (is_idle format)) (format.size == format.size) (not_from_false (is_idle format) busy) (eq-eqb format.size format.size refl)))))
    (cases_Bool (is_idle format)))
    (among_all formats others (λ size has. each size (or_right (not (is_idle format) && format.size == size) (sends_size formats size) has)))

both_same : (a b : Bool) → (a ≡ true → b ≡ true) → (b ≡ true → a ≡ true) → a ≡ b
both_same true b there back = sym (there refl)
both_same false true there back = back refl
both_same false false there back = refl

alike : (formats others : List Format) → (list_all (is_among others) formats && list_all (is_among formats) others ≡ true) ↔ HaveSameSizes formats others
alike formats others = (
  λ both.
      let parts = and_parts (list_all (is_among others) formats) (list_all (is_among formats) others) both in
      λ size. both_same (sends_size formats size) (sends_size others size) (all_among formats others parts.0 size) (all_among others formats parts.1 size),
  λ same. and_from (list_all (is_among others) formats) (list_all (is_among formats) others)
      (among_all formats others (λ size has. sym (same size) ∙ has)) (among_all others formats (λ size has. same size ∙ has)),
)

-- the sizes are the same exactly where they are among each other
pub same_sizes : (formats others : List Format) (same : Bool) → (list_all (is_among others) formats && list_all (is_among formats) others) ≡ same → (same ≡ true) ↔ HaveSameSizes formats others
same_sizes formats others same is = subst (λ (b : Bool). (b ≡ true) ↔ HaveSameSizes formats others) is (alike formats others)
