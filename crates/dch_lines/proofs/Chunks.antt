-- Things that become letters part by part.
use Rattle.std.proofs.Common.{◌≡◌, ◌++◌, ◌∙◌, ℕ, List, [], ◌∷◌, length, arith, refl, sym, ap, subst, append-nil, append_assoc}
use Rattle.hex.specs.Hex.{encode_lower, encode_with}

-- no octet has no digit
pub no_digits : encode_lower [] ≡ []
unfolding encode_with
no_digits = refl

-- these of all were written, and these are left
pub record Chunks {P X : Type 0} (writes : P → List ℕ → P → Type 0) (shown : List X → List ℕ) (old : P) (all left : List X) (now : P) : Type 0 where
  pub done : List X
  pub cut : all ≡ done ++ left
  pub wrote : writes old (shown done) now

pub chunks_begun : {P X : Type 0} (writes : P → List ℕ → P → Type 0) (shown : List X → List ℕ) (page : P) (all : List X) → shown [] ≡ [] → writes page [] page → Chunks writes shown page all all page
chunks_begun writes shown page all none nothing = record { done = []; cut = refl; wrote = subst (λ t. writes page t page) (sym none) nothing }

pub chunks_step : {P X : Type 0} (writes : P → List ℕ → P → Type 0) (shown : List X → List ℕ) (old mid now : P) (all left part rest : List X) → ((xs ys : List X) → shown (xs ++ ys) ≡ shown xs ++ shown ys) → ((a b c : P) (x y : List ℕ) → writes a x b → writes b y c → writes a (x ++ y) c)
    → Chunks writes shown old all left mid → left ≡ part ++ rest → writes mid (shown part) now → Chunks writes shown old all rest now
chunks_step writes shown old mid now all left part rest both joined chunks cut wrote = record {
  done = chunks.done ++ part;
  cut = chunks.cut ∙ ap (λ l. chunks.done ++ l) cut ∙ sym (append_assoc chunks.done part rest);
  wrote = subst (λ t. writes old t now) (sym (both chunks.done part)) (joined old mid now (shown chunks.done) (shown part) chunks.wrote wrote);
}

pub chunks_end : {P X : Type 0} (writes : P → List ℕ → P → Type 0) (shown : List X → List ℕ) (old now : P) (all left : List X) → Chunks writes shown old all left now → length left ≡ 0 → writes old (shown all) now
chunks_end writes shown old now all [] chunks none = subst (λ l. writes old (shown l) now) (sym (chunks.cut ∙ append-nil chunks.done)) chunks.wrote
chunks_end writes shown old now all (x ∷ left) chunks none = absurd (omega (arith, none))
