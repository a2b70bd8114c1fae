-- Parts of a list that grows.
use Rattle.std.proofs.Common.{◌≡◌, ◌-◌, ◌≤◌, ℕ, suc, List, [], ◌∷◌, ◌++◌, length, take, drop, arith, ap, ap₂, ◌∙◌, length-drop, length-append}
use Rattle.std.specs.Prelude.{All, slice_range}
use Rattle.std.proofs.lemmas.List.{drop-append-le, take-append-le, take_all}
use Rattle.std.proofs.Math.Seq.{drop-append_seam}
use Rattle.dch_pair.specs.Spans.{spanned}

range-append : (octets more : List ℕ) (a b : ℕ) → a ≤ b → b ≤ length octets → slice_range (octets ++ more) a b ≡ slice_range octets a b
range-append octets more a b le within =
    ap (take (b - a)) (drop-append-le a octets more (omega arith))
    ∙ take-append-le (b - a) (drop a octets) more (omega (arith, length-drop a octets))

-- the parts stay, and the octets behind them are one part more
pub spanned-push : (octets unit : List ℕ) (spans : List (ℕ × ℕ)) (a b : ℕ) → All (λ p. (p.0 ≤ p.1) × (p.1 ≤ length octets)) spans → a ≡ length octets → b ≡ length (octets ++ unit) → spanned (octets ++ unit) (spans ++ (a, b) ∷ []) ≡ spanned octets spans ++ unit ∷ []
spanned-push octets unit [] a b f start end =
    let count : b - a ≡ length unit = omega (arith, length-append octets unit) in
    ap (λ u. u ∷ []) (ap₂ (λ n m. take n (drop m (octets ++ unit))) count start ∙ (ap (take (length unit)) (drop-append_seam octets unit) ∙ take_all (length unit) unit (omega arith)))
spanned-push octets unit (p ∷ spans) a b f start end =
    ap₂ (λ u us. u ∷ us) (range-append octets unit p.0 p.1 (f 0 p (omega arith)).0 (f 0 p (omega arith)).1) (spanned-push octets unit spans a b (λ k d l. f (suc k) d (omega arith)) start end)
