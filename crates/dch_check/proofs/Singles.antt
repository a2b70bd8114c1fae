-- How the line that sets a second configuration apart is looked for, and that a text without one is its own first configuration.
use Rattle.std.proofs.Common.{◌≡◌, ◌∙◌, ℕ, List, [], ◌∷◌, ◌++◌, Bool, true, false, true≢false, Result, Ok, Err, IfOk, inl, inr, codes, string_bytes, ap, sym, subst, refl, ⊎_elim}
use Rattle.std.specs.Prelude.{◌==◌, ◌||◌, drop, take, if◌then◌else◌}
use Rattle.dch_accept.specs.Answers.{count_of}
use Rattle.dch_accept.specs.Plans.{Planned}
use Rattle.dch_check.specs.Acceptance.{accepted_line}
use Rattle.dch_check.specs.Singles.{IsSecondAt, IsSecondRefused, JudgesSingle, RefusesSingle, before_second, first_of, has_second, meets_second, sets_apart}
use Rattle.dch_check.specs.Verdicts.{IsAccepted, IsAcceptedAs, Judges, Refuses}
use Rattle.dch_check.specs.declared.verdict.Verdict.{Verdict}
use Rattle.dch_check.specs.declared.verdict.Verdict.TheVariants.{Accepted, Refused}
use Rattle.dch_check.proofs.Judgements.{accepted_so, one_judgement}

-- no such line begins in the first i bytes, and whether a line begins behind them
pub record NoneSoFar (text : List ℕ) (i : ℕ) (begins : Bool) : Type 0 where
  pub before : first_of text ≡ take i text ++ before_second begins (drop i text)
  pub meets : has_second text ≡ meets_second begins (drop i text)

step : (apart met : Bool) (c : ℕ) (later text : List ℕ) → (apart || met) ≡ false → (met ≡ false → later ≡ text) → (if apart then [] else c ∷ later) ≡ c ∷ text
step true met c later text none same = absurd (true≢false none)
step false met c later text none same = ap (λ t. c ∷ t) (same none)

before_none : (begins : Bool) (text : List ℕ) → meets_second begins text ≡ false → before_second begins text ≡ text
before_none begins [] none = refl
before_none begins (c ∷ text) none = step (sets_apart begins (c ∷ text)) (meets_second (c == 10) text) c (before_second (c == 10) text) text none (before_none (c == 10) text)

-- a text without a second configuration is its own first one
pub first_whole : (text : List ℕ) → has_second text ≡ false → first_of text ≡ text
first_whole text none = before_none true text none

-- what judges a text without a second configuration judges it as a single one
pub single_judged : {E : Type 0} (text : List ℕ) (judged : Result Verdict E) → has_second text ≡ false → IfOk judged (Judges text) → IfOk judged (JudgesSingle text)
single_judged text (Ok (Accepted accepted)) none judges = (judges, none)
single_judged text (Ok (Refused line)) none judges = inl (subst (λ t. Refuses t (string_bytes line)) (sym (first_whole text none)) judges)
single_judged text (Err error) none judges = tt

-- a second configuration is refused where the first is accepted
pub second_refused : (text line : List ℕ) (at : ℕ) (accepted : Planned) → IsSecondAt text at → IsAcceptedAs (take at text) accepted → line ≡ codes "refused 28\n" → RefusesSingle text line
second_refused text line at accepted second is shown = inr (record {
  second = second.second;
  first = accepted_line (count_of accepted.config);
  accepted = subst (λ t. IsAccepted t (accepted_line (count_of accepted.config))) (sym second.first) (accepted_so (take at text) accepted is);
  shown = shown;
})

not_second : (text other : List ℕ) → has_second text ≡ false → IsSecondRefused text other → ⊥
not_second text other none refused = true≢false (sym refused.second ∙ none)

pub one_single : (text line other : List ℕ) → IsAccepted text line → has_second text ≡ false → RefusesSingle text other → ⊥
one_single text line other good none refused =
    ⊎_elim (λ first. one_judgement text line other good (subst (λ t. Refuses t other) (first_whole text none) first)) (not_second text other none) refused
