-- A text with one configuration or two: what its judgement consists of, and that it is not both accepted and refused.
use Rattle.std.proofs.Common.{◌≡◌, ◌∙◌, ℕ, List, false, Option, None, Some, Result, Ok, Err, sym, subst, refl, inl, inr, ⊎_elim, true≢false}
use Rattle.std.specs.Prelude.{IfOk}
use Rattle.dch_bits.specs.declared.memory.NoMemory.{NoMemory}
use Rattle.dch_types.specs.declared.config.Config.{Config}
use Rattle.dch_config.specs.Changes.{KeepsBearer}
use Rattle.dch_accept.specs.Plans.{Planned}
use Rattle.dch_check.specs.Both.{AreAccepted, AreAcceptedAs, CanFollow, IsChangeRefused, IsFrom, IsRefusedBehind, IsSecond, IsSecondRefusedFrom, JudgesBoth, JudgesSecond, LacksFrame, RefusesBoth, RefusesSecond, second_of}
use Rattle.dch_check.specs.Singles.{first_of, has_second}
use Rattle.dch_check.specs.Verdicts.{IsAcceptedAs, Refuses, RefusesAs}
use Rattle.dch_check.specs.declared.both.Configurations.{Configurations}
use Rattle.dch_check.specs.declared.both.Judgement.{Judgement}
use Rattle.dch_check.specs.declared.both.Judgement.TheVariants as judged
use Rattle.dch_check.specs.declared.both.Second.{Second}
use Rattle.dch_check.specs.declared.which.Which.TheVariants as which
use Rattle.dch_check.proofs.Judgements.{accepted_so, one_judgement, one_judgement_as, same_config}
use Rattle.dch_check.proofs.Singles.{first_whole}

-- a text without a second configuration is accepted, or refused, as its first one is
pub alone_accepted : (text : List ℕ) (first : Planned) → has_second text ≡ false → IsAcceptedAs text first → AreAcceptedAs text (record { first = first; second = None })
alone_accepted text first none accepted = record { first = subst (λ (t : List ℕ). IsAcceptedAs t first) (sym (first_whole text none)) accepted; second = none }

pub alone_refused : (text line : List ℕ) → has_second text ≡ false → Refuses text line → RefusesBoth text line
alone_refused text line none refused = inl (subst (λ (t : List ℕ). Refuses t line) (sym (first_whole text none)) refused)

-- the judgement of the second configuration is that of both
pub both_by : (text : List ℕ) (first : Planned) (frame : ℕ) (r : Result Judgement NoMemory) → IsAcceptedAs (first_of text) first → IsFrom text frame → IfOk r (JudgesSecond (second_of text) first frame) → IfOk r (JudgesBoth text)
both_by text first frame (Err e) accepted from judges = tt
both_by text first frame (Ok (judged.Accepted configurations)) accepted from judges =
    let whole : AreAcceptedAs text (record { first = first; second = Some (record { frame = frame; accepted = judges.0 }) }) = record { first = accepted; second = (from, judges.2) } in
    subst (λ (c : Configurations). AreAcceptedAs text c) (sym judges.1) whole
both_by text first frame (Ok (judged.Refused line)) accepted from judges =
    inr (record { first = first; accepted = accepted; refuses = inr (record { frame = frame; from = from; refuses = judges }) })

-- every bearer is kept between configurations that are the same
pub kept_by : (one two first second : Config) → one ≡ first → two ≡ second → ((b : ℕ) → KeepsBearer one two b) → (b : ℕ) → KeepsBearer first second b
kept_by one two first second same then_same kept b = subst (λ (c : Config). KeepsBearer first c b) then_same (subst (λ (c : Config). KeepsBearer c two b) same (kept b))

-- a bearer that is kept doesn't change
not_changed : (text line : List ℕ) (one two second : Planned) → one.config ≡ two.config → CanFollow text one second → IsChangeRefused text two line → ⊥
not_changed text line one two second same follows refused =
    let then_same : second.config ≡ refused.second.config = same_config text text second refused.second refl follows.good refused.accepted in
    refused.changes.changes (kept_by one.config second.config two.config refused.second.config same then_same follows.kept refused.bearer)

not_refused : (text line : List ℕ) (one two second : Planned) → one.config ≡ two.config → CanFollow text one second → RefusesSecond text two line → ⊥
not_refused text line one two second same follows refused =
    ⊎_elim (λ (itself : RefusesAs which.Second text line). one_judgement_as which.Second text _ line (accepted_so text second follows.good) itself) (λ (changes : IsChangeRefused text two line). not_changed text line one two second same follows changes) refused

not_behind : (text line : List ℕ) (first : Planned) (second : Option Second) → IsAcceptedAs (first_of text) first → IsSecond text first second → IsRefusedBehind text line → ⊥
not_behind text line first None accepted is refused =
    ⊎_elim (λ (lacks : LacksFrame text line). true≢false (sym lacks.there ∙ is)) (λ (from : IsSecondRefusedFrom text refused.first line). true≢false (sym from.from.there ∙ is)) refused.refuses
not_behind text line first (Some second) accepted is refused =
    let same : first.config ≡ refused.first.config = same_config (first_of text) (first_of text) first refused.first refl accepted refused.accepted in
    ⊎_elim (λ (lacks : LacksFrame text line). lacks.none second.frame is.0.named)
    (λ (from : IsSecondRefusedFrom text refused.first line). not_refused (second_of text) line first refused.first second.accepted same is.1 from.refuses) refused.refuses

pub one_both : (text lines other : List ℕ) → AreAccepted text lines → RefusesBoth text other → ⊥
one_both text lines other good refused =
    ⊎_elim (λ (first : Refuses (first_of text) other). one_judgement (first_of text) _ other (accepted_so (first_of text) good.configurations.first good.accepted.first) first)
    (λ (behind : IsRefusedBehind text other). not_behind text other good.configurations.first good.configurations.second good.accepted.first good.accepted.second behind) refused
