-- What stands in front of lines is accepted as one thing at most, and isn't refused then.
use Rattle.std.proofs.Common.{◌≡◌, ◌∙◌, ℕ, List, Option, None, Some, IfSome, ap, refl, sym, subst, lit<, true≢false}
use Rattle.dch_types.specs.declared.config.Config.{Config}
use Rattle.dch_accept.specs.Answers.{count_of}
use Rattle.dch_accept.specs.Plans.{Planned}
use Rattle.dch_script.specs.Numbers.{number_of}
use Rattle.dch_script.proofs.Decimals.{number_is_decimal}
use Rattle.dch_check.specs.Acceptance.{accepted_line}
use Rattle.dch_check.specs.Both.{IsChangeFrame, IsSecond, frame_word, second_of}
use Rattle.dch_check.specs.Singles.{first_of}
use Rattle.dch_check.specs.declared.both.Configurations.{Configurations}
use Rattle.dch_check.specs.declared.both.Second.{Second}
use Rattle.dch_check.proofs.BothJudgements.{one_both}
use Rattle.dch_check.proofs.Judgements.{accepted_so, same_config}
use Rattle.dch_check.proofs.Singles.{one_single}
use Rattle.dch_lines.specs.Coming.{coming, CanFollow}
use Rattle.dch_check.specs.Fronts.{AdmitsFront, RefusesFront}
use Rattle.dch_top.specs.NodeRuns.{later_of}
use Rattle.dch_check.specs.declared.front.FrontKind.{FrontKind}
use Rattle.dch_check.specs.declared.front.FrontKind.TheVariants.{Single, Both}

pub one_front : (kind : FrontKind) (text line : List ℕ) (accepted : Configurations) → AdmitsFront kind text accepted → RefusesFront kind text line → ⊥
one_front Single text line accepted admits refuses = one_single text (accepted_line (count_of accepted.first.config)) line (accepted_so text accepted.first admits.0.first) admits.1 refuses
one_front Both text line accepted admits refuses = one_both text _ line (record { configurations = accepted; accepted = admits; shown = refl }) refuses

-- configurations that are alike: the first ones, and the second ones with the radio frame from which they are active
pub record AreAlike (one other : Configurations) : Type 0 where
  pub first : one.first.config ≡ other.first.config
  pub second : coming (later_of one.second) ≡ coming (later_of other.second)

-- a word names one radio frame
one_frame : (word : List ℕ) (one other : ℕ) → IsChangeFrame word one → IsChangeFrame word other → one ≡ other
one_frame word one other first last =
    let a : number_of 100000 word ≡ Some one = (number_is_decimal 100000 one word (lit< tt)).1 (first.text, first.most) in
    let b : number_of 100000 word ≡ Some other = (number_is_decimal 100000 other word (lit< tt)).1 (last.text, last.most) in
    let same : Some one ≡ Some other = sym a ∙ b in
    cc

one_second : (text : List ℕ) (a b : Planned) (one other : Option Second) → IsSecond text a one → IsSecond text b other → coming (later_of one) ≡ coming (later_of other)
one_second text a b None None first last = refl
one_second text a b None (Some other) first last = absurd (true≢false (sym last.0.there ∙ first))
one_second text a b (Some one) None first last = absurd (true≢false (sym first.0.there ∙ last))
one_second text a b (Some one) (Some other) first last =
    let frame : one.frame ≡ other.frame = one_frame (frame_word text) one.frame other.frame first.0.named last.0.named in
    let config : one.accepted.config ≡ other.accepted.config = same_config (second_of text) (second_of text) one.accepted other.accepted refl first.1.good last.1.good in
    ap (λ n. Some (n, one.accepted.config)) frame ∙ ap (λ (c : Config). Some (other.frame, c)) config

-- where no second one can be
no_second : (a b : Configurations) → a.second ≡ None → b.second ≡ None → coming (later_of a.second) ≡ coming (later_of b.second)
no_second a b first last = ap (λ (s : Option Second). coming (later_of s)) (first ∙ sym last)

pub same_front : (kind : FrontKind) (one other : List ℕ) (a b : Configurations) → one ≡ other → AdmitsFront kind one a → AdmitsFront kind other b → AreAlike a b
same_front Single one other a b same first last = record { first = same_config one other a.first b.first same first.0.first last.0.first; second = no_second a b first.0.none last.0.none }
same_front Both one other a b same first last = record {
  first = same_config (first_of one) (first_of other) a.first b.first (ap first_of same) first.first last.first;
  second = one_second other a.first b.first a.second b.second (subst (λ (t : List ℕ). IsSecond t a.first a.second) same first.second) last.second;
}

-- a second configuration that is admitted can follow the first one
pub second_follows : (text : List ℕ) (accepted : Configurations) → AdmitsFront Both text accepted → IfSome (later_of accepted.second) (CanFollow accepted.first)
second_follows text accepted admits = of_second accepted.first accepted.second admits.second
  where
    of_second : (first : Planned) (second : Option Second) → IsSecond text first second → IfSome (later_of second) (CanFollow first)
    of_second first None is = tt
    of_second first (Some second) is = record { kept = is.1.kept; whole = is.0.named.whole }
