use Rattle.std.proofs.Common.{ap, refl, true, map, List, [], ◌≡◌, ◌∙◌, string_bytes, sym}
use Rattle.clap.specs.Words.{Text, is_simple, fault_of, matches_of, rows_of, found_of, is_simple_and_free}
use Rattle.clap.proofs.OnLiterals.{clap_on_literals}
use Rattle.dch_top.specs.Line.{line_app}
use Rattle.dch_top.proofs.Meanings.{IfSome-says, IfNone-says}
use Rattle.dch_top.proofs.arguments.parse_arguments.Goals as goal

is_free : is_simple_and_free line_app ≡ true
unfolding clap_on_literals
is_free = refl

is_plain : is_simple line_app ≡ true
unfolding clap_on_literals
is_plain = refl

pub returns-in-Ok-clause-says : goal.returns-in-Ok-clause-says
returns-in-Ok-clause-says c =
    let words : List Text = map string_bytes c.args.words.now in
    let app = c.in_ok-command.ensures in
    let taken : fault_of line_app words ≡ [] =
    ap (λ a. fault_of a words) (sym app)
    ∙ c.in-Ok.ensures.kinds (ap is_simple_and_free app ∙ is_free) in
    let rows : rows_of (found_of c.in-Ok.matches) ≡ matches_of line_app words =
    (c.in-Ok.ensures.matches (ap is_simple app ∙ is_plain)).0 ∙ ap (λ a. matches_of a words) app in
    IfSome-says words _ _ taken rows c.meaning_of.ensures.some

pub returns-in-Ok-clause-none : goal.returns-in-Ok-clause-none
returns-in-Ok-clause-none c =
    let words : List Text = map string_bytes c.args.words.now in
    let app = c.in_ok-command.ensures in
    let rows : rows_of (found_of c.in-Ok.matches) ≡ matches_of line_app words =
    (c.in-Ok.ensures.matches (ap is_simple app ∙ is_plain)).0 ∙ ap (λ a. matches_of a words) app in
    IfNone-says words _ _ rows c.meaning_of.ensures.none
