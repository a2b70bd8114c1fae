use Rattle.std.proofs.Common.{◌∙◌, Some, ap, codes, subst, sym}
use Rattle.clap.specs.Words.{found_of}
use Rattle.clap.proofs.WalkLemmas.{first_value-rows}
use Rattle.dch_top.specs.Parses.{IsCount, IsNumberOr}
use Rattle.dch_top.proofs.Meanings.{none_some, one_subcommand, same_count, some_one}
use Rattle.dch_top.proofs.arguments.meaning_of.Goals as goal

pub returns-in_err-get_str-clause-none : goal.returns-in_err-get_str-clause-none
returns-in_err-get_str-clause-none c =
    let rows = first_value-rows (found_of c.args.matches.now) (codes "command") in
    rw c.from_residual.ensures (λ words means. none_some _ (c.in_err-get_str.ensures ∙ rows ∙ means.subcommand))

pub returns-in_err-subcommand-clause-none : goal.returns-in_err-subcommand-clause-none
returns-in_err-subcommand-clause-none c =
    let rows = first_value-rows (found_of c.args.matches.now) (codes "command") in
    rw c.from_residual-in_err-subcommand.ensures (λ words means.
    c.in_err-subcommand.ensures.none words.subcommand (some_one _ _ (c.in_ok-get_str.ensures ∙ rows ∙ means.subcommand)))

pub returns-in_err-count-clause-none : goal.returns-in_err-count-clause-none
returns-in_err-count-clause-none c =
    let found = found_of c.args.matches.now in
    let word = c.get_str-2.ensures ∙ first_value-rows found (codes "count") in
    let named = sym (c.in_ok-get_str.ensures ∙ first_value-rows found (codes "command")) ∙ ap (λ t. Some t) c.in_ok-subcommand.ensures.some in
    rw c.from_residual-in_err-count.ensures (λ words means.
    let same = one_subcommand words.subcommand c.in_ok-subcommand.subcommand (some_one _ _ (sym means.subcommand ∙ named)) in
    c.in_err-count.ensures.none words.count
    (same_count words.subcommand c.in_ok-subcommand.subcommand _ _ words.count same (sym word) means.count))

pub returns-in_err-start-clause-none : goal.returns-in_err-start-clause-none
returns-in_err-start-clause-none c =
    let word = c.get_str-3.ensures ∙ first_value-rows (found_of c.args.matches.now) (codes "start") in
    rw c.from_residual-in_err-start.ensures (λ words means.
    c.in_err-start.ensures.none words.start (subst (λ o. IsNumberOr 0 0 31 o words.start) (sym word) means.start))

pub returns-clause-some : goal.returns-clause-some
returns-clause-some c =
    let found = found_of c.args.matches.now in
    let count = c.get_str-2.ensures ∙ first_value-rows found (codes "count") in
    let start = c.get_str-3.ensures ∙ first_value-rows found (codes "start") in
    record {
      subcommand = sym (c.in_ok-get_str.ensures ∙ first_value-rows found (codes "command"))
          ∙ ap (λ t. Some t) c.in_ok-subcommand.ensures.some;
      count = subst (λ o. IsCount c.in_ok-subcommand.subcommand o c.in_ok-count.count) count c.in_ok-count.ensures.some;
      start = subst (λ o. IsNumberOr 0 0 31 o c.in_ok-start.start) start c.in_ok-start.ensures.some;
      quiet = c.is_given.ensures;
    }
