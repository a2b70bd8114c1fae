use Rattle.std.proofs.Common.{ap, codes, true, ◌≡◌, ◌∙◌}
use Rattle.clap.specs.Words.{App, app_of, new_app}
use Rattle.clap.specs.Simple.{app_of_fields, on_top}
use Rattle.dch_top.specs.Line.{bare_app}
use Rattle.dch_top.proofs.line.bare_command.Goals as goal

abbrev unnamed : App → App
unnamed a = on_top (λ s. record s { no_binary_name = true }) a

abbrev helpless : App → App
helpless a = on_top (λ s. record s { disable_help_flag = true }) a

abbrev versionless : App → App
versionless a = on_top (λ s. record s { disable_version_flag = true }) a

-- the three settings, one after another
bare_from : (a b c d : App) → a ≡ new_app (codes "dch") → b ≡ unnamed a → c ≡ helpless b → d ≡ versionless c → d ≡ bare_app
bare_from a b c d new no_name no_help no_version = no_version ∙ ap versionless (no_help ∙ ap helpless (no_name ∙ ap unnamed new))

pub returns : goal.returns
returns c =
    bare_from (app_of c.new.result) (app_of c.no_binary_name.result) (app_of c.disable_help_flag.result) (app_of c.disable_version_flag.result)
    c.new.ensures.app (ap app_of_fields c.no_binary_name.ensures) (ap app_of_fields c.disable_help_flag.ensures) (ap app_of_fields c.disable_version_flag.ensures)
