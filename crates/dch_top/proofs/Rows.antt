-- What the getters of the matches read, by the rows.
use Rattle.std.proofs.Common.{◌≡◌, ◌∙◌, Option, Some, None, ap, sym, refl, option_map, option_and_then, find}
use Rattle.clap.specs.Words.{Row, Text, matched_of, rows_of}
use Rattle.clap.specs.Walk.{row_of}
use Rattle.clap.specs.Facts.{Entry}
use Rattle.clap.specs.declared.parser.matches.Found.{Found}
use Rattle.clap.specs.declared.parser.matches.MatchedArg.{MatchedArg}
use Rattle.clap.proofs.WalkLemmas.{find_row}
use Rattle.std.specs.Str.{bytes_eq}
use Rattle.dch_top.specs.Line.{source_of}

-- where the value of an argument comes from
pub source_rows : (found : Found) (id : Text)
    → option_and_then (λ (a : MatchedArg). a.source) (matched_of found id) ≡ source_of id (rows_of found)
source_rows found id = go (find (λ (e : Entry). bytes_eq e.0.now id) found.entries.items)
    ∙ ap (option_and_then (λ (r : Row). r.source)) (sym (find_row found.entries.items id))
  where
    go : (o : Option Entry) → option_and_then (λ (a : MatchedArg). a.source) (option_map (λ e. e.1) o)
        ≡ option_and_then (λ (r : Row). r.source) (option_map row_of o)
    go None = refl
    go (Some e) = refl
