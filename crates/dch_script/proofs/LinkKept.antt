-- What the lines of `link` keep.
use Rattle.std.proofs.Common.{◌≡◌, ℕ, List, Result, Ok, Err, refl, lit≤}
use Rattle.std.specs.Prelude.{codes}
use Rattle.std.specs.Str.{bytes_eq}
use Rattle.dch_types.specs.declared.config.Config.{Config}
use Rattle.dch_script.specs.declared.event.LineError.{LineError}
use Rattle.dch_script.specs.Forms.{one, two, three, four}
use Rattle.dch_script.specs.Good.{IsDamage, IsOfLink, IsTraffic}
use Rattle.dch_script.specs.Link.{link_unit, link_block, link_free, link_flip, lose_of, link_lose, link_spoil, frames_of, link_frame, traffic_words, damage_words, names_damage, link_words}
use Rattle.dch_script.specs.Parts.{combination_of, count_of, dir_of, iub_dir_of, mask_of, number_in, part_of, set_of}
use Rattle.dch_script.specs.ParsedLine.{ParsedLine, block, free, flip, lose, lose_iub, spoil, frame}
use Rattle.dch_script.proofs.Kept.{alone_keeps, bind_keeps, combination_keeps, from_keeps, if_keeps, ok_keeps, set_keeps, unit_keeps}

-- `unit`
link_unit_keeps : (config : Config) (words : List (List ℕ)) (parsed : ParsedLine) → link_unit config words ≡ Ok parsed → IsTraffic config parsed
unfolding link_unit
link_unit_keeps config words parsed is =
    bind_keeps (three words) _ parsed (IsTraffic config parsed) (λ w _ rest.
    bind_keeps (dir_of w.0) _ parsed (IsTraffic config parsed) (λ dir _ last.
    unit_keeps config dir w.1 w.2 parsed (IsTraffic config) (λ b t good. (good, refl)) last) rest) is

-- `block`
link_block_keeps : (config : Config) (words : List (List ℕ)) (parsed : ParsedLine) → link_block config words ≡ Ok parsed → IsTraffic config parsed
unfolding link_block
link_block_keeps config words parsed is =
    bind_keeps (two words) _ parsed (IsTraffic config parsed) (λ w _ rest.
    bind_keeps (dir_of w.0) _ parsed (IsTraffic config parsed) (λ dir _ more.
    bind_keeps (combination_of config dir w.1) _ parsed (IsTraffic config parsed) (λ c listed last.
    ok_keeps (block dir c) parsed (IsTraffic config) (combination_keeps config dir w.1 c listed, refl) _ refl last) more) rest) is

-- `free`
link_free_keeps : (config : Config) (words : List (List ℕ)) (parsed : ParsedLine) → link_free config words ≡ Ok parsed → IsTraffic config parsed
unfolding link_free
link_free_keeps config words parsed is =
    bind_keeps (two words) _ parsed (IsTraffic config parsed) (λ w _ rest.
    bind_keeps (dir_of w.0) _ parsed (IsTraffic config parsed) (λ dir _ more.
    bind_keeps (combination_of config dir w.1) _ parsed (IsTraffic config parsed) (λ c listed last.
    ok_keeps (free dir c) parsed (IsTraffic config) (combination_keeps config dir w.1 c listed, refl) _ refl last) more) rest) is

-- `flip`
link_flip_keeps : (config : Config) (words : List (List ℕ)) (parsed : ParsedLine) → link_flip words ≡ Ok parsed → IsDamage config parsed
unfolding link_flip
link_flip_keeps config words parsed is =
    bind_keeps (three words) _ parsed (IsDamage config parsed) (λ w _ rest.
    bind_keeps (dir_of w.0) _ parsed (IsDamage config parsed) (λ dir _ more.
    bind_keeps (part_of w.1) _ parsed (IsDamage config parsed) (λ tfci _ most.
    bind_keeps (number_in 65535 w.2) _ parsed (IsDamage config parsed) (λ place _ last.
    ok_keeps (flip dir tfci place) parsed (IsDamage config) (tt, refl) _ refl last) most) more) rest) is

-- `lose`, by its two forms
lose_of_keeps : (config : Config) (words : List (List ℕ)) (two : Result (List ℕ × List ℕ) LineError) (parsed : ParsedLine) → lose_of config words two ≡ Ok parsed → IsDamage config parsed
lose_of_keeps config words (Ok w) parsed is =
    bind_keeps (iub_dir_of w.0) _ parsed (IsDamage config parsed) (λ dir _ rest.
    bind_keeps (set_of config dir w.1) _ parsed (IsDamage config parsed) (λ set held last.
    ok_keeps (lose_iub dir set) parsed (IsDamage config) (set_keeps config dir w.1 set held, refl) _ refl last) rest) is
lose_of_keeps config words (Err error) parsed is =
    bind_keeps (one words) _ parsed (IsDamage config parsed) (λ word _ rest.
    bind_keeps (dir_of word) _ parsed (IsDamage config parsed) (λ dir _ last.
    ok_keeps (lose dir) parsed (IsDamage config) (tt, refl) _ refl last) rest) is

-- `lose`
link_lose_keeps : (config : Config) (words : List (List ℕ)) (parsed : ParsedLine) → link_lose config words ≡ Ok parsed → IsDamage config parsed
unfolding link_lose
link_lose_keeps config words parsed is = lose_of_keeps config words (two words) parsed is

-- `spoil`
link_spoil_keeps : (config : Config) (words : List (List ℕ)) (parsed : ParsedLine) → link_spoil config words ≡ Ok parsed → IsDamage config parsed
unfolding link_spoil
link_spoil_keeps config words parsed is =
    bind_keeps (four words) _ parsed (IsDamage config parsed) (λ w _ rest.
    bind_keeps (iub_dir_of w.0) _ parsed (IsDamage config parsed) (λ dir _ more.
    bind_keeps (set_of config dir w.1) _ parsed (IsDamage config parsed) (λ set held most.
    bind_keeps (number_in 65535 w.2) _ parsed (IsDamage config parsed) (λ octet _ end.
    bind_keeps (mask_of w.3) _ parsed (IsDamage config parsed) (λ mask _ last.
    ok_keeps (spoil dir set octet mask) parsed (IsDamage config) (set_keeps config dir w.1 set held, refl) _ refl last) end) most) more) rest) is

-- `frame`, by its two forms
frames_of_keeps : (config : Config) (words : List (List ℕ)) (one : Result (List ℕ) LineError) (parsed : ParsedLine) → frames_of words one ≡ Ok parsed → IsTraffic config parsed
frames_of_keeps config words (Ok word) parsed is =
    bind_keeps (count_of word) _ parsed (IsTraffic config parsed) (λ count within last.
    ok_keeps (frame count) parsed (IsTraffic config) (from_keeps 1 100000 word count within, refl) _ refl last) is
frames_of_keeps config words (Err error) parsed is = alone_keeps (frame 1) parsed words (IsTraffic config) ((lit≤ tt, lit≤ tt), refl) is

-- `frame`
link_frame_keeps : (config : Config) (words : List (List ℕ)) (parsed : ParsedLine) → link_frame words ≡ Ok parsed → IsTraffic config parsed
unfolding link_frame
link_frame_keeps config words parsed is = frames_of_keeps config words (one words) parsed is

-- every line of units, combinations or radio frames
pub traffic_keeps : (config : Config) (first : List ℕ) (words : List (List ℕ)) (parsed : ParsedLine) → traffic_words config first words ≡ Ok parsed → IsTraffic config parsed
unfolding traffic_words
traffic_keeps config first words parsed is =
    let P = IsTraffic config parsed in
    if_keeps (bytes_eq first (codes "unit")) _ _ parsed P (link_unit_keeps config words parsed) (λ not_unit.
    if_keeps (bytes_eq first (codes "block")) _ _ parsed P (link_block_keeps config words parsed) (λ not_block.
    if_keeps (bytes_eq first (codes "free")) _ _ parsed P (link_free_keeps config words parsed) (λ not_free.
    if_keeps (bytes_eq first (codes "frame")) _ _ parsed P (link_frame_keeps config words parsed) (λ none. absurd (cc)) not_free) not_block) not_unit) is

-- every line of damage
pub damage_keeps : (config : Config) (first : List ℕ) (words : List (List ℕ)) (parsed : ParsedLine) → damage_words config first words ≡ Ok parsed → IsDamage config parsed
unfolding damage_words
damage_keeps config first words parsed is =
    let P = IsDamage config parsed in
    if_keeps (bytes_eq first (codes "flip")) _ _ parsed P (link_flip_keeps config words parsed) (λ not_flip.
    if_keeps (bytes_eq first (codes "lose")) _ _ parsed P (link_lose_keeps config words parsed) (λ not_lose.
    if_keeps (bytes_eq first (codes "spoil")) _ _ parsed P (link_spoil_keeps config words parsed) (λ none. absurd (cc)) not_lose) not_flip) is

-- every line
pub link_keeps : (config : Config) (first : List ℕ) (words : List (List ℕ)) (parsed : ParsedLine) → link_words config first words ≡ Ok parsed → IsOfLink config parsed
unfolding link_words
link_keeps config first words parsed is =
    if_keeps (names_damage first) _ _ parsed (IsOfLink config parsed) (λ damage. (damage_keeps config first words parsed damage).0) (λ traffic. (traffic_keeps config first words parsed traffic).0) is
