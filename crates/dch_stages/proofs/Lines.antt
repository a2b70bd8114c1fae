-- The first lines of a text, line by line.
use Rattle.std.proofs.Common.{◌≡◌, ◌+◌, ◌++◌, ℕ, List, [], add-one, refl}
use Rattle.dch_types.specs.declared.channel.Dir.{Dir}
use Rattle.dch_accept.specs.Plans.{Planned}
use Rattle.dch_stages.specs.Answers.{place_text, places_text}
use Rattle.dch_stages.specs.Texts.{lines_to}

pub no_lines : (line : ℕ → List ℕ) → lines_to line 0 ≡ []
unfolding lines_to
no_lines line = refl

pub one_more : (line : ℕ → List ℕ) (n : ℕ) → lines_to line (n + 1) ≡ lines_to line n ++ line n
unfolding lines_to
one_more line n = rw add-one refl

-- the same of places that show a bit
pub no_places : (planned : Planned) (dir : Dir) (i f b : ℕ) → places_text planned dir i f b 0 ≡ []
unfolding places_text
no_places planned dir i f b = refl

pub more_places : (planned : Planned) (dir : Dir) (i f b n : ℕ) → places_text planned dir i f b (n + 1) ≡ places_text planned dir i f b n ++ place_text planned dir i f b n
unfolding places_text
more_places planned dir i f b n = rw add-one refl
