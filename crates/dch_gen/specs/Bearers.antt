-- The bearers of `gen`.
use Rattle.std.specs.Prelude.{ℕ, List, [], ◌∷◌, Some}
use Rattle.dch_types.specs.declared.bearer.Mode.TheVariants.{Tm, Um, Am}
use Rattle.dch_types.specs.declared.bearer.Bearer.{Bearer}
use Rattle.dch_types.specs.Parts.{default_rules}

-- a class of speech, transparent
abbrev pub speech : ℕ → Bearer
speech channel = record {
  mode = Tm;
  up = Some channel;
  down = Some channel;
  logical = 0;
  priority = 2;
  buffer = 8;
  rules = default_rules;
}

-- signalling that is not acknowledged
abbrev pub reports : Bearer
reports = record {
  mode = Um;
  up = Some 3;
  down = Some 3;
  logical = 1;
  priority = 1;
  buffer = 64;
  rules = default_rules;
}

-- signalling that is acknowledged
abbrev pub dialogue : Bearer
dialogue = record {
  mode = Am;
  up = Some 3;
  down = Some 3;
  logical = 2;
  priority = 1;
  buffer = 64;
  rules = record default_rules { poll_timer = 20 };
}

-- packet data
abbrev pub packets : Bearer
packets = record {
  mode = Am;
  up = Some 4;
  down = Some 4;
  logical = 0;
  priority = 3;
  buffer = 1024;
  rules = record default_rules { window = 1024; poll_timer = 20; poll_pdus = 64 };
}

-- all of them
unfoldable pub gen_bearers : List Bearer
gen_bearers = speech 0 ∷ speech 1 ∷ speech 2 ∷ reports ∷ dialogue ∷ packets ∷ []
