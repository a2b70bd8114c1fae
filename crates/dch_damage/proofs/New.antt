-- Tables that are new.
use Rattle.std.proofs.Common.{◌∙◌, ℕ, [], get_or, length, ap}
use Rattle.std.proofs.lemmas.List.{get_or-replicate}
use Rattle.dch_types.specs.declared.channel.Dir.{Dir}
use Rattle.dch_types.specs.declared.channel.Dir.TheVariants.{Up, Down}
use Rattle.dch_accept.specs.Plans.{Planned}
use Rattle.dch_damage.specs.Opened.{AreNewSets, IsDamageOf, IsIubDamageOf, IsQuietRadio, IsQuietSet, IsRadioDamageOf}
use Rattle.dch_damage.specs.Tables.{IubTables, RadioTables, Tables, radio_at, set_at}
use Rattle.dch_damage.specs.Waiting.{IubWaits, RadioWaits, Waits}
use Rattle.dch_damage.specs.declared.turned.Turned.TheVariants.{Not}

-- the tables of both directions, for the first configuration and for the other
pub one_opened : (one other : Planned) (tables : Tables) → IsRadioDamageOf one Up tables.up → IsRadioDamageOf one Down tables.down → AreNewSets one other Up 8 tables.up_sets
    → AreNewSets one other Down 8 tables.down_sets → IsDamageOf one tables
one_opened one other tables up down up_sets down_sets = record {
  radio = λ dir. elim dir as (λ d. IsRadioDamageOf one d (radio_at tables d)) [ Up ↦ up | Down ↦ down ];
  iub = λ dir set few. elim dir as (λ d. IsIubDamageOf one d set (set_at tables d set)) [ Up ↦ up_sets.of_one set few | Down ↦ down_sets.of_one set few ];
}

pub other_opened : (one other : Planned) (tables : Tables) → IsRadioDamageOf other Up tables.up → IsRadioDamageOf other Down tables.down → AreNewSets one other Up 8 tables.up_sets
    → AreNewSets one other Down 8 tables.down_sets → IsDamageOf other tables
other_opened one other tables up down up_sets down_sets = record {
  radio = λ dir. elim dir as (λ d. IsRadioDamageOf other d (radio_at tables d)) [ Up ↦ up | Down ↦ down ];
  iub = λ dir set few. elim dir as (λ d. IsIubDamageOf other d set (set_at tables d set)) [ Up ↦ up_sets.of_other set few | Down ↦ down_sets.of_other set few ];
}

quiet_radio : (dir : Dir) (tables : RadioTables) → IsQuietRadio tables → RadioWaits [] dir tables
quiet_radio dir tables quiet = record {
  lost = ap (λ (t : RadioTables). t.lost) quiet;
  tfci = λ place early. ap (λ (t : RadioTables). get_or t.tfci place Not) quiet ∙ get_or-replicate (length tables.tfci) place Not Not early;
  cells = λ place early. ap (λ (t : RadioTables). get_or t.cells place Not) quiet ∙ get_or-replicate (length tables.cells) place Not Not early;
}

quiet_set : (dir : Dir) (set : ℕ) (tables : IubTables) → IsQuietSet tables → IubWaits [] dir set tables
quiet_set dir set tables quiet = record {
  lost = ap (λ (t : IubTables). t.lost) quiet;
  masks = λ k early. ap (λ (t : IubTables). get_or t.masks k 0) quiet ∙ get_or-replicate (length tables.masks) k 0 0 early;
}

-- nothing waits in them
pub new_waits : (one other : Planned) (tables : Tables) → IsQuietRadio tables.up → IsQuietRadio tables.down → AreNewSets one other Up 8 tables.up_sets → AreNewSets one other Down 8 tables.down_sets
    → Waits [] tables
new_waits one other tables up down up_sets down_sets = record {
  radio = λ dir. elim dir as (λ d. RadioWaits [] d (radio_at tables d)) [ Up ↦ quiet_radio Up tables.up up | Down ↦ quiet_radio Down tables.down down ];
  iub = λ dir set few. elim dir as (λ d. IubWaits [] d set (set_at tables d set)) [ Up ↦ quiet_set Up set _ (up_sets.quiet set few) | Down ↦ quiet_set Down set _ (down_sets.quiet set few) ];
}
