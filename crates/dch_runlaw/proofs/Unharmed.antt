-- Where no damage waits on a leg, it gets each frame as it was sent.
use Rattle.std.proofs.Common.{◌≡◌, ◌∙◌, ℕ, List, [], Option, Some, None, true, false, refl, sym, ap}
use Rattle.std.specs.Int.Bits.{xor_zero_r}
use Rattle.std.specs.Prelude.{bit_xor}
use Rattle.dch_types.specs.declared.channel.Dir.{Dir}
use Rattle.dch_types.specs.declared.channel.Dir.TheVariants.{Up}
use Rattle.dch_damage.specs.Damage.{Damage, flips, iub_after, mask_on, radio_after}
use Rattle.dch_damage.specs.Turns.{turned_bit, turned_cell}
use Rattle.dch_damage.proofs.Changed.{unchanged}
use Rattle.dch_node.specs.Values.{Radio}
use Rattle.dch_linkcmd.specs.LinkSoft.{SoftState}
use Rattle.dch_linkcmd.specs.soft_stage.Stage.{Stage}
use Rattle.dch_linkcmd.specs.soft_stage.Stage.TheVariants.{RncTick, IubDown, RadioDown, UeTick, RadioUp, IubUp, Combine}
use Rattle.dch_runlaw.specs.Legs.{Gets}

-- what arrives where no damage waits
radio_whole : (dir : Dir) (o : Option Radio) → radio_after [] dir o ≡ o
radio_whole dir None = refl
radio_whole dir (Some radio) =
    let tfci = unchanged (λ place. turned_bit (flips [] dir true place)) radio.tfci (λ k bit early. refl) in
    let cells = unchanged (λ place. turned_cell (flips [] dir false place)) radio.cells (λ k cell early. refl) in
    λ t. Some (record { tfci = sym tfci t; cells = sym cells t })

iub_whole : (dir : Dir) (s : ℕ) (o : Option (List ℕ)) → iub_after [] dir s o ≡ o
iub_whole dir s None = refl
iub_whole dir s (Some octets) = ap (λ (l : List ℕ). Some l) (sym (unchanged (λ k octet. bit_xor octet (mask_on [] dir s k)) octets (λ k octet early. xor_zero_r octet)))

pub unharmed_gets : (k set : ℕ) (stage : Stage) (old new : SoftState) → (old.legs k).damage ≡ [] → Gets k set stage old new
unharmed_gets k set RncTick old new none = tt
unharmed_gets k set (IubDown leg s) old new none = tt
unharmed_gets k set (RadioDown leg) old new none = tt
unharmed_gets k set UeTick old new none = tt
unharmed_gets k set (RadioUp leg) old new none = λ own. ap (λ (d : List Damage). radio_after d Up old.ue.last.sent) none ∙ radio_whole Up old.ue.last.sent
unharmed_gets k set (IubUp s leg) old new none = λ same own. ap (λ (d : List Damage). iub_after d Up set ((old.legs k).node_b.last.iub set)) none ∙ iub_whole Up set ((old.legs k).node_b.last.iub set)
unharmed_gets k set (Combine s) old new none = tt
