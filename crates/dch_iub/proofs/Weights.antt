-- The length of a frame by the bits that its blocks take.
use Rattle.std.proofs.Common.{◌≡◌, ◌+◌, ◌*◌, ◌<◌, ◌≤◌, ℕ, zero, suc, List, length, arith, refl, true, false}
use Rattle.std.specs.Prelude.{if◌then◌else◌, ◌==◌, Bool}
use Rattle.std.proofs.lemmas.Bool.{eqb-true}
use Rattle.dch_types.specs.declared.channel.Dir.{Dir}
use Rattle.dch_types.specs.declared.channel.Dir.TheVariants.{Up, Down}
use Rattle.dch_types.specs.declared.channel.Side.{Side}
use Rattle.dch_types.specs.declared.config.Config.{Config}
use Rattle.dch_types.specs.Parts.{channel_at, side_of}
use Rattle.dch_accept.specs.Padded.{format_octets}
use Rattle.dch_iub.specs.Longest.{weight}
use Rattle.dch_iub.specs.Shape.{ForSet, format_in, frame_octets, payload_end, sum_before}

choice_le : (b : Bool) (x y : ℕ) → (b ≡ true → x ≤ y) → (if b then x else 0) ≤ (if b then y else 0)
choice_le true x y less = less refl
choice_le false x y less = omega arith

pub sum_before-le : (side : Side) (set : ℕ) (f g : ℕ → ℕ) (i : ℕ) → ((j : ℕ) → j < i → (channel_at side j).set ≡ set → f j ≤ g j) → sum_before side set f i ≤ sum_before side set g i
sum_before-le side set f g zero less = omega arith
sum_before-le side set f g (suc i) less =
    let rest : sum_before side set f i ≤ sum_before side set g i = sum_before-le side set f g i (λ j early. less j (omega arith)) in
    let here = choice_le ((channel_at side i).set == set) (f i) (g i) (λ h. less i (omega arith) (eqb-true (channel_at side i).set set h)) in
    omega (arith, rest, here)

choice_join : (b : Bool) (x y : ℕ) → (if b then 8 * x + y else 0) ≡ 8 * (if b then x else 0) + (if b then y else 0)
choice_join true x y = refl
choice_join false x y = refl

choice_eight : (b : Bool) (x : ℕ) → (if b then 8 * x else 0) ≡ 8 * (if b then x else 0)
choice_eight true x = refl
choice_eight false x = refl

sum_before-join : (side : Side) (set : ℕ) (f g : ℕ → ℕ) (i : ℕ) → sum_before side set (λ j. 8 * f j + g j) i ≡ 8 * sum_before side set f i + sum_before side set g i
sum_before-join side set f g zero = refl
sum_before-join side set f g (suc i) =
    let rest = sum_before-join side set f g i in
    let here = choice_join ((channel_at side i).set == set) (f i) (g i) in
    omega (arith, rest, here)

sum_before-eight : (side : Side) (set : ℕ) (f : ℕ → ℕ) (i : ℕ) → sum_before side set (λ j. 8 * f j) i ≡ 8 * sum_before side set f i
sum_before-eight side set f zero = refl
sum_before-eight side set f (suc i) =
    let rest = sum_before-eight side set f i in
    let here = choice_eight ((channel_at side i).set == set) (f i) in
    omega (arith, rest, here)

-- formats whose blocks take more bits give a frame that is no shorter
payload_end-le : (dir : Dir) (side : Side) (set : ℕ) (xs ys : List ℕ) → ForSet side set (λ i. weight dir (format_in side xs i) ≤ weight dir (format_in side ys i))
    → payload_end dir side set xs ≤ payload_end dir side set ys
payload_end-le Up side set xs ys less =
    let n : ℕ = length side.channels in
    let sums = sum_before-le side set (λ j. weight Up (format_in side xs j)) (λ j. weight Up (format_in side ys j)) n less in
    let left = sum_before-join side set (λ j. format_octets (format_in side xs j)) (λ j. (format_in side xs j).number) n in
    let right = sum_before-join side set (λ j. format_octets (format_in side ys j)) (λ j. (format_in side ys j).number) n in
    omega (arith, sums, left, right)
payload_end-le Down side set xs ys less =
    let n : ℕ = length side.channels in
    let sums = sum_before-le side set (λ j. weight Down (format_in side xs j)) (λ j. weight Down (format_in side ys j)) n less in
    let left = sum_before-eight side set (λ j. format_octets (format_in side xs j)) n in
    let right = sum_before-eight side set (λ j. format_octets (format_in side ys j)) n in
    omega (arith, sums, left, right)

pub frame_octets-le : (config : Config) (dir : Dir) (set : ℕ) (xs ys : List ℕ) → ForSet (side_of config dir) set (λ i. weight dir (format_in (side_of config dir) xs i) ≤ weight dir (format_in (side_of config dir) ys i))
    → frame_octets config dir set xs ≤ frame_octets config dir set ys
frame_octets-le config dir set xs ys less = let ends = payload_end-le dir (side_of config dir) set xs ys less in omega (arith, ends)
