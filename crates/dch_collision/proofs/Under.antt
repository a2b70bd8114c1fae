-- Flags in place of numbers of copies, and collisions in a format, a channel and a direction.
use Rattle.std.proofs.Common.{◌≡◌, ◌<◌, ◌≤◌, ◌+◌, ◌*◌, ◌++◌, ℕ, List, Bool, true, false, length, get_or, take, refl, ap, sym, subst, ◌∙◌, arith}
use Rattle.std.specs.Prelude.{Option, Some, None, IfSome, nat_lt}
use Rattle.std.proofs.lemmas.List.{get_or-take, length-take-le}
use Rattle.std.proofs.Math.Seq.{take-append_seam}
use Rattle.std.proofs.lemmas.Bool.Decides.{nat_tests}
use Rattle.dch_bits.specs.declared.bit.Bit.{Bit}
use Rattle.dch_types.specs.declared.channel.Coding.{Coding}
use Rattle.dch_types.specs.declared.channel.Side.{Side}
use Rattle.dch_types.specs.Lengths.{coded_block}
use Rattle.dch_types.specs.Limits.{IsSide}
use Rattle.dch_types.specs.Parts.{channel_at}
use Rattle.dch_coding.specs.declared.cut.Plan.{Plan}
use Rattle.dch_collision.specs.Collisions.{copies_kept}
use Rattle.dch_collision.proofs.Collide.{sent-one, one-sent}
use Rattle.dch_collision.specs.Copies.{AreSentFlags}
use Rattle.dch_collision.specs.declared.found.Found.{Found}
use Rattle.dch_collision.specs.declared.found.FormatCollision.{FormatCollision}
use Rattle.dch_collision.specs.declared.shape.Shape.{Shape}
use Rattle.dch_collision.specs.Clear.{Copies, AreClearBlocks, IsClearUnder, IsClearFormat, IsClearChannel}
use Rattle.dch_collision.specs.Found.{IsFirstBlock, IsFirstInChannel, IsFirstOf, Finds}
use Rattle.dch_collision.specs.Shapes.{IsShape, IsFirstUnder, IsCollisionInFormat, IsCollisionInChannel, block_of}
use Rattle.dch_collision.proofs.Carried.{AreAllSentToo, blocks_by, block_by}
use Rattle.dch_collision.proofs.Unpunctured.{bit_inside, no_format}
use Rattle.dch_collision.proofs.Visits.{IsReached}

pub if_some : {P Q : ℕ → Type 0} (o : Option ℕ) → ((r : ℕ) → P r → Q r) → IfSome o P → IfSome o Q
if_some (Some r) up here = up r here
if_some None up here = here

-- the first flags of a list tell which coded bits are sent
pub record AreFlags (sent : ℕ → ℕ) (shape : Shape) (n : ℕ) (sent_flags : List Bool) : Type 0 where
  pub whole : shape.plan.blocks * coded_block shape.coding shape.plan.size ≤ n
  pub room : n ≤ length sent_flags
  pub shown : AreSentFlags sent (take n sent_flags)

flag_is : (sent : ℕ → ℕ) (shape : Shape) (n : ℕ) (sent_flags : List Bool) (r t : ℕ) → AreFlags sent shape n sent_flags → r < shape.plan.blocks → t < coded_block shape.coding shape.plan.size
    → get_or sent_flags (r * coded_block shape.coding shape.plan.size + t) false ≡ nat_lt 0 (sent (r * coded_block shape.coding shape.plan.size + t))
flag_is sent shape n sent_flags r t flags row place =
    let j : ℕ = r * coded_block shape.coding shape.plan.size + t in
    let inside : j < shape.plan.blocks * coded_block shape.coding shape.plan.size = bit_inside r shape.plan.blocks (coded_block shape.coding shape.plan.size) t (shape.plan.blocks * coded_block shape.coding shape.plan.size) refl row place in
    let below : j < n = omega (arith, inside, flags.whole) in
    sym (get_or-take n sent_flags j false below) ∙ flags.shown j (omega (arith, below, length-take-le n sent_flags flags.room))

positive : (m : ℕ) → nat_lt 0 m ≡ true → 0 < m
positive m is = grind (arith, nat_tests)

above : (m : ℕ) → 0 < m → nat_lt 0 m ≡ true
above m some = grind (arith, nat_tests)

there : (sent : ℕ → ℕ) (shape : Shape) (n : ℕ) (sent_flags : List Bool) → AreFlags sent shape n sent_flags → AreAllSentToo shape.coding shape.plan (copies_kept sent_flags) sent
there sent shape n sent_flags flags r t row place some =
    positive (sent (r * coded_block shape.coding shape.plan.size + t)) (sym (flag_is sent shape n sent_flags r t flags row place) ∙ one-sent sent_flags (r * coded_block shape.coding shape.plan.size + t) some)

back : (sent : ℕ → ℕ) (shape : Shape) (n : ℕ) (sent_flags : List Bool) → AreFlags sent shape n sent_flags → AreAllSentToo shape.coding shape.plan sent (copies_kept sent_flags)
back sent shape n sent_flags flags r t row place some =
    sent-one sent_flags (r * coded_block shape.coding shape.plan.size + t) (flag_is sent shape n sent_flags r t flags row place ∙ above (sent (r * coded_block shape.coding shape.plan.size + t)) some)

pub found_under : (side : Side) (sent : Copies) (i f n r : ℕ) (sequence : List ℕ) (shape : Shape) (sent_flags : List Bool) (block : List Bit) → IsShape side i f shape → AreFlags (sent i f sequence) shape n sent_flags → IsFirstBlock shape.coding shape.plan (copies_kept sent_flags) r block → IsFirstUnder side sent i f sequence r block
found_under side sent i f n r sequence shape sent_flags block is flags first =
    let here : IsFirstBlock shape.coding shape.plan (sent i f sequence) r block = block_by shape.coding shape.plan (copies_kept sent_flags) (sent i f sequence) r block (there (sent i f sequence) shape n sent_flags flags) (back (sent i f sequence) shape n sent_flags flags) first in
    subst (λ (p : Plan). IsFirstBlock (channel_at side i).coding p (sent i f sequence) r block) is.plan
    (subst (λ (code : Coding). IsFirstBlock code shape.plan (sent i f sequence) r block) is.coding here)

pub clear_under : (side : Side) (sent : Copies) (i f n : ℕ) (sequence : List ℕ) (shape : Shape) (sent_flags : List Bool) → IsShape side i f shape → AreFlags (sent i f sequence) shape n sent_flags → AreClearBlocks shape.coding shape.plan (copies_kept sent_flags) → IsClearUnder side sent i f sequence
clear_under side sent i f n sequence shape sent_flags is flags clear =
    let here : AreClearBlocks shape.coding shape.plan (sent i f sequence) = blocks_by shape.coding shape.plan (copies_kept sent_flags) (sent i f sequence) (there (sent i f sequence) shape n sent_flags flags) clear in
    subst (λ (p : Plan). AreClearBlocks (channel_at side i).coding p (sent i f sequence)) is.plan
    (subst (λ (code : Coding). AreClearBlocks code shape.plan (sent i f sequence)) is.coding here)

-- a collision under a sequence that is reached is the first of the format
pub hit_in_format : (side : Side) (sent : Copies) (i f r size : ℕ) (sequence : List ℕ) (room : List Bit) (hit : FormatCollision) → hit ≡ record { format = f; block = r; size = size } → IsReached side sent i f sequence → size ≤ length room → IsFirstUnder side sent i f sequence r (take size room) → IsCollisionInFormat side sent i f sequence room hit
hit_in_format side sent i f r size sequence room hit is reached fits first =
    subst (λ (h : FormatCollision). IsCollisionInFormat side sent i f sequence room h) (sym is) (record {
      format = refl;
      size = fits;
      here = record { legal = reached.legal; here = first; before = reached.before };
    })

pub hit_in_channel : (side : Side) (sent : Copies) (i f : ℕ) (sequence : List ℕ) (room : List Bit) (hit : FormatCollision) → IsCollisionInFormat side sent i f sequence room hit → ((g : ℕ) → g < f → IsClearFormat side sent i g) → IsCollisionInChannel side sent i sequence room hit
hit_in_channel side sent i f sequence room hit is before = record {
  size = is.size;
  here = subst (λ (g : ℕ). IsFirstInChannel side sent i g sequence hit.block (block_of hit room)) (sym is.format) (record { here = is.here; before = before });
}

-- a channel whose formats are clear is clear
pub clear_channel : (side : Side) (sent : Copies) (i : ℕ) → IsSide side → i < length side.channels → ((f : ℕ) → f < length (channel_at side i).formats → IsClearFormat side sent i f) → IsClearChannel side sent i
clear_channel side sent i good inside each f sequence legal = each f (no_format side i f sequence good inside legal) sequence legal

-- and the collision that is shown is the first of the direction
pub found_of : (side : Side) (sent : Copies) (i : ℕ) (sequence : List ℕ) (room : List Bit) (hit : FormatCollision) (found : Found) → found ≡ record { channel = i; format = hit.format; sequence = sequence; block = hit.block; second = block_of hit room }
    → i < length side.channels → IsCollisionInChannel side sent i sequence room hit → ((j : ℕ) → j < i → IsClearChannel side sent j) → Finds side sent (Some found)
found_of side sent i sequence room hit found is there hits before =
    subst (λ (f : Found). IsFirstOf side sent f.channel f.format f.sequence f.block f.second) (sym is) (record { there = there; here = hits.here; before = before })

-- the front of a list over which it was written
pub front_is : (n : ℕ) (front rest : List Bool) → length front ≡ n → take n (front ++ rest) ≡ front
front_is n front rest long = ap (λ (m : ℕ). take m (front ++ rest)) (sym long) ∙ take-append_seam front rest
