-- What is loaded of blocks, and what is read of a TTI, is one.
use Rattle.std.proofs.Common.{◌≡◌, ◌<◌, ℕ, List, length, get_or, arith, ap, sym, ◌∙◌}
use Rattle.std.proofs.lemmas.List.{ext_get_or, same_lists}
use Rattle.dch_bits.specs.declared.bit.Bit.{Bit}
use Rattle.dch_bits.specs.declared.bit.Bit.TheVariants.{Zero}
use Rattle.dch_bits.specs.declared.bit.Trit.TheVariants.{Off}
use Rattle.dch_bits.specs.declared.bit.Vote.{Vote}
use Rattle.dch_types.specs.declared.channel.Dir.TheVariants.{Up}
use Rattle.dch_types.specs.declared.channel.Trch.{Trch}
use Rattle.dch_types.specs.Lengths.{padded}
use Rattle.dch_types.specs.Limits.{IsSide}
use Rattle.dch_types.specs.Parts.{channel_at, format_at}
use Rattle.dch_inter.specs.Places.{first_of}
use Rattle.dch_frame.specs.Stages.{as_cell}
use Rattle.dch_accept.specs.Blocks.{Held}
use Rattle.dch_accept.specs.Plans.{Planned}
use Rattle.dch_tti.proofs.Coded.{coded_one}
use Rattle.dch_tti.specs.RxFrames.{RxFrames}
use Rattle.dch_tti.proofs.OneReading.{reading_one}
use Rattle.dch_tti.specs.Loaded.{Loaded}
use Rattle.dch_ulphy.specs.Loaded.{IsLoaded}
use Rattle.dch_ulphy.specs.Read.{AreVotes, IsTtiRead}

pub loaded_one : (planned : Planned) (i f : ℕ) (blocks : List Bit) (one other : Loaded) → IsLoaded planned i f blocks one → IsLoaded planned i f blocks other → one ≡ other
loaded_one planned i f blocks one other a b =
    let channel : Trch = channel_at planned.config.uplink.side i in
    let coded : a.coded ≡ b.coded = coded_one channel (format_at channel f) blocks a.coded b.coded a.is b.is in
    let long : length one.cells ≡ length other.cells = a.cells.long ∙ ap (λ (bits : List Bit). padded (length bits) channel.frames) coded ∙ sym b.cells.long in
    let format : one.format ≡ other.format = a.format ∙ sym b.format in
    let cells : one.cells ≡ other.cells = ext_get_or Off one.cells other.cells long (λ k inside.
    a.cells.shown k inside
    ∙ ap (λ bits. as_cell (get_or bits (first_of channel.frames (length one.cells) k) Zero)) coded
    ∙ ap (λ len. as_cell (get_or b.coded (first_of channel.frames len k) Zero)) long
    ∙ sym (b.cells.shown k (omega (arith, inside, long)))) in
    let room : one.room ≡ other.room = a.room ∙ sym b.room in
    λ t. record { format = format t; cells = cells t; room = room t }

votes_one : (planned : Planned) (reader : RxFrames) (i f : ℕ) (xs ys : List Vote) → length xs ≡ length ys → AreVotes planned reader i f xs → AreVotes planned reader i f ys → xs ≡ ys
votes_one planned reader i f xs ys long a b = same_lists xs ys long (λ j v inside. a j v inside ∙ sym (b j v (omega (arith, inside, long))))

pub read_one : (planned : Planned) (reader : RxFrames) (i : ℕ) (one other : Held) → IsSide planned.config.uplink.side → i < length planned.config.uplink.side.channels → IsTtiRead planned reader i one → IsTtiRead planned reader i other → one ≡ record other { room = one.room }
read_one planned reader i one other = reading_one planned Up (AreVotes planned) reader i one other (votes_one planned reader i)
