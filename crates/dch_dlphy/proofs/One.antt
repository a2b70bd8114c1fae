-- What is loaded of blocks, and what is read of a TTI, is one.
use Rattle.std.proofs.Common.{◌≡◌, ◌<◌, ℕ, List, length, arith, ap, sym, ◌∙◌}
use Rattle.std.proofs.lemmas.List.{ext_get_or, same_lists}
use Rattle.dch_bits.specs.declared.bit.Bit.{Bit}
use Rattle.dch_bits.specs.declared.bit.Trit.TheVariants.{Off}
use Rattle.dch_bits.specs.declared.bit.Vote.{Vote}
use Rattle.dch_types.specs.declared.channel.Dir.TheVariants.{Down}
use Rattle.dch_types.specs.declared.channel.Trch.{Trch}
use Rattle.dch_types.specs.Limits.{IsSide}
use Rattle.dch_types.specs.Parts.{channel_at, format_at}
use Rattle.dch_inter.specs.Places.{first_of}
use Rattle.dch_frame.specs.Votes.{votes_of}
use Rattle.dch_accept.specs.Blocks.{Held}
use Rattle.dch_accept.specs.Plans.{Planned}
use Rattle.dch_tti.proofs.Coded.{coded_one}
use Rattle.dch_tti.specs.RxFrames.{RxFrames}
use Rattle.dch_tti.proofs.OneReading.{reading_one}
use Rattle.dch_tti.specs.Loaded.{Loaded}
use Rattle.dch_dlphy.specs.Loaded.{IsLoaded, filled_cell, matching_of}
use Rattle.dch_dlphy.specs.Read.{AreVotes, IsTtiRead, tti_pattern}

pub loaded_one : (planned : Planned) (i f : ℕ) (blocks : List Bit) (one other : Loaded) → IsLoaded planned i f blocks one → IsLoaded planned i f blocks other → one ≡ other
loaded_one planned i f blocks one other a b =
    let channel : Trch = channel_at planned.config.downlink.side i in
    let coded : a.coded ≡ b.coded = coded_one channel (format_at channel f) blocks a.coded b.coded a.is b.is in
    let long : length one.cells ≡ length other.cells = a.cells.long ∙ sym b.cells.long in
    let shown : (len : ℕ) (bits : List Bit) (k : ℕ) → _ = λ len bits k. filled_cell (matching_of planned i f).pattern bits (first_of channel.frames len k) in
    let cells : one.cells ≡ other.cells = ext_get_or Off one.cells other.cells long (λ k inside.
    a.cells.shown k inside ∙ ap (λ bits. shown (length one.cells) bits k) coded ∙ ap (λ len. shown len b.coded k) long ∙ sym (b.cells.shown k (omega (arith, inside, long)))) in
    let format : one.format ≡ other.format = a.format ∙ sym b.format in
    let room : one.room ≡ other.room = a.room ∙ sym b.room in
    λ t. record { format = format t; cells = cells t; room = room t }

votes_one : (planned : Planned) (reader : RxFrames) (i f : ℕ) (xs ys : List Vote) → length xs ≡ length ys → AreVotes planned reader i f xs → AreVotes planned reader i f ys → xs ≡ ys
votes_one planned reader i f xs ys long a b =
    let size : length a.cells ≡ length b.cells = a.kept.kept ∙ sym b.kept.kept in
    let cells : a.cells ≡ b.cells = ext_get_or Off a.cells b.cells size (λ p inside. a.kept.are p inside ∙ sym (b.kept.are p (omega (arith, inside, size)))) in
    same_lists xs ys long (λ j v inside. a.are j v inside ∙ ap (λ cells. votes_of (tti_pattern planned i f) cells j) cells ∙ sym (b.are j v (omega (arith, inside, long))))

pub read_one : (planned : Planned) (reader : RxFrames) (i : ℕ) (one other : Held) → IsSide planned.config.downlink.side → i < length planned.config.downlink.side.channels → IsTtiRead planned reader i one → IsTtiRead planned reader i other → one ≡ record other { room = one.room }
read_one planned reader i one other = reading_one planned Down (AreVotes planned) reader i one other (votes_one planned reader i)
