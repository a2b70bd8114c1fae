use Rattle.std.proofs.Common.{◌≡◌, ◌≤◌, ◌∙◌, ℕ, List, length, take, arith, ap, subst, sym, length-append}
use Rattle.std.proofs.lemmas.List.{length-take-le, take_at}
use Rattle.dch_bits.specs.declared.bit.Bit.{Bit}
use Rattle.dch_types.specs.declared.channel.Coding.{Coding}
use Rattle.dch_types.specs.Lengths.{coded_bits}
use Rattle.dch_coding.specs.Rooms.{searched_bits}
use Rattle.dch_tti.specs.JoinedBits.{AreRead}
use Rattle.dch_tti.proofs.Lengths.{joined_le}
use Rattle.dch_tti.proofs.decoder.decode_front.Goals as goal

-- there is room for the joined bits
front_long : (coding : Coding) (len votes : ℕ) (out : List Bit) → votes ≡ coded_bits coding len → votes ≤ length out → length (take len out) ≡ len
front_long coding len votes out coded room = length-take-le len out (omega (arith, joined_le len coding, coded, room))

pub decode_with-requires-clause-longest : goal.decode_with-requires-clause-longest
decode_with-requires-clause-longest c =
    let long : length (take c.args.len c.args.out.now) ≡ c.args.len = front_long c.args.coding c.args.len (length c.args.votes.now) c.args.out.now c.requires.coded c.requires.room in
    subst (λ n. searched_bits c.args.coding n ≤ c.args.trellis.now) (sym long) c.requires.longest

pub decode_with-requires-clause-coded : goal.decode_with-requires-clause-coded
decode_with-requires-clause-coded c =
    c.requires.coded ∙ ap (coded_bits c.args.coding) (sym (front_long c.args.coding c.args.len (length c.args.votes.now) c.args.out.now c.requires.coded c.requires.room))

pub returns-clause-fits : goal.returns-clause-fits
returns-clause-fits c =
    let joined : List Bit = c.decode_with.new.joined in
    let long : length joined ≡ c.args.len = c.decode_with.auto.joined ∙ front_long c.args.coding c.args.len (length c.args.votes.now) c.args.out.now c.requires.coded c.requires.room in
    simp length-append (omega (arith, long))

pub returns-clause-read : goal.returns-clause-read
returns-clause-read c =
    let joined : List Bit = c.decode_with.new.joined in
    let long : length joined ≡ c.args.len = c.decode_with.auto.joined ∙ front_long c.args.coding c.args.len (length c.args.votes.now) c.args.out.now c.requires.coded c.requires.room in
    subst (λ (joined : List Bit). AreRead c.args.coding c.args.votes.now joined) (sym (take_at joined _ c.args.len long)) c.decode_with.ensures.read
