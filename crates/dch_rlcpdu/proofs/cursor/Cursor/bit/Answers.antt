use Rattle.std.proofs.Common.{◌<◌, length, get_or, false, sym, ap, ◌∙◌, subst}
use Rattle.dch_rlcpdu.specs.Fields.{Field, bits_of}
use Rattle.dch_rlcpdu.proofs.Walks.{front, some_bits}
use Rattle.dch_rlcpdu.proofs.cursor.Cursor.bit.Goals as goal

pub bit_at-requires-clause-whole : goal.bit_at-requires-clause-whole
bit_at-requires-clause-whole c = (front c.self.inside.octets.now c.self.inside.at c.self.inside.left c.args.self.now c.self.view_is c.self.invariant (some_bits c.args.self.now c.args.j c.requires)).whole

pub bit_at-requires-clause-bit : goal.bit_at-requires-clause-bit
bit_at-requires-clause-bit c =
    subst (λ (f : Field). c.args.j < length (bits_of f))
    (front c.self.inside.octets.now c.self.inside.at c.self.inside.left c.args.self.now c.self.view_is c.self.invariant (some_bits c.args.self.now c.args.j c.requires)).first c.requires

pub returns : goal.returns
returns c =
    c.bit_at.ensures
    ∙ sym (ap (λ f. get_or (bits_of f) c.args.j false) (front c.self.inside.octets.now c.self.inside.at c.self.inside.left c.args.self.now c.self.view_is c.self.invariant (some_bits c.args.self.now c.args.j c.requires)).first)
