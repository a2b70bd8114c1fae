use Rattle.std.proofs.Common.{◌<◌, length, get_or, sym, ap, ◌∙◌, subst}
use Rattle.dch_rlcpdu.specs.Fields.{Field, pairs_of}
use Rattle.dch_rlcpdu.proofs.Walks.{front, some_pairs}
use Rattle.dch_rlcpdu.proofs.cursor.Cursor.pair.Goals as goal

pub pair_at-requires-clause-whole : goal.pair_at-requires-clause-whole
pair_at-requires-clause-whole c = (front c.self.inside.octets.now c.self.inside.at c.self.inside.left c.args.self.now c.self.view_is c.self.invariant (some_pairs c.args.self.now c.args.j c.requires)).whole

pub pair_at-requires-clause-pair : goal.pair_at-requires-clause-pair
pair_at-requires-clause-pair c =
    subst (λ (f : Field). c.args.j < length (pairs_of f))
    (front c.self.inside.octets.now c.self.inside.at c.self.inside.left c.args.self.now c.self.view_is c.self.invariant (some_pairs c.args.self.now c.args.j c.requires)).first c.requires

pub returns-clause-value : goal.returns-clause-value
returns-clause-value c =
    c.pair_at.ensures.value
    ∙ sym (ap (λ f. get_or (pairs_of f) c.args.j (0, 0)) (front c.self.inside.octets.now c.self.inside.at c.self.inside.left c.args.self.now c.self.view_is c.self.invariant (some_pairs c.args.self.now c.args.j c.requires)).first)
