use Rattle.std.proofs.Common.{arith}
use Rattle.dch_rlcpdu.proofs.Walks.{Front, front}
use Rattle.dch_rlcpdu.proofs.cursor.Cursor.advance.Goals as goal

pub size_at-requires : goal.size_at-requires
size_at-requires c = (front c.self.inside.octets.now c.self.inside.at c.self.inside.left c.args.self.now c.self.view_is c.self.invariant c.requires).here

pub overflow_add-self : goal.overflow_add-self
overflow_add-self c =
    let f : Front c.self.inside.octets.now c.self.inside.at c.self.inside.left c.args.self.now =
    front c.self.inside.octets.now c.self.inside.at c.self.inside.left c.args.self.now c.self.view_is c.self.invariant c.requires in
    omega (arith, f.whole, c.size_at.ensures.value)

pub overflow_sub-self : goal.overflow_sub-self
overflow_sub-self c =
    let f : Front c.self.inside.octets.now c.self.inside.at c.self.inside.left c.args.self.now =
    front c.self.inside.octets.now c.self.inside.at c.self.inside.left c.args.self.now c.self.view_is c.self.invariant c.requires in
    omega (arith, f.some)

pub invariant_of-self : goal.invariant_of-self
invariant_of-self c =
    rw c.size_at.ensures.value
    (front c.self.inside.octets.now c.self.inside.at c.self.inside.left c.args.self.now c.self.view_is c.self.invariant c.requires).others

pub returns : goal.returns
returns c =
    rw c.size_at.ensures.value
    (front c.self.inside.octets.now c.self.inside.at c.self.inside.left c.args.self.now c.self.view_is c.self.invariant c.requires).rest
