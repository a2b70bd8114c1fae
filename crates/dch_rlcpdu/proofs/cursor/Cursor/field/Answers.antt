use Rattle.std.proofs.Common.{sym, ap, ◌∙◌, get_or}
use Rattle.dch_rlcpdu.specs.Fields.{NoMoreField}
use Rattle.dch_rlcpdu.specs.Sufis.{bits_in, pairs_in, sufi_of}
use Rattle.dch_rlcpdu.proofs.FieldKinds.{bits_announced, pairs_announced}
use Rattle.dch_rlcpdu.proofs.Walks.{front}
use Rattle.dch_rlcpdu.proofs.cursor.Cursor.field.Goals as goal

pub sufi_at-requires-clause-known : goal.sufi_at-requires-clause-known
sufi_at-requires-clause-known c = (front c.self.inside.octets.now c.self.inside.at c.self.inside.left c.args.self.now c.self.view_is c.self.invariant c.requires).known

pub sufi_at-requires-clause-whole : goal.sufi_at-requires-clause-whole
sufi_at-requires-clause-whole c = (front c.self.inside.octets.now c.self.inside.at c.self.inside.left c.args.self.now c.self.view_is c.self.invariant c.requires).whole

pub returns-clause-value : goal.returns-clause-value
returns-clause-value c =
    c.sufi_at.ensures.value
    ∙ sym (ap sufi_of (front c.self.inside.octets.now c.self.inside.at c.self.inside.left c.args.self.now c.self.view_is c.self.invariant c.requires).first)

pub returns-clause-pairs : goal.returns-clause-pairs
returns-clause-pairs c =
    ap pairs_in (c.sufi_at.ensures.value
    ∙ sym (ap sufi_of (front c.self.inside.octets.now c.self.inside.at c.self.inside.left c.args.self.now c.self.view_is c.self.invariant c.requires).first))
    ∙ pairs_announced (get_or c.args.self.now 0 NoMoreField)

pub returns-clause-bits : goal.returns-clause-bits
returns-clause-bits c =
    ap bits_in (c.sufi_at.ensures.value
    ∙ sym (ap sufi_of (front c.self.inside.octets.now c.self.inside.at c.self.inside.left c.args.self.now c.self.view_is c.self.invariant c.requires).first))
    ∙ bits_announced (get_or c.args.self.now 0 NoMoreField)
