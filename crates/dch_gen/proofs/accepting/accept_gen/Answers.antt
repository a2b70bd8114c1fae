use Rattle.std.proofs.Common.{subst}
use Rattle.dch_gen.proofs.Never.{IsMemory, only_memory}
use Rattle.dch_gen.proofs.accepting.accept_gen.Goals as goal

pub unreachable-requires : goal.unreachable-requires
unreachable-requires c = subst IsMemory c.in-Err-NoRate.field-0-is (only_memory c.in_ok-config.config c.in-Err-NoRate.field-0 c.in_ok-config.ensures.value c.in-Err-NoRate.ensures)

pub unreachable-requires-in-Err-Sequences : goal.unreachable-requires-in-Err-Sequences
unreachable-requires-in-Err-Sequences c = subst IsMemory c.in-Err-Sequences.field-0-is (only_memory c.in_ok-config.config c.in-Err-Sequences.field-0 c.in_ok-config.ensures.value c.in-Err-Sequences.ensures)

pub unreachable-requires-in-Err-Collision : goal.unreachable-requires-in-Err-Collision
unreachable-requires-in-Err-Collision c = subst IsMemory c.in-Err-Collision.field-0-is (only_memory c.in_ok-config.config c.in-Err-Collision.field-0 c.in_ok-config.ensures.value c.in-Err-Collision.ensures)
