use Rattle.std.proofs.Common.{sym, ◌∙◌}
use Rattle.std.proofs.lemmas.Bool.{lt-ltb}
use Rattle.dch_tests.proofs.rlcum.next_pdu.Goals as goal

pub build-requires-clause-due : goal.build-requires-clause-due
build-requires-clause-due c = sym c.available.ensures.some ∙ lt-ltb _ _ c.if-available-gt0.true
