use Rattle.std.proofs.Common.{◌≡◌, ◌-◌, ◌*◌, ℕ}
use Rattle.dch_gen.specs.Generators.{HasPassed, IsReady, MayCount}
use Rattle.dch_gen.proofs.generator.Generator.run.Given as goal

abbrev pub invariant-loop-frame : goal.invariant-loop-frame
invariant-loop-frame l = record {
  passed : (first : ℕ) → HasPassed first l.frames 0 l.initial.self → HasPassed first l.frames l.frame l.self;
  ready : IsReady l.self;
  same : l.self.accepted ≡ l.initial.self.accepted;
  room : MayCount l.self (3200000 - 32 * l.frame);
}
