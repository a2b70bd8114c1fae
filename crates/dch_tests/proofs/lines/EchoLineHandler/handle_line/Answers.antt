use Rattle.std.proofs.Common.{◌++◌, inl, refl}
use Rattle.std.specs.Prelude.{codes}
use Rattle.dch_tests.proofs.lines.EchoLineHandler.handle_line.Goals as goal

pub returns-then-is_open-clause-ok : goal.returns-then-is_open-clause-ok
returns-then-is_open-clause-ok g c = λ before is.
    (tt, tt, record { more = codes "once\n" ++ codes "again\nagain\n"; handles = inl refl; wrote = g.met.P.Page.joined _ _ _ _ _ c.put_text.ensures c.put_text-then-is_open.ensures })
