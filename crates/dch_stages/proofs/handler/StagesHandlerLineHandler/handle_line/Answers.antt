use Rattle.std.proofs.Common.{inl}
use Rattle.dch_stages.proofs.handler.StagesHandlerLineHandler.handle_line.Goals as goal

pub returns-in-Ok-clause-ok : goal.returns-in-Ok-clause-ok
returns-in-Ok-clause-ok g c = λ state is.
    let led = c.in-Ok.ensures.ok state is in
    (led.0, led.1, record { more = led.2.more; handles = inl led.2.handles; wrote = led.2.wrote })
