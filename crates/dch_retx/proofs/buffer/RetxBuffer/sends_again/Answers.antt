use Rattle.std.proofs.Common.{◌≡◌, ◌∙◌, ap, not, rules}
use Rattle.dch_retx.specs.Polling.{none_requested as is_last}
use Rattle.dch_retx.proofs.Requests.{none_requested}
use Rattle.dch_retx.proofs.buffer.RetxBuffer.sends_again.Goals as goal

pub returns-clause-poll : goal.returns-clause-poll
returns-clause-poll c =
    let none : not c.is_requested-none.result ≡ is_last c.build.new.self.items = ap not c.is_requested-none.ensures ∙ none_requested c.build.new.self.items in
    search (rules, none)

pub returns-clause-after : goal.returns-clause-after
returns-clause-after c =
    let none : not c.is_requested-none.result ≡ is_last c.build.new.self.items = ap not c.is_requested-none.ensures ∙ none_requested c.build.new.self.items in
    search (rules, none)
