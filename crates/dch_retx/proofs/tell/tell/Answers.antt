use Rattle.std.proofs.Common.{◌∙◌, ◌||◌, List, ap, arith, sym}
use Rattle.std.specs.Prelude.{unwrap_or}
use Rattle.dch_rlcpdu.specs.Fields.{Field}
use Rattle.dch_retx.specs.StatusItems.{said_by}
use Rattle.dch_retx.specs.StatusItem.{below_said, ending_of, limit_in, or_else, reports_some}
use Rattle.dch_retx.proofs.Endings.{ending-step, ending_none, or_is}
use Rattle.dch_retx.proofs.Fields.{none_left, or_no}
use Rattle.dch_retx.proofs.Limits.{limit_low, told_on}
use Rattle.dch_retx.proofs.tell.tell.Goals as goal

pub loop-cursor-init : goal.loop-cursor-init
loop-cursor-init c = record {
  below = ap (λ (fs : List Field). below_said c.args.sent.first (said_by fs)) (sym c.cursor-cursor.ensures);
  reports = ap (λ (fs : List Field). reports_some (said_by fs)) (sym c.cursor-cursor.ensures);
  ending = ap (λ (fs : List Field). ending_of c.args.sent.first c.args.sent.count c.args.running (said_by fs)) (sym c.cursor-cursor.ensures);
  limit_is = omega (arith, limit_low c.args.sent.window c.args.sent.first c.args.sent.count (said_by c.args.status.now), ap (λ (fs : List Field). limit_in c.args.sent.window c.args.sent.first c.args.sent.count (said_by fs)) c.cursor-cursor.ensures);
  small = omega arith;
}

pub loop-cursor-preserved : goal.loop-cursor-preserved
loop-cursor-preserved c =
    let on = told_on c.tell_field-told.result c.loop-cursor.told c.args.sent.window c.args.sent.first c.args.sent.count c.loop-cursor.cursor c.advance.new.self (sym c.is_done.ensures ∙ c.loop-cursor-test.true) c.advance.ensures c.tell_field-told.ensures in
    record {
      below = c.loop-cursor.invariant.below ∙ on.below;
      reports = c.loop-cursor.invariant.reports ∙ on.reports;
      ending =
          ending-step c.args.sent.first c.args.sent.count c.args.running (said_by c.args.status.now) c.loop-cursor.cursor c.advance.new.self c.field-field.result c.loop-cursor.told.ending c.ends_by-ending.result
          (sym c.is_done.ensures ∙ c.loop-cursor-test.true) c.field-field.ensures.value c.ends_by-ending.ensures c.advance.ensures c.loop-cursor.invariant.ending
          ∙ ap (λ o. or_else o (ending_of c.args.sent.first c.args.sent.count c.args.running (said_by c.advance.new.self))) (sym (c.or-told.ensures ∙ (or_is c.tell_field-told.result.ending c.ends_by-ending.result ∙ ap (λ o. or_else o c.ends_by-ending.result) c.tell_field-told.ensures.ending)));
      limit_is = c.loop-cursor.invariant.limit_is ∙ on.limit_is;
      small = omega (arith, c.loop-cursor.invariant.small, c.tell_field-told.ensures.small);
    }

pub returns : goal.returns
returns c =
    let none = none_left c.loop-cursor.cursor (sym c.is_done.ensures ∙ c.loop-cursor-test.false) in
    record {
      below = sym (c.loop-cursor.invariant.below ∙ ap (λ xs. unwrap_or c.loop-cursor.told.below (below_said c.args.sent.first xs)) none);
      reports = sym (c.loop-cursor.invariant.reports ∙ (ap (λ xs. c.loop-cursor.told.reports || reports_some xs) none ∙ or_no c.loop-cursor.told.reports));
      ending = sym (c.loop-cursor.invariant.ending ∙ (ap (λ xs. or_else c.loop-cursor.told.ending (ending_of c.args.sent.first c.args.sent.count c.args.running xs)) none ∙ ending_none c.args.sent.first c.args.sent.count c.args.running c.loop-cursor.told.ending));
      limit_is = omega (arith, c.loop-cursor.invariant.small, c.loop-cursor.invariant.limit_is, ap (limit_in c.args.sent.window c.args.sent.first c.args.sent.count) none);
    }
