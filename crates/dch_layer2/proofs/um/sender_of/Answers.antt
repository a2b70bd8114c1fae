use Rattle.std.proofs.Common.{◌≡◌, ◌∙◌, Some, ap, sym}
use Rattle.dch_types.specs.Parts.{channel_number}
use Rattle.dch_layer2.specs.Bearings.{channel_of}
use Rattle.dch_layer2.proofs.Fitting.{IsFit, um_filling, um_fit}
use Rattle.dch_layer2.proofs.um.sender_of.Goals as goal

pub open-requires-clause-from : goal.open-requires-clause-from
open-requires-clause-from c =
    let e : channel_of c.args.accepted.now.config c.args.dir c.args.bearer ≡ Some c.in-Some.field-0 = ap (channel_number c.args.dir) (sym c.bearer_of-it.ensures.value) ∙ (sym c.channel.ensures ∙ c.in-Some.is) in
    let fit : IsFit c.args.accepted.now.config c.args.dir c.args.bearer 3 125 = um_fit c.args.accepted.now.config c.args.dir c.args.bearer c.in-Some.field-0 c.bearer_of-it.ensures.good e c.requires.mode in
    rw c.requires.shape fit.least

pub open-requires-clause-most : goal.open-requires-clause-most
open-requires-clause-most c =
    let e : channel_of c.args.accepted.now.config c.args.dir c.args.bearer ≡ Some c.in-Some.field-0 = ap (channel_number c.args.dir) (sym c.bearer_of-it.ensures.value) ∙ (sym c.channel.ensures ∙ c.in-Some.is) in
    let fit : IsFit c.args.accepted.now.config c.args.dir c.args.bearer 3 125 = um_fit c.args.accepted.now.config c.args.dir c.args.bearer c.in-Some.field-0 c.bearer_of-it.ensures.good e c.requires.mode in
    rw c.requires.shape fit.most

pub returns-in_ok-sender-in-Some-clause-fills : goal.returns-in_ok-sender-in-Some-clause-fills
returns-in_ok-sender-in-Some-clause-fills c =
    let e : channel_of c.args.accepted.now.config c.args.dir c.args.bearer ≡ Some c.in-Some.field-0 = ap (channel_number c.args.dir) (sym c.bearer_of-it.ensures.value) ∙ (sym c.channel.ensures ∙ c.in-Some.is) in
    um_filling c.args.accepted.now.config c.args.dir c.args.bearer c.in-Some.field-0 c.args.shape c.in_ok-sender-in-Some.sender c.bearer_of-it.ensures.good e c.requires.mode c.requires.shape (ap (λ s. s.pdu) c.in_ok-sender-in-Some.ensures.empty)
