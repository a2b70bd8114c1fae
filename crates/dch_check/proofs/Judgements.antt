-- No text is both accepted and refused.
use Rattle.std.proofs.Common.{◌≡◌, ℕ, List, [], Option, None, Some, Err, ap, sym, ◌∙◌, subst, ⊎_elim, arith}
use Rattle.std.specs.Prelude.{Contains, Ok}
use Rattle.toml.specs.Data.{Members}
use Rattle.dch_types.specs.declared.config.Config.{Config}
use Rattle.dch_tree.specs.declared.fault.Fault.{Fault}
use Rattle.dch_tree.specs.Documents.{document_faults, config_of, IsFirst}
use Rattle.dch_config.specs.Limits.{limit_refusal}
use Rattle.dch_config.specs.Reading.{IsConfig, IsDocument, IsRefused, Reads}
use Rattle.dch_config.specs.declared.error.ConfigError.{ConfigError}
use Rattle.dch_config.specs.declared.error.ConfigError.TheVariants.{NoMemory, NotToml, Key, Range}
use Rattle.dch_bits.specs.declared.bit.Bit.{Bit}
use Rattle.dch_types.specs.declared.channel.Dir.{Dir}
use Rattle.dch_types.specs.declared.channel.Dir.TheVariants.{Up, Down}
use Rattle.dch_collision.specs.Clear.{IsClear}
use Rattle.dch_accept.specs.Answers.{count_of, IsCause, IsCollision}
use Rattle.dch_accept.specs.Plans.{Planned}
use Rattle.dch_accept.specs.declared.refusal.Refusal.{Refusal}
use Rattle.dch_accept.specs.declared.refusal.Refusal.TheVariants as why
use Rattle.dch_check.specs.Acceptance.{acceptance_refusal, accepted_line}
use Rattle.dch_check.specs.Refusals.{refusal}
use Rattle.dch_check.specs.Verdicts.{IsAccepted, IsAcceptedAs, IsAcceptedBy, IsUnread, IsUnaccepted, Refuses, RefusesAs}
use Rattle.dch_check.specs.declared.which.Which.{Which}
use Rattle.dch_check.specs.declared.which.Which.TheVariants.{First}

some_one : {T : Type 0} (x y : T) → Some x ≡ Some y → x ≡ y
some_one x y same = cc

none_some : {T : Type 0} (o : Option T) (x : T) → o ≡ None → o ≡ Some x → ⊥
none_some o x none some = cc

-- a text says one tree
one_tree : (text : List ℕ) (a b : Members) → IsDocument text a → IsDocument text b → a ≡ b
one_tree text a b first second = some_one a b (sym first.1 ∙ second.1)

-- a tree without faults has no first one
no_fault : (fault : Fault) (faults : List Fault) → faults ≡ [] → IsFirst fault faults → ⊥
no_fault fault faults none first =
    let listed : Contains [] fault = rw none at first.listed in
    absurd (omega (arith, listed.1))

no_limit : (tree : Members) (config : Config) (e : ConfigError) → IsConfig tree config → IsRefused tree e → ⊥
no_limit tree config e good refused = none_some (limit_refusal (config_of tree)) e (sym (ap limit_refusal good.value) ∙ good.limits) refused.limits

by_error : (which : Which) (text line : List ℕ) (tree : Members) (config : Config) (e : ConfigError) → IsDocument text tree → IsConfig tree config → Reads text (Err e) → refusal which e ≡ Some line → ⊥
by_error which text line tree config NoMemory document good reads shown = cc
by_error which text line tree config NotToml document good reads shown = reads tree document
by_error which text line tree config (Key path) document good reads shown = no_fault _ _ (ap document_faults (one_tree text reads.0 tree reads.1 document) ∙ good.keys) reads.2
by_error which text line tree config (Range path) document good reads shown = no_fault _ _ (ap document_faults (one_tree text reads.0 tree reads.1 document) ∙ good.keys) reads.2
by_error which text line tree config e document good reads shown =
    no_limit tree config e good (rw (one_tree text reads.0 tree reads.1 document) at reads.2)

-- a text is read as one configuration
one_config : (text : List ℕ) (a b : Config) → Reads text (Ok a) → Reads text (Ok b) → a ≡ b
one_config text a b first second =
    first.2.value ∙ ap config_of (one_tree text first.0 second.0 first.1 second.1) ∙ sym second.2.value

-- where nothing collides there is no first collision
none_collides : (config : Config) (dir : Dir) (i f r : ℕ) (sequence : List ℕ) (first second : List Bit) → IsClear config → IsCollision config dir i f r sequence first second → ⊥
none_collides config Up i f r sequence first second clear c =
    clear.up i c.is.collides.there f sequence c.is.collides.here.here.legal r c.is.collides.here.here.here.there _ _ c.is.collides.here.here.here.here.collides
none_collides config Down i f r sequence first second clear c =
    clear.down i c.is.collides.there f sequence c.is.collides.here.here.legal r c.is.collides.here.here.here.there _ _ c.is.collides.here.here.here.here.collides

-- what is accepted has no cause to be refused
no_cause : (which : Which) (config : Config) (line other : List ℕ) (why : Refusal) → IsAcceptedBy config line → IsCause config why → acceptance_refusal which why ≡ Some other → ⊥
no_cause which config line other why.NoMemory accepted cause shown = cc
no_cause which config line other (why.NoRate c) accepted cause shown = accepted.rates c cause.there cause.none
no_cause which config line other (why.Sequences n) accepted cause shown = absurd (omega (arith, accepted.few, cause.more))
no_cause which config line other (why.Collision dir i f r sequence first second) accepted cause shown =
    none_collides config dir i f r sequence first second accepted.clear cause

not_unread : (which : Which) (text line other : List ℕ) → IsAccepted text line → IsUnread which text other → ⊥
not_unread which text line other good unread = by_error which text other good.reads.0 good.config unread.why good.reads.1 good.reads.2 unread.reads unread.shown

not_unaccepted : (which : Which) (text line other : List ℕ) → IsAccepted text line → IsUnaccepted which text other → ⊥
not_unaccepted which text line other good refused =
    let same : good.config ≡ refused.config = one_config text good.config refused.config good.reads refused.reads in
    no_cause which refused.config line other refused.refused.why (subst (λ c. IsAcceptedBy c line) same good.accepted) refused.refused.cause refused.refused.shown

pub one_judgement_as : (which : Which) (text line other : List ℕ) → IsAccepted text line → RefusesAs which text other → ⊥
one_judgement_as which text line other good refused = ⊎_elim (not_unread which text line other good) (not_unaccepted which text line other good) refused

pub one_judgement : (text line other : List ℕ) → IsAccepted text line → Refuses text other → ⊥
one_judgement text line other good refused = one_judgement_as First text line other good refused

-- what is accepted with its plans is accepted by its line
pub accepted_so : (text : List ℕ) (accepted : Planned) → IsAcceptedAs text accepted → IsAccepted text (accepted_line (count_of accepted.config))
accepted_so text accepted is = record {
  config = is.config;
  reads = is.reads;
  accepted = record { rates = is.is.rates; few = is.is.few; clear = is.is.clear; shown = ap (λ (c : Config). accepted_line (count_of c)) is.is.same };
}

-- a text has one configuration
pub same_config : (text other : List ℕ) (one two : Planned) → text ≡ other → IsAcceptedAs text one → IsAcceptedAs other two → one.config ≡ two.config
same_config text other one two same first second =
    first.is.same ∙ one_config other first.config second.config (subst (λ t. Reads t (Ok first.config)) same first.reads) second.reads ∙ sym second.is.same
