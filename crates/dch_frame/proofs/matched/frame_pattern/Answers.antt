use Rattle.std.proofs.Common.{◌≡◌, ℕ, ap, ◌∙◌, sym, refl, arith}
use Rattle.dch_inter.specs.Places.{first_column}
use Rattle.dch_frame.specs.declared.pattern.Kind.{Kind}
use Rattle.dch_frame.specs.declared.pattern.Pattern.{Pattern}
use Rattle.dch_frame.specs.Matched.{matched, frame_start, frame_pattern}
use Rattle.dch_frame.proofs.Changes.{below-same}
use Rattle.dch_frame.proofs.MatchedLemmas.{matched_kept, matched_formed}
use Rattle.dch_frame.proofs.matched.frame_pattern.Goals as goal

pub returns-then-n-eq0-clause-value : goal.returns-then-n-eq0-clause-value
unfolding frame_pattern
returns-then-n-eq0-clause-value c = rw c.if-n-eq0.true refl

pub returns-then-n-eq0-clause-formed : goal.returns-then-n-eq0-clause-formed
returns-then-n-eq0-clause-formed c = record { short = omega arith; steps = tt; few = omega (arith, below-same 0) }

pub returns-then-n-eq0-clause-kept : goal.returns-then-n-eq0-clause-kept
returns-then-n-eq0-clause-kept c = below-same 0 ∙ sym (c.requires.none c.if-n-eq0.true)

pub returns-clause-value : goal.returns-clause-value
unfolding frame_pattern
returns-clause-value c =
    let n : ℕ = c.args.n in
    let sent : ℕ = c.args.sent in
    let start : c.frame_start-e_ini.result ≡ frame_start n sent c.args.frames (first_column c.args.frames c.args.at) = c.frame_start-e_ini.ensures.value ∙ ap (frame_start n sent c.args.frames) c.column-column.ensures.value in
    let pattern : Kind → Pattern = λ kind. record { len = n; kind = kind } in
    ap pattern (c.matched.ensures ∙ ap (matched n sent) start)

pub returns-clause-formed : goal.returns-clause-formed
returns-clause-formed c = rw c.matched.ensures (matched_formed c.args.n c.args.sent c.frame_start-e_ini.result c.args.n c.requires.short c.requires.sent c.requires.none (λ _. (c.frame_start-e_ini.ensures.least, c.frame_start-e_ini.ensures.most)) (omega arith))

pub returns-clause-kept : goal.returns-clause-kept
returns-clause-kept c = rw c.matched.ensures (matched_kept c.args.n c.args.sent c.frame_start-e_ini.result c.requires.short c.requires.sent c.requires.none (λ _. (c.frame_start-e_ini.ensures.least, c.frame_start-e_ini.ensures.most)))
