use Rattle.std.proofs.Common.{◌∙◌, ap, sym}
use Rattle.pddl_terms.specs.Words.{same_word}
use Rattle.pddl_terms.proofs.Sectioning.{behind_word-end, behind_word-list, behind_word-here, behind_word-other}
use Rattle.pddl_terms.proofs.sections.behind_word.Goals as goal

pub returns-in-End : goal.returns-in-End
returns-in-End c = sym (behind_word-end c.args.key.now _ _ c.in-End.ensures) ∙ c.loop-token.invariant

pub loop-token-preserved-in-List : goal.loop-token-preserved-in-List
loop-token-preserved-in-List c = sym (behind_word-list c.args.key.now _ _ _ _ c.in-List.ensures.here) ∙ c.loop-token.invariant

pub returns-then-same_word : goal.returns-then-same_word
returns-then-same_word c = sym (behind_word-here c.args.key.now _ _ _ c.in-Word.ensures.here (ap (λ w. same_word w c.args.key.now) (sym c.word_bytes.ensures) ∙ sym c.same_word.ensures ∙ c.if-same_word.true)) ∙ c.loop-token.invariant

pub loop-token-preserved : goal.loop-token-preserved
loop-token-preserved c = sym (behind_word-other c.args.key.now _ _ _ c.in-Word.ensures.here (ap (λ w. same_word w c.args.key.now) (sym c.word_bytes.ensures) ∙ sym c.same_word.ensures ∙ c.if-same_word.false)) ∙ c.loop-token.invariant
