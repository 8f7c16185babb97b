use Rattle.std.proofs.Common.{◌∙◌, ap, sym, Some}
use Rattle.pddl_terms.specs.Words.{same_word}
use Rattle.pddl_terms.proofs.Sectioning.{section-end, section-word, section-here, section-other}
use Rattle.pddl_terms.proofs.sections.section.Goals as goal

pub returns-in-End : goal.returns-in-End
returns-in-End c = sym (section-end c.args.key.now _ _ c.in-End.ensures) ∙ c.loop-at.invariant

pub loop-at-preserved-in-Word : goal.loop-at-preserved-in-Word
loop-at-preserved-in-Word c = sym (section-word c.args.key.now _ _ _ c.in-Word.ensures.here) ∙ c.loop-at.invariant

pub returns-then-same_word : goal.returns-then-same_word
returns-then-same_word c = ap Some c.next.ensures.behind ∙ sym (section-here c.args.key.now _ _ _ _ c.in-List.ensures.here (ap (λ w. same_word w c.args.key.now) (sym c.word_ahead.ensures) ∙ sym c.same_word.ensures ∙ c.if-same_word.true)) ∙ c.loop-at.invariant

pub loop-at-preserved : goal.loop-at-preserved
loop-at-preserved c = sym (section-other c.args.key.now _ _ _ _ c.in-List.ensures.here (ap (λ w. same_word w c.args.key.now) (sym c.word_ahead.ensures) ∙ sym c.same_word.ensures ∙ c.if-same_word.false)) ∙ c.loop-at.invariant
