use Rattle.std.proofs.lemmas.List.{nil_from_length}
use Rattle.pddl_forms.proofs.KeysApart.{word-step, word-end}
use Rattle.pddl_forms.proofs.keys.push_word.Goals as goal

pub loop-byte-preserved : goal.loop-byte-preserved
loop-byte-preserved c = word-step _ _ _ _ _ _ _ c.in-Some.ensures.cases.0 c.in_ok-push.ensures.items c.in_ok-push-2.ensures.items c.loop-byte.invariant

pub returns : goal.returns
returns c = word-end _ _ _ c.loop-byte.left.now (nil_from_length c.loop-byte.left.now c.in_default.ensures.cases) c.in_ok-push-3.ensures.items c.loop-byte.invariant
