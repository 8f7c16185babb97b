use Rattle.std.proofs.Common.{◌∙◌, ap, rules}
use Rattle.std.proofs.lemmas.Fn.{always_returns_same}
use Rattle.task_types.specs.Reckoned.{by_start}
use Rattle.timed_meaning.specs.Owned.{lines_of}
use Rattle.timed_meaning.proofs.Starts.{sorted-is, tie}
use Rattle.timed_meaning.proofs.Followed.{lines-placed}
use Rattle.timed_meaning.proofs.placing.lines_by_start.Goals as goal

pub returns-clause-starts : goal.returns-clause-starts
returns-clause-starts c = sorted-is c.in_ok-out.out.items c.sort_by_key.new.self.items
    (c.in_ok-sort_by_key.ensures.sorted (λ p. p.line.at) (always_returns_same _ _ _ (λ a r q k. search rules)))
    (λ t. c.in_ok-sort_by_key.ensures.stable (λ p. p.line.at) (always_returns_same _ _ _ (λ a r q k. search rules)) (tie t))
    ∙ ap by_start (ap lines_of c.in_ok-out.ensures ∙ lines-placed 0 c.args.lines.now)
