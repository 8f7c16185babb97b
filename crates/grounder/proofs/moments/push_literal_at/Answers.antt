use Rattle.std.proofs.Common.{ap, sym, ◌∙◌, ℕ, List}
use Rattle.grounder.specs.ShownGrounding.{ground_of}
use Rattle.grounder.specs.Task.{fact_number}
use Rattle.grounder.proofs.MomentSteps.{literal-left, literal-put}
use Rattle.grounder.proofs.moments.push_literal_at.Goals as goal

pub returns-then-not-becomes : goal.returns-then-not-becomes
returns-then-not-becomes c =
    literal-left (ground_of c.args.grounding.now) c.args.moment c.args.holds c.args.timing.now c.args.out.now (sym c.becomes.ensures ∙ c.if-not-becomes.true)

pub returns : goal.returns
returns c =
    literal-put (ground_of c.args.grounding.now) c.args.moment c.args.holds c.args.timing.now c.args.out.now _ c.fact_id.result (sym c.becomes.ensures ∙ c.if-not-becomes.false)
    (c.fact_id.ensures ∙ ap (λ (a : List ℕ). fact_number (ground_of c.args.grounding.now) a) c.as_slice.ensures) c.in_ok-push.ensures.ok
