use Rattle.std.proofs.Common.{◌∙◌, ap, drop}
use Rattle.std.proofs.lemmas.List.{take_rest}
use Rattle.timed_meaning.proofs.Left.{drop-run}
use Rattle.timed_meaning.proofs.times.after_run.Goals as goal

pub returns : goal.returns
returns c = take_rest c.args.steps.now c.run_length-length.result ∙ ap (λ n. drop n c.args.steps.now) c.run_length-length.ensures.value ∙ drop-run c.args.time c.args.steps.now
