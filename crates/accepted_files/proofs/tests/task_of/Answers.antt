use Rattle.std.proofs.Common.{ℕ, ◌≤◌, length, arith}
use Rattle.accepted_files.proofs.Promises.{readers_promise}
use Rattle.accepted_files.proofs.tests.task_of.Goals as goal

pub ground-requires : goal.ground-requires
ground-requires c =
    let domain_short : length c.args.domain.now ≤ 1048576 = omega (arith, c.if-domain-gt-LONGEST.false) in
    let problem_short : length c.args.problem.now ≤ 1048576 = omega (arith, c.if-problem-gt-LONGEST.false) in
    record {
      accepted = readers_promise c.args.domain.now c.args.problem.now c.in-Ok.domain c.in-Ok-read_problem.problem domain_short problem_short
          c.in-Ok.ensures.read c.in-Ok-read_problem.ensures.read;
    }
