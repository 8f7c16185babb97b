use Rattle.std.proofs.Common.{arith, sym}
use Rattle.sexpr_text.proofs.Scanning.{scanned_run, scanned_same, scanned_few}
use Rattle.sexpr_text.proofs.scan.Scanner.read_run.Goals as goal

pub push-requires-clause-count : goal.push-requires-clause-count
push-requires-clause-count c =
    let few = scanned_few _ _ _ _ _ c.requires.scanned in
    omega (arith, c.requires.small)

pub returns-in_ok-push-in-Ok-clause-scanned : goal.returns-in_ok-push-in-Ok-clause-scanned
returns-in_ok-push-in-Ok-clause-scanned c =
    let pushed = c.in_ok-push-in-Ok.ensures in
    scanned_same _ _ _ _ _ _ _ _ _ pushed.at pushed.depth pushed.outermost pushed.tokens
    (scanned_run _ _ _ _ _ _ _ c.requires.scanned c.requires.run (sym c.in-Ok.ensures) c.requires.within c.requires.clear)
