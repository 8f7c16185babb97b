use Rattle.sexpr_text.proofs.Scanning.{scanned_gap}
use Rattle.sexpr_text.proofs.scan.Scanner.step.Goals as goal

pub returns-in-Gap-clause-scanned : goal.returns-in-Gap-clause-scanned
returns-in-Gap-clause-scanned c = scanned_gap _ _ _ _ _ _ c.requires.scanned c.in-Gap.ensures
