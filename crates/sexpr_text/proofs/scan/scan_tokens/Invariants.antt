use Rattle.std.proofs.Common.{length, ◌-◌}
use Rattle.sexpr_text.specs.Scan.{Scanned}
use Rattle.sexpr_text.proofs.scan.scan_tokens.Given as goal

abbrev pub invariant-loop-scanner : goal.invariant-loop-scanner
invariant-loop-scanner l = Scanned l.text l.scanner.at l.scanner.depth l.scanner.outermost l.scanner.tokens.items

abbrev pub decreases-loop-scanner : goal.decreases-loop-scanner
decreases-loop-scanner l = length l.text - l.scanner.at
