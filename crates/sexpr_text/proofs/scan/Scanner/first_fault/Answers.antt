use Rattle.std.proofs.Common.{◌≡◌, arith, subst}
use Rattle.sexpr_text.specs.Scan.{Scanned}
use Rattle.sexpr_text.proofs.Faults.{first_is_outermost, first_with_lists, first_without_lists}
use Rattle.sexpr_text.proofs.scan.Scanner.first_fault.Goals as goal
use Rattle.sexpr_text.proofs.scan.Scanner.first_fault.Goals.{else-self-gt0-via-then-self-gt0+else-not-all_close, else-self-gt0-via-else-self-gt0}

pub returns-then-not-all_close : goal.returns-then-not-all_close
returns-then-not-all_close c = first_is_outermost _ _ _ _ _ c.requires.scanned c.if-self-gt0.true c.if-not-all_close.ensures

pub returns : goal.returns
returns c =
    elim c.else-self-gt0.branch [
      | else-self-gt0-via-then-self-gt0+else-not-all_close w ↦ first_with_lists _ _ _ _ _ c.requires.scanned w.if-not-all_close.ensures _ c.requires.fault c.requires.here
      | else-self-gt0-via-else-self-gt0 w ↦
          let none : c.args.self.now.depth ≡ 0 = omega (arith, w.if-self-gt0.false) in
          first_without_lists _ _ _ _ (subst (λ depth. Scanned c.args.text.now c.args.self.now.at depth c.args.self.now.outermost c.args.self.now.tokens.items) none c.requires.scanned) _ c.requires.fault c.requires.here
    ]
