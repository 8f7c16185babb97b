use Rattle.plan_files.proofs.NameLists.{FitLeft}
use Rattle.plan_files.proofs.names.fit.Given as goal

abbrev pub invariant-loop-i : goal.invariant-loop-i
invariant-loop-i l = FitLeft l.objects l.params l.i
