use Rattle.std.proofs.Common.{refl}
use Rattle.plan_files.specs.Tokens.{tokens}
use Rattle.plan_files.proofs.laws.lines_come_out.Goals as goal

pub returns : goal.returns
unfolding tokens
returns c = record { spread = refl; tight = refl; nothing = refl; written = refl }
