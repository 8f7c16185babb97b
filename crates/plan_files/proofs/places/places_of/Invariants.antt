use Rattle.std.proofs.Common.{vec_len}
use Rattle.plan_files.proofs.Filling.{Filled}
use Rattle.plan_files.proofs.places.places_of.Given as goal

-- the places of all keys but the first ones, which are left, are there
abbrev pub invariant-loop-key : goal.invariant-loop-key
invariant-loop-key l = Filled l.fn.keys.items l.keys.items l.places

abbrev pub decreases-loop-key : goal.decreases-loop-key
decreases-loop-key l = vec_len l.keys
