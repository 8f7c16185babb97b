use Rattle.std.proofs.Common.{◌≡◌, ◌++◌, take}
use Rattle.std.specs.List.{flat_map, enumerate_from}
use Rattle.task_types.specs.Touch.{comparison_tokens}
use Rattle.task_types.proofs.touches.tokens.push_all_comparison_tokens.Given as goal

abbrev pub invariant-loop-place : goal.invariant-loop-place
invariant-loop-place l = l.out ≡ l.fn.out ++ flat_map (λ a. comparison_tokens a.0 a.1) (enumerate_from 0 (take l.place l.actions))
