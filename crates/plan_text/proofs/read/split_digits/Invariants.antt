use Rattle.std.proofs.Common.{◌≡◌, ◌++◌, ◌-◌, ◌≤◌, length, take, drop}
use Rattle.plan_text.specs.Reading.{front_of, rest_of}
use Rattle.plan_text.proofs.read.split_digits.Given as goal

abbrev pub invariant-loop-n : goal.invariant-loop-n
invariant-loop-n l = record {
  within : l.n ≤ length l.text;
  front : take l.n l.text ++ front_of (drop l.n l.text) ≡ front_of l.text;
  rest : rest_of (drop l.n l.text) ≡ rest_of l.text;
}

abbrev pub decreases-loop-n : goal.decreases-loop-n
decreases-loop-n l = length l.text - l.n
