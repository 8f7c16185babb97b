use Rattle.std.proofs.Common.{◌≡◌, ◌<◌, ◌^◌, true, drop, length, ◌≤◌}
use Rattle.std.specs.List.{list_all}
use Rattle.std.specs.Char.{is_ascii_digit}
use Rattle.basics.specs.Texts.{number, number_after}
use Rattle.command_words.proofs.values.number_of.Given as goal

-- the digits so far stand for n
abbrev pub invariant-loop-b : goal.invariant-loop-b
invariant-loop-b l = record {
  value : number_after l.n (drop l.b-index l.digits) ≡ number l.digits;
  all : list_all is_ascii_digit (drop l.b-index l.digits) ≡ true;
  few : length l.digits ≤ 10;
  small : l.n < 10 ^ l.b-index;
}
