-- The touches of small tasks.
use Rattle.std.proofs.Common.{refl}
use Rattle.task_types.specs.Touch.{tokens, touches_of}
use Rattle.task_types.specs.ExampleTouches.{TouchesComeOut, TokensComeOut}

pub touches_come_out : TouchesComeOut
unfolding tokens touches_of
touches_come_out = record {
  tank_start = refl;
  tank_leak_end = refl;
  flags_set = refl;
  flags_use = refl;
  meters_a = refl;
  pair_watch_hold = refl;
  pair_watch_up = refl;
  pair_watch_down = refl;
  gate_start = refl;
  gate_end = refl;
  gate_opens = refl;
  late_bound_at_start = refl;
  late_bound_at_end = refl;
  early_bound_at_start = refl;
}

pub tokens_come_out : TokensComeOut
unfolding tokens
tokens_come_out = record {
  a_meter = refl;
  preferred = refl;
  assigned = refl;
}
