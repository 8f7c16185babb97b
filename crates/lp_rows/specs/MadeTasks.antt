-- Believed: six small tasks that were made at random, for the rows that an independent program makes of them.
use Rattle.std.specs.Prelude.{ℕ, pos, ◌-ℤ◌, true, false, [], ◌∷◌, Some, None}
use Rattle.rational.specs.Rational.{ℚ, ratio}
use Rattle.exact_lin.specs.Forms.{LinearForm, Terms}
use Rattle.task_types.specs.declared.parts.TaskParts.{TaskParts}
use Rattle.task_types.specs.declared.parts.Rules.{Rules}
use Rattle.task_types.specs.declared.actions.SnapKind.TheVariants.{Start, End, Instant, Timed}

-- n / d, and - n / d
abbrev pub plus : ℕ → ℕ → ℚ
plus n d = ratio (pos n) d

abbrev pub minus : ℕ → ℕ → ℚ
minus n d = ratio (pos 0 -ℤ pos n) d

abbrev pub form : ℚ → Terms → LinearForm
form constant terms = record { constant = constant; terms = terms }

abbrev pub made_rules : Rules
made_rules = record { epsilon = plus 1 4; horizon = plus 12 1 }

abbrev pub task_one : TaskParts
task_one = record {
  objects = [];
  schemas = [];
  facts = (record { name = []; args = []; holds = false } ∷ []);
  fluents = (record { name = []; args = []; value = (plus 0 1) }
      ∷ record { name = []; args = []; value = (plus 4 1) } ∷ []);
  actions = (record {
    name = [];
    args = [];
    start = 0;
    end = (Some 1);
    bounds = (record { at_least = true; at_end = false; form = (form (plus 3 1) []) }
        ∷ record { at_least = false; at_end = false; form = (form (plus 3 1) []) } ∷ []);
    over_all = (record { literals = []; comparisons = ((form (plus 4 1) ((0, (plus 2 1)) ∷ (1, (minus 2 1)) ∷ [])) ∷ []) });
  } ∷ []);
  snaps = (record { kind = Start; action = (Some 0); condition = (record { literals = []; comparisons = [] }); effect = (record { adds = []; deletes = (0 ∷ []); assigns = []; increases = ((1, record { form = (form (plus 1 1) []); duration = (plus 0 1) }) ∷ []) }); rates = ((0, (minus 1 1)) ∷ (1, (minus 1 1)) ∷ []) }
      ∷ record { kind = End; action = (Some 0); condition = (record { literals = []; comparisons = [] }); effect = (record { adds = []; deletes = (0 ∷ []); assigns = []; increases = ((1, record { form = (form (minus 1 1) []); duration = (plus 0 1) }) ∷ []) }); rates = [] } ∷ []);
  timed = [];
  goal = (record { literals = []; comparisons = [] });
  hard = [];
  soft = [];
  metric = record { constant = (plus 1 1); last = (plus 1 1); fluents = (form (plus 0 1) []) };
}

abbrev pub task_two : TaskParts
task_two = record {
  objects = [];
  schemas = [];
  facts = (record { name = []; args = []; holds = false } ∷ []);
  fluents = (record { name = []; args = []; value = (plus 0 1) }
      ∷ record { name = []; args = []; value = (plus 1 1) } ∷ []);
  actions = (record { name = []; args = []; start = 0; end = (Some 1); bounds = (record { at_least = false; at_end = false; form = (form (plus 3 1) []) } ∷ []); over_all = (record { literals = (record { fact = 0; holds = false } ∷ []); comparisons = ((form (plus 4 1) ((0, (minus 1 1)) ∷ (1, (plus 1 1)) ∷ [])) ∷ []) }) }
      ∷ record { name = []; args = []; start = 2; end = None; bounds = []; over_all = (record { literals = []; comparisons = [] }) }
      ∷ record {
        name = [];
        args = [];
        start = 3;
        end = (Some 4);
        bounds = (record { at_least = true; at_end = false; form = (form (plus 2 1) []) }
            ∷ record { at_least = false; at_end = false; form = (form (plus 2 1) []) } ∷ []);
        over_all = (record { literals = []; comparisons = [] });
      } ∷ []);
  snaps = (record { kind = Start; action = (Some 0); condition = (record { literals = []; comparisons = ((form (plus 2 1) ((0, (plus 2 1)) ∷ (1, (plus 1 1)) ∷ [])) ∷ []) }); effect = (record { adds = []; deletes = []; assigns = []; increases = ((0, record { form = (form (plus 2 1) []); duration = (plus 0 1) }) ∷ (1, record { form = (form (minus 1 1) []); duration = (plus 0 1) }) ∷ []) }); rates = [] }
      ∷ record { kind = End; action = (Some 0); condition = (record { literals = []; comparisons = [] }); effect = (record { adds = (0 ∷ []); deletes = []; assigns = ((1, record { form = (form (plus 2 1) ((1, (minus 1 1)) ∷ [])); duration = (minus 1 1) }) ∷ []); increases = [] }); rates = [] }
      ∷ record { kind = Instant; action = (Some 1); condition = (record { literals = []; comparisons = [] }); effect = (record { adds = []; deletes = (0 ∷ []); assigns = ((1, record { form = (form (minus 2 1) []); duration = (plus 0 1) }) ∷ []); increases = [] }); rates = [] }
      ∷ record { kind = Start; action = (Some 2); condition = (record { literals = (record { fact = 0; holds = false } ∷ []); comparisons = [] }); effect = (record { adds = []; deletes = []; assigns = []; increases = ((0, record { form = (form (plus 2 1) ((0, (minus 2 1)) ∷ (1, (plus 1 1)) ∷ [])); duration = (plus 0 1) }) ∷ (1, record { form = (form (plus 0 1) ((0, (plus 2 1)) ∷ (1, (plus 2 1)) ∷ [])); duration = (plus 0 1) }) ∷ []) }); rates = [] }
      ∷ record { kind = End; action = (Some 2); condition = (record { literals = []; comparisons = [] }); effect = (record { adds = (0 ∷ []); deletes = []; assigns = ((0, record { form = (form (plus 3 1) ((0, (plus 1 1)) ∷ (1, (minus 1 1)) ∷ [])); duration = (plus 0 1) }) ∷ []); increases = [] }); rates = [] }
      ∷ record { kind = Timed; action = None; condition = (record { literals = []; comparisons = [] }); effect = (record { adds = (0 ∷ []); deletes = []; assigns = []; increases = [] }); rates = [] } ∷ []);
  timed = (((plus 2 1), 5) ∷ []);
  goal = (record { literals = []; comparisons = [] });
  hard = [];
  soft = [];
  metric = record { constant = (minus 1 1); last = (plus 2 1); fluents = (form (plus 0 1) ((0, (minus 1 1)) ∷ [])) };
}

abbrev pub task_three : TaskParts
task_three = record {
  objects = [];
  schemas = [];
  facts = (record { name = []; args = []; holds = false } ∷ []);
  fluents = (record { name = []; args = []; value = (plus 1 1) }
      ∷ record { name = []; args = []; value = (plus 3 1) } ∷ []);
  actions = (record {
    name = [];
    args = [];
    start = 0;
    end = (Some 1);
    bounds = (record { at_least = false; at_end = false; form = (form (plus 3 1) []) }
        ∷ record { at_least = true; at_end = true; form = (form (plus 1 1) ((0, (plus 2 1)) ∷ (1, (plus 1 1)) ∷ [])) }
        ∷ record { at_least = false; at_end = true; form = (form (plus 1 1) ((1, (plus 2 1)) ∷ [])) } ∷ []);
    over_all = (record {
      literals = (record { fact = 0; holds = false }
          ∷ record { fact = 0; holds = true } ∷ []);
      comparisons = [];
    });
  }
      ∷ record { name = []; args = []; start = 2; end = None; bounds = []; over_all = (record { literals = []; comparisons = [] }) }
      ∷ record { name = []; args = []; start = 3; end = None; bounds = []; over_all = (record { literals = []; comparisons = [] }) } ∷ []);
  snaps = (record { kind = Start; action = (Some 0); condition = (record { literals = []; comparisons = [] }); effect = (record { adds = []; deletes = []; assigns = []; increases = [] }); rates = ((0, (minus 1 1)) ∷ []) }
      ∷ record { kind = End; action = (Some 0); condition = (record { literals = []; comparisons = ((form (plus 2 1) []) ∷ []) }); effect = (record { adds = []; deletes = []; assigns = ((1, record { form = (form (minus 1 1) []); duration = (plus 0 1) }) ∷ []); increases = [] }); rates = [] }
      ∷ record { kind = Instant; action = (Some 1); condition = (record { literals = (record { fact = 0; holds = false } ∷ []); comparisons = ((form (plus 0 1) []) ∷ []) }); effect = (record { adds = []; deletes = []; assigns = ((1, record { form = (form (minus 1 1) []); duration = (plus 0 1) }) ∷ []); increases = ((0, record { form = (form (minus 1 1) []); duration = (plus 0 1) }) ∷ []) }); rates = [] }
      ∷ record { kind = Instant; action = (Some 2); condition = (record { literals = (record { fact = 0; holds = true } ∷ []); comparisons = ((form (plus 0 1) ((0, (plus 1 1)) ∷ [])) ∷ []) }); effect = (record { adds = (0 ∷ []); deletes = []; assigns = []; increases = [] }); rates = [] } ∷ []);
  timed = [];
  goal = (record { literals = (record { fact = 0; holds = true } ∷ []); comparisons = [] });
  hard = [];
  soft = [];
  metric = record { constant = (minus 1 1); last = (plus 0 1); fluents = (form (plus 0 1) ((0, (plus 1 1)) ∷ [])) };
}

abbrev pub task_four : TaskParts
task_four = record {
  objects = [];
  schemas = [];
  facts = (record { name = []; args = []; holds = false }
      ∷ record { name = []; args = []; holds = true } ∷ []);
  fluents = (record { name = []; args = []; value = (plus 2 1) }
      ∷ record { name = []; args = []; value = (plus 4 1) } ∷ []);
  actions = (record { name = []; args = []; start = 0; end = (Some 1); bounds = []; over_all = (record { literals = []; comparisons = [] }) } ∷ []);
  snaps = (record { kind = Start; action = (Some 0); condition = (record { literals = []; comparisons = [] }); effect = (record { adds = (0 ∷ []); deletes = []; assigns = []; increases = ((0, record { form = (form (minus 3 1) ((1, (minus 2 1)) ∷ [])); duration = (plus 1 1) }) ∷ []) }); rates = ((1, (minus 2 1)) ∷ []) }
      ∷ record { kind = End; action = (Some 0); condition = (record { literals = []; comparisons = [] }); effect = (record { adds = (0 ∷ []); deletes = []; assigns = ((1, record { form = (form (plus 1 1) ((1, (minus 2 1)) ∷ [])); duration = (plus 0 1) }) ∷ []); increases = ((0, record { form = (form (minus 3 1) []); duration = (plus 0 1) }) ∷ []) }); rates = [] } ∷ []);
  timed = [];
  goal = (record { literals = []; comparisons = [] });
  hard = [];
  soft = [];
  metric = record { constant = (plus 0 1); last = (plus 2 1); fluents = (form (plus 0 1) []) };
}

abbrev pub task_five : TaskParts
task_five = record {
  objects = [];
  schemas = [];
  facts = (record { name = []; args = []; holds = true }
      ∷ record { name = []; args = []; holds = false }
      ∷ record { name = []; args = []; holds = true } ∷ []);
  fluents = (record { name = []; args = []; value = (plus 3 1) } ∷ []);
  actions = (record {
    name = [];
    args = [];
    start = 0;
    end = (Some 1);
    bounds = (record { at_least = false; at_end = false; form = (form (plus 4 1) []) }
        ∷ record { at_least = true; at_end = true; form = (form (plus 1 1) ((0, (minus 1 1)) ∷ [])) }
        ∷ record { at_least = false; at_end = true; form = (form (plus 1 1) ((0, (plus 1 1)) ∷ [])) } ∷ []);
    over_all = (record { literals = (record { fact = 2; holds = true } ∷ []); comparisons = [] });
  } ∷ []);
  snaps = (record { kind = Start; action = (Some 0); condition = (record { literals = []; comparisons = ((form (plus 0 1) ((0, (minus 2 1)) ∷ [])) ∷ []) }); effect = (record { adds = []; deletes = []; assigns = []; increases = ((0, record { form = (form (minus 1 1) []); duration = (plus 0 1) }) ∷ []) }); rates = [] }
      ∷ record { kind = End; action = (Some 0); condition = (record { literals = []; comparisons = [] }); effect = (record { adds = []; deletes = (2 ∷ []); assigns = []; increases = ((0, record { form = (form (plus 1 1) []); duration = (plus 0 1) }) ∷ []) }); rates = [] } ∷ []);
  timed = [];
  goal = (record { literals = []; comparisons = [] });
  hard = [];
  soft = [];
  metric = record { constant = (plus 0 1); last = (plus 2 1); fluents = (form (plus 0 1) []) };
}

abbrev pub task_six : TaskParts
task_six = record {
  objects = [];
  schemas = [];
  facts = (record { name = []; args = []; holds = true }
      ∷ record { name = []; args = []; holds = true } ∷ []);
  fluents = (record { name = []; args = []; value = (plus 1 1) }
      ∷ record { name = []; args = []; value = (plus 3 1) }
      ∷ record { name = []; args = []; value = (plus 1 1) } ∷ []);
  actions = (record {
    name = [];
    args = [];
    start = 0;
    end = (Some 1);
    bounds = (record { at_least = false; at_end = false; form = (form (plus 1 1) []) }
        ∷ record { at_least = true; at_end = false; form = (form (plus 1 1) ((1, (plus 2 1)) ∷ [])) } ∷ []);
    over_all = (record { literals = []; comparisons = ((form (plus 0 1) ((2, (minus 2 1)) ∷ [])) ∷ []) });
  }
      ∷ record { name = []; args = []; start = 2; end = (Some 3); bounds = []; over_all = (record { literals = []; comparisons = ((form (plus 1 1) ((2, (plus 1 1)) ∷ [])) ∷ []) }) } ∷ []);
  snaps = (record { kind = Start; action = (Some 0); condition = (record { literals = []; comparisons = [] }); effect = (record { adds = (0 ∷ []); deletes = []; assigns = []; increases = [] }); rates = ((2, (minus 2 1)) ∷ []) }
      ∷ record { kind = End; action = (Some 0); condition = (record { literals = []; comparisons = [] }); effect = (record { adds = []; deletes = []; assigns = []; increases = [] }); rates = [] }
      ∷ record { kind = Start; action = (Some 1); condition = (record { literals = (record { fact = 1; holds = true } ∷ []); comparisons = ((form (plus 4 1) ((2, (minus 2 1)) ∷ [])) ∷ []) }); effect = (record { adds = []; deletes = []; assigns = []; increases = [] }); rates = ((2, (plus 2 1)) ∷ []) }
      ∷ record { kind = End; action = (Some 1); condition = (record { literals = []; comparisons = [] }); effect = (record { adds = (0 ∷ 1 ∷ []); deletes = []; assigns = ((0, record { form = (form (plus 1 1) ((0, (minus 1 1)) ∷ (1, (plus 1 1)) ∷ [])); duration = (plus 0 1) }) ∷ []); increases = ((2, record { form = (form (plus 2 1) []); duration = (plus 1 1) }) ∷ []) }); rates = [] } ∷ []);
  timed = [];
  goal = (record { literals = []; comparisons = [] });
  hard = [];
  soft = [];
  metric = record { constant = (plus 1 1); last = (plus 2 1); fluents = (form (plus 0 1) ((0, (minus 1 1)) ∷ [])) };
}
