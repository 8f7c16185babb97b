-- Believed: the words of a plan line as they stand in it.
use Rattle.std.specs.Prelude.{ℕ, List, [], ◌∷◌, if◌then◌else◌, option_map}
use Rattle.plan_files.specs.declared.words.PlanText.{PlanText}
use Rattle.plan_files.specs.Tokens.{is_run, tokens}
use Rattle.plan_files.specs.PlanWords.{PlanWords}

-- the runs in front
abbrev pub runs_in_front : List (List ℕ) → List (List ℕ)
runs_in_front [] = []
runs_in_front (t ∷ ts) = if is_run t then t ∷ runs_in_front ts else []

-- The arguments are the runs in front of `args`.
abbrev pub words_seen : PlanText → PlanWords
words_seen t = record { start = t.start.now; name = t.name.now; args = runs_in_front (tokens t.args.now); duration = option_map (λ d. d.now) t.duration }
