-- Private: the words of a line of an ordering file as they are met, token by token.
use Rattle.std.specs.Prelude.{ℕ, List, if◌then◌else◌, Option, None, option_and_then, codes}
use Rattle.std.specs.Str.{bytes_eq}
use Rattle.plan_files.specs.declared.order_words.Doing.{Doing}
use Rattle.plan_files.specs.declared.order_words.Doing.TheVariants.{Start, End, Do}
use Rattle.plan_files.specs.WordsSeen.{runs_in_front}
use Rattle.plan_files.specs.WordScan.{run_first, mark_first, behind_runs, at_end}
use Rattle.plan_files.specs.OrderWords.{OrderWords, Acts, Timed, Pair}

abbrev pub acts_with : Doing → List ℕ × List (List ℕ) → Option OrderWords
acts_with what n = option_and_then (at_end (Acts what n.0 (runs_in_front n.1))) (mark_first 41 (behind_runs n.1))

abbrev pub acts_in : Doing → List (List ℕ) → Option OrderWords
acts_in what ts = option_and_then (acts_with what) (option_and_then run_first (mark_first 40 ts))

abbrev pub timed_in : List (List ℕ) → Option OrderWords
timed_in ts = option_and_then (λ m. at_end (Timed m.0) m.1) (run_first ts)

abbrev pub pair_with : List ℕ × List (List ℕ) → Option OrderWords
pair_with f = option_and_then (λ s. at_end (Pair f.0 s.0) s.1) (run_first f.1)

abbrev pub pair_in : List (List ℕ) → Option OrderWords
pair_in ts = option_and_then pair_with (run_first ts)

-- what comes behind the first word
abbrev pub behind_word : List ℕ → List (List ℕ) → Option OrderWords
behind_word word ts =
    if bytes_eq word (codes "start") then acts_in Start ts
    else (if bytes_eq word (codes "end") then acts_in End ts
    else (if bytes_eq word (codes "do") then acts_in Do ts
    else (if bytes_eq word (codes "timed") then timed_in ts
    else (if bytes_eq word (codes "pair") then pair_in ts else None))))

abbrev pub order_in : List (List ℕ) → Option OrderWords
order_in ts = option_and_then (λ w. behind_word w.0 w.1) (run_first ts)
