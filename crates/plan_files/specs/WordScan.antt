-- Private: the words of a plan line as they are met, token by token.
use Rattle.std.specs.Prelude.{ℕ, Bool, true, false, ◌==◌, List, [], ◌∷◌, if◌then◌else◌, Option, Some, None, option_map, option_and_then}
use Rattle.plan_files.specs.Tokens.{is_run}
use Rattle.plan_files.specs.PlanWords.{PlanWords}
use Rattle.plan_files.specs.WordsSeen.{runs_in_front}

-- the first token where it is a run, and the tokens behind it
abbrev pub run_first : List (List ℕ) → Option (List ℕ × List (List ℕ))
run_first [] = None
run_first (t ∷ ts) = if is_run t then Some (t, ts) else None

-- the token is this byte alone
abbrev pub behind_token : ℕ → List ℕ → List (List ℕ) → Option (List (List ℕ))
behind_token mark [] ts = None
behind_token mark (b ∷ []) ts = if b == mark then Some ts else None
behind_token mark (b ∷ c ∷ bs) ts = None

-- the tokens behind the first, where that is this mark
abbrev pub mark_first : ℕ → List (List ℕ) → Option (List (List ℕ))
mark_first mark [] = None
mark_first mark (t ∷ ts) = behind_token mark t ts

-- what is left behind the runs in front
abbrev pub behind_runs : List (List ℕ) → List (List ℕ)
behind_runs [] = []
behind_runs (t ∷ ts) = if is_run t then behind_runs ts else t ∷ ts

-- nothing is left
abbrev pub is_none_left : List (List ℕ) → Bool
is_none_left [] = true
is_none_left (t ∷ ts) = false

abbrev pub at_end : {A : Type 0} → A → List (List ℕ) → Option A
at_end x ts = if is_none_left ts then Some x else None

-- what is in the bracket, where there is one; nothing else may be left
abbrev pub bracketed : List (List ℕ) → Option (Option (List ℕ))
bracketed ts = option_and_then (λ f. option_and_then (at_end (Some f.0)) (mark_first 93 f.1)) (run_first ts)

abbrev pub bracket_at : Option (List (List ℕ)) → List (List ℕ) → Option (Option (List ℕ))
bracket_at (Some rest) ts = bracketed rest
bracket_at None ts = at_end None ts

abbrev pub bracket_in : List (List ℕ) → Option (Option (List ℕ))
bracket_in ts = bracket_at (mark_first 91 ts) ts

abbrev pub with_name : List ℕ → List ℕ × List (List ℕ) → Option PlanWords
with_name start n = option_map (λ d. record { start = start; name = n.0; args = runs_in_front n.1; duration = d })
    (option_and_then bracket_in (mark_first 41 (behind_runs n.1)))

abbrev pub with_start : List ℕ × List (List ℕ) → Option PlanWords
with_start s = option_and_then (with_name s.0) (option_and_then run_first (option_and_then (mark_first 40) (mark_first 58 s.1)))

-- the words that some tokens are made of
unfoldable pub words_in : List (List ℕ) → Option PlanWords
words_in ts = option_and_then with_start (run_first ts)
