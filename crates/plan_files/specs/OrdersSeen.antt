-- Private: the words of a line of an ordering file as they stand in it.
use Rattle.plan_files.specs.declared.order_words.OrderText.{OrderText}
use Rattle.plan_files.specs.declared.order_words.OrderText.TheVariants as text
use Rattle.plan_files.specs.Tokens.{tokens}
use Rattle.plan_files.specs.WordsSeen.{runs_in_front}
use Rattle.plan_files.specs.OrderWords.{OrderWords, Acts, Timed, Pair}

-- The arguments are the runs in front of `args`.
abbrev pub order_seen : OrderText → OrderWords
order_seen (text.Acts what name args) = Acts what name.now (runs_in_front (tokens args.now))
order_seen (text.Timed moment) = Timed moment.now
order_seen (text.Pair first second) = Pair first.now second.now
