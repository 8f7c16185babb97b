use Rattle.std.specs.Option.{option_map}
use Rattle.plan_files.specs.WordsSeen.{words_seen}
use Rattle.plan_files.proofs.WordsIn.{reads-words}
use Rattle.plan_files.proofs.words.read_words.Goals as goal

pub returns : goal.returns
returns c = reads-words c.args.line.now (option_map words_seen c.words_met.result) c.words_met.ensures
