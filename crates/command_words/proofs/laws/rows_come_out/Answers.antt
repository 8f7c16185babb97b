use Rattle.std.proofs.Common.{refl}
use Rattle.command_words.specs.Grammar.{words_read, places_read}
use Rattle.command_words.specs.Rows.{RowsComeOut}
use Rattle.command_words.proofs.laws.rows_come_out.Goals as goal

rows : RowsComeOut
unfolding words_read places_read
rows = record {
  plain = refl;
  value_behind = refl;
  value_joined = refl;
  empty_value = refl;
  lone_dash = refl;
  behind_dashes = refl;
  repeated = refl;
  dashed_value = refl;
  no_value = refl;
  another_command = refl;
  name_begun = refl;
  help = refl;
  short_help = refl;
  two_files = refl;
  four_files = refl;
}

pub returns : goal.returns
returns c = rows
