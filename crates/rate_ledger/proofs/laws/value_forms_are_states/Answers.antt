use Rattle.task_types.proofs.Happenings.{among}
use Rattle.task_types.specs.Touch.{tokens}
use Rattle.rate_ledger.proofs.InTime.{at_end, seen_before, seen_after, bent_alone}
use Rattle.rate_ledger.proofs.laws.value_forms_are_states.Goals as goal

pub returns : goal.returns
returns c = record {
  seen_before = λ task rules o times k f h l s. seen_before task rules o times h k l f s;
  seen_after = λ task rules o times k f h l s. seen_after task rules o times h k l f s;
  bent = λ task rules o times k t h l m b n. bent_alone task rules o times h k l t (among t (tokens task) m) b n;
  last = λ task rules o times f h. at_end task rules o times h f;
}
