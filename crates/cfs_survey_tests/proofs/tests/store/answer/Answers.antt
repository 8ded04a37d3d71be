use Rattle.std.proofs.Common.{arith}
use Rattle.cfs_survey_tests.proofs.tests.store.answer.Goals as goal

pub survey_words-requires : goal.survey_words-requires
survey_words-requires c = record {
  whole = record {
    table = omega arith;
    journal = omega arith;
    sizes = omega arith;
    slots = omega arith;
    tags = omega arith;
  };
}
