-- What words are read as.
use Rattle.std.specs.Prelude.{ℕ, List}
use Rattle.hv_data.specs.Reading.{AreWordsOf}
use Rattle.hv_name.specs.declared.name.StepName.{StepName}
use Rattle.hv_answer.specs.declared.reply.Reply.{Reply}
use Rattle.hv_answer.specs.Reply.{reply_words, IsReplyOf}

-- The words are those of a reply of the step.
abbrev pub AreReplyWords : StepName → List (List ℕ) → Reply → Type 0
AreReplyWords word words r = AreWordsOf (IsReplyOf word) reply_words words r
