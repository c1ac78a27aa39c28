-- What questions, answers and replies of the program stand for, and what reading an answer promises.
-- Assumes nothing.
use Rattle.std.specs.Prelude.{◌≡◌, ℕ, ◌^◌, ◌<◌, List, ◌∷◌, Some, None, vec_items, Option, ◌≢◌}
use Rattle.answers.specs.declared.question.Question as code
use Rattle.answers.specs.declared.question.Question.TheVariants as questions
use Rattle.answers.specs.declared.answer.Answer as code_answer
use Rattle.answers.specs.declared.answer.Answer.TheVariants as answers
use Rattle.answers.specs.declared.answer.Counted as code_counted
use Rattle.answers.specs.Answer as said
use Rattle.answers.specs.Bytes.{answer_bytes, counted_bytes}

abbrev pub question_of : code.Question → said.Question
question_of questions.May = said.Question.may

abbrev pub answer_of : code_answer.Answer → said.Answer
answer_of (answers.MayYes cut) = said.Answer.may_yes (vec_items cut)
answer_of answers.MayNo = said.Answer.may_no

abbrev pub counted_of : code_counted.Counted → said.Counted
counted_of a = record { answer = answer_of a.answer; pairs = a.pairs; ways = a.ways }

abbrev pub ToMay : said.Answer → Type 0
ToMay (said.Answer.may_yes cut) = Unit {0}
ToMay said.Answer.may_no = Unit {0}
ToMay (said.Answer.must_yes ts) = ⊥
ToMay (said.Answer.must_no way) = ⊥
ToMay (said.Answer.least sum cut flows) = ⊥
ToMay (said.Answer.most sum cut flows) = ⊥

-- the bytes are those of this answer to may, and of no other; or of none
abbrev pub AnswerRead : List ℕ → Option code_counted.Counted → Type 0
AnswerRead bs None = (a : said.Counted) → ToMay a.answer → bs ≢ counted_bytes a
AnswerRead bs (Some a) = (bs ≡ counted_bytes (counted_of a)) × ((b : said.Counted) → ToMay b.answer → bs ≡ counted_bytes b → b ≡ counted_of a) × (a.pairs < 2 ^ 64) × (a.ways < 2 ^ 64)

-- the same of what stands before the counts of steps
abbrev pub FrontRead : List ℕ → Option code_answer.Answer → Type 0
FrontRead fs None = (a : said.Answer) → ToMay a → fs ≢ 77 ∷ answer_bytes a
FrontRead fs (Some a) = fs ≡ 77 ∷ answer_bytes (answer_of a)
