-- The numbers and the bytes of questions, answers and replies, high byte first.
-- Assumes nothing.
use Rattle.std.specs.Prelude.{ℕ, ◌/◌, ◌%◌, ◌^◌, List, [], ◌∷◌, ◌++◌}
use Rattle.std.specs.List.{flat_map}
use Rattle.records.specs.Record.{bytes2, bytes4}
use Rattle.moments.specs.Stretches.{Stretch}
use Rattle.answers.specs.Answer as said
use Rattle.answers.specs.Answer.{Question, Answer, Counted, may_yes, may_no, must_yes, must_no}

abbrev pub question_number : Question → ℕ
question_number said.Question.may = 1
question_number said.Question.must = 2
question_number said.Question.least = 3
question_number said.Question.most = 4

abbrev pub bytes8 : ℕ → List ℕ
bytes8 n = bytes4 (n / 2 ^ 32) ++ bytes4 (n % 2 ^ 32)

abbrev pub each2 : List ℕ → List ℕ
each2 xs = flat_map bytes2 xs

abbrev pub each8 : List ℕ → List ℕ
each8 xs = flat_map bytes8 xs

abbrev pub stretches_bytes : List Stretch → List ℕ
stretches_bytes [] = []
stretches_bytes (t ∷ ts) = bytes2 t.from ++ (bytes2 t.to ++ stretches_bytes ts)

-- the question's number, 1 for yes, least and most or 0 for no, and what shows it
abbrev pub answer_bytes : Answer → List ℕ
answer_bytes (may_yes cut) = question_number said.Question.may ∷ (1 ∷ each2 cut)
answer_bytes may_no = question_number said.Question.may ∷ (0 ∷ [])
answer_bytes (must_yes stretches) = question_number said.Question.must ∷ (1 ∷ stretches_bytes stretches)
answer_bytes (must_no way) = question_number said.Question.must ∷ (0 ∷ way)
answer_bytes (said.Answer.least sum cut flows) = question_number said.Question.least ∷ (1 ∷ (bytes8 sum ++ (each2 cut ++ each8 flows)))
answer_bytes (said.Answer.most sum cut flows) = question_number said.Question.most ∷ (1 ∷ (bytes8 sum ++ (each2 cut ++ each8 flows)))

-- 77, the answer, and behind it the counts of steps
abbrev pub counted_bytes : Counted → List ℕ
counted_bytes a = 77 ∷ (answer_bytes a.answer ++ (bytes8 a.pairs ++ bytes8 a.ways))
