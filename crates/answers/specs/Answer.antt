-- Questions, answers and replies.
-- Assumes nothing.
use Rattle.std.specs.Prelude.{ℕ, List}
use Rattle.records.specs.declared.refusal.Refusal.{Refusal}
use Rattle.moments.specs.Stretches.{Stretch}

pub data Question : Type 0 where
  may : Question
  must : Question
  least : Question
  most : Question

-- cuts by machine; a way as the machine of each next doing; flows machine by machine, of each doing that to the one before, 0 for the first, and then, if it gets a letter, that to its sending
pub data Answer : Type 0 where
  may_yes : (cut : List ℕ) → Answer
  may_no : Answer
  must_yes : (stretches : List Stretch) → Answer
  must_no : (way : List ℕ) → Answer
  least : (sum : ℕ) (cut flows : List ℕ) → Answer
  most : (sum : ℕ) (cut flows : List ℕ) → Answer

-- an answer with the counts of steps: pairs of numbers compared, ways of flow
pub record Counted : Type 0 where
  pub answer : Answer
  pub pairs : ℕ
  pub ways : ℕ

pub data Reply : Type 0 where
  answered : Counted → Reply
  refused : Refusal → Reply
