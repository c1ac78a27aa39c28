use Rattle.std.proofs.Common.{◌≡◌, ℕ, List, ◌∷◌, ◌++◌, sym, ap, ◌∙◌, append_assoc, arith}
use Rattle.answers.specs.Bytes.{bytes8, answer_bytes, counted_bytes}
use Rattle.answers.specs.Model.{answer_of, counted_of}
use Rattle.answers.proofs.Counts.{ends}
use Rattle.answers.proofs.Fronts.{counted_same, to_may}
use Rattle.answers.proofs.reading.read_answer.Goals as goal

pub returns : goal.returns
returns c =
    let bs = c.args.bytes.now in
    let before = c.in-Some.before.now in
    let front = c.in-Some-split_last_chunk.front.now in
    let answer = c.in-Some-2.answer in
    let m = c.from_be_bytes.result in
    let n = c.from_be_bytes-2.result in
    let ways = ends bs before c.in-Some.ways.now n (λ i. omega (arith, c.type_inv.bytes i)) c.in-Some.ensures.cases c.from_be_bytes-2.ensures c.from_be_bytes-2.type_inv in
    let pairs = ends before front c.in-Some-split_last_chunk.pairs.now m ways.small c.in-Some-split_last_chunk.ensures.cases c.from_be_bytes.ensures c.from_be_bytes.type_inv in
    let said : front ≡ 77 ∷ answer_bytes (answer_of answer) = rw c.in-Some-2.is at c.in_ok-answer.ensures in
    let a = counted_of (record { answer = answer; pairs = m; ways = n }) in
    let is : bs ≡ counted_bytes a = ways.is ∙ ap (λ (x : List ℕ). x ++ bytes8 n) (pairs.is ∙ ap (λ (x : List ℕ). x ++ bytes8 m) said) ∙ append_assoc (77 ∷ answer_bytes (answer_of answer)) (bytes8 m) (bytes8 n) in
    (is, λ b to e. counted_same b a to (to_may answer) (sym e ∙ is), c.from_be_bytes.type_inv, c.from_be_bytes-2.type_inv)
