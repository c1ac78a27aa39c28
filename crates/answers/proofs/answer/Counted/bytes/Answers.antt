use Rattle.std.proofs.Common.{[], ◌∷◌, ◌++◌, vec_items, ◌∙◌, arith}
use Rattle.answers.specs.Bytes.{bytes8, answer_bytes}
use Rattle.answers.specs.Model.{answer_of}
use Rattle.answers.proofs.Counts.{eight_bytes, said, behind}
use Rattle.answers.proofs.answer.Counted.bytes.Goals as goal

pub returns : goal.returns
returns c =
    let a = c.args.self.now in
    let out = vec_items c.put.new.out in
    let answer = answer_bytes (answer_of a.answer) in
    let steps = bytes8 a.pairs ++ bytes8 a.ways in
    let pairs = said out c.in_ok-extend_from_slice.ensures.items (c.to_be_bytes.ensures ∙ eight_bytes a.pairs (omega arith)) in
    let ways = said (vec_items c.extend_from_slice.new.self) c.in_ok-extend_from_slice-2.ensures.items (c.to_be_bytes-2.ensures ∙ eight_bytes a.ways (omega arith)) in
    let all = behind (vec_items c.push.new.self) answer steps c.in_ok-put.ensures (behind out (bytes8 a.pairs) (bytes8 a.ways) pairs ways) in
    behind [] [] (77 ∷ (answer ++ steps)) c.new-bytes.ensures.items (behind (vec_items c.new-bytes.result) (77 ∷ []) (answer ++ steps) c.in_ok-push.ensures.items all)
