use Rattle.std.proofs.Common.{rules, ◌≡◌, ◌/◌, ℕ, List, map, length, vec_items, Vec, Global, sym, ap, ◌∙◌, arith}
use Rattle.std.proofs.lemmas.Result.{IfOk-weaker}
use Rattle.std.specs.Int.{w16, from_be_bytes}
use Rattle.std.specs.Simd.{first_chunks}
use Rattle.answers.specs.Bytes.{each2}
use Rattle.answers.proofs.Counts.{pairs_back}
use Rattle.answers.proofs.reading.counts_of.Goals as goal

pub returns : goal.returns
returns c =
    let bs = c.args.bytes.now in
    let n = length bs / 2 in
    let Read : Vec ℕ Global → Type 0 = λ v. vec_items v ≡ map (λ (p : List ℕ). from_be_bytes w16 p) (first_chunks 2 n bs) in
    let back = pairs_back n bs (omega (arith, c.requires.even)) (λ i. omega (arith, c.type_inv.bytes i)) in
    IfOk-weaker c.collect.result Read (λ v. bs ≡ each2 (vec_items v)) (λ v e. back ∙ ap each2 (sym e)) (search rules)
