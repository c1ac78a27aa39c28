use Rattle.std.proofs.Common.{ℕ, ◌^◌, ◌∙◌, rules, arith}
use Rattle.std.specs.List.{range_with_len}
use Rattle.std.proofs.lemmas.List.FromFn.{length-range_with_len}
use Rattle.std.proofs.lemmas.Iterator.{YieldsList-from_range, YieldsList-from_map}
use Rattle.std.proofs.lemmas.Iterator.Adapters.{fits_from_length, at_most_from_yields_List}
use Rattle.std.proofs.lemmas.Iterator.Consumers.{sum_by_from_yields_List}
use Rattle.runs.specs.Model.{amounts_of, counts_of}
use Rattle.exhaustive.proofs.Adding.{total_listed}
use Rattle.exhaustive.proofs.cut.Cut.sum.Goals as goal

pub sum-requires-clause-fits : goal.sum-requires-clause-fits
sum-requires-clause-fits c =
    let run = c.args.self.now.run.now in
    fits_from_length _ _ 40 (2 ^ 64) (at_most_from_yields_List (YieldsList-from_range 0 _ run.count c.map.ensures.source (omega arith)) (omega (arith, length-range_with_len 0 run.count, run.most))) c.map.ensures.closure (omega arith) (λ x r q k. search rules)

pub returns : goal.returns
returns c =
    let self = c.args.self.now in
    let run = self.run.now in
    let h : ℕ → ℕ = λ i. amounts_of run i (counts_of self.counts i) in
    sum_by_from_yields_List h (range_with_len 0 run.count) c.map.result c.sum.result c.sum.ensures.ran (YieldsList-from_map _ h (YieldsList-from_range 0 _ run.count c.map.ensures.source (omega arith)) c.map.ensures.closure (λ x r q k. search rules)) ∙ total_listed run.count (amounts_of run) (counts_of self.counts)
