use Rattle.std.proofs.Common.{◌≡◌, Bool, ltb, cond, ap, refl, ◌∙◌, rules, arith}
use Rattle.std.specs.Option.{option_or}
use Rattle.runs.specs.Model.{run_of, signs_of, amounts_of}
use Rattle.runs.proofs.Linked.{linked}
use Rattle.exhaustive.proofs.Turning.{cut_of}
use Rattle.exhaustive.proofs.Surveying.{one_more}
use Rattle.exhaustive.proofs.findings.Findings.with.Goals as goal

pub overflow_add-result : goal.overflow_add-result
overflow_add-result c = let of = cut_of c.args.cut.now.run.now c.args.cut.now refl in record { fits = omega (arith, of.within, of.few, c.requires.seen.few) }

pub returns : goal.returns
returns c =
    let x = c.args.self in
    let cut = c.args.cut.now in
    let run = cut.run.now in
    let sum = c.sum.result in
    let less : (b : Bool) × (b ≡ ltb sum x.least.sum) × (c.or_better.result ≡ cond b (record { sum = sum; at = cut.counts }) x.least) = (c.or_better.ensures.0, search rules, c.or_better.ensures.2) in
    let more : (b : Bool) × (b ≡ ltb x.most.sum sum) × (c.or_better-2.result ≡ cond b (record { sum = sum; at = cut.counts }) x.most) = (c.or_better-2.ensures.0, search rules, c.or_better-2.ensures.2) in
    one_more (run_of run) (linked run).range cut.counts cut.inside (signs_of run) (amounts_of run) cut.number cut.numbered x _ c.all_yes.result sum c.requires.moment c.all_yes.ensures c.sum.ensures refl (c.or.ensures ∙ ap (option_or x.first) c.then_some.ensures) less more c.requires.seen
