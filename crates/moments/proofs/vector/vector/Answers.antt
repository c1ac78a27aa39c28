use Rattle.std.proofs.Common.{◌≡◌, ℕ, get_or, vec_items, sym, ap, ◌∙◌, subst, arith}
use Rattle.std.proofs.lemmas.List.{get_or_read}
use Rattle.runs.specs.declared.counts.Counts.{Counts}
use Rattle.runs.specs.Model.{run_of, counts_of}
use Rattle.order.specs.Rows.{rows_in, none}
use Rattle.moments.specs.Vectors.{LowestWith}
use Rattle.moments.proofs.Lowest.{rows_lowest, vectors_lowest}
use Rattle.moments.proofs.vector.vector.Goals as goal

pub returns-clause-lowest : goal.returns-clause-lowest
returns-clause-lowest c =
    let o = c.args.ordered.now in
    let j = c.args.machine in
    let m = c.args.doing in
    let is : c.index-2.result.now ≡ rows_in o.run (vec_items o.rows) j m =
    get_or_read (vec_items o.rows) c.index.result c.index-2.result.now (omega (arith, c.index.ensures.within, o.long, o.rows.ok.0)) c.index-2.ensures none ∙ ap (λ (p : ℕ). get_or (vec_items o.rows) p none) c.index.ensures.here in
    let P : Counts → Type 0 = λ w. LowestWith (run_of o.run) j m (counts_of w) in
    subst P (sym is) (rows_lowest o j m c.requires.inside c.requires.some c.requires.done)

pub returns-clause-always : goal.returns-clause-always
returns-clause-always c = vectors_lowest
