use Rattle.std.proofs.Common.{◌≡◌, ◌<◌, length, get_or, set, refl, ap, ◌∙◌, arith}
use Rattle.std.proofs.lemmas.List.{get_or-set_same, get_or-set_other}
use Rattle.runs.specs.declared.counts.Counts.{Counts}
use Rattle.runs.specs.Model.{sending_of, counts_of}
use Rattle.runs.specs.Shape.{index}
use Rattle.runs.proofs.Places.{same_index, set_here, set_rest}
use Rattle.runs.proofs.Linked.{linked}
use Rattle.order.specs.Rows.{vectors_in, none}
use Rattle.order.proofs.OneMore.{done_next}
use Rattle.order.proofs.Joins.{joined_more, joined_few, for_few}
use Rattle.order.proofs.vectors.step.Goals as goal

pub overflow_add-result : goal.overflow_add-result
overflow_add-result c =
    let run = c.args.run.now in
    let told = c.in_ok-row.ensures in
    record { fits = omega (arith, joined_few run (counts_of c.args.so_far.cut) c.args.so_far.pairs c.in_ok-row.pairs c.requires.done.moment c.requires.joined (omega (arith, told.2, for_few run.count (sending_of run c.args.machine c.in_ok-next.next), run.most))) }

pub returns : goal.returns
returns c =
    let run = c.args.run.now in
    let rows = c.args.rows.now in
    let cut = c.args.so_far.cut in
    let j = c.args.machine in
    let m = c.in_ok-next.next in
    let row = c.in_ok-row.row in
    let told = c.in_ok-row.ensures in
    let next = c.in_ok-next.ensures in
    let p = index run.starts j m in
    let p< : p < length rows = omega (arith, run.inside j c.requires.inside, c.requires.long, next.1) in
    let at : get_or (set rows p row) p none ≡ row = get_or-set_same rows p row none p< in
    let few : j < 40 = omega (arith, c.requires.inside, run.most) in
    let here : counts_of c.with.result j ≡ m = set_here cut c.with.result j m few c.with.ensures in
    let rest = set_rest cut c.with.result j m few c.with.ensures in
    rw c.index.ensures.here (record {
      done = done_next (linked run) c.requires.done j (counts_of cut j) m c.requires.inside refl next.0 next.1 told.0
          (vectors_in run (set rows p row))
          (ap (λ (w : Counts). counts_of w j) at ∙ told.1.0)
          (λ k k< ne. ap (λ (w : Counts). counts_of w k) at ∙ told.1.1 k k< ne)
          (λ a b a< b≤. ap counts_of (get_or-set_other rows p (index run.starts a b) row none (λ e.
          let same = same_index run.count run.did run.starts run.apart a b j m a< c.requires.inside (omega (arith, c.requires.done.moment.inside a a<)) next.1 e in
          omega (arith, ap (counts_of cut) same.0, same.1, next.0))))
          (counts_of c.with.result) here rest;
      one = here ∙ next.0;
      others = rest;
      joined = joined_more run (counts_of cut) (counts_of c.with.result) j m c.args.so_far.pairs c.in_ok-row.pairs c.requires.inside (here ∙ next.0) rest here c.requires.joined told.2;
    })
