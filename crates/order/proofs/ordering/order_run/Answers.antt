use Rattle.std.proofs.Common.{◌≡◌, ℕ, ◌*◌, ◌<◌, List, length, sym, refl, ap, ◌∙◌, subst, arith}
use Rattle.std.specs.Vec.{with_items}
use Rattle.std.proofs.lemmas.List.{with_items_is}
use Rattle.letters.specs.declared.letter.Letter.{Letter}
use Rattle.runs.specs.declared.counts.Counts.{Counts}
use Rattle.runs.specs.Run.{Sound}
use Rattle.runs.specs.Model.{run_of, sending_of, counts_of}
use Rattle.runs.proofs.Linked.{linked, in_same}
use Rattle.order.specs.Vectors.{VectorsOf}
use Rattle.order.specs.Rows.{vectors_in}
use Rattle.order.proofs.OneMore.{done_all}
use Rattle.order.proofs.Rightly.{some_ring, ring_of}
use Rattle.order.proofs.Stuck.{ring}
use Rattle.order.proofs.ordering.order_run.Goals as goal
use Rattle.order.proofs.ordering.order_run.Goals.{In-None}

pub unwrap-requires : goal.unwrap-requires
unwrap-requires c =
    let late = c.in-Some.ensures in
    some_ring (run_of c.args.run) c.in_ok-ring-in-Some.ring
    (ring (run_of c.args.run) (sending_of c.args.run) (counts_of c.in_ok-progress.progress.cut) (linked c.args.run) c.in_ok-progress.ensures.waits c.in-Some.field-0 late.inside late.left) c.in_ok-ring-in-Some.ensures

pub returns-in_ok-ring-in-Some-clause-refused : goal.returns-in_ok-ring-in-Some-clause-refused
returns-in_ok-ring-in-Some-clause-refused c =
    let late = c.in-Some.ensures in
    let found = ring_of (run_of c.args.run) c.in_ok-ring-in-Some.ring c.unwrap.result c.unwrap.ensures c.in_ok-ring-in-Some.ensures in
    (ring (run_of c.args.run) (sending_of c.args.run) (counts_of c.in_ok-progress.progress.cut) (linked c.args.run) c.in_ok-progress.ensures.waits c.in-Some.field-0 late.inside late.left, found)

-- once all is ordered, nothing comes before itself, and the rows are the vectors
all_done : (c : In-None) → Sound (run_of c.args.run) × VectorsOf (run_of c.args.run) (vectors_in c.args.run (with_items c.in_ok-rows.rows c.fill.new.rows).items)
all_done c =
    let run = c.args.run in
    let all = done_all (linked run) run.some c.in_ok-progress.ensures.done c.in-None.ensures in
    let same : (with_items c.in_ok-rows.rows c.fill.new.rows).items ≡ c.fill.new.rows = with_items_is c.in_ok-rows.rows c.fill.new.rows (omega (arith, c.fill.auto.rows, c.deref_mut.ensures.len)) in
    let P : List Counts → Type 0 = λ rows. VectorsOf (run_of run) (vectors_in run rows) in
    (all.0, subst P (sym same) all.1)

pub invariant_of-result-clause-vectors : goal.invariant_of-result-clause-vectors
invariant_of-result-clause-vectors c = ∣ (all_done (goal.at.invariant_of-result-clause-vectors c).In-None).1 ∣₁

pub returns-in-None-clause-ok : goal.returns-in-None-clause-ok
returns-in-None-clause-ok c =
    let run = c.args.run in
    let cut = counts_of c.in_ok-progress.progress.cut in
    let filled = c.in_ok-progress.ensures in
    let all = all_done (goal.at.returns-in-None-clause-ok c).In-None in
    let at_end : (i : ℕ) → i < run.count → cut i ≡ counts_of run.did i = λ i lt. omega (arith, c.in-None.ensures i lt, filled.done.moment.inside i lt) in (
      refl,
      record {
        sound = all.0;
        turns = record { turns = filled.turns.0; all = λ i i<. filled.turns.1 i ∙ at_end i i< };
        vectors = all.1;
        joined = filled.joined ∙ ap (λ (ls : List Letter). run.count * length ls) (in_same (sending_of run) (counts_of run.did) cut run.count at_end);
      },
    )
