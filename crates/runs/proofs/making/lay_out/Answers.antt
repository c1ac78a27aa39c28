use Rattle.std.proofs.Common.{◌<◌, ◌++◌, length, vec_items, sym, ap, ◌∙◌, arith}
use Rattle.std.proofs.lemmas.List.{length-map}
use Rattle.records.specs.Record.{Record, record_of, records_of}
use Rattle.letters.proofs.Machines.{record_at}
use Rattle.runs.specs.Making.{states_of}
use Rattle.runs.proofs.Layouts.{laid_more, all_short}
use Rattle.runs.proofs.making.lay_out.Goals as goal

pub overflow_cast-len : goal.overflow_cast-len
overflow_cast-len c =
    let all = c.args.records.now in
    let here = record_at (vec_items all.list) c.deref-recorded-items.result.now c.loop-machine.machine c.recorded-item.result c.deref-recorded-items.ensures.value c.loop-machine-test.true c.recorded-item.is in
    record { fits = omega (arith, all.short c.loop-machine.machine, ap (λ (r : Record). length r.doings) here, c.recorded-item.result.doings.ok.0, c.len.ensures) }

pub overflow_cast-len-in-loop-machine : goal.overflow_cast-len-in-loop-machine
overflow_cast-len-in-loop-machine c =
    let all = c.args.records.now in
    let lt : c.loop-machine.machine < length (records_of (vec_items all.list)) = omega (arith, length-map (vec_items all.list) record_of, ap length c.deref-recorded-items.ensures.value) in
    record { fits = omega (arith, all.few, all_short (records_of (vec_items all.list)) c.loop-machine.machine all.short, ap length c.loop-machine.invariant.items, c.loop-machine.states.ok.0, c.len-in-loop-machine.ensures) }

pub loop-machine-preserved : goal.loop-machine-preserved
loop-machine-preserved c =
    let all = c.args.records.now in
    let i = c.loop-machine.machine in
    let lt : i < length (records_of (vec_items all.list)) = omega (arith, length-map (vec_items all.list) record_of, ap length c.deref-recorded-items.ensures.value) in
    let here = record_at (vec_items all.list) c.deref-recorded-items.result.now i c.recorded-item.result c.deref-recorded-items.ensures.value c.loop-machine-test.true c.recorded-item.is in
    laid_more (records_of (vec_items all.list)) i c.len.result c.len-in-loop-machine.result c.loop-machine.did c.with-did.result c.loop-machine.starts c.with-starts.result (vec_items c.loop-machine.states) (vec_items c.push_states.new.states)
    c.loop-machine.invariant lt (omega (arith, all.few)) c.with-did.ensures
    (omega (arith, c.len.ensures, c.recorded-item.result.doings.ok.0, ap (λ (r : Record). length r.doings) here)) c.with-starts.ensures (c.len-in-loop-machine.ensures ∙ c.loop-machine.states.ok.0)
    (c.in_ok-push_states.ensures ∙ ap (λ (r : Record). vec_items c.loop-machine.states ++ states_of r) (sym here))
