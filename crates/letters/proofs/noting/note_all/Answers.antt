use Rattle.std.proofs.Common.{◌≤◌, length, vec_items, ap, arith}
use Rattle.std.proofs.lemmas.List.{length-map}
use Rattle.records.specs.Record.{Record, records_of, record_of}
use Rattle.letters.proofs.InOrder.{begun, over}
use Rattle.letters.proofs.Machines.{record_at}
use Rattle.letters.proofs.noting.note_all.Goals as goal

pub loop-machine-init : goal.loop-machine-init
loop-machine-init c = begun (records_of (vec_items c.args.records.now.list)) c.new-seen.result c.new-seen.ensures

pub note_machine-requires : goal.note_machine-requires
note_machine-requires c =
    let all = c.args.records.now in
    let here = record_at (vec_items all.list) c.deref-recorded-items.result.now c.loop-machine.machine c.recorded-item.result c.deref-recorded-items.ensures.value c.loop-machine-test.true c.recorded-item.is in
    record { short = omega (arith, all.short c.loop-machine.machine, ap (λ (r : Record). length r.doings) here, ap length c.deref.ensures.value) }

pub returns-clause-ok : goal.returns-clause-ok
returns-clause-ok c =
    let rs = c.args.records.now.list in
    let long : length (records_of (vec_items rs)) ≤ c.loop-machine.machine = omega (arith, length-map (vec_items rs) record_of, ap length c.deref-recorded-items.ensures.value) in
    over (records_of (vec_items rs)) c.loop-machine.seen c.loop-machine.machine long c.loop-machine.invariant
