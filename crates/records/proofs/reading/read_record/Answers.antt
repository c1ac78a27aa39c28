use Rattle.std.proofs.Common.{refl, vec_items, arith}
use Rattle.records.specs.Reading.{Begin, NoDoingAt}
use Rattle.records.proofs.HandedOn.{handed_on, form_weaker}
use Rattle.records.proofs.OneFile.{no_head, behind, doing_fault, too_long}
use Rattle.records.proofs.reading.read_record.Goals as goal

pub returns-in_default-clause-refused : goal.returns-in_default-clause-refused
returns-in_default-clause-refused c = rw c.at_fault.ensures (refl, no_head c.args.machine c.args.bytes.now c.in_default.ensures)

pub returns-in_err-doings-clause-refused : goal.returns-in_err-doings-clause-refused
returns-in_err-doings-clause-refused c =
    let i = c.args.machine in
    let bs = c.args.bytes.now in
    handed_on c.from_residual.result c.in_err-doings.field-0.0 _ _ c.from_residual.ensures.1
    (form_weaker _ _ (λ p no. (no.0, doing_fault i bs c.in-Some.head p.doing c.in-Some.ensures (behind (λ xs. NoDoingAt xs c.in-Some.head.count p.doing) bs no.1))))
    c.in_err-doings.ensures.refused

pub returns-then-bytes-from-clause-refused : goal.returns-then-bytes-from-clause-refused
returns-then-bytes-from-clause-refused c =
    let all = behind (λ xs. Begin xs (vec_items c.in_ok-doings.doings)) c.args.bytes.now c.in_ok-doings.ensures.ok.1 in
    rw c.at_fault-then-bytes-from.ensures
    (refl, too_long c.args.machine c.args.bytes.now c.in-Some.head (vec_items c.in_ok-doings.doings) c.in-Some.ensures (omega (arith, c.in_ok-doings.doings.ok.0, c.in_ok-doings.ensures.ok.0)) all (omega arith))
