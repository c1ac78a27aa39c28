use Rattle.std.proofs.Common.{length, vec_items, refl, ap, inl, inr, arith}
use Rattle.records.specs.Writing.{Beyond}
use Rattle.records.proofs.HandedOn.{handed_on}
use Rattle.records.proofs.Written.{record_put, beyond_put}
use Rattle.records.proofs.writing.write_record.Goals as goal

pub returns-then-recorded-gt1000000-clause-refused : goal.returns-then-recorded-gt1000000-clause-refused
returns-then-recorded-gt1000000-clause-refused c = Beyond.head (elim c.then-recorded-gt1000000.either [ inl h ↦ inl h | inr h ↦ inr (omega (arith, h.1, ap length c.as_slice-doings.ensures.value)) ])

pub returns-in_err-write_doings-clause-refused : goal.returns-in_err-write_doings-clause-refused
returns-in_err-write_doings-clause-refused c =
    handed_on c.from_residual-in_err-write_doings.result c.in_err-write_doings.field-0.0 _ _ c.from_residual-in_err-write_doings.ensures.1
    (beyond_put c.args.recorded.now c.as_slice-doings.result.now c.as_slice-doings.ensures.value (omega arith) (omega arith))
    c.in_err-write_doings.ensures.refused

pub returns-clause-ok : goal.returns-clause-ok
returns-clause-ok c =
    record_put (vec_items c.new-bytes.result) (vec_items c.put.new.out) (vec_items c.write_doings.new.out) _ c.as_slice-doings.result.now c.args.recorded.now c.args.machine _
    c.new-bytes.ensures.items c.in_ok-put.ensures refl refl c.as_slice-doings.ensures.value (omega arith) (omega arith) c.in_ok-write_doings.ensures.ok
