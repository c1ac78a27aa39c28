use Rattle.std.proofs.Common.{◌≡◌, ◌≤◌, length, vec_items, arith, rules}
use Rattle.std.proofs.lemmas.List.{length-map}
use Rattle.records.specs.Record.{records_of, record_of}
use Rattle.records.specs.Refusal.{FileFault, Read}
use Rattle.records.specs.Reading.{IsRecord, files_of}
use Rattle.records.proofs.HandedOn.{handed_on, form_weaker}
use Rattle.records.proofs.InOrder.{first_none, first_more, first_file, before_from, in_file, read_step, read_all, read_none, as_many, each_short}
use Rattle.records.proofs.Beginnings.{first_alike, records_alike}
use Rattle.records.proofs.reading.read_files.Goals as goal

pub returns-then-is_empty-clause-refused : goal.returns-then-is_empty-clause-refused
returns-then-is_empty-clause-refused c =
    let none : length c.args.files.now ≡ 0 = search rules in
    rw c.at_fault.ensures (λ whole same. first_alike (files_of c.args.files.now) whole _ same (first_none (files_of c.args.files.now) (omega (arith, length-map c.args.files.now vec_items))))

pub loop-machine-init : goal.loop-machine-init
loop-machine-init c = record { many = search rules; few = search rules; read = read_none (vec_items c.new-list.result) (search rules) }

pub returns-then-machine-eq40-clause-refused : goal.returns-then-machine-eq40-clause-refused
returns-then-machine-eq40-clause-refused c =
    let fs = files_of c.args.files.now in
    let long : length fs ≡ length c.args.files.now = length-map c.args.files.now vec_items in
    rw c.at_fault-then-machine-eq40.ensures
    (λ whole same. first_alike fs whole _ same (first_more fs (omega arith) (λ j lt. before_from fs c.loop-machine.machine _ (omega arith) c.loop-machine.invariant.read j (omega arith))))

pub returns-in_err-read_record-clause-refused : goal.returns-in_err-read_record-clause-refused
returns-in_err-read_record-clause-refused c =
    let fs = files_of c.args.files.now in
    let i = c.loop-machine.machine in
    let long : length fs ≡ length c.args.files.now = length-map c.args.files.now vec_items in
    handed_on c.from_residual.result c.in_err-read_record.field-0.0 _ _ c.from_residual.ensures.1
    (form_weaker _ _ (λ p at whole same. rw at.0 (first_alike fs whole _ same (first_file fs i p.doing (omega arith) (omega arith) (before_from fs i _ (omega arith) c.loop-machine.invariant.read)
    (in_file (λ bs. FileFault i bs p.doing) c.args.files.now i c.index-files-machine.result c.deref.result.now (omega arith) c.index-files-machine.is c.deref.ensures.value at.1)))))
    c.in_err-read_record.ensures.refused

pub loop-machine-preserved : goal.loop-machine-preserved
loop-machine-preserved c =
    let fs = files_of c.args.files.now in
    let i = c.loop-machine.machine in
    let long : length fs ≡ length c.args.files.now = length-map c.args.files.now vec_items in
    record {
      many = search rules;
      few = omega arith;
      read = read_step fs (vec_items c.loop-machine.list) (vec_items c.push.new.self) i c.in_ok-read_record.field-0 (omega arith) c.loop-machine.invariant.read c.in_ok-push.ensures.items
          (in_file (λ bs. IsRecord i bs (record_of c.in_ok-read_record.field-0)) c.args.files.now i c.index-files-machine.result c.deref.result.now (omega arith) c.index-files-machine.is c.deref.ensures.value c.in_ok-read_record.ensures.ok);
    }

pub invariant_of-result : goal.invariant_of-result
invariant_of-result c =
    let some : 1 ≤ length c.args.files.now = search rules in
    let read : Read (files_of c.args.files.now) (records_of (vec_items c.loop-machine.list)) = read_all c.args.files.now c.loop-machine.machine _ some (omega arith) (omega arith) c.loop-machine.invariant.read in
    record { few = omega (arith, as_many read.2, read.1); short = each_short read.2 }

pub returns-clause-ok : goal.returns-clause-ok
returns-clause-ok c =
    let some : 1 ≤ length c.args.files.now = search rules in
    λ whole same. records_alike (files_of c.args.files.now) whole _ same (read_all c.args.files.now c.loop-machine.machine _ some (omega arith) (omega arith) c.loop-machine.invariant.read)
