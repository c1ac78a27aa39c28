use Rattle.std.proofs.Common.{refl}
use Rattle.records.specs.Reading.{files_of}
use Rattle.order.proofs.asked.order_files.Goals as goal

pub make_run-requires : goal.make_run-requires
make_run-requires c =
    let h = c.in_ok-matched.ensures.ok (files_of c.args.files.now) refl in
    record { some = h.0.some; of = h.1 }
