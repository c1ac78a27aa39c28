use Rattle.std.proofs.Common.{refl, vec_items, arith, rules}
use Rattle.records.specs.Reading.{Begin}
use Rattle.records.proofs.Forms.{begin_long, begin_more, fault}
use Rattle.records.proofs.reading.read_doings.Goals as goal

pub returns-in_default-clause-refused : goal.returns-in_default-clause-refused
returns-in_default-clause-refused c =
    rw c.at_fault.ensures (
      refl,
      fault c.args.bytes.now (vec_items c.loop-before.doings) c.loop-before.before c.args.count
          (omega (arith, c.loop-before.doings.ok.0)) (omega arith) c.loop-before.invariant.begin (rw c.from.ensures at c.in_default.ensures),
    )

pub loop-before-preserved : goal.loop-before-preserved
loop-before-preserved c =
    let more : Begin c.args.bytes.now (vec_items c.push.new.self) =
    begin_more c.args.bytes.now (vec_items c.loop-before.doings) (vec_items c.push.new.self) c.in-Some.doing c.loop-before.before
    (omega (arith, c.loop-before.doings.ok.0)) c.in_ok-push.ensures.items c.loop-before.invariant.begin (rw c.from.ensures at c.in-Some.ensures) in
    record {
      many = search rules;
      long = omega (arith, begin_long c.args.bytes.now (vec_items c.push.new.self) more, c.push.new.self.ok.0, c.in_ok-push.ensures.len);
      begin = more;
    }
