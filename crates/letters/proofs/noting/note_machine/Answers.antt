use Rattle.std.proofs.Common.{◌+◌, length, refl, ap, arith}
use Rattle.letters.proofs.Machines.{kind_is}
use Rattle.letters.proofs.Seeing.{put_at}
use Rattle.letters.proofs.InOrder.{first_again, one_more, next_machine}
use Rattle.letters.proofs.noting.note_machine.Goals as goal

pub returns-then-branch-clause-refused : goal.returns-then-branch-clause-refused
returns-then-branch-clause-refused c = λ rs part so.
    first_again rs c.loop-before.seen c.put.new.self c.args.machine (c.loop-before.before + 1) _ c.in_ok-put.field-0 (c.loop-before.invariant rs part so)
    (put_at _ _ _ _ _ _ (kind_is rs c.args.machine c.loop-before.before c.args.doings.now _ part (omega arith)) c.in_ok-put.ensures) c.if-branch.true

pub loop-before-preserved : goal.loop-before-preserved
loop-before-preserved c = λ rs part so.
    one_more rs c.loop-before.seen c.put.new.self c.args.machine (c.loop-before.before + 1) _ c.in_ok-put.field-0 refl refl (c.loop-before.invariant rs part so)
    (put_at _ _ _ _ _ _ (kind_is rs c.args.machine c.loop-before.before c.args.doings.now _ part (omega arith)) c.in_ok-put.ensures) c.if-branch.false

pub returns-clause-ok : goal.returns-clause-ok
returns-clause-ok c = λ rs part so. next_machine rs c.loop-before.seen c.args.machine c.loop-before.before (omega (arith, ap length part)) (c.loop-before.invariant rs part so)
