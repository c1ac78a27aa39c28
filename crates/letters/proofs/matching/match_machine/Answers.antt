use Rattle.std.proofs.Common.{◌+◌, length, vec_items, sym, refl, ap, ◌∙◌, arith}
use Rattle.records.specs.declared.doing.Kind.TheVariants.{Sends}
use Rattle.letters.proofs.Machines.{kind_is}
use Rattle.letters.proofs.Linking.{skip, link, first_unsent, on, not_gets}
use Rattle.letters.proofs.matching.match_machine.Goals as goal

pub loop-before-preserved-in_default : goal.loop-before-preserved-in_default
loop-before-preserved-in_default c = λ rs part noted linked.
    skip rs (vec_items c.loop-before.letters) c.args.machine (c.loop-before.before + 1) (c.loop-before.invariant rs part noted linked)
    (λ l e. not_gets _ c.in_default.not-Gets l (sym (kind_is rs c.args.machine c.loop-before.before c.args.doings.now _ part (omega arith)) ∙ e))

pub returns-in_default-sender-clause-refused : goal.returns-in_default-sender-clause-refused
returns-in_default-sender-clause-refused c = λ rs part noted linked. (
  noted.once,
  first_unsent rs c.args.seen.now (vec_items c.loop-before.letters) c.args.machine (c.loop-before.before + 1) c.in-Gets.letter noted (c.loop-before.invariant rs part noted linked)
      (kind_is rs c.args.machine c.loop-before.before c.args.doings.now _ part (omega arith) ∙ c.in-Gets.is) c.in_default-sender.ensures,
)

pub loop-before-preserved : goal.loop-before-preserved
loop-before-preserved c = λ rs part noted linked.
    link rs (vec_items c.loop-before.letters) (vec_items c.push.new.self) _ c.args.machine (c.loop-before.before + 1) c.in-Gets.letter (c.loop-before.invariant rs part noted linked)
    c.in_ok-push.ensures.items (noted.is (Sends c.in-Gets.letter) c.in-Some.sender (sym c.in-Some.ensures)) refl refl
    (kind_is rs c.args.machine c.loop-before.before c.args.doings.now _ part (omega arith) ∙ c.in-Gets.is)

pub returns-clause-ok : goal.returns-clause-ok
returns-clause-ok c = λ rs part noted linked. on rs (vec_items c.loop-before.letters) c.args.machine c.loop-before.before (omega (arith, ap length part)) (c.loop-before.invariant rs part noted linked)
