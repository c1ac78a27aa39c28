use Rattle.std.proofs.Common.{refl, vec_items, sym, ◌∙◌, arith}
use Rattle.records.proofs.Written.{put_more, first_beyond}
use Rattle.records.proofs.writing.write_doings.Goals as goal

pub returns-then-not-fits-clause-refused : goal.returns-then-not-fits-clause-refused
returns-then-not-fits-clause-refused c =
    first_beyond c.args.doings.now c.loop-before.before _ (omega arith) c.loop-before.invariant.0 (λ fits. let both = sym c.if-not-fits.true ∙ c.fits.ensures.1 fits in cc)

pub loop-before-preserved : goal.loop-before-preserved
loop-before-preserved c =
    put_more (vec_items c.args.out.now) (vec_items c.loop-before.out) (vec_items c.put.new.out) _ c.args.doings.now c.loop-before.before _ (omega arith)
    c.loop-before.invariant (c.fits.ensures.0 c.if-not-fits.false) c.in_ok-put.ensures refl
