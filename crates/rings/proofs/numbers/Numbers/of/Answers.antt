use Rattle.std.proofs.Common.{ℕ, ◌<◌, ◌++◌, length, vec_items, get_or-take, ap, ◌∙◌, arith}
use Rattle.std.proofs.lemmas.List.{length-take}
use Rattle.runs.specs.Model.{counts_of}
use Rattle.rings.specs.Numbers.{places_of}
use Rattle.rings.proofs.Numbered.{in_long, numbered_more}
use Rattle.rings.proofs.numbers.Numbers.of.Goals as goal

pub overflow_cast-len : goal.overflow_cast-len
overflow_cast-len c =
    let run = c.args.run.now in
    record { fits = omega (arith, c.len.ensures, c.loop-i.places.ok.0, ap length c.loop-i.invariant.items, in_long (counts_of run.did) c.loop-i.i (λ i lt. run.few i (omega arith)), run.most) }

pub loop-i-preserved : goal.loop-i-preserved
loop-i-preserved c =
    let run = c.args.run.now in
    let i = c.loop-i.i in
    let inside : i < run.count = omega (arith, c.loop-i-test.true, length-take run.count run.did.of) in
    let more = c.in_ok-push_machine.ensures ∙ ap (λ (m : ℕ). vec_items c.loop-i.places ++ places_of i m) (get_or-take run.count run.did.of i 0 inside) in
    numbered_more run i c.len.result (vec_items c.loop-i.places) (vec_items c.push_machine.new.places) c.loop-i.begins c.with-begins.result c.loop-i.invariant (omega (arith, run.most, inside)) c.with-begins.ensures (c.len.ensures ∙ c.loop-i.places.ok.0) more
