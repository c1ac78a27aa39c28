use Rattle.std.proofs.Common.{vec_items, sym, refl, ◌∙◌, arith}
use Rattle.std.proofs.lemmas.List.{length-map}
use Rattle.std.specs.Vec.{with_items}
use Rattle.records.specs.Record.{record_of, records_of}
use Rattle.runs.proofs.Made.{laid_as, within_as, linked_as, indices_within, shapes, run_of_lem}
use Rattle.runs.proofs.making.make_run.Goals as goal

pub link-requires : goal.link-requires
link-requires c =
    let m = c.args.matched.now in
    let x = c.in_ok-did.field-0 in
    let rs = records_of (vec_items m.records.list) in
    record {
      within = within_as (vec_items m.letters) c.deref.result.now (vec_items x.states) c.deref_mut.result.now x.starts c.deref.ensures.value c.deref_mut.ensures.value
          (indices_within rs (vec_items m.letters) x.did x.starts (vec_items x.states) m.records.few m.records.short (laid_as m.records x.did x.starts (vec_items x.states) c.in_ok-did.ensures) c.requires.of);
    }

pub invariant_of-result : goal.invariant_of-result
invariant_of-result c =
    let m = c.args.matched.now in
    let x = c.in_ok-did.field-0 in
    let rs = records_of (vec_items m.records.list) in
    let states = linked_as (vec_items m.letters) c.deref.result.now (vec_items x.states) c.deref_mut.result.now c.link.new.states x.states x.starts c.deref.ensures.value c.deref_mut.ensures.value c.link.ensures (omega (arith, c.link.auto.states, c.deref_mut.ensures.len)) in
    let s = shapes rs (vec_items m.letters) x.did x.starts (vec_items x.states) m.records.few m.records.short (laid_as m.records x.did x.starts (vec_items x.states) c.in_ok-did.ensures) c.requires.of
    c.len.result x.states.len _ (c.len.ensures ∙ m.records.list.ok.0 ∙ sym (length-map (vec_items m.records.list) record_of)) states (with_items x.states c.link.new.states).ok.0 c.requires.some in
    record { some = s.some; most = s.most; few = s.few; inside = s.inside; apart = s.apart; sent = s.sent }

pub returns : goal.returns
returns c =
    let m = c.args.matched.now in
    let x = c.in_ok-did.field-0 in
    let rs = records_of (vec_items m.records.list) in
    run_of_lem rs (vec_items m.letters) x.did x.starts (vec_items x.states) m.records.few m.records.short (laid_as m.records x.did x.starts (vec_items x.states) c.in_ok-did.ensures) c.requires.of
    _ (c.len.ensures ∙ m.records.list.ok.0 ∙ sym (length-map (vec_items m.records.list) record_of)) refl refl
    (linked_as (vec_items m.letters) c.deref.result.now (vec_items x.states) c.deref_mut.result.now c.link.new.states x.states x.starts c.deref.ensures.value c.deref_mut.ensures.value c.link.ensures (omega (arith, c.link.auto.states, c.deref_mut.ensures.len)))
