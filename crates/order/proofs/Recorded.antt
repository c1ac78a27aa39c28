-- What files came to, as those above use it.
use Rattle.std.proofs.Common.{◌≡◌, ℕ, List, vec_items, refl, subst}
use Rattle.records.specs.declared.refusal.Refusal.{Refusal}
use Rattle.records.specs.declared.refusal.Refusal.TheVariants as why
use Rattle.records.specs.Record.{Record, records_of}
use Rattle.records.specs.declared.place.Place.{Place}
use Rattle.records.specs.Refusal.{Again, Unsent, refusal_number}
use Rattle.records.specs.Reading.{ReadAs}
use Rattle.letters.specs.declared.matched.Matched.{Matched}
use Rattle.runs.specs.Run.{Run, Makes}
use Rattle.runs.specs.Model.{run_of}
use Rattle.order.specs.declared.ordered.Ordered.{Ordered}
use Rattle.order.specs.Asked.{InOrderAs, RefusedRightly, RecordedRun}
use Rattle.order.proofs.OneRun.{before_made}

pub recorded_run : (fs : List (List ℕ)) (m : Matched) (o : Ordered) → InOrderAs fs m o → RecordedRun fs (records_of (vec_items m.records.list)) (run_of o.run)
recorded_run fs m o h = record { read = h.read; once = h.letters.once; sent = h.letters.sent; makes = h.run.makes; sound = h.order.sound }

-- files are one list of records
again_in : {fs : List (List ℕ)} {rs qs : List Record} → ReadAs fs rs → ReadAs fs qs → (p : Place) → Again qs p → Again rs p
again_in {rs = rs} {qs = qs} read other p h = let P : List Record → Type 0 = λ x. Again x p in subst P (read.only qs other.read) h

unsent_in : {fs : List (List ℕ)} {rs qs : List Record} → ReadAs fs rs → ReadAs fs qs → (p : Place) → Unsent qs p → Unsent rs p
unsent_in {rs = rs} {qs = qs} read other p h = let P : List Record → Type 0 = λ x. Unsent x p in subst P (read.only qs other.read) h

-- files that are refused recorded no run
pub refused_or_run : (fs : List (List ℕ)) (n : Refusal) (rs : List Record) (r : Run) → RefusedRightly fs n → RecordedRun fs rs r → ⊥
refused_or_run fs (why.Form p) rs r not run = not.unread rs run.read.read
refused_or_run fs (why.Again p) rs r (qs, read, first) run = run.once p (again_in run.read read p first.0)
refused_or_run fs (why.Unsent p) rs r (qs, read, once, first) run = run.sent p (unsent_in run.read read p first.0)
refused_or_run fs (why.Ring v) rs r not run =
    let P : List Record → Type 0 = λ x. Makes x not.run in
    let made = subst P (run.read.only not.records not.read.read) not.makes in
    let ring = not.itself in
    run.sound.no_ring ring.0 ring.1 (before_made rs r not.run run.makes made ring.2)

-- and are refused by one number
pub one_refusal : (fs : List (List ℕ)) (m n : Refusal) → RefusedRightly fs m → RefusedRightly fs n → refusal_number m ≡ refusal_number n
one_refusal fs (why.Form p) (why.Form q) a b = refl
one_refusal fs (why.Form p) (why.Again q) a (rs, read, first) = absurd (a.unread rs read.read)
one_refusal fs (why.Form p) (why.Unsent q) a (rs, read, once, first) = absurd (a.unread rs read.read)
one_refusal fs (why.Form p) (why.Ring v) a b = absurd (a.unread b.records b.read.read)
one_refusal fs (why.Again p) (why.Form q) (rs, read, first) b = absurd (b.unread rs read.read)
one_refusal fs (why.Again p) (why.Again q) a b = refl
one_refusal fs (why.Again p) (why.Unsent q) (rs, read, first) (qs, other, once, late) = absurd (once p (again_in other read p first.0))
one_refusal fs (why.Again p) (why.Ring v) (rs, read, first) b = absurd (b.once p (again_in b.read read p first.0))
one_refusal fs (why.Unsent p) (why.Form q) (rs, read, once, first) b = absurd (b.unread rs read.read)
one_refusal fs (why.Unsent p) (why.Again q) (rs, read, once, first) (qs, other, late) = absurd (once q (again_in read other q late.0))
one_refusal fs (why.Unsent p) (why.Unsent q) a b = refl
one_refusal fs (why.Unsent p) (why.Ring v) (rs, read, once, first) b = absurd (b.sent p (unsent_in b.read read p first.0))
one_refusal fs (why.Ring v) (why.Form q) a b = absurd (b.unread a.records a.read.read)
one_refusal fs (why.Ring v) (why.Again q) a (qs, other, late) = absurd (a.once q (again_in a.read other q late.0))
one_refusal fs (why.Ring v) (why.Unsent q) a (qs, other, once, late) = absurd (a.sent q (unsent_in a.read other q late.0))
one_refusal fs (why.Ring v) (why.Ring w) a b = refl
