-- What files come to, put together.
use Rattle.std.proofs.Common.{◌≡◌, ℕ, List, IsSome, Some, None, vec_items, Option, Vec, sym, refl, subst}
use Rattle.std.specs.declared.alloc.Global.{Global}
use Rattle.records.specs.declared.place.Place.{Place}
use Rattle.records.specs.declared.refusal.Refusal.{Refusal}
use Rattle.records.specs.declared.refusal.Refusal.TheVariants as why
use Rattle.records.specs.Record.{records_of}
use Rattle.records.specs.Refusal.{IsRing}
use Rattle.letters.specs.declared.matched.Matched.{Matched}
use Rattle.letters.specs.Recorded.{RefusedFor, RecordedAs}
use Rattle.runs.specs.declared.run.Run.{Run}
use Rattle.runs.specs.Run as made
use Rattle.runs.specs.Model.{run_of, RunOf}
use Rattle.rings.specs.Lowest.{RingFound}
use Rattle.rings.specs.Ring.{LowestRing}
use Rattle.order.specs.declared.ordered.Ordered.{Ordered}
use Rattle.order.specs.Ordering.{InOrder, ComesBeforeItself}
use Rattle.order.specs.Asked.{RefusedRightly, InOrderAs}

pub refused : (fs : List (List ℕ)) (n : Refusal) → RefusedFor fs n → RefusedRightly fs n
refused fs (why.Form p) h = h
refused fs (why.Again p) h = h
refused fs (why.Unsent p) h = h
refused fs (why.Ring v) h = absurd h

pub in_order : (fs : List (List ℕ)) (m : Matched) (run : Run) (o : Ordered) → RecordedAs fs m → RunOf (records_of (vec_items m.records.list)) run → (o.run ≡ run) × InOrder o → InOrderAs fs m o
in_order fs m run o h made ord =
    let Q : Run → Type 0 = RunOf (records_of (vec_items m.records.list)) in
    record { read = h.0; letters = h.1; run = subst Q (sym ord.0) made; order = ord.1 }

pub ringed : (fs : List (List ℕ)) (m : Matched) (run : Run) → RecordedAs fs m → RunOf (records_of (vec_items m.records.list)) run → (n : Refusal) → IsRing (λ ring. ComesBeforeItself (run_of run) × LowestRing (run_of run) ring) n → RefusedRightly fs n
ringed fs m run h made (why.Form p) is = absurd is
ringed fs m run h made (why.Again p) is = absurd is
ringed fs m run h made (why.Unsent p) is = absurd is
ringed fs m run h made (why.Ring v) is =
    record { records = records_of (vec_items m.records.list); run = run_of run; read = h.0; once = h.1.once; sent = h.1.sent; makes = made.makes; itself = is.0; lowest = is.1 }

-- where some doing comes before itself, there is a ring
pub some_ring : (r : made.Run) (o : Option (Vec Place Global)) → ComesBeforeItself r → RingFound r o → IsSome o
some_ring r (Some v) b found = refl
some_ring r None b none = absurd (none b.0 b.1 b.2)

pub ring_of : (r : made.Run) (o : Option (Vec Place Global)) (v : Vec Place Global) → o ≡ Some v → RingFound r o → LowestRing r (vec_items v)
ring_of r o v e found = let P : Option (Vec Place Global) → Type 0 = RingFound r in subst P e found
