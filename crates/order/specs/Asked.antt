-- What files come to: an ordered run, or the refusal of the lowest number.
-- Assumes nothing.
use Rattle.std.specs.Prelude.{ℕ, List, vec_items}
use Rattle.records.specs.declared.place.Place.{Place}
use Rattle.records.specs.declared.refusal.Refusal.{Refusal}
use Rattle.records.specs.declared.refusal.Refusal.TheVariants as why
use Rattle.records.specs.Record.{Record, records_of}
use Rattle.records.specs.Refusal.{Again, Unsent}
use Rattle.records.specs.Reading.{ReadAs}
use Rattle.letters.specs.declared.matched.Matched.{Matched}
use Rattle.letters.specs.Matching.{LettersOf}
use Rattle.letters.specs.Recorded.{RefusedFor}
use Rattle.runs.specs.Run.{Run, Sound, Makes}
use Rattle.runs.specs.Model.{RunOf}
use Rattle.rings.specs.Ring.{LowestRing}
use Rattle.order.specs.declared.asked.Asked.{Asked}
use Rattle.order.specs.declared.ordered.Ordered.{Ordered}
use Rattle.order.specs.Ordering.{InOrder, ComesBeforeItself}

-- 4. The records are in form and each letter has its sending, but in the run that they make some doing comes before itself; this is the lowest ring of such.
pub record HasRing (fs : List (List ℕ)) (ps : List Place) : Type 0 where
  pub records : List Record
  pub run : Run
  pub read : ReadAs fs records
  pub once : (p : Place) → Again records p → ⊥
  pub sent : (p : Place) → Unsent records p → ⊥
  pub makes : Makes records run
  pub itself : ComesBeforeItself run
  pub lowest : LowestRing run ps

abbrev pub RefusedRightly : List (List ℕ) → Refusal → Type 0
RefusedRightly fs (why.Form p) = RefusedFor fs (why.Form p)
RefusedRightly fs (why.Again p) = RefusedFor fs (why.Again p)
RefusedRightly fs (why.Unsent p) = RefusedFor fs (why.Unsent p)
RefusedRightly fs (why.Ring v) = HasRing fs (vec_items v)

-- the records that the files are, their letters, the run that they make, and what comes before what in it
pub record InOrderAs (fs : List (List ℕ)) (m : Matched) (o : Ordered) : Type 0 where
  pub read : ReadAs fs (records_of (vec_items m.records.list))
  pub letters : LettersOf (records_of (vec_items m.records.list)) (vec_items m.letters)
  pub run : RunOf (records_of (vec_items m.records.list)) o.run
  pub order : InOrder o

abbrev pub OrderedAs : List (List ℕ) → Asked → Type 0
OrderedAs fs a = InOrderAs fs a.matched a.ordered

-- The files are these records; nothing is sent or got twice in them, nor got and never sent; and they make this run, in which nothing comes before itself.
pub record RecordedRun (fs : List (List ℕ)) (rs : List Record) (r : Run) : Type 0 where
  pub read : ReadAs fs rs
  pub once : (p : Place) → Again rs p → ⊥
  pub sent : (p : Place) → Unsent rs p → ⊥
  pub makes : Makes rs r
  pub sound : Sound r
