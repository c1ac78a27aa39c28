-- What files come to: records with their letters, or the refusal of the lowest number.
-- Assumes nothing.
use Rattle.std.specs.Prelude.{ℕ, List, vec_items}
use Rattle.records.specs.declared.place.Place.{Place}
use Rattle.records.specs.declared.refusal.Refusal.{Refusal}
use Rattle.records.specs.declared.refusal.Refusal.TheVariants as why
use Rattle.records.specs.Record.{Record, records_of}
use Rattle.records.specs.Refusal.{FirstPlace, Again, Unsent}
use Rattle.records.specs.Reading.{ReadAs, NoRecords}
use Rattle.letters.specs.declared.matched.Matched.{Matched}
use Rattle.letters.specs.Matching.{LettersOf}

-- rightly refused: 2 only where the files are records, 3 only where besides nothing is sent or got twice; what comes before what is not looked at
abbrev pub RefusedFor : List (List ℕ) → Refusal → Type 0
RefusedFor fs (why.Form p) = NoRecords fs p
RefusedFor fs (why.Again p) = (rs : List Record) × ReadAs fs rs × FirstPlace (Again rs) p
RefusedFor fs (why.Unsent p) = (rs : List Record) × ReadAs fs rs × ((q : Place) → Again rs q → ⊥) × FirstPlace (Unsent rs) p
RefusedFor fs (why.Ring v) = ⊥

-- the files are these records, and the letters are theirs
abbrev pub RecordedAs : List (List ℕ) → Matched → Type 0
RecordedAs fs m = ReadAs fs (records_of (vec_items m.records.list)) × LettersOf (records_of (vec_items m.records.list)) (vec_items m.letters)
