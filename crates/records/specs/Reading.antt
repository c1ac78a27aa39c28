-- What reading promises: of a doing, a head, doings, a record, and files.
-- Assumes nothing.
use Rattle.std.specs.Prelude.{◌≡◌, ℕ, ◌+◌, ◌*◌, ◌<◌, ◌≤◌, Bool, List, ◌++◌, map, length, take, drop, vec_items, Vec, ◌≢◌}
use Rattle.std.specs.declared.alloc.Global.{Global}
use Rattle.records.specs.declared.doing.Kind.{Kind}
use Rattle.records.specs.declared.doing.Doing.{Doing}
use Rattle.records.specs.declared.place.Place.{Place}
use Rattle.records.specs.declared.record.Head.{Head}
use Rattle.records.specs.Record.{Record, KindFits, DoingFits, DoingsFit, RecordFits, kind_code, letter_in, head_bytes, doing_bytes, doings_bytes, record_bytes, did_of}
use Rattle.records.specs.Refusal.{FirstPlace, Read, FormFault}

-- the byte and the letter's number say this kind, or no kind that fits
abbrev pub IsKind : ℕ → ℕ → Kind → Type 0
IsKind code letter k = KindFits k × (kind_code k ≡ code) × (letter_in k ≡ letter)

abbrev pub NoKind : ℕ → ℕ → Type 0
NoKind code letter = (k : Kind) → IsKind code letter k → ⊥

-- the bytes begin with this doing, that fits; or with none that fits
abbrev pub IsDoing : List ℕ → Doing → Type 0
IsDoing bs d = DoingFits d × (bs ≡ doing_bytes d ++ drop 10 bs)

abbrev pub NoDoing : List ℕ → Type 0
NoDoing bs = (d : Doing) (after : List ℕ) → DoingFits d → bs ≢ doing_bytes d ++ after

-- the bytes begin with this head of machine i's record; or with none of it
abbrev pub IsHead : ℕ → List ℕ → Head → Type 0
IsHead i bs h = (h.amount ≤ 1000000) × (h.count ≤ 500) × (bs ≡ head_bytes i h.sign h.amount h.count ++ drop 9 bs)

abbrev pub NoHead : ℕ → List ℕ → Type 0
NoHead i bs = (s : Bool) (a n : ℕ) (after : List ℕ) → a ≤ 1000000 → n ≤ 500 → bs ≢ head_bytes i s a n ++ after

-- the bytes begin with these doings, that fit
abbrev pub Begin : List ℕ → List Doing → Type 0
Begin bs ds = DoingsFit ds × (bs ≡ doings_bytes ds ++ drop (10 * length ds) bs)

-- of so many doings the bytes begin with those up to the one before this, and there isn't a next
abbrev pub NoDoingAt : List ℕ → (count doing : ℕ) → Type 0
NoDoingAt bs count m = (ds : List Doing) × (length ds < count) × (m ≡ length ds + 1) × Begin bs ds × NoDoing (drop (10 * length ds) bs)

-- the bytes are this record of machine i's, which fits
abbrev pub IsRecord : ℕ → List ℕ → Record → Type 0
IsRecord i bs r = RecordFits r × (bs ≡ record_bytes i r)

abbrev pub files_of : List (Vec ℕ Global) → List (List ℕ)
files_of fs = map vec_items fs

-- the files are these records, 1 to 40 of up to 500 doings, no others, and nowhere at fault; and no other files are these records
pub record ReadAs (fs : List (List ℕ)) (rs : List Record) : Type 0 where
  pub read : Read fs rs
  pub some : 1 ≤ length rs
  pub few : length rs ≤ 40
  pub short : (i : ℕ) → did_of rs i ≤ 500
  pub only : (qs : List Record) → Read fs qs → qs ≡ rs
  pub in_form : (p : Place) → FormFault fs p → ⊥
  pub one_form : (gs : List (List ℕ)) → Read gs rs → gs ≡ fs

-- the files are no records, and p is the first place at which that shows
pub record NoRecords (fs : List (List ℕ)) (p : Place) : Type 0 where
  pub first : FirstPlace (FormFault fs) p
  pub unread : (rs : List Record) → Read fs rs → ⊥

-- as much of a file as tells all about it: one byte more than the longest record has
abbrev pub beginning : List ℕ → List ℕ
beginning file = take 5010 file

abbrev pub BeginAlike : (fs gs : List (List ℕ)) → Type 0
BeginAlike fs gs = map beginning fs ≡ map beginning gs
