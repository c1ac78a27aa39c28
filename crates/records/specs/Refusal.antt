-- When a list of files is no list of records, or records that no run can have made, the first place at which that shows, and the bytes that say so.
-- Assumes nothing.
use Rattle.std.specs.Prelude.{◌≡◌, ℕ, ◌+◌, ◌<◌, ◌≤◌, Bool, ◌⊎◌, List, [], ◌∷◌, ◌++◌, length, vec_items, ◌≢◌, slice_index_or}
use Rattle.std.specs.List.{flat_map}
use Rattle.records.specs.declared.doing.Kind.TheVariants.{Neither, Sends, Gets}
use Rattle.records.specs.declared.doing.Doing.{Doing}
use Rattle.records.specs.declared.place.Place.{Place}
use Rattle.records.specs.declared.refusal.Refusal.{Refusal}
use Rattle.records.specs.declared.refusal.Refusal.TheVariants as why
use Rattle.records.specs.Record.{Record, DoingFits, DoingsFit, RecordFits, bytes2, head_bytes, doing_bytes, doings_bytes, record_bytes, kind_of}

abbrev pub refusal_number : Refusal → ℕ
refusal_number (why.Form p) = 1
refusal_number (why.Again p) = 2
refusal_number (why.Unsent p) = 3
refusal_number (why.Ring v) = 4

abbrev pub refusal_places : Refusal → List Place
refusal_places (why.Form p) = p ∷ []
refusal_places (why.Again p) = p ∷ []
refusal_places (why.Unsent p) = p ∷ []
refusal_places (why.Ring v) = vec_items v

abbrev pub place_bytes : Place → List ℕ
place_bytes p = p.machine ∷ bytes2 p.doing

abbrev pub places_bytes : List Place → List ℕ
places_bytes ps = flat_map place_bytes ps

-- 78, the number, machine and doing of where
abbrev pub refusal_bytes : Refusal → List ℕ
refusal_bytes n = 78 ∷ (refusal_number n ∷ places_bytes (refusal_places n))

-- places go by machine, then doing
abbrev pub Earlier : Place → Place → Type 0
Earlier p q = (p.machine < q.machine) ⊎ ((p.machine ≡ q.machine) × (p.doing < q.doing))

-- the first place of which something holds
abbrev pub FirstPlace : (Place → Type 0) → Place → Type 0
FirstPlace P p = P p × ((q : Place) → Earlier q p → P q → ⊥)

-- the files are the records' bytes, of machine i and those after it
pub data ReadFrom : ℕ → List (List ℕ) → List Record → Type 0 where
  end : {i : ℕ} → ReadFrom i [] []
  more : {i : ℕ} {files : List (List ℕ)} {rs : List Record} (r : Record) → RecordFits r → ReadFrom (i + 1) files rs → ReadFrom i (record_bytes i r ∷ files) (r ∷ rs)

-- 1 to 40 files that are records, in order of machines from 0
abbrev pub Read : List (List ℕ) → List Record → Type 0
Read files rs = (1 ≤ length files) × (length files ≤ 40) × ReadFrom 0 files rs

-- 1. How far a file is a record: its head, and after it so many doings that fit.
pub record Begun (i : ℕ) (file : List ℕ) (count : ℕ) (ds : List Doing) (rest : List ℕ) : Type 0 where
  pub sign : Bool
  pub amount : ℕ
  pub amount_fits : amount ≤ 1000000
  pub few : count ≤ 500
  pub within : length ds ≤ count
  pub fit : DoingsFit ds
  pub bytes : file ≡ head_bytes i sign amount count ++ (doings_bytes ds ++ rest)

-- the file is no record, and that shows at its doing m (0: at its head)
pub data FileFault (i : ℕ) (file : List ℕ) : ℕ → Type 0 where
  head : ((count : ℕ) (rest : List ℕ) → Begun i file count [] rest → ⊥) → FileFault i file 0
  doing : {count : ℕ} {ds : List Doing} {rest : List ℕ} → Begun i file count ds rest → length ds < count → ((d : Doing) (after : List ℕ) → DoingFits d → rest ≢ doing_bytes d ++ after) → FileFault i file (length ds + 1)
  too_long : {count : ℕ} {ds : List Doing} {b : ℕ} {rest : List ℕ} → Begun i file count ds (b ∷ rest) → length ds ≡ count → FileFault i file count

pub data FormFault (files : List (List ℕ)) : Place → Type 0 where
  no_file : length files ≡ 0 → FormFault files (record { machine = 0; doing = 0 })
  too_many : 40 < length files → FormFault files (record { machine = 40; doing = 0 })
  file : {m : ℕ} (i : ℕ) → i < length files → i < 40 → FileFault i (slice_index_or files i []) m → FormFault files (record { machine = i; doing = m })

-- what is told of it: this of the place where it shows
abbrev pub IsForm : (Place → Type 0) → Refusal → Type 0
IsForm P (why.Form p) = P p
IsForm P (why.Again p) = ⊥
IsForm P (why.Unsent p) = ⊥
IsForm P (why.Ring v) = ⊥

-- or this of the ring
abbrev pub IsRing : (List Place → Type 0) → Refusal → Type 0
IsRing P (why.Form p) = ⊥
IsRing P (why.Again p) = ⊥
IsRing P (why.Unsent p) = ⊥
IsRing P (why.Ring v) = P (vec_items v)

-- 2. The doing sends what an earlier one sent, or gets what an earlier one got.
pub record Again (rs : List Record) (p : Place) : Type 0 where
  pub first : Place
  pub earlier : Earlier first p
  pub letter : kind_of rs p.machine p.doing ≡ Neither → ⊥
  pub same : kind_of rs first.machine first.doing ≡ kind_of rs p.machine p.doing

-- 3. The doing gets what nobody sent.
pub record Unsent (rs : List Record) (p : Place) : Type 0 where
  pub number : ℕ
  pub got : kind_of rs p.machine p.doing ≡ Gets number
  pub nobody : (i m : ℕ) → kind_of rs i m ≢ Sends number
