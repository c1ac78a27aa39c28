-- What writing a record promises.
-- Assumes nothing.
use Rattle.std.specs.Prelude.{◌≡◌, ℕ, ◌+◌, ◌<◌, ◌≤◌, ◌⊎◌, List, ◌∷◌, ◌++◌, length}
use Rattle.records.specs.declared.doing.Doing.{Doing}
use Rattle.records.specs.declared.writing.Beyond as beyond
use Rattle.records.specs.declared.writing.Beyond.TheVariants as told
use Rattle.records.specs.Record.{Record, DoingFits, DoingsFit, RecordFits, record_bytes}
use Rattle.records.specs.Refusal.{FileFault}

-- doing m is the first of these that is beyond the limits
pub record FirstBeyond (ds : List Doing) (m : ℕ) : Type 0 where
  pub before : List Doing
  pub doing : Doing
  pub after : List Doing
  pub parts : ds ≡ before ++ (doing ∷ after)
  pub number : m ≡ length before + 1
  pub fit : DoingsFit before
  pub beyond : DoingFits doing → ⊥

-- a record beyond the limits: by its amount at first or how many doings it has (0), or by its doing m, the first such
pub data Beyond (r : Record) : ℕ → Type 0 where
  head : (1000000 < r.amount) ⊎ (500 < length r.doings) → Beyond r 0
  doing : {m : ℕ} → r.amount ≤ 1000000 → length r.doings ≤ 500 → FirstBeyond r.doings m → Beyond r m

-- the file is this record of machine i's: it is nowhere at fault, so that it is read, and then as this record
pub record Form (i : ℕ) (r : Record) (file : List ℕ) : Type 0 where
  pub fits : RecordFits r
  pub bytes : file ≡ record_bytes i r
  pub in_form : (m : ℕ) → FileFault i file m → ⊥
  pub only : (q : Record) → file ≡ record_bytes i q → q ≡ r

-- what is told of it: which doing, or what stands before
abbrev pub AtDoing : beyond.Beyond → (ℕ → Type 0) → Type 0
AtDoing (told.Doing m) P = P m
AtDoing told.Head P = ⊥

abbrev pub IsBeyond : Record → beyond.Beyond → Type 0
IsBeyond r told.Head = Beyond r 0
IsBeyond r (told.Doing m) = (1 ≤ m) × Beyond r m
