-- What one machine recorded, and the bytes that say it.
-- Assumes nothing.
use Rattle.std.specs.Prelude.{ℕ, zero, suc, ◌+◌, ◌/◌, ◌%◌, ◌^◌, ◌<◌, ◌≤◌, Bool, true, false, List, [], ◌∷◌, ◌++◌, map, length, vec_items, slice_index_or}
use Rattle.std.specs.List.{flat_map}
use Rattle.records.specs.declared.doing.Kind.{Kind}
use Rattle.records.specs.declared.doing.Kind.TheVariants.{Neither, Sends, Gets}
use Rattle.records.specs.declared.doing.Doing.{Doing}
use Rattle.records.specs.declared.record.Record as code

-- a machine's sign and amount at first, and its doings in order
pub record Record : Type 0 where
  pub sign : Bool
  pub amount : ℕ
  pub doings : List Doing

-- the record that a value of the program stands for
abbrev pub record_of : code.Record → Record
record_of r = record { sign = r.sign; amount = r.amount; doings = vec_items r.doings }

abbrev pub records_of : List code.Record → List Record
records_of rs = map record_of rs

-- the limits: letters are numbered from 1 in 32 bits, amounts go up to 1,000,000, doings up to 500
abbrev pub KindFits : Kind → Type 0
KindFits Neither = Unit {0}
KindFits (Sends l) = (1 ≤ l) × (l < 2 ^ 32)
KindFits (Gets l) = (1 ≤ l) × (l < 2 ^ 32)

abbrev pub DoingFits : Doing → Type 0
DoingFits d = KindFits d.kind × (d.amount ≤ 1000000)

abbrev pub DoingsFit : List Doing → Type 0
DoingsFit [] = Unit {0}
DoingsFit (d ∷ ds) = DoingFits d × DoingsFit ds

abbrev pub RecordFits : Record → Type 0
RecordFits r = (r.amount ≤ 1000000) × (length r.doings ≤ 500) × DoingsFit r.doings

-- the bytes, high byte first
abbrev pub bytes2 : ℕ → List ℕ
bytes2 n = (n / 256) ∷ ((n % 256) ∷ [])

abbrev pub bytes4 : ℕ → List ℕ
bytes4 n = (n / 2 ^ 24) ∷ ((n / 2 ^ 16 % 256) ∷ ((n / 256 % 256) ∷ ((n % 256) ∷ [])))

abbrev pub sign_byte : Bool → ℕ
sign_byte true = 1
sign_byte false = 0

-- a kind's first byte, and its letter's number
abbrev pub kind_code : Kind → ℕ
kind_code Neither = 0
kind_code (Sends l) = 1
kind_code (Gets l) = 2

abbrev pub letter_in : Kind → ℕ
letter_in Neither = 0
letter_in (Sends l) = l
letter_in (Gets l) = l

-- ten bytes to a doing: kind, letter, sign, amount
abbrev pub doing_bytes : Doing → List ℕ
doing_bytes d = kind_code d.kind ∷ (bytes4 (letter_in d.kind) ++ (sign_byte d.sign ∷ bytes4 d.amount))

abbrev pub doings_bytes : List Doing → List ℕ
doings_bytes ds = flat_map doing_bytes ds

-- nine bytes to a head: first byte, machine, first sign and amount, how many doings
abbrev pub head_bytes : ℕ → Bool → ℕ → ℕ → List ℕ
head_bytes machine sign amount count = 82 ∷ (machine ∷ (sign_byte sign ∷ (bytes4 amount ++ bytes2 count)))

abbrev pub record_bytes : ℕ → Record → List ℕ
record_bytes machine r = head_bytes machine r.sign r.amount (length r.doings) ++ doings_bytes r.doings

-- of records, machine i's
abbrev pub none : Record
none = record { sign = false; amount = 0; doings = [] }

abbrev pub machine_of : List Record → ℕ → Record
machine_of rs i = slice_index_or rs i none

-- how many doings machine i has
abbrev pub did_of : List Record → ℕ → ℕ
did_of rs i = length (machine_of rs i).doings

-- how many doings there are in all
abbrev pub doings_in : List Record → ℕ
doings_in [] = 0
doings_in (r ∷ rs) = length r.doings + doings_in rs

-- the kind of doing m of machine i, m from 1; `Neither` where there is no such doing
abbrev pub kind_in : List Doing → ℕ → Kind
kind_in [] m = Neither
kind_in (d ∷ ds) zero = Neither
kind_in (d ∷ ds) (suc zero) = d.kind
kind_in (d ∷ ds) (suc (suc m)) = kind_in ds (suc m)

abbrev pub kind_of : List Record → ℕ → ℕ → Kind
kind_of rs i m = kind_in (machine_of rs i).doings m

-- sign and amount of machine i after m doings; past the last as after the last
abbrev pub sign_in : Bool → List Doing → ℕ → Bool
sign_in s [] m = s
sign_in s (d ∷ ds) zero = s
sign_in s (d ∷ ds) (suc m) = sign_in d.sign ds m

abbrev pub amount_in : ℕ → List Doing → ℕ → ℕ
amount_in a [] m = a
amount_in a (d ∷ ds) zero = a
amount_in a (d ∷ ds) (suc m) = amount_in d.amount ds m

abbrev pub sign_of : List Record → ℕ → ℕ → Bool
sign_of rs i m = sign_in (machine_of rs i).sign (machine_of rs i).doings m

abbrev pub amount_of : List Record → ℕ → ℕ → ℕ
amount_of rs i m = amount_in (machine_of rs i).amount (machine_of rs i).doings m
