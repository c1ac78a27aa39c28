-- Letters that were got, each with its sending: what matching promises.
-- Assumes nothing.
use Rattle.std.specs.Prelude.{◌≡◌, ℕ, ◌+◌, List, [], ◌∷◌}
use mathlib.Core.List.{Memᴰ}
use Rattle.records.specs.declared.doing.Kind.TheVariants.{Sends, Gets}
use Rattle.records.specs.declared.doing.Doing.{Doing}
use Rattle.records.specs.declared.place.Place.{Place}
use Rattle.records.specs.declared.refusal.Refusal.{Refusal}
use Rattle.records.specs.Record.{Record, machine_of, kind_of}
use Rattle.records.specs.Refusal.{Earlier, Again, Unsent}
use Rattle.letters.specs.declared.letter.Letter.{Letter}
use Rattle.letters.specs.declared.seen.Seen.{Seen}
use Rattle.letters.specs.Noting.{place, Noted, Wrong}

abbrev pub got_at : Letter → Place
got_at l = place l.to l.got

-- in order of their gettings, so that none is there twice
abbrev pub Rising : List Letter → Type 0
Rising [] = Unit {0}
Rising (l ∷ ls) = ((x : Letter) → Memᴰ x ls → Earlier (got_at l) (got_at x)) × Rising ls

-- the doings at a letter's two ends send and get it, by its number
abbrev pub Known : List Record → Letter → Type 0
Known rs l = (k : ℕ) × (kind_of rs l.from l.sent ≡ Sends k) × (kind_of rs l.to l.got ≡ Gets k)

-- the letters are such as were sent and got, and just those that were got earlier than p
pub record Linked (rs : List Record) (p : Place) (ls : List Letter) : Type 0 where
  pub known : (l : Letter) → Memᴰ l ls → Known rs l
  pub before : (l : Letter) → Memᴰ l ls → Earlier (got_at l) p
  pub rising : Rising ls
  pub there : (q : Place) (k : ℕ) → Earlier q p → kind_of rs q.machine q.doing ≡ Gets k → (l : Letter) × Memᴰ l ls × (l.to ≡ q.machine) × (l.got ≡ q.doing)

-- nothing is sent or got twice, nor got and never sent; and the letters are just those that one doing sends and another gets, each once
pub record LettersOf (rs : List Record) (ls : List Letter) : Type 0 where
  pub once : (p : Place) → Again rs p → ⊥
  pub sent : (p : Place) → Unsent rs p → ⊥
  pub known : (l : Letter) → Memᴰ l ls → Known rs l
  pub rising : Rising ls
  pub all : (i m j n k : ℕ) → kind_of rs i m ≡ Sends k → kind_of rs j n ≡ Gets k → (l : Letter) × Memᴰ l ls × (l.from ≡ i) × (l.sent ≡ m) × (l.to ≡ j) × (l.got ≡ n)

-- whatever records machine i's doings ds are of: with all doings noted, and the letters of the machines before it in ls, its letters are in ls', too; or it shows the first unsent
abbrev pub MachineMatched : ℕ → List Doing → Seen → (ls ls' : List Letter) → Type 0
MachineMatched i ds s ls ls' = (rs : List Record) → (machine_of rs i).doings ≡ ds → Noted rs s → Linked rs (place i 1) ls → Linked rs (place (i + 1) 1) ls'

abbrev pub Unmatched : ℕ → List Doing → Seen → List Letter → Refusal → Type 0
Unmatched i ds s ls why = (rs : List Record) → (machine_of rs i).doings ≡ ds → Noted rs s → Linked rs (place i 1) ls → Wrong rs why
