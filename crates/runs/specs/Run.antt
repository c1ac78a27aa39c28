-- A run of several machines as it was recorded, and what comes before what in it (Lamport's happened-before).
-- Assumes nothing.
use Rattle.std.specs.Prelude.{◌≡◌, ℕ, ◌<◌, ◌≤◌, List, length}
use mathlib.Core.List.{Memᴰ}
use Rattle.records.specs.declared.doing.Kind.TheVariants.{Sends, Gets}
use Rattle.records.specs.Record.{Record, kind_of, did_of}
use Rattle.letters.specs.declared.letter.Letter.{Letter}

-- machines 0 to count - 1; did: how many doings each has, counted from 1; letters: those that were got, each with its sending and its getting
pub record Run : Type 0 where
  pub count : ℕ
  pub did : ℕ → ℕ
  pub letters : List Letter

-- A doing comes before another: the same machine's, earlier; or a letter goes from the one to the other; or by several such steps.
pub data Before (r : Run) : (i m j n : ℕ) → Type 0 where
  own : {i m n : ℕ} → m < n → 1 ≤ m → n ≤ r.did i → Before r i m i n
  letter : (l : Letter) → Memᴰ l r.letters → Before r l.from l.sent l.to l.got
  through : {i m j n : ℕ} (k o : ℕ) → Before r i m k o → Before r k o j n → Before r i m j n

-- letters are of things that were done
abbrev pub Done : Run → Type 0
Done r = (l : Letter) → Memᴰ l r.letters → (l.from < r.count) × (l.to < r.count) × (1 ≤ l.sent) × (l.sent ≤ r.did l.from) × (1 ≤ l.got) × (l.got ≤ r.did l.to)

-- and nothing comes before itself
pub record Sound (r : Run) : Type 0 where
  pub some : 1 ≤ r.count
  pub letters : Done r
  pub no_ring : (i m : ℕ) → Before r i m i m → ⊥

-- the run that records make: its letters are just those that one doing sends and another gets, by the number
pub record Makes (rs : List Record) (r : Run) : Type 0 where
  pub count : r.count ≡ length rs
  pub did : (i : ℕ) → r.did i ≡ did_of rs i
  pub known : (l : Letter) → Memᴰ l r.letters → (k : ℕ) × (kind_of rs l.from l.sent ≡ Sends k) × (kind_of rs l.to l.got ≡ Gets k)
  pub all : (i m j n k : ℕ) → kind_of rs i m ≡ Sends k → kind_of rs j n ≡ Gets k → (l : Letter) × Memᴰ l r.letters × (l.from ≡ i) × (l.sent ≡ m) × (l.to ≡ j) × (l.got ≡ n)
