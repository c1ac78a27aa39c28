-- Which doing sent a letter, and which got it, by what has been gone through.
-- Assumes nothing.
use Rattle.std.specs.Prelude.{◌≡◌, ℕ, Bool, is_some, Some, None, Option, ◌≢◌}
use Rattle.std.specs.BTreeMap.{get}
use Rattle.std.specs.BTreeMap.{BTreeMap}
use Rattle.records.specs.declared.doing.Kind.{Kind}
use Rattle.records.specs.declared.doing.Kind.TheVariants.{Neither, Sends, Gets}
use Rattle.records.specs.declared.place.Place.{Place}
use Rattle.letters.specs.declared.seen.Seen.{Seen}
use Rattle.std.specs.Ordering.{nat_cmp}

-- letters by number, each with a doing
abbrev pub Map : Type 0
Map = BTreeMap ℕ Place

-- from m to n a doing is noted for letter l at place p; whether one was there already
pub record NotedIn (m n : Map) (l : ℕ) (p : Place) (again : Bool) : Type 0 where
  pub was : again ≡ is_some (get nat_cmp m l)
  pub here : get nat_cmp n l ≡ Some p
  pub others : (j : ℕ) → (j ≢ l) → get nat_cmp n j ≡ get nat_cmp m j

-- where a kind of doing, with its letter, was seen
abbrev pub seen_at : Seen → Kind → Option Place
seen_at s Neither = None
seen_at s (Sends l) = get nat_cmp s.sent l
seen_at s (Gets l) = get nat_cmp s.got l

abbrev pub Nothing : Seen → Type 0
Nothing s = (k : Kind) → seen_at s k ≡ None

-- from s to t a doing of kind k is noted at place p; whether one was there already
pub record Put (s t : Seen) (k : Kind) (p : Place) (again : Bool) : Type 0 where
  pub was : again ≡ is_some (seen_at s k)
  pub here : (k ≢ Neither) → seen_at t k ≡ Some p
  pub others : (q : Kind) → (q ≢ k) → seen_at t q ≡ seen_at s q
