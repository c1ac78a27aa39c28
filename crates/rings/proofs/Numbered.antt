-- Doings numbered machine by machine.
use Rattle.std.proofs.Common.{◌≡◌, ℕ, zero, suc, ◌+◌, ◌-◌, ◌*◌, ◌<◌, ◌≤◌, List, [], ◌∷◌, ◌++◌, length, get_or, set, sym, refl, ap, ◌∙◌, subst, ⊎_elim, append_assoc, append-nil, add-one, arith, length-append, below_more}
use Rattle.std.proofs.lemmas.List.{get_or_append_left, get_or-append-add, get_or_at}
use Rattle.std.proofs.lemmas.Bool.{cases_eq}
use Rattle.records.specs.declared.place.Place.{Place}
use Rattle.runs.specs.declared.counts.Counts.{Counts}
use Rattle.runs.specs.declared.run.Run as code
use Rattle.runs.specs.Run.{Run}
use Rattle.runs.specs.Model.{counts_of, run_of}
use Rattle.runs.proofs.Places.{set_here, set_rest}
use Rattle.rings.specs.RingSearch.{Flat, Filled}
use Rattle.letters.specs.Noting.{place as at}
use Rattle.rings.specs.Numbers.{places_of, places_in, NumberedTo, Numbered, place_of, number_of}
use Rattle.rings.proofs.Numbering.{filled_none, filled_push, filled_machine, filled_flat}

of_long : (i m : ℕ) → length (places_of i m) ≡ m
of_long i zero = refl
of_long i (suc m) = omega (arith, of_long i m, length-append (places_of i m) (at i (suc m) ∷ []))

pub in_long : (did : ℕ → ℕ) (n : ℕ) → ((i : ℕ) → i < n → did i ≤ 500) → length (places_in did n) ≤ 500 * n
in_long did zero few = omega arith
in_long did (suc n) few = omega (arith, in_long did n (λ i lt. few i (omega arith)), few n (omega arith), of_long n (did n), length-append (places_in did n) (places_of n (did n)))

-- the m-th doing of a machine stands m - 1 after its first
of_at : (i m k : ℕ) → 1 ≤ k → k ≤ m → get_or (places_of i m) (k - 1) (at 0 0) ≡ at i k
of_at i zero k one le = absurd (omega arith)
of_at i (suc m) k one le =
    ⊎_elim
    (λ e. let p : length (places_of i m) ≡ k - 1 = omega (arith, of_long i m, e) in get_or_at (places_of i m) (at i (suc m)) [] (at 0 0) (k - 1) p ∙ ap (λ (x : ℕ). at i x) (sym e))
    (λ ne. get_or_append_left (places_of i m) (at i (suc m) ∷ []) (at 0 0) (k - 1) (omega (arith, of_long i m)) ∙ of_at i m k one (omega arith))
    (cases_eq k (suc m))

pub in_at : (did : ℕ → ℕ) (n i k : ℕ) → i < n → 1 ≤ k → k ≤ did i → (length (places_in did i) + k - 1 < length (places_in did n)) × (get_or (places_in did n) (length (places_in did i) + k - 1) (at 0 0) ≡ at i k)
in_at did zero i k lt one le = absurd (omega arith)
in_at did (suc n) i k lt one le =
    let A = places_in did n in
    let B = places_of n (did n) in
    ⊎_elim
    (λ e.
    let P : ℕ → Type 0 = λ x. (length (places_in did x) + k - 1 < length (A ++ B)) × (get_or (A ++ B) (length (places_in did x) + k - 1) (at 0 0) ≡ at x k) in
    let le' : k ≤ did n = omega (arith, ap did e) in
    let step : length A + k - 1 ≡ length A + (k - 1) = omega arith in
    subst P (sym e) (omega (arith, length-append A B, of_long n (did n)), ap (λ (x : ℕ). get_or (A ++ B) x (at 0 0)) step ∙ get_or-append-add A B (k - 1) (at 0 0) ∙ of_at n (did n) k one le'))
    (λ ne.
    let h = in_at did n i k (omega arith) one le in
    (omega (arith, h.0, length-append A B), get_or_append_left A B (at 0 0) (length (places_in did i) + k - 1) h.0 ∙ h.1))
    (cases_eq i n)

pub numbered_more : (r : code.Run) (i size : ℕ) (places places' : List Place) (begins begins' : Counts) → NumberedTo r i places begins → i < 40 → begins'.of ≡ set begins.of i size → size ≡ length places → places' ≡ places ++ places_of i (counts_of r.did i) → NumberedTo r (i + 1) places' begins'
numbered_more r i size places places' begins begins' h few is size_is more =
    let did = counts_of r.did in
    record {
      items = more ∙ ap (λ (x : List Place). x ++ places_of i (did i)) h.items ∙ ap (places_in did) (sym (add-one i));
      begin = below_more _ i (λ k lt. set_rest begins begins' i size few is k (omega arith) ∙ h.begin k lt) (set_here begins begins' i size few is ∙ size_is ∙ ap length h.items);
    }

-- the numbers are those of all doings, in order
module _ (r : Run) where
  fills : (i m : ℕ) → i < r.count → m ≤ r.did i → Filled r (λ a. get_or (places_in r.did i) a (at 0 0)) (length (places_in r.did i)) i 0 → Filled r (λ a. get_or (places_in r.did i ++ places_of i m) a (at 0 0)) (length (places_in r.did i ++ places_of i m)) i m
  fills i zero lt le h =
      let P : List Place → Type 0 = λ x. Filled r (λ a. get_or x a (at 0 0)) (length x) i 0 in
      subst P (sym (append-nil (places_in r.did i))) h
  fills i (suc m) lt le h =
      let A = places_in r.did i ++ places_of i m in
      let p = at i (suc m) ∷ [] in
      let same : places_in r.did i ++ places_of i (suc m) ≡ A ++ p = sym (append_assoc (places_in r.did i) (places_of i m) p) in
      let P : List Place → Type 0 = λ x. Filled r (λ a. get_or x a (at 0 0)) (length x) i (suc m) in
      let Q : ℕ → Type 0 = λ k. Filled r (λ a. get_or (A ++ p) a (at 0 0)) (length (A ++ p)) i k in
      let R : ℕ → Type 0 = λ k. Filled r (λ a. get_or (A ++ p) a (at 0 0)) k i (m + 1) in
      let long : length A + 1 ≡ length (A ++ p) = omega (arith, length-append A p) in
      subst P (sym same) (subst Q (add-one m) (subst R long
      (filled_push r (λ a. get_or A a (at 0 0)) (λ a. get_or (A ++ p) a (at 0 0)) (length A) i m (fills i m lt (omega arith) h) lt (omega arith) (λ a la. get_or_append_left A p (at 0 0) a la)
      (get_or_at A (at i (suc m)) [] (at 0 0) (length A) refl ∙ ap (λ (k : ℕ). at i k) (sym (add-one m))))))

  all_filled : (i : ℕ) → i ≤ r.count → Filled r (λ a. get_or (places_in r.did i) a (at 0 0)) (length (places_in r.did i)) i 0
  all_filled zero le = filled_none r (λ a. get_or [] a (at 0 0))
  all_filled (suc i) le =
      let P : ℕ → Type 0 = λ k. Filled r (λ a. get_or (places_in r.did (suc i)) a (at 0 0)) (length (places_in r.did (suc i))) k 0 in
      subst P (add-one i) (filled_machine r (λ a. get_or (places_in r.did (suc i)) a (at 0 0)) (length (places_in r.did (suc i))) i (r.did i) (fills i (r.did i) (omega arith) (omega arith) (all_filled i (omega arith))) (omega arith))

  flat_in : Flat r (length (places_in r.did r.count)) (λ a. get_or (places_in r.did r.count) a (at 0 0))
  flat_in = filled_flat r (λ a. get_or (places_in r.did r.count) a (at 0 0)) (length (places_in r.did r.count)) r.count (all_filled r.count (omega arith)) (omega arith)

pub flat : (r : code.Run) (places : List Place) (begins : Counts) → Numbered r places begins → Flat (run_of r) (length places) (place_of places)
flat r places begins h =
    let P : List Place → Type 0 = λ x. Flat (run_of r) (length x) (place_of x) in
    subst P (sym h.items) (flat_in (run_of r))

-- where a doing stands
pub number_at : (r : code.Run) (places : List Place) (begins : Counts) → Numbered r places begins → (i k : ℕ) → i < r.count → 1 ≤ k → k ≤ counts_of r.did i → (number_of begins (at i k) < length places) × (place_of places (number_of begins (at i k)) ≡ at i k)
number_at r places begins h i k lt one le =
    let P : List Place → Type 0 = λ x. (counts_of begins i + k - 1 < length x) × (place_of x (counts_of begins i + k - 1) ≡ at i k) in
    let Q : ℕ → Type 0 = λ b. (b + k - 1 < length (places_in (counts_of r.did) r.count)) × (place_of (places_in (counts_of r.did) r.count) (b + k - 1) ≡ at i k) in
    subst P (sym h.items) (subst Q (sym (h.begin i lt)) (in_at (counts_of r.did) r.count i k lt one le))

-- few enough for the search
pub places_few : (r : code.Run) (places : List Place) (begins : Counts) → Numbered r places begins → length places ≤ 20000
places_few r places begins h = omega (arith, ap length h.items, in_long (counts_of r.did) r.count (λ i lt. r.few i lt), r.most)
