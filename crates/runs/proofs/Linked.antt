-- The letters of a run are those that its gettings have a sending for.
use Rattle.std.proofs.Common.{◌≡◌, ℕ, zero, suc, ◌+◌, ◌*◌, ◌<◌, ◌≤◌, true, ◌&&◌, ltb, leb, List, ◌++◌, length, get_or, Some, None, Option, sym, refl, ap, ◌∙◌, subst, ⊎_elim, arith, length-append}
use mathlib.Core.List.Memᴰ
use mathlib.Core.List.{Memᴰ}
use Rattle.std.proofs.lemmas.Bool.{cases_eq, and_parts, ltb-true, leb-true}
use Rattle.records.specs.declared.place.Place.{Place}
use Rattle.letters.specs.declared.letter.Letter.{Letter}
use Rattle.runs.specs.declared.run.Run as code
use Rattle.runs.specs.Run.{Run, Done}
use Rattle.runs.specs.Shape.{sent_within}
use Rattle.runs.specs.Model.{counts_of, letter_to, letters_by, letters_in, sending_of, run_of}

abbrev pub Sending : Type 0
Sending = ℕ → ℕ → Option Place

-- from where a letter came, and the letter that came from there
abbrev pub came_from : Letter → Place
came_from l = record { machine = l.from; doing = l.sent }

abbrev pub letter : Place → ℕ → ℕ → Letter
letter p j m = record { from = p.machine; sent = p.doing; to = j; got = m }

-- where a letter of the list was got
record GotBy (sending : Sending) (j m : ℕ) (l : Letter) : Type 0 where
  to : l.to ≡ j
  one : 1 ≤ l.got
  most : l.got ≤ m
  is : sending j l.got ≡ Some (came_from l)

at : (sending : Sending) (j m : ℕ) (l : Letter) (o : Option Place) → sending j m ≡ o → 1 ≤ m → Memᴰ l (letter_to j m o) → GotBy sending j m l
at sending j m l None is one mem = absurd (Memᴰ.not-nil mem)
at sending j m l (Some p) is one mem =
    let P : Letter → Type 0 = GotBy sending j m in
    subst P (sym (Memᴰ.eq_of_singleton mem)) (record { to = refl; one = one; most = omega arith; is = is })

by : (sending : Sending) (j m : ℕ) (l : Letter) → Memᴰ l (letters_by sending j m) → GotBy sending j m l
by sending j zero l mem = absurd (Memᴰ.not-nil mem)
by sending j (suc m) l mem =
    ⊎_elim
    (λ here. at sending j (suc m) l (sending j (suc m)) refl (omega arith) here)
    (λ rest. let p = by sending j m l rest in record { to = p.to; one = p.one; most = omega (arith, p.most); is = p.is })
    (Memᴰ.append_cases (letter_to j (suc m) (sending j (suc m))) mem)

among : (sending : Sending) (did : ℕ → ℕ) (n : ℕ) (l : Letter) → Memᴰ l (letters_in sending did n) → (j : ℕ) × (j < n) × GotBy sending j (did j) l
among sending did zero l mem = absurd (Memᴰ.not-nil mem)
among sending did (suc n) l mem =
    ⊎_elim
    (λ here. (n, omega arith, by sending n (did n) l here))
    (λ rest. let p = among sending did n l rest in (p.0, omega (arith, p.1), p.2))
    (Memᴰ.append_cases (letters_by sending n (did n)) mem)

from_by : (sending : Sending) (p : Place) (j n m : ℕ) → 1 ≤ m → m ≤ n → sending j m ≡ Some p → Memᴰ (letter p j m) (letters_by sending j n)
from_by sending p j zero m one le is = absurd (omega arith)
from_by sending p j (suc n) m one le is =
    let P : Option Place → Type 0 = λ o. Memᴰ (letter p j m) (letter_to j m o) in
    let Q : ℕ → Type 0 = λ x. Memᴰ (letter p j m) (letter_to j x (sending j x)) in
    ⊎_elim
    (λ e. Memᴰ.append_left (letters_by sending j n) (subst Q e (subst P (sym is) (Memᴰ.head refl))))
    (λ ne. Memᴰ.append_right (letter_to j (suc n) (sending j (suc n))) (from_by sending p j n m one (omega arith) is))
    (cases_eq m (suc n))

from_in : (sending : Sending) (did : ℕ → ℕ) (p : Place) (n j m : ℕ) → j < n → 1 ≤ m → m ≤ did j → sending j m ≡ Some p → Memᴰ (letter p j m) (letters_in sending did n)
from_in sending did p zero j m lt one le is = absurd (omega arith)
from_in sending did p (suc n) j m lt one le is =
    let P : ℕ → Type 0 = λ x. Memᴰ (letter p j m) (letters_by sending x (did x)) in
    ⊎_elim
    (λ e. Memᴰ.append_left (letters_in sending did n) (subst P e (from_by sending p j (did j) m one le is)))
    (λ ne. Memᴰ.append_right (letters_by sending n (did n)) (from_in sending did p n j m (omega arith) one le is))
    (cases_eq j n)

module _ (r : code.Run) where
  within : (j m : ℕ) (p : Place) → j < r.count → m ≤ counts_of r.did j → sending_of r j m ≡ Some p → (p.machine < r.count) × (1 ≤ p.doing) × (p.doing ≤ counts_of r.did p.machine)
  within j m p lt le is =
      let P : Option Place → Type 0 = λ o. sent_within r.count r.did o ≡ true in
      let there : sent_within r.count r.did (Some p) ≡ true = subst P is (r.sent (get_or r.starts.of j 0 + m) (omega (arith, r.inside j lt))) in
      let parts = and_parts (ltb p.machine r.count) (leb 1 p.doing && leb p.doing (counts_of r.did p.machine)) there in
      let rest = and_parts (leb 1 p.doing) (leb p.doing (counts_of r.did p.machine)) parts.1 in
      (ltb-true p.machine r.count parts.0, leb-true 1 p.doing rest.0, leb-true p.doing (counts_of r.did p.machine) rest.1)

  -- letters are of things that were done
  pub letters_done : Done (run_of r)
  letters_done l mem =
      let p = among (sending_of r) (counts_of r.did) r.count l mem in
      let q = within p.0 l.got (came_from l) p.1 p.2.most p.2.is in
      let P : ℕ → Type 0 = λ x. x < r.count in
      let Q : ℕ → Type 0 = λ x. l.got ≤ counts_of r.did x in
      (q.0, subst P (sym p.2.to) p.1, q.1, q.2, p.2.one, subst Q (sym p.2.to) p.2.most)

  -- each is where its getting has its sending
  pub letter_got : (l : Letter) → Memᴰ l (run_of r).letters → sending_of r l.to l.got ≡ Some (came_from l)
  letter_got l mem =
      let p = among (sending_of r) (counts_of r.did) r.count l mem in
      let P : ℕ → Type 0 = λ x. sending_of r x l.got ≡ Some (came_from l) in
      subst P (sym p.2.to) p.2.is

  -- and where a getting has a sending there is one
  pub letter_sent : (p : Place) (j m : ℕ) → j < r.count → 1 ≤ m → m ≤ counts_of r.did j → sending_of r j m ≡ Some p → Memᴰ (letter p j m) (run_of r).letters
  letter_sent p j m = from_in (sending_of r) (counts_of r.did) p r.count j m

-- how letters and gettings' sendings belong together
pub record Linked (r : Run) (sending : Sending) : Type 0 where
  pub range : Done r
  pub got : (l : Letter) → Memᴰ l r.letters → sending l.to l.got ≡ Some (came_from l)
  pub sent : (p : Place) (j m : ℕ) → j < r.count → 1 ≤ m → m ≤ r.did j → sending j m ≡ Some p → Memᴰ (letter p j m) r.letters

pub linked : (r : code.Run) → Linked (run_of r) (sending_of r)
linked r = record { range = letters_done r; got = letter_got r; sent = letter_sent r }

-- how many letters are got behind a cut: no more than doings, and one more with a getting
pub by_few : (sending : Sending) (j m : ℕ) → length (letters_by sending j m) ≤ m
by_few sending j zero = omega arith
by_few sending j (suc m) = omega (arith, by_few sending j m, length-append (letter_to j (suc m) (sending j (suc m))) (letters_by sending j m), one_few (sending j (suc m)))
  where
    one_few : (o : Option Place) → length (letter_to j (suc m) o) ≤ 1
    one_few None = omega arith
    one_few (Some p) = omega arith

pub in_few : (sending : Sending) (c : ℕ → ℕ) (n : ℕ) → ((i : ℕ) → i < n → c i ≤ 500) → length (letters_in sending c n) ≤ 500 * n
in_few sending c zero few = omega arith
in_few sending c (suc n) few = omega (arith, in_few sending c n (λ i lt. few i (omega arith)), few n (omega arith), by_few sending n (c n), length-append (letters_by sending n (c n)) (letters_in sending c n))

pub in_same : (sending : Sending) (c d : ℕ → ℕ) (n : ℕ) → ((i : ℕ) → i < n → d i ≡ c i) → letters_in sending d n ≡ letters_in sending c n
in_same sending c d zero same = refl
in_same sending c d (suc n) same =
    ap (λ (m : ℕ). letters_by sending n m ++ letters_in sending d n) (same n (omega arith)) ∙ ap (λ (x : List Letter). letters_by sending n (c n) ++ x) (in_same sending c d n (λ i lt. same i (omega arith)))

pub in_more : (sending : Sending) (c d : ℕ → ℕ) (n j : ℕ) → j < n → d j ≡ c j + 1 → ((i : ℕ) → (i ≡ j → ⊥) → d i ≡ c i) → length (letters_in sending d n) ≡ length (letters_in sending c n) + length (letter_to j (d j) (sending j (d j)))
in_more sending c d zero j lt one rest = absurd (omega arith)
in_more sending c d (suc n) j lt one rest =
    ⊎_elim
    (λ e.
    let same : letters_in sending d n ≡ letters_in sending c n = in_same sending c d n (λ i li. rest i (omega arith)) in
    let here : length (letters_by sending j (d j)) ≡ length (letter_to j (d j) (sending j (d j))) + length (letters_by sending j (c j)) = by_more (d j) (c j) one in
    let P : ℕ → Type 0 = λ k. length (letters_by sending k (d k) ++ letters_in sending d n) ≡ length (letters_by sending k (c k) ++ letters_in sending c n) + length (letter_to j (d j) (sending j (d j))) in
    subst P e (omega (arith, here, ap length same, length-append (letters_by sending j (d j)) (letters_in sending d n), length-append (letters_by sending j (c j)) (letters_in sending c n))))
    (λ ne.
    omega (
      arith,
      in_more sending c d n j (omega arith) one rest,
      ap (λ (m : ℕ). length (letters_by sending n m)) (rest n (λ e. ne (sym e))),
      length-append (letters_by sending n (d n)) (letters_in sending d n),
      length-append (letters_by sending n (c n)) (letters_in sending c n),
    ))
    (cases_eq j n)
  where
    by_more : (x y : ℕ) → x ≡ y + 1 → length (letters_by sending j x) ≡ length (letter_to j x (sending j x)) + length (letters_by sending j y)
    by_more zero y e = absurd (omega arith)
    by_more (suc x) y e = length-append (letter_to j (suc x) (sending j (suc x))) (letters_by sending j x) ∙ ap (λ (k : ℕ). length (letter_to j (suc x) (sending j (suc x))) + length (letters_by sending j k)) (omega arith)
