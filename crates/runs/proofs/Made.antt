-- The run that records make.
use Rattle.std.proofs.Common.{◌≡◌, ℕ, zero, suc, ◌+◌, ◌<◌, ◌≤◌, Bool, true, ◌&&◌, List, [], ◌∷◌, ◌++◌, length, get_or, take, Some, None, vec_items, vec_len, Option, Vec, sym, refl, ap, ◌∙◌, subst, ⊎_elim, add_assoc, arith, length-append}
use mathlib.Core.List.{Memᴰ}
use Rattle.std.proofs.lemmas.List.{length-map, with_items_is, take_all, get_or_past, get_or_append_left, get_or-append-add}
use Rattle.std.proofs.lemmas.Bool.{cases_lt, lt-ltb, le-leb}
use Rattle.std.specs.Vec.{with_items}
use Rattle.std.specs.declared.alloc.Global.{Global}
use Rattle.records.specs.declared.doing.Kind.TheVariants.{Sends, Gets}
use Rattle.records.specs.declared.doing.Doing.{Doing}
use Rattle.records.specs.declared.place.Place.{Place}
use Rattle.records.specs.declared.records.Records as given
use Rattle.records.specs.Record.{Record, record_of, records_of, none, machine_of, did_of, kind_of, sign_in, amount_in}
use Rattle.letters.specs.declared.letter.Letter.{Letter}
use Rattle.letters.specs.Matching.{LettersOf}
use Rattle.letters.proofs.Machines.{within}
use Rattle.runs.specs.declared.counts.Counts.{Counts}
use Rattle.runs.specs.declared.state.State.{State}
use Rattle.runs.specs.declared.run.Run as code
use Rattle.runs.specs.Shape as shape
use Rattle.runs.specs.Shape.{still, index, sent_within, Inside, Apart, Sent}
use Rattle.runs.specs.Model.{run_of, sending_of, state_of, RunOf}
use Rattle.runs.specs.Making.{state_after, states_after, states_of, all_states, Laid, Within, got_index, linked}
use Rattle.runs.proofs.Places.{same_index}
use Rattle.runs.proofs.Layouts.{linked_long}
use Rattle.runs.proofs.Linked.{came_from, letter, letters_done, letter_got, letter_sent}
use Rattle.runs.proofs.Sendings.{mem_at, AllWithin, InOrder, same_sign, stands, from_letter}

-- each machine's states lie before the next one's
grow : (rs : List Record) (i j : ℕ) → i < j → i < length rs → length (all_states (take i rs)) + did_of rs i + 1 ≤ length (all_states (take j rs))
grow [] i j lt li = absurd (omega arith)
grow (r ∷ rs) i zero lt li = absurd (omega arith)
grow (r ∷ rs) zero (suc j) lt li = omega (arith, length-append (states_of r) (all_states (take j rs)), length-map r.doings state_after)
grow (r ∷ rs) (suc i) (suc j) lt li =
    omega (arith, grow rs i j (omega arith) (omega arith), length-append (states_of r) (all_states (take i rs)), length-append (states_of r) (all_states (take j rs)))

-- the state of machine i after m doings
state_at : (rs : List Record) (i m : ℕ) → i < length rs → m ≤ did_of rs i → get_or (all_states rs) (length (all_states (take i rs)) + m) still ≡ get_or (states_of (machine_of rs i)) m still
state_at [] i m li le = absurd (omega arith)
state_at (r ∷ rs) zero m li le =
    let e : 0 + m ≡ m = omega arith in
    ap (λ (x : ℕ). get_or (states_of r ++ all_states rs) x still) e ∙ get_or_append_left (states_of r) (all_states rs) still m (omega (arith, length-map r.doings state_after))
state_at (r ∷ rs) (suc i) m li le =
    ap (λ (x : ℕ). get_or (states_of r ++ all_states rs) x still) (ap (λ (x : ℕ). x + m) (length-append (states_of r) (all_states (take i rs))) ∙ add_assoc (length (states_of r)) (length (all_states (take i rs))) m)
    ∙ get_or-append-add (states_of r) (all_states rs) (length (all_states (take i rs)) + m) still ∙ state_at rs i m (omega arith) le

sign_in_lem : (s : Bool) (a : ℕ) (ds : List Doing) (m : ℕ) → m ≤ length ds → (get_or (record { sign = s; amount = a; sending = None } ∷ states_after ds) m still).sign ≡ sign_in s ds m
sign_in_lem s a [] zero le = refl
sign_in_lem s a [] (suc m) le = absurd (omega arith)
sign_in_lem s a (d ∷ ds) zero le = refl
sign_in_lem s a (d ∷ ds) (suc m) le = sign_in_lem d.sign d.amount ds m (omega arith)

amount_in_lem : (s : Bool) (a : ℕ) (ds : List Doing) (m : ℕ) → m ≤ length ds → (get_or (record { sign = s; amount = a; sending = None } ∷ states_after ds) m still).amount ≡ amount_in a ds m
amount_in_lem s a [] zero le = refl
amount_in_lem s a [] (suc m) le = absurd (omega arith)
amount_in_lem s a (d ∷ ds) zero le = refl
amount_in_lem s a (d ∷ ds) (suc m) le = amount_in_lem d.sign d.amount ds m (omega arith)

-- no sending is there at first
abbrev Blank : List State → Type 0
Blank ss = (p : ℕ) → (get_or ss p still).sending ≡ None

blank_append : (xs ys : List State) → Blank xs → Blank ys → Blank (xs ++ ys)
blank_append [] ys bx by p = by p
blank_append (x ∷ xs) ys bx by zero = bx 0
blank_append (x ∷ xs) ys bx by (suc p) = blank_append xs ys (λ q. bx (suc q)) by p

blank_after : (ds : List Doing) → Blank (states_after ds)
blank_after [] zero = refl
blank_after [] (suc p) = refl
blank_after (d ∷ ds) zero = refl
blank_after (d ∷ ds) (suc p) = blank_after ds p

blank_of : (r : Record) → Blank (states_of r)
blank_of r zero = refl
blank_of r (suc p) = blank_after r.doings p

blank_all : (rs : List Record) → Blank (all_states rs)
blank_all [] zero = refl
blank_all [] (suc p) = refl
blank_all (r ∷ rs) p = blank_append (states_of r) (all_states rs) (blank_of r) (blank_all rs) p

-- what a run's type says of its fields
pub record Shapes (count : ℕ) (did starts : Counts) (size : ℕ) (states : List State) : Type 0 where
  pub some : 1 ≤ count
  pub most : count ≤ 40
  pub few : shape.Few count did
  pub inside : Inside count did starts size
  pub apart : Apart count did starts
  pub sent : Sent count did size states

both : (a b c : Bool) → a ≡ true → b ≡ true → c ≡ true → (a && (b && c)) ≡ true
both a b c e f g = ap (λ (x : Bool). x && (b && c)) e ∙ ap (λ (x : Bool). x && c) f ∙ g

module _ (rs : List Record) (ls : List Letter) (did starts : Counts) (ss : List State) (few : length rs ≤ 40) (short : (i : ℕ) → did_of rs i ≤ 500) (laid : Laid rs (length rs) did starts ss) (of : LettersOf rs ls) where
  start_is : (k : ℕ) → k < length rs → get_or starts.of k 0 ≡ length (all_states (take k rs))
  start_is = laid.begins

  all_is : ss ≡ all_states rs
  all_is = laid.items ∙ ap all_states (take_all (length rs) rs (omega arith))

  pub few_is : shape.Few (length rs) did
  few_is i lt = omega (arith, laid.doings i lt, short i)

  pub inside : Inside (length rs) did starts (length ss)
  inside i lt = omega (arith, grow rs i (length rs) lt lt, laid.doings i lt, start_is i lt, ap length laid.items)

  pub apart : Apart (length rs) did starts
  apart i j lt lj = omega (arith, grow rs i j lt (omega arith), laid.doings i (omega arith), start_is i (omega arith), start_is j lj)

  -- both ends of a letter are doings of the records
  ends : (l : Letter) → Memᴰ l ls → ((l.from < length rs) × (1 ≤ l.sent) × (l.sent ≤ did_of rs l.from)) × ((l.to < length rs) × (1 ≤ l.got) × (l.got ≤ did_of rs l.to))
  ends l mem =
      let k = of.known l mem in (
        within rs l.from l.sent (λ e. let z : ◌≡◌ {A = ℕ} 0 1 = cc k.1 in omega arith),
        within rs l.to l.got (λ e. let z : ◌≡◌ {A = ℕ} 0 1 = cc k.2 in omega arith),
      )

  all_within : AllWithin starts ls (length ss)
  all_within l mem = let e = (ends l mem).1 in omega (arith, inside l.to e.0, laid.doings l.to e.0, e.2)

  pub indices_within : Within (length ss) starts ls
  indices_within k lt =
      let mem = mem_at ls k (record { from = 0; sent = 0; to = 0; got = 0 }) lt in
      (omega (arith, (ends _ mem).1.0, few), all_within _ mem)

  in_order : InOrder starts ls
  in_order l x ml mx before =
      let a = (ends l ml).1 in
      let b = (ends x mx).1 in
      ⊎_elim
      (λ lower. omega (arith, apart l.to x.to lower b.0, laid.doings l.to a.0, a.2))
      (λ same. omega (arith, ap (λ (i : ℕ). get_or starts.of i 0) same.0, same.1))
      before

  -- a sending that stands is a letter's
  came : (p : ℕ) (q : Place) → (get_or (linked starts ls ss) p still).sending ≡ Some q → (l : Letter) × Memᴰ l ls × (p ≡ got_index starts l) × (came_from l ≡ q)
  came p q is =
      ⊎_elim
      (λ old. absurd (let blank : (get_or ss p still).sending ≡ None = ap (λ (x : List State). (get_or x p still).sending) all_is ∙ blank_all rs p in let z : ◌≡◌ {A = ℕ} 0 1 = cc in omega arith))
      (λ new. new)
      (from_letter starts ls ss p q all_within is)

  pub sent : Sent (length rs) did (length (linked starts ls ss)) (linked starts ls ss)
  sent p lt = go (get_or (linked starts ls ss) p still).sending refl
    where
      go : (o : Option Place) → (get_or (linked starts ls ss) p still).sending ≡ o → sent_within (length rs) did o ≡ true
      go None e = refl
      go (Some q) e =
          let x = came p q e in
          let w = (ends x.0 x.1).0 in
          let P : Place → Type 0 = λ y. sent_within (length rs) did (Some y) ≡ true in
          subst P x.3 (both _ _ _ (lt-ltb _ _ w.0) (le-leb _ _ w.1) (le-leb _ _ (omega (arith, w.2, laid.doings x.0.from w.0))))

  -- all that a run's type says
  pub shapes : (n size : ℕ) (states : List State) → n ≡ length rs → states ≡ linked starts ls ss → size ≡ length states → 1 ≤ length rs → Shapes n did starts size states
  shapes n size states n-is states_is size_is some =
      rw (n-is, size_is, states_is) (record {
        some = some;
        most = few;
        few = few_is;
        inside = λ i lt. omega (arith, inside i lt, linked_long starts ls ss);
        apart = apart;
        sent = sent;
      })

  module _ (r : code.Run) (count_is : r.count ≡ length rs) (did_is : r.did ≡ did) (starts_is : r.starts ≡ starts) (states_is : vec_items r.states ≡ linked starts ls ss) where
    state_is : (i m : ℕ) → state_of r i m ≡ get_or (linked starts ls ss) (index starts i m) still
    state_is i m = ap (λ (x : List State). get_or x (index r.starts i m) still) states_is ∙ ap (λ (x : Counts). get_or (linked starts ls ss) (index x i m) still) starts_is

    did_at : (i : ℕ) → get_or r.did.of i 0 ≡ did_of rs i
    did_at i = ap (λ (x : Counts). get_or x.of i 0) did_is ∙ ⊎_elim (laid.doings i) (λ past. laid.none i past ∙ sym (ap (λ (x : Record). length x.doings) (get_or_past rs i none past))) (cases_lt i (length rs))

    known : (l : Letter) → Memᴰ l (run_of r).letters → (k : ℕ) × (kind_of rs l.from l.sent ≡ Sends k) × (kind_of rs l.to l.got ≡ Gets k)
    known l mem =
        let d = letters_done r l mem in
        let x = came (index starts l.to l.got) (came_from l) (sym (ap (λ (s : State). s.sending) (state_is l.to l.got)) ∙ letter_got r l mem) in
        let b = (ends x.0 x.1).1 in
        let lt : l.to < length rs = omega (arith, d.1, count_is) in
        let one = same_index (length rs) did starts apart l.to l.got x.0.to x.0.got lt b.0 (omega (arith, d.5, did_at l.to, laid.doings l.to lt)) (omega (arith, b.2, laid.doings x.0.to b.0)) x.2 in
        let k = of.known x.0 x.1 in
        let from : l.from ≡ x.0.from = sym (ap (λ (p : Place). p.machine) x.3) in
        let sent_as : l.sent ≡ x.0.sent = sym (ap (λ (p : Place). p.doing) x.3) in
        (k.0, ap (λ (i : ℕ). kind_of rs i l.sent) from ∙ ap (λ (m : ℕ). kind_of rs x.0.from m) sent_as ∙ k.1, ap (λ (i : ℕ). kind_of rs i l.got) one.0 ∙ ap (λ (m : ℕ). kind_of rs x.0.to m) one.1 ∙ k.2)

    all : (i m j n k : ℕ) → kind_of rs i m ≡ Sends k → kind_of rs j n ≡ Gets k → (l : Letter) × Memᴰ l (run_of r).letters × (l.from ≡ i) × (l.sent ≡ m) × (l.to ≡ j) × (l.got ≡ n)
    all i m j n k sends gets =
        let x = of.all i m j n k sends gets in
        let b = (ends x.0 x.1).1 in
        let is : sending_of r x.0.to x.0.got ≡ Some (came_from x.0) = ap (λ (s : State). s.sending) (state_is x.0.to x.0.got) ∙ stands starts ls ss x.0 all_within of.rising in_order x.1 in
        (letter (came_from x.0) x.0.to x.0.got, letter_sent r (came_from x.0) x.0.to x.0.got (omega (arith, b.0, count_is)) b.1 (omega (arith, b.2, did_at x.0.to)) is, x.2, x.3, x.4, x.5)

    state_in : (i m : ℕ) → i < length rs → get_or ss (index starts i m) still ≡ get_or (all_states rs) (length (all_states (take i rs)) + m) still
    state_in i m lt = ap (λ (x : List State). get_or x (index starts i m) still) all_is ∙ ap (λ (x : ℕ). get_or (all_states rs) (x + m) still) (start_is i lt)

    pub run_of_lem : RunOf rs r
    run_of_lem =
        record {
          makes = record { count = count_is; did = did_at; known = known; all = all };
          signs = λ i m lt le. ap (λ (s : State). s.sign) (state_is i m) ∙ (same_sign starts ls ss (index starts i m) all_within).0 ∙ ap (λ (s : State). s.sign) (state_in i m lt ∙ state_at rs i m lt le)
              ∙ sign_in_lem (machine_of rs i).sign (machine_of rs i).amount (machine_of rs i).doings m le;
          amounts = λ i m lt le. ap (λ (s : State). s.amount) (state_is i m) ∙ (same_sign starts ls ss (index starts i m) all_within).1 ∙ ap (λ (s : State). s.amount) (state_in i m lt ∙ state_at rs i m lt le)
              ∙ amount_in_lem (machine_of rs i).sign (machine_of rs i).amount (machine_of rs i).doings m le;
        }

-- of the program's values
pub laid_as : (all : given.Records) (did starts : Counts) (ss : List State) → Laid (records_of (vec_items all.list)) (vec_len all.list) did starts ss → Laid (records_of (vec_items all.list)) (length (records_of (vec_items all.list))) did starts ss
laid_as all did starts ss h =
    let Q : ℕ → Type 0 = λ n. Laid (records_of (vec_items all.list)) n did starts ss in
    subst Q (all.list.ok.0 ∙ sym (length-map (vec_items all.list) record_of)) h

pub within_as : (ls ds : List Letter) (ss xs : List State) (starts : Counts) → ds ≡ ls → xs ≡ ss → Within (length ss) starts ls → Within (length xs) starts ds
within_as ls ds ss xs starts e f h =
    let P : List Letter → Type 0 = λ zs. Within (length xs) starts zs in
    let Q : List State → Type 0 = λ zs. Within (length zs) starts ls in
    subst P (sym e) (subst Q (sym f) h)

pub linked_as : (ls ds : List Letter) (ss xs ws : List State) (v : Vec State Global) (starts : Counts) → ds ≡ ls → xs ≡ ss → ws ≡ linked starts ds xs → length ws ≡ v.len → vec_items (with_items v ws) ≡ linked starts ls ss
linked_as ls ds ss xs ws v starts e f g long = with_items_is v ws long ∙ g ∙ ap (λ (x : List Letter). linked starts x xs) e ∙ ap (λ (x : List State). linked starts ls x) f
