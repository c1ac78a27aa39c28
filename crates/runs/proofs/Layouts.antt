-- States laid out machine by machine, and letters' sendings written into them.
use Rattle.std.proofs.Common.{◌≡◌, ℕ, zero, suc, ◌+◌, ◌*◌, ◌<◌, ◌≤◌, List, [], ◌∷◌, ◌++◌, length, get_or, take, set, sym, refl, ap, ◌∙◌, append_assoc, append-nil, arith, length-append, below_more}
use Rattle.std.proofs.lemmas.List.{take_more, length-map, length-set, get_or-set_same, get_or-set_other}
use Rattle.records.specs.Record.{Record, none, machine_of, did_of}
use Rattle.letters.specs.declared.letter.Letter.{Letter}
use Rattle.runs.specs.declared.counts.Counts.{Counts}
use Rattle.runs.specs.declared.state.State.{State}
use Rattle.runs.specs.Shape.{still}
use Rattle.runs.specs.Making.{state_after, states_of, all_states, Laid, heard, got_index, linked}

-- one letter more
linked_push : (starts : Counts) (ls : List Letter) (l : Letter) (ss : List State) → linked starts (ls ++ (l ∷ [])) ss ≡ set (linked starts ls ss) (got_index starts l) (heard l (get_or (linked starts ls ss) (got_index starts l) still))
linked_push starts [] l ss = refl
linked_push starts (x ∷ xs) l ss = linked_push starts xs l (set ss (got_index starts x) (heard x (get_or ss (got_index starts x) still)))

pub linked_more : (starts : Counts) (ls : List Letter) (ss now : List State) (k : ℕ) (l : Letter) → k < length ls → now ≡ linked starts (take k ls) ss
    → set now (got_index starts (get_or ls k l)) (heard (get_or ls k l) (get_or now (got_index starts (get_or ls k l)) still)) ≡ linked starts (take (k + 1) ls) ss
linked_more starts ls ss now k l lt e =
    ap (λ (x : List State). set x (got_index starts (get_or ls k l)) (heard (get_or ls k l) (get_or x (got_index starts (get_or ls k l)) still))) e
    ∙ sym (linked_push starts (take k ls) (get_or ls k l) ss) ∙ ap (λ (x : List Letter). linked starts x ss) (sym (take_more ls k l lt))

pub linked_long : (starts : Counts) (ls : List Letter) (ss : List State) → length (linked starts ls ss) ≡ length ss
linked_long starts [] ss = refl
linked_long starts (l ∷ ls) ss = linked_long starts ls _ ∙ length-set ss (got_index starts l) (heard l (get_or ss (got_index starts l) still))

-- one machine more
all_push : (rs : List Record) (r : Record) → all_states (rs ++ (r ∷ [])) ≡ all_states rs ++ states_of r
all_push [] r = append-nil (states_of r)
all_push (x ∷ xs) r = ap (λ (y : List State). states_of x ++ y) (all_push xs r) ∙ sym (append_assoc (states_of x) (all_states xs) (states_of r))

pub laid_more : (rs : List Record) (i n size : ℕ) (did did' starts starts' : Counts) (ss ss' : List State) → Laid rs i did starts ss → i < length rs → i < 40
    → did'.of ≡ set did.of i n → n ≡ did_of rs i → starts'.of ≡ set starts.of i size → size ≡ length ss → ss' ≡ ss ++ states_of (machine_of rs i) → Laid rs (i + 1) did' starts' ss'
laid_more rs i n size did did' starts starts' ss ss' h lt few d-is n-is s-is size_is more =
    let d_at : (k : ℕ) → get_or did'.of k 0 ≡ get_or (set did.of i n) k 0 = λ k. ap (λ (x : List ℕ). get_or x k 0) d-is in
    let s_at : (k : ℕ) → get_or starts'.of k 0 ≡ get_or (set starts.of i size) k 0 = λ k. ap (λ (x : List ℕ). get_or x k 0) s-is in
    record {
      doings = below_more _ i (λ k lk. d_at k ∙ get_or-set_other did.of i k n 0 (omega arith) ∙ h.doings k lk) (d_at i ∙ get_or-set_same did.of i n 0 (omega (arith, did.wide)) ∙ n-is);
      none = λ k le. d_at k ∙ get_or-set_other did.of i k n 0 (omega arith) ∙ h.none k (omega arith);
      begins = below_more _ i (λ k lk. s_at k ∙ get_or-set_other starts.of i k size 0 (omega arith) ∙ h.begins k lk) (s_at i ∙ get_or-set_same starts.of i size 0 (omega (arith, starts.wide)) ∙ size_is ∙ ap length h.items);
      items = more ∙ ap (λ (x : List State). x ++ states_of (machine_of rs i)) h.items ∙ sym (all_push (take i rs) (machine_of rs i)) ∙ ap all_states (sym (take_more rs i none lt));
    }

pub all_short : (rs : List Record) (i : ℕ) → ((k : ℕ) → did_of rs k ≤ 500) → length (all_states (take i rs)) ≤ 501 * i
all_short rs zero few = omega arith
all_short [] (suc i) few = omega arith
all_short (r ∷ rs) (suc i) few =
    omega (arith, few 0, length-append (states_of r) (all_states (take i rs)), length-map r.doings state_after, all_short rs i (λ k. few (suc k)))
