-- What the reading of one file comes to.
use Rattle.std.proofs.Common.{◌≡◌, ℕ, ◌+◌, ◌-◌, ◌*◌, ◌<◌, ◌≤◌, List, [], ◌∷◌, ◌++◌, length, take, drop, sym, refl, ap, ◌∙◌, subst, append-nil, arith, length-drop}
use Rattle.std.proofs.lemmas.List.{drop_all, take_rest}
use Rattle.records.specs.Record.{RecordFits, head_bytes, doings_bytes, record_bytes}
use Rattle.records.specs.Refusal.{Begun, FileFault}
use Rattle.records.specs.declared.doing.Doing.{Doing}
use Rattle.records.specs.declared.record.Head.{Head}
use Rattle.records.specs.Reading.{Begin, IsHead, NoHead, NoDoingAt}

pub no_head : (i : ℕ) (bs : List ℕ) → NoHead i bs → FileFault i bs 0
no_head i bs none = FileFault.head (λ count rest b. none b.sign b.amount count rest b.amount_fits b.few b.bytes)

-- the bytes behind the head, as the code has them
pub behind : (P : List ℕ → Type 0) (bs : List ℕ) → P (take (length bs - 9) (drop 9 bs)) → P (drop 9 bs)
behind P bs h = subst P (take_rest bs 9) h

begun : (i : ℕ) (bs : List ℕ) (h : Head) (ds : List Doing) (rest : List ℕ) → IsHead i bs h → Begin (drop 9 bs) ds → length ds ≤ h.count → drop (10 * length ds) (drop 9 bs) ≡ rest → Begun i bs h.count ds rest
begun i bs h ds rest is b le e =
    record {
      sign = h.sign;
      amount = h.amount;
      amount_fits = is.0;
      few = is.1;
      within = le;
      fit = b.0;
      bytes = is.2 ∙ ap (λ (x : List ℕ). head_bytes i h.sign h.amount h.count ++ x) (b.1 ∙ ap (λ (x : List ℕ). doings_bytes ds ++ x) e);
    }

pub doing_fault : (i : ℕ) (bs : List ℕ) (h : Head) (m : ℕ) → IsHead i bs h → NoDoingAt (drop 9 bs) h.count m → FileFault i bs m
doing_fault i bs h m is f =
    let P : ℕ → Type 0 = λ k. FileFault i bs k in
    subst P (sym f.2) (FileFault.doing (begun i bs h f.0 (drop (10 * length f.0) (drop 9 bs)) is f.3 (omega (arith, f.1)) refl) f.1 f.4)

first_of : (xs : List ℕ) → 0 < length xs → (b : ℕ) × (ys : List ℕ) × (xs ≡ b ∷ ys)
first_of [] lt = absurd (omega arith)
first_of (x ∷ xs) lt = (x, xs, refl)

pub too_long : (i : ℕ) (bs : List ℕ) (h : Head) (ds : List Doing) → IsHead i bs h → length ds ≡ h.count → Begin (drop 9 bs) ds → 9 + 10 * h.count < length bs → FileFault i bs h.count
too_long i bs h ds is n b lt =
    let rest : List ℕ = drop (10 * length ds) (drop 9 bs) in
    let more = first_of rest (omega (arith, length-drop (10 * length ds) (drop 9 bs), length-drop 9 bs)) in
    FileFault.too_long (begun i bs h ds (more.0 ∷ more.1) is b (omega arith) more.2) n

pub whole : (i : ℕ) (bs : List ℕ) (h : Head) (ds : List Doing) → IsHead i bs h → length ds ≡ h.count → Begin (drop 9 bs) ds → length bs ≤ 9 + 10 * h.count
    → RecordFits (record { sign = h.sign; amount = h.amount; doings = ds }) × (bs ≡ record_bytes i (record { sign = h.sign; amount = h.amount; doings = ds }))
whole i bs h ds is n b le =
    let none : drop (10 * length ds) (drop 9 bs) ≡ [] = drop_all (10 * length ds) (drop 9 bs) (omega (arith, length-drop 9 bs)) in (
      (is.0, omega (arith, is.1), b.0),
      is.2 ∙ ap (λ (x : List ℕ). head_bytes i h.sign h.amount h.count ++ x) (b.1 ∙ ap (λ (x : List ℕ). doings_bytes ds ++ x) none ∙ append-nil (doings_bytes ds))
          ∙ ap (λ (k : ℕ). head_bytes i h.sign h.amount k ++ doings_bytes ds) (sym n),
    )
