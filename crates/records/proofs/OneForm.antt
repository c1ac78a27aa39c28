-- Bytes say one record at most, and a record has one form of bytes.
use Rattle.std.proofs.Common.{◌≡◌, ℕ, ◌+◌, ◌/◌, ◌%◌, Bool, true, false, List, [], ◌∷◌, ◌++◌, length, get_or, drop, sym, refl, ap, ◌∙◌, subst, arith}
use Rattle.records.specs.declared.doing.Kind.{Kind}
use Rattle.records.specs.declared.doing.Doing.{Doing}
use Rattle.records.specs.declared.place.Place.{Place}
use Rattle.records.specs.Record.{Record, letter_in, sign_byte, doing_bytes, doings_bytes, record_bytes}
use Rattle.records.specs.Refusal.{FirstPlace, Read, ReadFrom, FormFault}
use Rattle.records.specs.Reading.{ReadAs, NoRecords}
use Rattle.records.proofs.KindEquality.{same_kind}
use Rattle.records.proofs.Faults.{head_count, no_fault_of}
use Rattle.records.proofs.InOrder.{as_many, each_short, read_at}

-- what four bytes say, from the place k on
four : (x y : List ℕ) (k l m : ℕ) → x ≡ y
    → get_or x k 0 ≡ l / 16777216 → get_or x (k + 1) 0 ≡ l / 65536 % 256 → get_or x (k + 2) 0 ≡ l / 256 % 256 → get_or x (k + 3) 0 ≡ l % 256
    → get_or y k 0 ≡ m / 16777216 → get_or y (k + 1) 0 ≡ m / 65536 % 256 → get_or y (k + 2) 0 ≡ m / 256 % 256 → get_or y (k + 3) 0 ≡ m % 256
    → l ≡ m
four x y k l m e a b c d a' b' c' d' =
    let at : (n : ℕ) → get_or x n 0 ≡ get_or y n 0 = λ n. ap (λ (z : List ℕ). get_or z n 0) e in
    omega (arith, at k, at (k + 1), at (k + 2), at (k + 3))

same_sign : (a b : Bool) → sign_byte a ≡ sign_byte b → a ≡ b
same_sign true true e = refl
same_sign true false e = absurd (omega arith)
same_sign false true e = absurd (omega arith)
same_sign false false e = refl

same_doing : (d e : Doing) (x y : List ℕ) → doing_bytes d ++ x ≡ doing_bytes e ++ y → d ≡ e
same_doing d e x y h =
    let at : (n : ℕ) → get_or (doing_bytes d ++ x) n 0 ≡ get_or (doing_bytes e ++ y) n 0 = λ n. ap (λ (z : List ℕ). get_or z n 0) h in
    let k : d.kind ≡ e.kind = same_kind d.kind e.kind (at 0) (four _ _ 1 (letter_in d.kind) (letter_in e.kind) h refl refl refl refl refl refl refl refl) in
    let s : d.sign ≡ e.sign = same_sign d.sign e.sign (at 5) in
    let a : d.amount ≡ e.amount = four _ _ 6 d.amount e.amount h refl refl refl refl refl refl refl refl in
    let K : Kind → Doing = λ v. record { kind = v; sign = d.sign; amount = d.amount } in
    let S : Bool → Doing = λ v. record { kind = e.kind; sign = v; amount = d.amount } in
    let A : ℕ → Doing = λ v. record { kind = e.kind; sign = e.sign; amount = v } in
    ap K k ∙ ap S s ∙ ap A a

same_doings : (ds es : List Doing) → length ds ≡ length es → doings_bytes ds ≡ doings_bytes es → ds ≡ es
same_doings [] [] n h = refl
same_doings [] (e ∷ es) n h = absurd (omega arith)
same_doings (d ∷ ds) [] n h = absurd (omega arith)
same_doings (d ∷ ds) (e ∷ es) n h =
    ap (λ (x : Doing). x ∷ ds) (same_doing d e (doings_bytes ds) (doings_bytes es) h) ∙ ap (λ (x : List Doing). e ∷ x) (same_doings ds es (omega arith) (ap (λ (l : List ℕ). drop 10 l) h))

pub same_record : (i : ℕ) (r q : Record) → record_bytes i r ≡ record_bytes i q → r ≡ q
same_record i r q h =
    let n : length r.doings ≡ length q.doings = head_count i (length r.doings) (length q.doings) r.sign q.sign r.amount q.amount (doings_bytes r.doings) (doings_bytes q.doings) h in
    let s : r.sign ≡ q.sign = same_sign r.sign q.sign (ap (λ (l : List ℕ). get_or l 2 0) h) in
    let a : r.amount ≡ q.amount = four _ _ 3 r.amount q.amount h refl refl refl refl refl refl refl refl in
    let d : r.doings ≡ q.doings = same_doings r.doings q.doings n (ap (λ (l : List ℕ). drop 9 l) h) in
    let S : Bool → Record = λ v. record { sign = v; amount = r.amount; doings = r.doings } in
    let A : ℕ → Record = λ v. record { sign = q.sign; amount = v; doings = r.doings } in
    let D : List Doing → Record = λ v. record { sign = q.sign; amount = q.amount; doings = v } in
    ap S s ∙ ap A a ∙ ap D d

-- a list of files that has a first one, read
split : {k : ℕ} {fs : List (List ℕ)} {rs : List Record} → ReadFrom k fs rs → (f : List ℕ) (gs : List (List ℕ)) → fs ≡ f ∷ gs
    → (r : Record) × (qs : List Record) × (rs ≡ r ∷ qs) × (f ≡ record_bytes k r) × ReadFrom (k + 1) gs qs
split ReadFrom.end f gs e = absurd (let z : ◌≡◌ {A = ℕ} 0 1 = cc in omega arith)
split {k} (ReadFrom.more {files = fs} {rs = qs} r fits rest) f gs e =
    let P : List (List ℕ) → Type 0 = λ x. ReadFrom (k + 1) x qs in
    let same : fs ≡ gs = cc in
    (r, qs, refl, cc, subst P same rest)

none_left : (rs : List Record) → length rs ≡ 0 → rs ≡ []
none_left [] e = refl
none_left (r ∷ rs) e = absurd (omega arith)

one_reading : {k : ℕ} {fs : List (List ℕ)} {rs : List Record} (qs : List Record) → ReadFrom k fs rs → ReadFrom k fs qs → qs ≡ rs
one_reading qs ReadFrom.end h = none_left qs (as_many h)
one_reading {k} qs (ReadFrom.more {files = fs} {rs = rs} r fits rest) h =
    let o = split h (record_bytes k r) fs refl in
    o.2 ∙ ap (λ (x : Record). x ∷ o.1) (same_record k o.0 r (sym o.3)) ∙ ap (λ (x : List Record). r ∷ x) (one_reading o.1 rest o.4)

one_form : {k : ℕ} {fs gs : List (List ℕ)} {rs qs : List Record} → rs ≡ qs → ReadFrom k fs rs → ReadFrom k gs qs → fs ≡ gs
one_form e ReadFrom.end ReadFrom.end = refl
one_form e ReadFrom.end (ReadFrom.more q f rest) = absurd (let z : ◌≡◌ {A = ℕ} 0 1 = cc in omega arith)
one_form e (ReadFrom.more r f rest) ReadFrom.end = absurd (let z : ◌≡◌ {A = ℕ} 0 1 = cc in omega arith)
one_form {k} e (ReadFrom.more {files = fs} {rs = rs} r f rest) (ReadFrom.more {files = gs} {rs = qs} q g others) =
    let r_is : r ≡ q = cc in
    let rs_is : rs ≡ qs = cc in
    ap (λ (x : Record). record_bytes k x ∷ fs) r_is ∙ ap (λ (x : List (List ℕ)). record_bytes k q ∷ x) (one_form rs_is rest others)

-- what is read isn't refused for its form
never_both : (fs : List (List ℕ)) (rs : List Record) {p : Place} → Read fs rs → FormFault fs p → ⊥
never_both fs rs h (FormFault.no_file e) = omega (arith, h.0)
never_both fs rs h (FormFault.too_many lt) = omega (arith, h.1)
never_both fs rs h (FormFault.file i lt less fault) =
    let r = read_at i h.2 lt in
    no_fault_of i (get_or fs i []) r.0 r.1 (r.2 ∙ ap (λ (n : ℕ). record_bytes n r.0) (omega arith)) fault

pub read_as : (fs : List (List ℕ)) (rs : List Record) → Read fs rs → ReadAs fs rs
read_as fs rs h =
    record {
      read = h;
      some = omega (arith, as_many h.2, h.0);
      few = omega (arith, as_many h.2, h.1);
      short = each_short h.2;
      only = λ qs g. one_reading qs h.2 g.2;
      in_form = λ p fault. never_both fs rs h fault;
      one_form = λ gs g. one_form refl g.2 h.2;
    }

pub no_records : (fs : List (List ℕ)) (p : Place) → FirstPlace (FormFault fs) p → NoRecords fs p
no_records fs p h = record { first = h; unread = λ rs g. never_both fs rs g h.0 }
