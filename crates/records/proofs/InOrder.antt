-- Files one after another: read so far, and the first that is no record.
use Rattle.std.proofs.Common.{◌≡◌, ℕ, zero, suc, ◌+◌, ◌<◌, ◌≤◌, List, [], ◌∷◌, ◌++◌, length, get_or, take, vec_items, Vec, sym, refl, ap, ◌∙◌, subst, inl, inr, arith, length-take}
use Rattle.std.proofs.lemmas.List.{get_or-take, take_more, get_or-map, take_all, map_push, length-map}
use Rattle.std.specs.declared.alloc.Global.{Global}
use Rattle.records.specs.declared.place.Place.{Place}
use Rattle.records.specs.declared.record.Record as code
use Rattle.records.specs.Record.{Record, record_of, records_of, RecordFits, record_bytes, did_of}
use Rattle.records.specs.Refusal.{Earlier, FirstPlace, ReadFrom, Read, FileFault, FormFault}
use Rattle.records.specs.Reading.{IsRecord, files_of}
use Rattle.records.proofs.Faults.{one_fault, no_fault_of}

read_one : (k n : ℕ) (bs : List ℕ) (r : Record) → n ≡ k → RecordFits r → bs ≡ record_bytes n r → ReadFrom k (bs ∷ []) (r ∷ [])
read_one k n bs r same f e =
    let P : List ℕ → Type 0 = λ x. ReadFrom k (x ∷ []) (r ∷ []) in
    subst P (sym (e ∙ ap (λ (j : ℕ). record_bytes j r) same)) (ReadFrom.more r f ReadFrom.end)

read_more : {k : ℕ} {fs : List (List ℕ)} {rs : List Record} (n : ℕ) (bs : List ℕ) (r : Record) → ReadFrom k fs rs → n ≡ k + length fs → RecordFits r → bs ≡ record_bytes n r → ReadFrom k (fs ++ (bs ∷ [])) (rs ++ (r ∷ []))
read_more {k} n bs r ReadFrom.end same f e = read_one k n bs r (omega arith) f e
read_more n bs r (ReadFrom.more q g rest) same f e = ReadFrom.more q g (read_more n bs r rest (omega arith) f e)

pub read_at : {k : ℕ} {fs : List (List ℕ)} {rs : List Record} (j : ℕ) → ReadFrom k fs rs → j < length fs → (r : Record) × RecordFits r × (get_or fs j [] ≡ record_bytes (k + j) r)
read_at j ReadFrom.end lt = absurd (omega arith)
read_at {k} zero (ReadFrom.more q g rest) lt = (q, g, ap (λ (n : ℕ). record_bytes n q) (omega arith))
read_at {k} (suc j) (ReadFrom.more q g rest) lt =
    let r = read_at j rest (omega arith) in
    (r.0, r.1, r.2 ∙ ap (λ (n : ℕ). record_bytes n r.0) (omega arith))

-- as many records as files, none with too many doings
pub as_many : {k : ℕ} {fs : List (List ℕ)} {rs : List Record} → ReadFrom k fs rs → length rs ≡ length fs
as_many ReadFrom.end = refl
as_many (ReadFrom.more r f rest) = let h = as_many rest in omega arith

pub each_short : {k : ℕ} {fs : List (List ℕ)} {rs : List Record} → ReadFrom k fs rs → (i : ℕ) → did_of rs i ≤ 500
each_short ReadFrom.end zero = omega arith
each_short ReadFrom.end (suc i) = omega arith
each_short (ReadFrom.more r f rest) zero = f.1
each_short (ReadFrom.more r f rest) (suc i) = each_short rest i

-- the files before the n-th are records
abbrev pub Before : List (List ℕ) → ℕ → Type 0
Before fs n = (j : ℕ) → j < n → (r : Record) × RecordFits r × (get_or fs j [] ≡ record_bytes j r)

pub before_from : (fs : List (List ℕ)) (n : ℕ) (rs : List Record) → n ≤ length fs → ReadFrom 0 (take n fs) rs → Before fs n
before_from fs n rs le h j lt =
    let r = read_at j h (omega (arith, length-take n fs)) in
    (r.0, r.1, sym (get_or-take n fs j [] lt) ∙ r.2 ∙ ap (λ (k : ℕ). record_bytes k r.0) (omega arith))

no_earlier : (fs : List (List ℕ)) (i m : ℕ) → i < length fs → i < 40 → Before fs i → FileFault i (get_or fs i []) m → {q : Place} → FormFault fs q → Earlier q (record { machine = i; doing = m }) → ⊥
no_earlier fs i m lt few good here (FormFault.no_file e) before = omega arith
no_earlier fs i m lt few good here (FormFault.too_many many) before = elim before [ inl h ↦ omega arith | inr h ↦ omega (arith, h.0) ]
no_earlier fs i m lt few good here (FormFault.file {m = n} j lj fj fault) before =
    elim before [
      | inl h ↦ let r = good j h in no_fault_of j (get_or fs j []) r.0 r.1 r.2 fault
      | inr h ↦ let P : ℕ → Type 0 = λ k. FileFault k (get_or fs k []) n in
          let same = one_fault i (get_or fs i []) (subst P h.0 fault) here in omega (arith, h.1)
    ]

pub first_file : (fs : List (List ℕ)) (i m : ℕ) → i < length fs → i < 40 → Before fs i → FileFault i (get_or fs i []) m → FirstPlace (FormFault fs) (record { machine = i; doing = m })
first_file fs i m lt few good here = (FormFault.file i lt few here, λ q before h. no_earlier fs i m lt few good here h before)

no_more : (fs : List (List ℕ)) → 40 < length fs → Before fs 40 → {q : Place} → FormFault fs q → Earlier q (record { machine = 40; doing = 0 }) → ⊥
no_more fs lt good (FormFault.no_file e) before = omega arith
no_more fs lt good (FormFault.too_many many) before = elim before [ inl h ↦ omega arith | inr h ↦ omega (arith, h.1) ]
no_more fs lt good (FormFault.file j lj fj fault) before = let r = good j fj in no_fault_of j (get_or fs j []) r.0 r.1 r.2 fault

pub first_more : (fs : List (List ℕ)) → 40 < length fs → Before fs 40 → FirstPlace (FormFault fs) (record { machine = 40; doing = 0 })
first_more fs lt good = (FormFault.too_many lt, λ q before h. no_more fs lt good h before)

pub first_none : (fs : List (List ℕ)) → length fs ≡ 0 → FirstPlace (FormFault fs) (record { machine = 0; doing = 0 })
first_none fs e = (FormFault.no_file e, λ q before h. elim before [ inl x ↦ omega arith | inr x ↦ omega (arith, x.1) ])

-- of the program's values: file i, as the loop has it
pub in_file : (P : List ℕ → Type 0) (fs : List (Vec ℕ Global)) (i : ℕ) (v : Vec ℕ Global) (bs : List ℕ) → i < length fs → v ≡ get_or fs i v → bs ≡ vec_items v → P bs → P (get_or (files_of fs) i [])
in_file P fs i v bs lt e d h = subst P (d ∙ ap vec_items e ∙ sym (get_or-map vec_items fs i v [] lt)) h

pub read_step : (fs : List (List ℕ)) (xs ys : List code.Record) (i : ℕ) (r : code.Record) → i < length fs → ReadFrom 0 (take i fs) (records_of xs) → ys ≡ xs ++ (r ∷ []) → IsRecord i (get_or fs i []) (record_of r) → ReadFrom 0 (take (i + 1) fs) (records_of ys)
read_step fs xs ys i r lt h e is =
    let P : List (List ℕ) → Type 0 = λ z. ReadFrom 0 z (records_of ys) in
    let Q : List Record → Type 0 = λ z. ReadFrom 0 (take i fs ++ (get_or fs i [] ∷ [])) z in
    subst P (sym (take_more fs i [] lt)) (subst Q (sym (ap records_of e ∙ map_push record_of xs r)) (read_more i (get_or fs i []) (record_of r) h (omega (arith, length-take i fs)) is.0 is.1))

-- of the program's values: all of them
pub read_all : (files : List (Vec ℕ Global)) (n : ℕ) (rs : List Record) → 1 ≤ length files → length files ≤ n → n ≤ 40 → ReadFrom 0 (take n (files_of files)) rs → Read (files_of files) rs
read_all files n rs some le few h =
    let P : List (List ℕ) → Type 0 = λ z. ReadFrom 0 z rs in
    let long : length (files_of files) ≡ length files = length-map files vec_items in
    (omega arith, omega arith, subst P (take_all n (files_of files) (omega arith)) h)

pub read_none : (xs : List code.Record) → xs ≡ [] → ReadFrom 0 [] (records_of xs)
read_none xs e = let P : List code.Record → Type 0 = λ z. ReadFrom 0 [] (records_of z) in subst P (sym e) ReadFrom.end
