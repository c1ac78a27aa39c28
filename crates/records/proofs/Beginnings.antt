-- Files that begin alike are the same records, or at fault at the same places: no record is longer than their beginnings.
use Rattle.std.proofs.Common.{◌≡◌, ℕ, ◌+◌, ◌*◌, ◌<◌, ◌≤◌, List, [], ◌∷◌, ◌++◌, map, length, get_or, take, drop, sym, refl, ap, ◌∙◌, subst, append_assoc, arith, length-append, take-append-drop, length-take}
use Rattle.std.proofs.lemmas.List.{take_all, take-take, take_at, get_or-map, length-map}
use Rattle.records.specs.declared.doing.Doing.{Doing}
use Rattle.records.specs.declared.place.Place.{Place}
use Rattle.records.specs.Record.{Record, RecordFits, DoingFits, head_bytes, doing_bytes, doings_bytes, record_bytes}
use Rattle.records.specs.Refusal.{FirstPlace, Read, ReadFrom, Begun, FileFault, FormFault}
use Rattle.records.specs.Reading.{ReadAs, NoRecords, beginning, BeginAlike}
use Rattle.records.proofs.Forms.{long, bytes_more, fit_more}
use Rattle.records.proofs.Faults.{no_next}
use Rattle.records.proofs.OneForm.{read_as, no_records}

-- what one begins with, the other does
shared : (f g p x : List ℕ) → beginning f ≡ beginning g → f ≡ p ++ x → length p ≤ 5010 → g ≡ p ++ drop (length p) g
shared f g p x same e le =
    let n = length p in
    let begins : take n g ≡ p = sym (take-take n 5010 g le) ∙ ap (λ (y : List ℕ). take n y) (sym same) ∙ take-take n 5010 f le ∙ ap (λ (y : List ℕ). take n y) e ∙ take_at p x n refl in
    sym (take-append-drop n g) ∙ ap (λ (y : List ℕ). y ++ drop n g) begins

module _ (i : ℕ) (f g : List ℕ) (same : beginning f ≡ beginning g) where
  -- so far a record, and something behind it
  begun_alike : {count : ℕ} {ds : List Doing} (more rest : List ℕ) → Begun i f count ds (more ++ rest) → length more + 10 * length ds ≤ 5001 → (after : List ℕ) × Begun i g count ds (more ++ after)
  begun_alike {count} {ds} more rest b le =
      let head : List ℕ = head_bytes i b.sign b.amount count in
      let p : List ℕ = head ++ (doings_bytes ds ++ more) in
      let all : f ≡ p ++ rest = b.bytes ∙ ap (λ (x : List ℕ). head ++ x) (sym (append_assoc (doings_bytes ds) more rest)) in
      let e : g ≡ p ++ drop (length p) g = shared f g p rest same all (omega (arith, length-append (doings_bytes ds) more, long ds)) in (
        drop (length p) g,
        record {
          sign = b.sign;
          amount = b.amount;
          amount_fits = b.amount_fits;
          few = b.few;
          within = b.within;
          fit = b.fit;
          bytes = e ∙ ap (λ (x : List ℕ). head ++ x) (append_assoc (doings_bytes ds) more (drop (length p) g));
        },
      )

-- one doing more
begun_more : (i : ℕ) (f : List ℕ) {count : ℕ} {ds : List Doing} (d : Doing) (after : List ℕ) → Begun i f count ds (doing_bytes d ++ after) → length ds < count → DoingFits d → Begun i f count (ds ++ (d ∷ [])) after
begun_more i f {count} {ds} d after b lt fits =
    record {
      sign = b.sign;
      amount = b.amount;
      amount_fits = b.amount_fits;
      few = b.few;
      within = omega (arith, length-append ds (d ∷ []));
      fit = fit_more ds d b.fit fits;
      bytes = b.bytes ∙ ap (λ (x : List ℕ). head_bytes i b.sign b.amount count ++ x) (sym (bytes_more ds d after));
    }

fault_alike : (i : ℕ) (f g : List ℕ) → beginning f ≡ beginning g → {m : ℕ} → FileFault i f m → FileFault i g m
fault_alike i f g same (FileFault.head none) = FileFault.head (λ count rest b. let h = begun_alike i g f (sym same) [] rest b (omega arith) in none count h.0 h.1)
fault_alike i f g same (FileFault.doing {count = count} {ds = ds} {rest = rest} b lt last) =
    let h = begun_alike i f g same [] rest b (omega (arith, b.few)) in
    FileFault.doing h.1 lt (λ d after fits e.
    let P : List ℕ → Type 0 = λ x. Begun i g count ds x in
    let back = begun_alike i g f (sym same) (doing_bytes d) after (subst P e h.1) (omega (arith, b.few)) in
    no_next i f b (begun_more i f d back.0 back.1 lt fits) (omega (arith, length-append ds (d ∷ []))) last)
fault_alike i f g same (FileFault.too_long {count = count} {ds = ds} {b = x} {rest = rest} b e) =
    let h = begun_alike i f g same (x ∷ []) rest b (omega (arith, b.few)) in FileFault.too_long h.1 e

-- a record ends before its beginning does
same_file : (f g : List ℕ) → beginning f ≡ beginning g → length f ≤ 5009 → f ≡ g
same_file f g same le =
    let whole : beginning f ≡ f = take_all 5010 f (omega arith) in
    let short : length (beginning g) ≡ length f = ap length (sym same ∙ whole) in
    sym whole ∙ same ∙ take_all 5010 g (omega (arith, length-take 5010 g))

record_short : (i : ℕ) (r : Record) → RecordFits r → length (record_bytes i r) ≤ 5009
record_short i r fits = omega (arith, fits.1, long r.doings)

read_alike : {k : ℕ} {fs : List (List ℕ)} {rs : List Record} → ReadFrom k fs rs → (gs : List (List ℕ)) → BeginAlike fs gs → ReadFrom k gs rs
read_alike ReadFrom.end [] same = ReadFrom.end
read_alike ReadFrom.end (g ∷ gs) same = absurd (let z : ◌≡◌ {A = ℕ} 0 1 = cc in omega arith)
read_alike (ReadFrom.more r fits rest) [] same = absurd (let z : ◌≡◌ {A = ℕ} 0 1 = cc in omega arith)
read_alike {k} (ReadFrom.more {files = fs} {rs = rs} r fits rest) (g ∷ gs) same =
    let first : beginning (record_bytes k r) ≡ beginning g = cc in
    let others : map beginning fs ≡ map beginning gs = cc in
    let P : List ℕ → Type 0 = λ x. ReadFrom k (x ∷ gs) (r ∷ rs) in
    subst P (same_file (record_bytes k r) g first (record_short k r fits)) (ReadFrom.more r fits (read_alike rest gs others))

module _ (fs gs : List (List ℕ)) (same : BeginAlike fs gs) where
  as_long : length fs ≡ length gs
  as_long = sym (length-map fs beginning) ∙ ap length same ∙ length-map gs beginning

  form_alike : {p : Place} → FormFault fs p → FormFault gs p
  form_alike (FormFault.no_file e) = FormFault.no_file (omega (arith, as_long))
  form_alike (FormFault.too_many lt) = FormFault.too_many (omega (arith, as_long))
  form_alike (FormFault.file i lt few fault) =
      let lg : i < length gs = omega (arith, as_long) in
      let at_i : beginning (get_or fs i []) ≡ beginning (get_or gs i []) = sym (get_or-map beginning fs i [] [] lt) ∙ ap (λ (x : List (List ℕ)). get_or x i []) same ∙ get_or-map beginning gs i [] [] lg in
      FormFault.file i lg few (fault_alike i (get_or fs i []) (get_or gs i []) at_i fault)

  all_alike : (rs : List Record) → Read fs rs → Read gs rs
  all_alike rs h = (omega (arith, as_long, h.0), omega (arith, as_long, h.1), read_alike h.2 gs same)

pub first_alike : (fs gs : List (List ℕ)) (p : Place) → BeginAlike gs fs → FirstPlace (FormFault fs) p → NoRecords gs p
first_alike fs gs p same h = no_records gs p (form_alike fs gs (sym same) h.0, λ q before fault. h.1 q before (form_alike gs fs same fault))

pub records_alike : (fs gs : List (List ℕ)) (rs : List Record) → BeginAlike gs fs → Read fs rs → ReadAs gs rs
records_alike fs gs rs same h = read_as gs rs (all_alike fs gs (sym same) rs h)
