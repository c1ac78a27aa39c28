-- The bytes of counts.
use Rattle.std.proofs.Common.{◌≡◌, ℕ, zero, suc, ◌+◌, ◌-◌, ◌*◌, ◌/◌, ◌%◌, ◌^◌, ◌<◌, List, [], ◌∷◌, ◌++◌, map, length, get_or, take, drop, refl, sym, ap, ◌∙◌, append_assoc, length-drop, arith}
use Rattle.std.proofs.lemmas.List.{get_or-drop, take-append-drop}
use Rattle.std.proofs.lemmas.Nat.{be_bytes_8}
use Rattle.std.specs.Int.{w16, w64, to_be_bytes, from_be_bytes}
use Rattle.std.specs.Simd.{first_chunks}
use Rattle.answers.specs.Bytes.{bytes8, each2}

-- the library's bytes of a number are those of the records
pub eight_bytes : (n : ℕ) → n < 2 ^ 64 → to_be_bytes w64 n ≡ bytes8 n
eight_bytes n fits = grind arith

pub each2_length : (xs : List ℕ) → length (each2 xs) ≡ 2 * length xs
each2_length [] = omega arith
each2_length (x ∷ xs) = omega (arith, each2_length xs)

-- bytes are below 256, and so are those of a part of them
abbrev pub Bytes : List ℕ → Type 0
Bytes bs = (i : ℕ) → get_or bs i 0 < 256

bytes_taken : (k : ℕ) (bs : List ℕ) → Bytes bs → Bytes (take k bs)
bytes_taken zero bs small i = omega arith
bytes_taken (suc k) [] small i = omega arith
bytes_taken (suc k) (x ∷ bs) small zero = small 0
bytes_taken (suc k) (x ∷ bs) small (suc i) = bytes_taken k bs (λ j. small (suc j)) i

bytes_dropped : (k : ℕ) (bs : List ℕ) → Bytes bs → Bytes (drop k bs)
bytes_dropped k bs small i = omega (arith, get_or-drop k bs i 0, small (k + i))

-- numbers read from bytes have those bytes
pub eight_back : (bs : List ℕ) (n : ℕ) → length bs ≡ 8 → Bytes bs → n ≡ from_be_bytes w64 bs → n < 2 ^ 64 → bs ≡ bytes8 n
eight_back bs n long small is fits = sym (be_bytes_8 bs n long small is) ∙ eight_bytes n fits

pub pairs_back : (k : ℕ) (bs : List ℕ) → length bs ≡ 2 * k → Bytes bs → bs ≡ each2 (map (λ (p : List ℕ). from_be_bytes w16 p) (first_chunks 2 k bs))
pairs_back zero [] long small = refl
pairs_back zero (x ∷ bs) long small = absurd (omega arith)
pairs_back (suc k) [] long small = absurd (omega arith)
pairs_back (suc k) (x ∷ []) long small = absurd (omega arith)
pairs_back (suc k) (x ∷ (y ∷ bs)) long small =
    let rest = pairs_back k bs (omega arith) (λ i. small (suc (suc i))) in
    let high : (x * 256 + y) / 256 ≡ x = omega (arith, small 1) in
    let low : (x * 256 + y) % 256 ≡ y = omega (arith, small 1) in
    cc

-- bytes that end in the eight of a number, and those before it
pub record Ends (bs before : List ℕ) (n : ℕ) : Type 0 where
  pub is : bs ≡ before ++ bytes8 n
  pub small : Bytes before

pub ends : (bs before last : List ℕ) (n : ℕ) → Bytes bs → (before ≡ take (length bs - 8) bs) × (last ≡ drop (length bs - 8) bs) × (length before + 8 ≡ length bs) → n ≡ from_be_bytes w64 last → n < 2 ^ 64 → Ends bs before n
ends bs before last n small (front, back, long) read fits =
    let k = length bs - 8 in
    let eight : length last ≡ 8 = omega (arith, ap length back, length-drop k bs) in
    let number : last ≡ bytes8 n = eight_back last n eight (rw back (bytes_dropped k bs small)) read fits in
    let whole = take-append-drop k bs in
    record { is = cc; small = rw front (bytes_taken k bs small) }

-- what stands behind a list, by another word for it; and what is put behind that
pub said : (xs : List ℕ) {ys a b : List ℕ} → ys ≡ xs ++ a → a ≡ b → ys ≡ xs ++ b
said xs e f = e ∙ ap (λ (x : List ℕ). xs ++ x) f

pub behind : (xs a b : List ℕ) {ys zs : List ℕ} → ys ≡ xs ++ a → zs ≡ ys ++ b → zs ≡ xs ++ (a ++ b)
behind xs a b e f = f ∙ ap (λ (x : List ℕ). x ++ b) e ∙ append_assoc xs a b
