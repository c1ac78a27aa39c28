-- Records make one run, as far as anything is asked of it: all that they make have the same doings, come before each other alike, and have the same moments.
use Rattle.std.proofs.Common.{◌≡◌, ℕ, List, sym, ap, ◌∙◌, subst, arith}
use mathlib.Core.List.{Memᴰ}
use Rattle.records.specs.Record.{Record}
use Rattle.letters.specs.declared.letter.Letter.{Letter}
use Rattle.runs.specs.Run.{Run, Before, own, letter, through, Makes}
use Rattle.runs.specs.Moment.{Cut, Moment}

module _ (rs : List Record) (r q : Run) (made : Makes rs r) (also : Makes rs q) where
  pub same_count : r.count ≡ q.count
  same_count = made.count ∙ sym also.count

  pub same_did : (i : ℕ) → r.did i ≡ q.did i
  same_did i = made.did i ∙ sym (also.did i)

  -- a letter of the one is one of the other
  other : (l : Letter) → Memᴰ l q.letters → (k : Letter) × Memᴰ k r.letters × (k.from ≡ l.from) × (k.sent ≡ l.sent) × (k.to ≡ l.to) × (k.got ≡ l.got)
  other l mem = let known = also.known l mem in made.all l.from l.sent l.to l.got known.0 known.1 known.2

  pub moment_made : (c : Cut) → Moment r c → Moment q c
  moment_made c m = record {
    inside = λ i lt. omega (arith, m.inside i (omega (arith, lt, same_count)), same_did i);
    closed = λ l mem h.
        let x = other l mem in
        let k = x.0 in
        omega (arith, m.closed k x.1 (omega (arith, h, x.5, ap c x.4)), x.3, ap c x.2);
  }

  pub before_made : {i m j n : ℕ} → Before q i m j n → Before r i m j n
  before_made {i} (own lt one most) = own lt one (omega (arith, most, same_did i))
  before_made (letter l mem) =
      let x = other l mem in
      let k = x.0 in
      subst (λ z. Before r z l.sent l.to l.got) x.2 (subst (λ z. Before r k.from z l.to l.got) x.3 (subst (λ z. Before r k.from k.sent z l.got) x.4 (subst (λ z. Before r k.from k.sent k.to z) x.5 (letter k x.1))))
  before_made (through k o first second) = through k o (before_made first) (before_made second)
