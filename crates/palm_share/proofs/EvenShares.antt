-- Shares that differ by one item at most: each takes what is left divided by the shares that are left.
use Rattle.std.proofs.Common.{◌≡◌, ℕ, suc, ◌+◌, ◌-◌, ◌*◌, ◌/◌, ◌<◌, ◌≤◌, refl, sym, ap, ◌∙◌, arith, inl, inr}
use Rattle.std.proofs.Math.Nat.{div-mul-le_self, lt-div-mul-add, le-div_iff_mul-le, div-le_of_le-mul, mul-suc, suc-mul, mul_comm}
use Rattle.std.proofs.lemmas.Bool.{cases_lt}

-- So many items are left for so many shares, each of which is to have `each` or one more.
pub record AreLeft (each shares items : ℕ) : Type 0 where
  pub least : each * shares ≤ items
  pub most : items ≤ suc each * shares

pub left_at_first : (items shares : ℕ) → 1 ≤ shares → AreLeft (items / shares) shares items
left_at_first items shares some = record {
  least = div-mul-le_self items shares;
  most = let below : items < items / shares * shares + shares = lt-div-mul-add (omega arith) in rw (suc-mul (items / shares) shares) (omega (arith, below));
}

-- The next share has `each` or one more, and so have those that are left then.
pub record Goes (each shares items size : ℕ) : Type 0 where
  pub least : each ≤ size
  pub most : size ≤ suc each
  pub left : AreLeft each shares (items - size)

goes : (each k items size product : ℕ) → each * k ≡ product → each ≤ size → size ≤ suc each → each * suc k ≤ items → items ≤ suc each * suc k
    → size * suc k ≤ items → items < size * suc k + suc k → Goes each k items size
goes each k items size product is least most some few low high =
    let one : each * suc k ≡ product + each = mul-suc each k ∙ ap (λ n. n + each) is in
    let more : suc each * suc k ≡ product + each + suc k = suc-mul each (suc k) ∙ ap (λ n. n + suc k) one in
    let next : suc each * k ≡ product + k = suc-mul each k ∙ ap (λ n. n + k) is in
    elim (cases_lt each size) [
      | inl above ↦
          let same : size ≡ suc each = omega arith in
          let own : size * suc k ≡ product + each + suc k = ap (λ n. n * suc k) same ∙ more in
          record { least = least; most = most; left = record { least = omega (arith, is, own, low, same); most = omega (arith, next, more, few, same) } }
      | inr below ↦
          let same : size ≡ each = omega arith in
          let own : size * suc k ≡ product + each = ap (λ n. n * suc k) same ∙ one in
          record { least = least; most = most; left = record { least = omega (arith, is, one, some, same); most = omega (arith, next, own, high, same) } }
    ]

pub share_goes : (each k items : ℕ) → AreLeft each (suc k) items → Goes each k items (items / suc k)
share_goes each k items left =
    goes each k items (items / suc k) (each * k) refl
    ((le-div_iff_mul-le (omega arith)).1 left.least)
    (div-le_of_le-mul (suc k) (rw (mul_comm (suc k) (suc each)) left.most))
    left.least left.most (div-mul-le_self items (suc k)) (lt-div-mul-add (omega arith))
