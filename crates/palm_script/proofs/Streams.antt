-- Bytes that were taken or given in several calls.
use Rattle.std.proofs.Common.{◌≡◌, ℕ, ◌+◌, ◌-◌, List, ◌++◌, length, take, drop, Option, sym, ap, subst, ◌∙◌, arith}
use Rattle.std.specs.Io.KnownBytes.{Appends, Consumes}
use Rattle.std.proofs.KnownBytes.{Appends-trans, Consumes-trans}
use Rattle.std.proofs.Math.Seq.{take-add}
use Rattle.std.proofs.lemmas.List.{length-take, length-drop, take-append-drop, take_rest}

take_both : (p : List ℕ) (i n : ℕ) → take i p ++ take n (drop i p) ≡ take (i + n) p
take_both p i n = sym (take-add i n p)

pub took_more : (a b c : Option (List ℕ)) (p : List ℕ) (i n : ℕ) → Appends a b (take i p) → Appends b c (take n (take (length p - i) (drop i p))) → Appends a c (take (i + n) p)
took_more a b c p i n first second =
    let rest : take (length p - i) (drop i p) ≡ drop i p = take_rest p i in
    let more : Appends b c (take n (drop i p)) = rw rest at second in
    subst (Appends a c) (take_both p i n) (Appends-trans a b c (take i p) (take n (drop i p)) first more)

-- what was read in two steps was read
pub read_more : (a b c : Option (List ℕ)) (bs cs : List ℕ) → Consumes a b bs → Consumes b c cs → (read : List ℕ) × Consumes a c read
read_more a b c bs cs first second = (bs ++ cs, Consumes-trans a b c bs cs first second)

-- one byte more was read than is kept
pub one_more : (a b : Option (List ℕ)) (bs kept : List ℕ) (most : ℕ) → Consumes a b bs → length bs ≡ most + 1 → kept ≡ take most bs
    → (more : List ℕ) × Consumes a b (kept ++ more) × (length kept ≡ most) × (length more ≡ 1)
one_more a b bs kept most read size kept-is = (
  drop most bs,
  subst (Consumes a b) (sym (ap (λ (l : List ℕ). l ++ drop most bs) kept-is ∙ take-append-drop most bs)) read,
  omega (arith, ap length kept-is, length-take most bs),
  omega (arith, length-drop most bs),
)
