-- What was read to the end of a source is all that it had.
use Rattle.std.proofs.Common.{◌≡◌, ℕ, ◌<◌, List, ◌++◌, length, Option, Some, None, sym, ap, subst, ◌∙◌, arith}
use Rattle.std.specs.Prelude.{IfSome}
use Rattle.std.specs.Io.KnownBytes.{Consumes, IsAtEnd}
use Rattle.std.proofs.lemmas.List.{append-nil, length-append}

-- What holds of the bytes that were read holds of those that the source had, where it tells them.
pub where_whole : (P : List ℕ → Type 0) (left rest : Option (List ℕ)) (bytes : List ℕ) → Consumes left rest bytes → IsAtEnd rest → P bytes → IfSome left P
where_whole P None rest bytes read end p = tt
where_whole P (Some b) None bytes read end p = absurd read
where_whole P (Some b) (Some r) bytes read end p =
    let whole : b ≡ bytes = read ∙ ap (λ (l : List ℕ). bytes ++ l) end ∙ append-nil bytes in
    subst P (sym whole) p

-- What holds of the bytes that were read with any behind them holds of those that the source had, where it tells them.
pub where_read : (P : List ℕ → Type 0) (left rest : Option (List ℕ)) (bytes : List ℕ) → Consumes left rest bytes → ((unread : List ℕ) → P (bytes ++ unread)) → IfSome left P
where_read P None rest bytes read p = tt
where_read P (Some b) None bytes read p = absurd read
where_read P (Some b) (Some r) bytes read p = subst P (sym read) (p r)

-- Where more than so many bytes were read, the source had more than so many.
pub where_longer : (most : ℕ) (left rest : Option (List ℕ)) (bytes : List ℕ)
    → Consumes left rest bytes → most < length bytes → IfSome left (λ b. most < length b)
where_longer most left rest bytes read more =
    where_read (λ (b : List ℕ). most < length b) left rest bytes read (λ unread. omega (arith, length-append bytes unread, more))
