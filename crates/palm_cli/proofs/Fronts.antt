-- Fronts of a text that a sink has taken.
use Rattle.std.proofs.Common.{◌≡◌, ℕ, ◌+◌, List, [], ◌++◌, length, take, Option, sym, ap, subst, ◌∙◌, append_assoc, arith}
use Rattle.std.specs.Prelude.{Result, Ok, Err, OnErr}
use Rattle.std.specs.Io.KnownBytes.{Appends}
use Rattle.std.proofs.KnownBytes.{Appends-nil, Appends-trans}
use Rattle.std.proofs.Math.Seq.{take-append-add}
use Rattle.std.proofs.lemmas.List.{append-nil, length-append, take-append-le, take_all}
use Rattle.palm_cli.specs.Streams.{AppendsFront}

-- nothing was taken
pub front_none : (a : Option (List ℕ)) (all : List ℕ) → AppendsFront a a all
front_none a all = (0, omega arith, Appends-nil a)

-- what was taken, and what follows it
pub front_now : (a b : Option (List ℕ)) (w rest all : List ℕ) → Appends a b w → w ++ rest ≡ all → AppendsFront a b all
front_now a b w rest all took is =
    let front : take (length w) (w ++ rest) ≡ w = take-append-le (length w) w rest (omega arith) ∙ take_all (length w) w (omega arith) in
    (length w, omega (arith, ap length is, length-append w rest), subst (Appends a b) (sym (ap (take (length w)) (sym is) ∙ front)) took)

-- all of a text was taken
pub front_whole : (a b : Option (List ℕ)) (all : List ℕ) → Appends a b all → AppendsFront a b all
front_whole a b all took = front_now a b all [] all took (append-nil all)

-- a front of what follows was taken too
pub front_more : (a b c : Option (List ℕ)) (w p rest all : List ℕ) → Appends a b w → AppendsFront b c p → w ++ (p ++ rest) ≡ all → AppendsFront a c all
front_more a b c w p rest all took more is =
    let n = more.0 in
    let front : take (length w + n) all ≡ w ++ take n p =
    ap (take (length w + n)) (sym is) ∙ take-append-add w (p ++ rest) n ∙ ap (λ (l : List ℕ). w ++ l) (take-append-le n p rest more.1) in
    let size : length all ≡ length w + (length p + length rest) =
    ap length (sym is) ∙ length-append w (p ++ rest) ∙ ap (λ (k : ℕ). length w + k) (length-append p rest) in
    (length w + n, omega (arith, size, more.1), subst (Appends a c) (sym front) (Appends-trans a b c w (take n p) took more.2))

-- a front of a text is one of a longer text
pub front_longer : (a b : Option (List ℕ)) (p rest all : List ℕ) → AppendsFront a b p → p ++ rest ≡ all → AppendsFront a b all
front_longer a b p rest all more is = front_more a a b [] p rest all (Appends-nil a) more is

-- All of a text was taken but its end `rest`. So of "= 2" with the end "2" it is "= ".
abbrev pub AppendsBut : (a b : Option (List ℕ)) (rest all : List ℕ) → Type 0
AppendsBut a b rest all = (w : List ℕ) × Appends a b w × (w ++ rest ≡ all)

-- the first part of that end was taken too
pub but_more : (a b c : Option (List ℕ)) (p others : List ℕ) {rest all : List ℕ} → rest ≡ p ++ others → AppendsBut a b rest all → Appends b c p → AppendsBut a c others all
but_more a b c p others is old took = (old.0 ++ p, Appends-trans a b c old.0 p old.1 took, append_assoc old.0 p others ∙ ap (λ (l : List ℕ). old.0 ++ l) (sym is) ∙ old.2)

-- a front of its first part was taken too
pub but_front : (a b c : Option (List ℕ)) (p others : List ℕ) {rest all : List ℕ} → rest ≡ p ++ others → AppendsBut a b rest all → AppendsFront b c p → AppendsFront a c all
but_front a b c p others {all = all} is old more = front_more a b c old.0 p others all old.1 more (ap (λ (l : List ℕ). old.0 ++ l) (sym is) ∙ old.2)

-- nothing is left of it
pub but_nothing : (a b : Option (List ℕ)) {all : List ℕ} → AppendsBut a b [] all → Appends a b all
but_nothing a b old = subst (Appends a b) (sym (append-nil old.0) ∙ old.2) old.1

-- what holds in any case holds of an error
pub on_err : {T E P : Type 0} (result : Result T E) → P → OnErr result P
on_err (Ok x) p = tt
on_err (Err e) p = p
