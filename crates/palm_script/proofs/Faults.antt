-- A fault in the lines of a text stands in each text that begins so.
use Rattle.std.proofs.Common.{◌≡◌, ℕ, ◌+◌, ◌<◌, Bool, true, false, List, [], ◌∷◌, ◌++◌, length, map, Ok, Err, refl, sym, ap, ◌∙◌, arith}
use Rattle.std.specs.Prelude.{IsSome}
use Rattle.std.specs.List.{slice_split, onto_first}
use Rattle.std.proofs.lemmas.List.Splits.{length-slice_split}
use Rattle.std.proofs.lemmas.List.{append-nil, map-append, length-append}
use Rattle.std.proofs.lemmas.Bool.{false≢true}
use Rattle.palm_script.specs.declared.line.Line.TheVariants.{Skip, Made, Cut, Dump}
use Rattle.palm_script.specs.Laws.{FaultsStand}
use Rattle.palm_script.specs.Line.{line_of}
use Rattle.palm_script.specs.Script.{is_feed, without_return, ended, lines_of, Outcome, first_then, outcome_from}
use Rattle.palm_script.proofs.Lines.{ended_more}

-- the parts of a text that goes on: all but the last part stay
record Goes (p : ℕ → Bool) (xs ys : List ℕ) : Type 0 where
  front : List (List ℕ)
  last : List ℕ
  more : List (List ℕ)
  before : slice_split p xs ≡ front ++ last ∷ []
  after : slice_split p (xs ++ ys) ≡ front ++ more
  some : 0 < length more

some_parts : (p : ℕ → Bool) (ys : List ℕ) → 0 < length (slice_split p ys)
some_parts p ys = omega (arith, length-slice_split p ys)

onto_more : (x : ℕ) (more : List (List ℕ)) → 0 < length more → 0 < length (onto_first x more)
onto_more x [] h = absurd (omega arith)
onto_more x (m ∷ ms) h = omega arith

-- a byte in front that ends no part
onto : (p : ℕ → Bool) (x : ℕ) (xs ys : List ℕ) → p x ≡ false → (front : List (List ℕ)) (last : List ℕ) (more : List (List ℕ))
    → slice_split p xs ≡ front ++ last ∷ [] → slice_split p (xs ++ ys) ≡ front ++ more → 0 < length more → Goes p (x ∷ xs) ys
onto p x xs ys e [] last more b a h = record {
  front = [];
  last = x ∷ last;
  more = onto_first x more;
  before = rw e (ap (onto_first x) b);
  after = rw e (ap (onto_first x) a);
  some = onto_more x more h;
}
onto p x xs ys e (f ∷ fs) last more b a h = record {
  front = (x ∷ f) ∷ fs;
  last = last;
  more = more;
  before = rw e (ap (onto_first x) b);
  after = rw e (ap (onto_first x) a);
  some = h;
}

goes : (p : ℕ → Bool) (xs ys : List ℕ) → Goes p xs ys
goes p [] ys = record { front = []; last = []; more = slice_split p ys; before = refl; after = refl; some = some_parts p ys }
goes p (x ∷ xs) ys =
    let g = goes p xs ys in
    elim (p x) as (λ v. p x ≡ v → Goes p (x ∷ xs) ys) [
      | true ↦ λ e. record {
        front = [] ∷ g.front;
        last = g.last;
        more = g.more;
        before = rw e (ap (λ l. [] ∷ l) g.before);
        after = rw e (ap (λ l. [] ∷ l) g.after);
        some = g.some;
      }
      | false ↦ λ e. onto p x xs ys e g.front g.last g.more g.before g.after g.some
    ] refl

ended_front : (whole : Bool) (front more : List (List ℕ)) → 0 < length more → ended whole (front ++ more) ≡ front ++ ended whole more
ended_front whole [] more h = refl
ended_front whole (f ∷ front) more h =
    ended_more whole f (front ++ more) (omega (arith, length-append front more)) ∙ ap (λ (l : List (List ℕ)). f ∷ l) (ended_front whole front more h)

-- the lines that have ended stay
lines_stand : (text more : List ℕ) (whole : Bool) → (rest : List (List ℕ)) × (lines_of (text ++ more) whole ≡ lines_of text false ++ rest)
lines_stand text more whole =
    let g = goes is_feed text more in
    let old : lines_of text false ≡ map without_return g.front =
    ap (λ parts. map without_return (ended false parts)) g.before ∙ ap (map without_return) (ended_front false g.front (g.last ∷ []) (omega arith)) ∙ ap (map without_return) (append-nil g.front) in
    let new : lines_of (text ++ more) whole ≡ map without_return g.front ++ map without_return (ended whole g.more) =
    ap (λ parts. map without_return (ended whole parts)) g.after ∙ ap (map without_return) (ended_front whole g.front g.more g.some) ∙ map-append without_return g.front (ended whole g.more) in
    (map without_return (ended whole g.more), new ∙ ap (λ (l : List (List ℕ)). l ++ map without_return (ended whole g.more)) (sym old))

-- what stands behind a faulty line says nothing
outcome_stands : (n : ℕ) (texts rest : List (List ℕ)) → IsSome (outcome_from n texts).fault → outcome_from n (texts ++ rest) ≡ outcome_from n texts
outcome_stands n [] rest h = absurd (false≢true h)
outcome_stands n (text ∷ texts) rest h =
    let old : Outcome = outcome_from (n + 1) texts in
    let new : Outcome = outcome_from (n + 1) (texts ++ rest) in
    elim (line_of text n) as (λ v. IsSome (first_then v old).fault → first_then v new ≡ first_then v old) [
      | Ok line ↦ elim line as (λ y. IsSome (first_then (Ok y) old).fault → first_then (Ok y) new ≡ first_then (Ok y) old) [
        | Skip ↦ λ k. outcome_stands (n + 1) texts rest k
        | Made caller call ↦ λ k. ap (first_then (Ok (Made caller call))) (outcome_stands (n + 1) texts rest k)
        | Cut ↦ λ k. ap (first_then (Ok Cut)) (outcome_stands (n + 1) texts rest k)
        | Dump ↦ λ k. ap (first_then (Ok Dump)) (outcome_stands (n + 1) texts rest k)
      ]
      | Err fault ↦ λ k. refl
    ] h

pub faults_stand : FaultsStand
faults_stand text more whole h =
    let x = lines_stand text more whole in
    ap (outcome_from 1) x.1 ∙ outcome_stands 1 (lines_of text false) x.0 h
