-- The reply lines of a batch determine it, among those that each caller's order allows: each line says whose call it was.
use Rattle.std.proofs.Common.{◌≡◌, ℕ, ◌+◌, ◌^◌, ◌<◌, List, [], ◌∷◌, ◌++◌, decimal, refl, sym, subst, append_assoc, arith, ◌∙◌}
use Rattle.std.proofs.lemmas.List.{append_cancel_left}
use Rattle.palm_base.specs.declared.row.Row.{Row}
use Rattle.palm_base.specs.declared.call.Entry.{Entry}
use Rattle.palm_base.specs.declared.call.Reply.{Reply}
use Rattle.palm_base.specs.History.{replies_to}
use Rattle.palm_base.specs.Table.{answer, after}
use Rattle.palm_script.specs.Transcript.{reply_line, reply_lines}
use Rattle.palm_script.proofs.Numerals.{number_is_no_sign, number_to_blank}
use Rattle.palm_script.proofs.Shuffles.{AreShuffles, first_is_same, rest_is_shuffled}

-- Texts of three parts that are one text are so too where the second and the third part are put together.
pub parted : (a b c d e f : List ℕ) → (a ++ b) ++ c ≡ (d ++ e) ++ f → a ++ (b ++ c) ≡ d ++ (e ++ f)
parted a b c d e f same = sym (append_assoc a b c) ∙ same ∙ append_assoc d e f

-- A reply line begins with no '='.
line_is_no_sign : (n caller : ℕ) (reply : Reply) (lines more rest : List ℕ) → (reply_line n caller reply ++ lines) ++ more ≡ 61 ∷ rest → ⊥
line_is_no_sign n caller reply lines more rest e =
    number_is_no_sign n _ rest (simp append_assoc at e)

-- Two reply lines of one number that begin one text are of one caller.
line_shows_caller : (n caller other : ℕ) (reply answered : Reply) (more rest : List ℕ) → caller < 2 ^ 64 → other < 2 ^ 64
    → reply_line n caller reply ++ more ≡ reply_line n other answered ++ rest → caller ≡ other
line_shows_caller n caller other reply answered more rest caller-small other-small e =
    let from-blank = append_cancel_left (decimal n) _ _ (simp append_assoc at e) in
    number_to_blank caller other _ _ caller-small other-small (append_cancel_left (32 ∷ []) _ _ from-blank)

-- What two batches were found to be: the same, with the same text after them, and what is left of the histories is shuffled.
pub record AreOneBatch (left right left_rest right_rest : List Entry) (after_left after_right : List ℕ) : Type 0 where
  pub batch : left ≡ right
  pub text : after_left ≡ after_right
  pub rest : AreShuffles left_rest right_rest

-- The lines of two batches on one table that begin one text up to a '=' are those of one batch.
pub lines_show_batch : (n : ℕ) (rows : List Row) (xs ys ps qs : List Entry) (v w : List ℕ) → AreShuffles (xs ++ ps) (ys ++ qs)
    → reply_lines n xs (replies_to rows xs) ++ 61 ∷ v ≡ reply_lines n ys (replies_to rows ys) ++ 61 ∷ w
    → AreOneBatch xs ys ps qs v w
lines_show_batch n rows [] [] ps qs v w shuffles e = record { batch = refl; text = cc; rest = shuffles }
lines_show_batch n rows [] (y ∷ ys) ps qs v w shuffles e =
    absurd (line_is_no_sign n y.caller (answer rows y.call) (reply_lines (n + 1) ys (replies_to (after rows y.call) ys)) (61 ∷ w) v (sym e))
lines_show_batch n rows (x ∷ xs) [] ps qs v w shuffles e =
    absurd (line_is_no_sign n x.caller (answer rows x.call) (reply_lines (n + 1) xs (replies_to (after rows x.call) xs)) (61 ∷ v) w e)
lines_show_batch n rows (x ∷ xs) (y ∷ ys) ps qs v w shuffles e =
    let lines = λ (entry : Entry) (entries : List Entry). reply_lines (n + 1) entries (replies_to (after rows entry.call) entries) in
    let line = λ (entry : Entry). reply_line n entry.caller (answer rows entry.call) in
    let left = λ (entry : Entry). lines entry xs ++ 61 ∷ v in
    let right = λ (entry : Entry). lines entry ys ++ 61 ∷ w in
    let text : line x ++ left x ≡ line y ++ right y = parted (line x) (lines x xs) (61 ∷ v) (line y) (lines y ys) (61 ∷ w) e in
    let x-small : x.caller < 2 ^ 64 = omega (arith, shuffles.lefts.0) in
    let y-small : y.caller < 2 ^ 64 = omega (arith, shuffles.rights.0) in
    let whose = line_shows_caller n x.caller y.caller (answer rows x.call) (answer rows y.call) (left x) (right y) x-small y-small text in
    let first = first_is_same x y (xs ++ ps) (ys ++ qs) shuffles whose in
    let of-first = subst (λ (entry : Entry). line x ++ left x ≡ line entry ++ right entry) (sym first) text in
    let text-rest = append_cancel_left (line x) (left x) (right x) of-first in
    let rest = rest_is_shuffled x y (xs ++ ps) (ys ++ qs) shuffles first in
    let others = lines_show_batch (n + 1) (after rows x.call) xs ys ps qs v w rest text-rest in
    record { batch = λ i. first i ∷ others.batch i; text = others.text; rest = others.rest }
