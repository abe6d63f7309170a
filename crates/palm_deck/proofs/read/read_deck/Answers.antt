use Rattle.std.proofs.Common.{◌≡◌, ◌≢◌, ◌+◌, ◌++◌, ◌∷◌, [], length, subst, Ok, Err, ◌∙◌, sym, ap, List, ℕ, Some}
use Rattle.std.specs.Prelude.{Result, IfErr, IsErrAnd}
use Rattle.csv.specs.Reading.{strip_bom}
use Rattle.csv.specs.Records.{fields_of}
use Rattle.palm_deck.specs.Deck.{without_mark, deck_of, call_at, records_of}
use Rattle.palm_deck.specs.declared.deck.DeckFault.TheVariants.{NoMemory}
use Rattle.palm_deck.proofs.Records.{HasRead, none_read, one_read, less_unread, all_read, front_read}
use Rattle.palm_deck.proofs.Said.{held_none, held_header, held_more, all_said, nothing_said, header_fault, edit_fault}
use Rattle.palm_deck.proofs.read.read_deck.Goals as goal
use Rattle.palm_deck.proofs.read.read_deck.Goals.{then-not-branch-via-then-not-branch, then-not-branch-via-else-not-branch+then-not-is_header}

pub returns-then-not-branch-clause-err : goal.returns-then-not-branch-clause-err
returns-then-not-branch-clause-err c _ =
    let from = c.from_reader-reader.ensures in
    let flexible = c.flexible.ensures in
    let headers = c.has_headers.ensures in
    let text = strip_bom (without_mark c.args.bytes.now) in
    let begun : HasRead text [] c.from_reader-reader.result =
    none_read text c.from_reader-reader.result ((rw (flexible, headers) at from.trim) ∙ c.new.ensures.trim) (rw (flexible, headers) at from.has_headers) from.headers ((rw (flexible, headers) at from.config) ∙ c.new.ensures.config) from.state (from.source ∙ ap (λ (t : List ℕ). Some (strip_bom t)) c.without_mark.ensures) in
    let step = c.in_ok-read_record.ensures.read begun.0 begun.1 in
    elim c.then-not-branch.branch [
      | then-not-branch-via-then-not-branch w ↦ nothing_said (records_of c.args.bytes.now) [] [] (all_read text [] c.from_reader-reader.result c.read_record.new.reader (fields_of c.read_record.new.fields) begun (rw w.if-not-branch.true at step)) held_none
      | then-not-branch-via-else-not-branch+then-not-is_header w ↦ (let front = front_read text ([] ++ fields_of c.read_record.new.fields ∷ []) c.read_record.new.reader (one_read text [] c.from_reader-reader.result c.read_record.new.reader (fields_of c.read_record.new.fields) begun (rw w.if-not-branch.false at step) (c.in_ok-read_record.ensures.first begun.0)) in header_fault (records_of c.args.bytes.now) [] [] (fields_of c.read_record.new.fields) front.0 front.1 held_none (sym w.is_header.ensures ∙ w.if-not-is_header.true))
    ]

pub loop-entries-init : goal.loop-entries-init
loop-entries-init c =
    let from = c.from_reader-reader.ensures in
    let flexible = c.flexible.ensures in
    let headers = c.has_headers.ensures in
    let text = strip_bom (without_mark c.args.bytes.now) in
    let begun : HasRead text [] c.from_reader-reader.result =
    none_read text c.from_reader-reader.result ((rw (flexible, headers) at from.trim) ∙ c.new.ensures.trim) (rw (flexible, headers) at from.has_headers) from.headers ((rw (flexible, headers) at from.config) ∙ c.new.ensures.config) from.state (from.source ∙ ap (λ (t : List ℕ). Some (strip_bom t)) c.without_mark.ensures) in
    let step = rw c.if-not-branch.false at (c.in_ok-read_record.ensures.read begun.0 begun.1) in (
      [] ++ fields_of c.read_record.new.fields ∷ [],
      one_read text [] c.from_reader-reader.result c.read_record.new.reader (fields_of c.read_record.new.fields) begun step (c.in_ok-read_record.ensures.first begun.0),
      rw c.new-entries.ensures.items (held_header [] [] (fields_of c.read_record.new.fields) held_none (sym c.if-not-is_header.ensures)),
    )

pub loop-entries-smaller : goal.loop-entries-smaller
loop-entries-smaller c =
    let inv = c.loop-entries.invariant in
    let step = rw c.if-branch.true at (c.in_ok-read_record-2.ensures.read inv.1.0 inv.1.1) in
    less_unread (strip_bom (without_mark c.args.bytes.now)) inv.0 c.loop-entries.reader c.read_record-in-loop-entries.new.reader (fields_of c.read_record-in-loop-entries.new.fields) inv.1 step

pub loop-entries-preserved : goal.loop-entries-preserved
loop-entries-preserved c =
    let inv = c.loop-entries.invariant in
    let step = rw c.if-branch.true at (c.in_ok-read_record-2.ensures.read inv.1.0 inv.1.1) in
    let fields = fields_of c.read_record-in-loop-entries.new.fields in (
      inv.0 ++ fields ∷ [],
      one_read (strip_bom (without_mark c.args.bytes.now)) inv.0 c.loop-entries.reader c.read_record-in-loop-entries.new.reader fields inv.1 step (c.in_ok-read_record-2.ensures.first inv.1.0),
      held_more inv.0 c.loop-entries.entries.items c.add_edit.new.entries.items fields inv.2 c.in_ok-add_edit.ensures.ok,
    )

passed_up : {T E : Type 0} (r : Result T E) (e : E) (P : E → Type 0) → IsErrAnd r (λ y. y ≡ e) → P e → IfErr r P
passed_up (Ok x) e P is p = tt
passed_up (Err y) e P is p = subst P (sym is) p

pub returns-in_err-add_edit-clause-err : goal.returns-in_err-add_edit-clause-err
returns-in_err-add_edit-clause-err c =
    let inv = c.loop-entries.invariant in
    let step = rw c.if-branch.true at (c.in_ok-read_record-2.ensures.read inv.1.0 inv.1.1) in
    let fields = fields_of c.read_record-in-loop-entries.new.fields in
    let front = front_read (strip_bom (without_mark c.args.bytes.now)) (inv.0 ++ fields ∷ []) c.read_record-in-loop-entries.new.reader (one_read (strip_bom (without_mark c.args.bytes.now)) inv.0 c.loop-entries.reader c.read_record-in-loop-entries.new.reader fields inv.1 step (c.in_ok-read_record-2.ensures.first inv.1.0)) in
    let fault : c.in_err-add_edit.field-0.0 ≢ NoMemory → call_at (length c.loop-entries.entries.items + 2) fields ≡ Err c.in_err-add_edit.field-0.0 = c.in_err-add_edit.ensures.err in
    passed_up c.from_residual-in_err-add_edit.result c.in_err-add_edit.field-0.0 (λ f. f ≢ NoMemory → deck_of c.args.bytes.now ≡ Err f) c.from_residual-in_err-add_edit.ensures.1
    (λ other. edit_fault (records_of c.args.bytes.now) inv.0 c.loop-entries.entries.items fields front.0 _ front.1 inv.2 (fault other))

pub returns-clause-ok : goal.returns-clause-ok
returns-clause-ok c =
    let inv = c.loop-entries.invariant in
    let step = rw c.if-branch.false at (c.in_ok-read_record-2.ensures.read inv.1.0 inv.1.1) in
    rw c.from_vec.ensures (all_said (records_of c.args.bytes.now) inv.0 c.loop-entries.entries.items (all_read (strip_bom (without_mark c.args.bytes.now)) inv.0 c.loop-entries.reader c.read_record-in-loop-entries.new.reader (fields_of c.read_record-in-loop-entries.new.fields) inv.1 step) inv.2)
