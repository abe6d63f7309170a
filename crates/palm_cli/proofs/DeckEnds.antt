-- How the mode `deck` ends, by how the deck was read and whether the table was written.
use Rattle.std.proofs.Common.{◌≡◌, ℕ, zero, ◌+◌, ◌≤◌, inr, List, [], Option, refl, sym, ap, subst, ◌∙◌, arith}
use Rattle.std.specs.Prelude.{IfOk, Result}
use Rattle.std.specs.Io.KnownBytes.{Appends}
use Rattle.palm_base.specs.History.{table_after}
use Rattle.palm_base.specs.Tree.{Tree, rows_of}
use Rattle.palm_base.specs.declared.call.Entry.{Entry}
use Rattle.palm_base.specs.declared.row.Row.{Row}
use Rattle.palm_deck.specs.Deck.{deck_of, deck_text}
use Rattle.palm_deck.specs.declared.deck.DeckFault.{DeckFault}
use Rattle.palm_script.specs.Causes.{Rose}
use Rattle.palm_script.specs.declared.input.TheConstants.{MOST_BYTES}
use Rattle.palm_words.specs.declared.settings.Mode.TheVariants.{Deck}
use Rattle.palm_words.specs.declared.settings.Settings.{Settings}
use Rattle.palm_cli.specs.Decks.{IsGoodDeck, IsBegunDeck, deck_left}
use Rattle.palm_cli.specs.Ends.{Outside, EndsIn, KeepsWrites}
use Rattle.palm_cli.specs.Reads.{IsEdits, IsNoDeck}
use Rattle.palm_cli.specs.Stops.{status_of}
use Rattle.palm_cli.specs.Streams.{AppendsFront}
use Rattle.palm_cli.specs.Tables.{tree_left, cost_left}
use Rattle.palm_cli.specs.declared.stop.Stop.{Stop}
use Rattle.palm_cli.specs.declared.stop.Stop.TheVariants.{Memory, Write}
use Rattle.palm_cli.specs.declared.status.Status.{Status}
use Rattle.palm_cli.specs.declared.status.Status.TheVariants.{Done, Usage, BadLine, ReadFault, WriteFault, NoMemory, TooLong, BadRow}
use Rattle.palm_cli.proofs.Statuses.{stop_ends}
use Rattle.palm_cli.proofs.Stopped.{stopped_at_once}
use Rattle.palm_cli.proofs.Wholes.{where_whole, where_longer}

-- The table that edits leave of the empty one makes the deck that they leave.
pub table_text : (tree : Tree) (rows : List Row) (edits : List Entry) → rows ≡ table_after (rows_of tree) edits → tree ≡ (zero, []) → deck_text rows ≡ deck_left edits
table_text tree rows edits is none = ap deck_text (is ∙ ap (λ (t : Tree). table_after (rows_of t) edits) none)

-- No good deck was read, and nothing was written.
pub no_deck_ends : (settings : Settings) (left rest taken : Option (List ℕ)) (before now writes steps : ℕ) (status : Status) (after : Tree)
    → IsNoDeck left rest before now status
    → EndsIn Deck settings status (record {
      left = left;
      rest = rest;
      taken = taken;
      now = taken;
      reads_before = before;
      reads_now = now;
      writes_before = writes;
      writes_now = writes;
      steps_before = steps;
      steps_now = steps;
    }) after
no_deck_ends settings left rest taken before now writes steps Done after unread = absurd unread
no_deck_ends settings left rest taken before now writes steps Usage after unread = absurd unread
no_deck_ends settings left rest taken before now writes steps (BadLine fault) after unread = absurd unread
no_deck_ends settings left rest taken before now writes steps ReadFault after unread = (unread.0, (unread.1.0, unread.1.1, (unread.1.2, refl)), refl)
no_deck_ends settings left rest taken before now writes steps WriteFault after unread = absurd unread
no_deck_ends settings left rest taken before now writes steps NoMemory after unread = (refl, (unread.0, unread.1, stopped_at_once Deck settings unread.0 rest taken))
no_deck_ends settings left rest taken before now writes steps TooLong after unread =
    let read = unread.0 in
    (read, (where_longer MOST_BYTES left rest read.0 read.1 (omega (arith, read.2)), refl), unread.1, refl)
no_deck_ends settings left rest taken before now writes steps (BadRow row why) after unread =
    (refl, unread.0, unread.1, (unread.2.0, unread.2.1, stopped_at_once Deck settings unread.2.0 rest taken), unread.3, refl)

-- The edits of a good deck were run, and the table that they leave was written.
pub deck_ends : (settings : Settings) (o : Outside) (edits : List Entry) (after : Tree) → IsEdits o.left o.rest o.reads_before o.reads_now edits
    → Appends o.taken o.now (deck_left edits) → after ≡ tree_left settings.batch edits → o.writes_now ≡ o.writes_before
    → o.steps_now ≤ o.steps_before + cost_left settings.batch edits
    → EndsIn Deck settings Done o after
deck_ends settings o edits after read text tree kept few = (
  where_whole (λ (b : List ℕ). IsGoodDeck settings.batch b o.taken o.now after) o.left o.rest read.bytes read.whole read.end
      (record { size = read.size; edits = edits; says = read.says; text = text; tree = tree }),
  λ reads. read.end,
  read.kept,
  kept,
  where_whole (λ (b : List ℕ). IfOk (deck_of b) (λ edits. o.steps_now ≤ o.steps_before + cost_left settings.batch edits)) o.left o.rest read.bytes read.whole read.end
      (subst (λ (said : Result (List Entry) DeckFault). IfOk said (λ edits. o.steps_now ≤ o.steps_before + cost_left settings.batch edits)) (sym read.says) few),
)

-- It stopped before its end.
pub deck_stops : (settings : Settings) (stop : Stop) (o : Outside) (edits : List Entry) (after : Tree) → IsEdits o.left o.rest o.reads_before o.reads_now edits
    → AppendsFront o.taken o.now (deck_left edits) → (stop ≡ Write → Rose o.writes_before o.writes_now) → (stop ≡ Memory → KeepsWrites o)
    → EndsIn Deck settings (status_of stop) o after
deck_stops settings stop o edits after read front rose kept =
    let begun : IsBegunDeck read.bytes o.rest o.taken o.now = (read.end, read.size, (edits, read.says, front)) in
    stop_ends Deck settings stop o after rose kept (read.bytes, read.whole, inr begun) (read.bytes, read.whole, begun)
