-- How the run of a script ends, by how far it was read and whether it has a faulty line.
use Rattle.std.proofs.Common.{◌≡◌, ℕ, ◌+◌, ◌-◌, ◌≤◌, ◌<◌, Bool, inl, inr, true, false, List, ◌++◌, length, take, Option, Some, None, refl, sym, ap, subst, ◌∙◌}
use Rattle.std.proofs.Common.{append_assoc, arith}
use Rattle.std.specs.Prelude.{IfSome, IsSome, is_none}
use Rattle.std.specs.Io.KnownBytes.{Appends, Consumes, IsAtEnd}
use Rattle.std.proofs.lemmas.List.{length-append, take_all}
use Rattle.palm_base.specs.Tree.{Tree}
use Rattle.palm_script.specs.declared.line.LineFault.{LineFault}
use Rattle.palm_script.specs.declared.input.TheConstants.{MOST_BYTES}
use Rattle.palm_script.specs.declared.input.InputEnd.{InputEnd}
use Rattle.palm_script.specs.declared.input.InputEnd.TheVariants.{Whole, Failed, Long}
use Rattle.palm_script.specs.Causes.{Rose}
use Rattle.palm_script.specs.Input.{IsRead, is_whole}
use Rattle.palm_script.specs.Laws.{FaultsStand}
use Rattle.palm_script.specs.Script.{Outcome, script_of}
use Rattle.palm_words.specs.declared.settings.Mode.TheVariants.{Replay}
use Rattle.palm_words.specs.declared.settings.Settings.{Settings}
use Rattle.palm_cli.specs.Ends.{Outside, HasBadLine, EndsIn}
use Rattle.palm_cli.specs.Scripts.{IsGoodScript, IsBadScript, IsLongScript, IsCutScript, run_of, tree_said, text_said}
use Rattle.palm_cli.specs.Costs.{run_cost}
use Rattle.palm_cli.specs.Stops.{ended_by}
use Rattle.palm_cli.specs.Streams.{text_to, HasReadPast}
use Rattle.palm_cli.proofs.Fronts.{front_whole}
use Rattle.palm_cli.proofs.Stopped.{stopped, taken_back, text_read}
use Rattle.palm_cli.proofs.Wholes.{where_whole, where_read}

-- These bytes of a script were read, up to this end, and what they say was run: its transcript was taken, and its tree is left.
pub record Ran (settings : Settings) (o : Outside) (bytes : List ℕ) (end : InputEnd) (after : Tree) : Type 0 where
  pub read : IsRead o.left o.rest o.reads_before o.reads_now bytes end
  pub most : length bytes ≤ MOST_BYTES
  pub text : Appends o.taken o.now (text_read settings bytes end)
  pub tree : after ≡ tree_said settings (script_of bytes (is_whole end))

-- the transcript, by whether anything stands at its end
ended_so : (settings : Settings) (outcome : Outcome) (old new : Option (List ℕ)) {ends finished : Bool} → ends ≡ finished
    → Appends old new (text_to settings.dump ends (run_of settings outcome)) → Appends old new (text_to settings.dump finished (run_of settings outcome))
ended_so settings outcome old new is text = subst (λ (e : Bool). Appends old new (text_to settings.dump e (run_of settings outcome))) is text

-- the transcript of another outcome that is the same
text_of_same : (settings : Settings) (outcome other : Outcome) (old new : Option (List ℕ)) → other ≡ outcome → Appends old new (text_said settings outcome)
    → Appends old new (text_said settings other)
text_of_same settings outcome other old new same text = subst (λ (o : Outcome). Appends old new (text_said settings o)) (sym same) text

-- its tree
tree_of_same : (settings : Settings) (outcome other : Outcome) (after : Tree) → other ≡ outcome → after ≡ tree_said settings outcome → after ≡ tree_said settings other
tree_of_same settings outcome other after same tree = tree ∙ ap (tree_said settings) (sym same)

-- the bytes that are taken, of a source that has as many, one more that was read, and others
front_of : (most : ℕ) (bytes more unread : List ℕ) → length bytes ≤ most → length bytes ≡ most → take most ((bytes ++ more) ++ unread) ≡ bytes
front_of most bytes more unread few size = ap (take most) (append_assoc bytes more unread) ∙ taken_back most bytes (more ++ unread) few size

-- ---- no line has a fault

-- The source was read to its end.
good_script : (settings : Settings) (o : Outside) (bytes : List ℕ) (after : Tree) → Ran settings o bytes Whole after → (script_of bytes true).fault ≡ None
    → IfSome o.left (λ b. IsGoodScript settings b o.taken o.now after) × IsAtEnd o.rest × (o.reads_now ≡ o.reads_before)
good_script settings o bytes after ran none = (
  where_whole (λ (b : List ℕ). IsGoodScript settings b o.taken o.now after) o.left o.rest bytes ran.read.0 ran.read.1
      (record { size = ran.most; good = none; text = ended_so settings (script_of bytes true) o.taken o.now (ap is_none none) ran.text; tree = ran.tree }),
  ran.read.1,
  ran.read.2,
)

-- The source failed.
cut_script : (settings : Settings) (o : Outside) (bytes : List ℕ) (after : Tree) → Ran settings o bytes Failed after → (script_of bytes false).fault ≡ None
    → Rose o.reads_before o.reads_now × ((read : List ℕ) × Consumes o.left o.rest read × IsCutScript settings read o.taken o.now after)
cut_script settings o bytes after ran none = (ran.read.1, (bytes, ran.read.0, record { size = ran.most; good = none; text = ran.text; tree = ran.tree }))

-- such a source is longer than the bytes that are taken
longer : (most : ℕ) (bytes more unread : List ℕ) → length bytes ≡ most → length more ≡ 1 → most < length ((bytes ++ more) ++ unread)
longer most bytes more unread size one = omega (arith, length-append (bytes ++ more) unread, length-append bytes more, size, one)

-- The source has a byte too many, which was read.
long_script : (settings : Settings) (o : Outside) (bytes : List ℕ) (after : Tree) → Ran settings o bytes Long after → (script_of bytes false).fault ≡ None
    → HasReadPast o.left o.rest × IfSome o.left (λ b. IsLongScript settings b o.taken o.now after) × (o.reads_now ≡ o.reads_before)
long_script settings o bytes after ran none =
    let said : Outcome = script_of bytes false in
    let more : List ℕ = ran.read.0 in
    let past : length (bytes ++ more) ≡ MOST_BYTES + 1 = omega (arith, length-append bytes more, ran.read.2, ran.read.3) in (
      (bytes ++ more, ran.read.1, past),
      where_read (λ (b : List ℕ). IsLongScript settings b o.taken o.now after) o.left o.rest (bytes ++ more) ran.read.1 (λ unread.
          let front : List ℕ = take MOST_BYTES ((bytes ++ more) ++ unread) in
          let same : script_of front false ≡ said = ap (λ (l : List ℕ). script_of l false) (front_of MOST_BYTES bytes more unread ran.most ran.read.2) in
          record {
            size = longer MOST_BYTES bytes more unread ran.read.2 ran.read.3;
            good = ap (λ (o : Outcome). o.fault) same ∙ none;
            text = text_of_same settings said (script_of front false) o.taken o.now same ran.text;
            tree = tree_of_same settings said (script_of front false) after same ran.tree;
          }),
      ran.read.4,
    )

-- ---- a line has a fault

-- It ended within the bytes that were read and are taken, and all of the script says what they say.
found : (settings : Settings) (o : Outside) (b read bytes : List ℕ) (fault : LineFault) (after : Tree) → (script_of bytes false).fault ≡ Some fault
    → script_of b true ≡ script_of bytes false → take MOST_BYTES read ≡ bytes → Appends o.taken o.now (text_said settings (script_of bytes false))
    → after ≡ tree_said settings (script_of bytes false) → IsBadScript settings b read fault o.taken o.now after
found settings o b read bytes fault after first all front text tree = let said : Outcome = script_of bytes false in record {
  first = ap (λ (o : Outcome). o.fault) all ∙ first;
  ended = inl (ap (λ (l : List ℕ). (script_of l false).fault) front ∙ first);
  text = text_of_same settings said (script_of b true) o.taken o.now all text;
  tree = tree_of_same settings said (script_of b true) after all tree;
}

-- The faulty line that was read is the script's first, whatever was left unread.
bad_script : FaultsStand → (settings : Settings) (o : Outside) (bytes : List ℕ) (end : InputEnd) (fault : LineFault) (after : Tree)
    → Ran settings o bytes end after → (script_of bytes (is_whole end)).fault ≡ Some fault → HasBadLine settings fault o after
bad_script stands settings o bytes Whole fault after ran first = (
  bytes,
  ran.read.0,
  where_whole (λ (b : List ℕ). IsBadScript settings b bytes fault o.taken o.now after) o.left o.rest bytes ran.read.0 ran.read.1
      (record { first = first; ended = inr (refl, ran.most); text = ended_so settings (script_of bytes true) o.taken o.now (ap is_none first) ran.text; tree = ran.tree }),
)
bad_script stands settings o bytes Failed fault after ran first =
    let some : IsSome (script_of bytes false).fault = rw first refl in (
      bytes,
      ran.read.0,
      where_read (λ (b : List ℕ). IsBadScript settings b bytes fault o.taken o.now after) o.left o.rest bytes ran.read.0 (λ unread.
          found settings o (bytes ++ unread) bytes bytes fault after first (stands bytes unread true some) (take_all MOST_BYTES bytes ran.most) ran.text ran.tree),
    )
bad_script stands settings o bytes Long fault after ran first =
    let some : IsSome (script_of bytes false).fault = rw first refl in
    let more : List ℕ = ran.read.0 in
    let front = taken_back MOST_BYTES bytes more ran.most ran.read.2 in (
      bytes ++ more,
      ran.read.1,
      where_read (λ (b : List ℕ). IsBadScript settings b (bytes ++ more) fault o.taken o.now after) o.left o.rest (bytes ++ more) ran.read.1 (λ unread.
          let all = ap (λ (l : List ℕ). script_of l true) (append_assoc bytes more unread) ∙ stands bytes (more ++ unread) true some in
          found settings o ((bytes ++ more) ++ unread) (bytes ++ more) bytes fault after first all front ran.text ran.tree),
    )

-- ---- all ends

-- Where all was run that was read of a script. No more steps were counted then than the batches of the whole script may take.
pub run_ends : FaultsStand → (settings : Settings) (o : Outside) (bytes : List ℕ) (end : InputEnd) (after : Tree) → Ran settings o bytes end after
    → o.writes_now ≡ o.writes_before → o.steps_now ≤ o.steps_before + run_cost (run_of settings (script_of bytes (is_whole end)))
    → (fault : Option LineFault) → (script_of bytes (is_whole end)).fault ≡ fault → EndsIn Replay settings (ended_by fault end) o after
run_ends stands settings o bytes end after ran kept few (Some fault) is = (
  refl,
  bad_script stands settings o bytes end fault after ran is,
  stopped settings o.left o.rest o.taken o.now o.reads_before o.reads_now bytes end ran.read ran.most (front_whole o.taken o.now (text_read settings bytes end) ran.text),
  kept,
)
run_ends stands settings o bytes Whole after ran kept few None is =
    let good = good_script settings o bytes after ran is in
    let Few : List ℕ → Type 0 = λ b. o.steps_now ≤ o.steps_before + run_cost (run_of settings (script_of b true)) in
    (good.0, λ reads. good.1, good.2, kept, where_whole Few o.left o.rest bytes ran.read.0 ran.read.1 few)
run_ends stands settings o bytes Failed after ran kept few None is =
    let cut = cut_script settings o bytes after ran is in
    (cut.0, cut.1, kept)
run_ends stands settings o bytes Long after ran kept few None is =
    let long = long_script settings o bytes after ran is in
    (long.0, long.1, long.2, kept)
