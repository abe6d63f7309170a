-- The mode `replay`: what a script says, and how its run ends.
use Rattle.std.specs.Prelude.{◌≡◌, ℕ, ◌<◌, ◌≤◌, ◌⊎◌, true, false, List, length, take, is_some, if◌then◌else◌, Some, None, Option}
use Rattle.std.specs.Io.KnownBytes.{Appends, IsAtEnd}
use Rattle.palm_base.specs.Tree.{Tree}
use Rattle.palm_script.specs.Script.{Outcome, script_of}
use Rattle.palm_script.specs.Transcript.{Section, straight, after_run, text_of, final_of}
use Rattle.palm_script.specs.declared.input.TheConstants.{MOST_BYTES}
use Rattle.palm_script.specs.declared.line.LineFault.{LineFault}
use Rattle.palm_words.specs.declared.settings.Settings.{Settings}
use Rattle.palm_cli.specs.Streams.{AppendsFront}

-- ---- what a script says, by the settings

-- Its run: its calls in the order of their lines, in batches of as many as the settings say. So three calls in batches of 2 are
-- one section, cut 2, 1.
abbrev pub run_of : Settings → Outcome → List Section
run_of settings outcome = straight outcome.items settings.batch

-- The tree that its run leaves of the empty one. So after one Set it is a leaf of one row.
abbrev pub tree_said : Settings → Outcome → Tree
tree_said settings outcome = (after_run (run_of settings outcome)).tree

-- The transcript of its run, without what stands at the end. So that of "0 get 44" is "0 0 absent" and "= 1", where nothing is
-- dumped.
abbrev pub text_said : Settings → Outcome → List ℕ
text_said settings outcome = text_of settings.dump (run_of settings outcome)

-- The transcript of its run, with what stands at the end. So that of "0 get 44" has "end 1 0" behind this.
abbrev pub final_said : Settings → Outcome → List ℕ
final_said settings outcome = final_of settings.dump (run_of settings outcome)

-- The transcript that it has in all: what stands at the end is there where no line has a fault. So for "0 get 44" it ends with
-- "end 1 0", and with a line "x" behind that with "= 1".
abbrev pub all_said : Settings → Outcome → List ℕ
all_said settings outcome = if is_some outcome.fault then text_said settings outcome else final_said settings outcome

-- ---- the ends

-- The script b is good, and all of its transcript was taken. The tree is the one after the script's run. So by "0 get 44" a
-- sink that was empty has "0 0 absent", "= 1" and "end 1 0", where nothing is dumped, and the tree is the empty leaf.
pub record IsGoodScript (settings : Settings) (b : List ℕ) (old new : Option (List ℕ)) (after : Tree) : Type 0 where
  pub size : length b ≤ MOST_BYTES
  pub good : (script_of b true).fault ≡ None
  pub text : Appends old new (final_said settings (script_of b true))
  pub tree : after ≡ tree_said settings (script_of b true)

-- This is the first faulty line of the script b, of which these bytes were read. It had ended in them, as far as they are
-- taken, or at the end of the script, where all of it was read and it isn't too long. The transcript of the lines before it was
-- taken, and the tree is the one after them. So of the lines "0 get 44" and "x" it is the second, and "0 0 absent" and "= 1"
-- were taken; and it isn't so where "0 get 44" alone was read.
pub record IsBadScript (settings : Settings) (b read : List ℕ) (fault : LineFault) (old new : Option (List ℕ)) (after : Tree) : Type 0 where
  pub first : (script_of b true).fault ≡ Some fault
  pub ended : ((script_of (take MOST_BYTES read) false).fault ≡ Some fault) ⊎ ((read ≡ b) × (length b ≤ MOST_BYTES))
  pub text : Appends old new (text_said settings (script_of b true))
  pub tree : after ≡ tree_said settings (script_of b true)

-- The script b has more bytes than are taken, and no faulty line that ended within them. The transcript of the lines
-- that did was taken, and the tree is the one after them. So of more lines "0 get 44" than are taken there are as many answers as
-- lines ended within the bytes that are, and no "end".
pub record IsLongScript (settings : Settings) (b : List ℕ) (old new : Option (List ℕ)) (after : Tree) : Type 0 where
  pub size : MOST_BYTES < length b
  pub good : (script_of (take MOST_BYTES b) false).fault ≡ None
  pub text : Appends old new (text_said settings (script_of (take MOST_BYTES b) false))
  pub tree : after ≡ tree_said settings (script_of (take MOST_BYTES b) false)

-- The source failed after these bytes were read, which aren't too many, and in which no faulty line ended. The transcript of the
-- lines that ended in them was taken, and the tree is the one after them. So where a line "0 get 44" and then "0 ge" were read,
-- "0 0 absent" and "= 1" were taken.
pub record IsCutScript (settings : Settings) (read : List ℕ) (old new : Option (List ℕ)) (after : Tree) : Type 0 where
  pub size : length read ≤ MOST_BYTES
  pub good : (script_of read false).fault ≡ None
  pub text : Appends old new (text_said settings (script_of read false))
  pub tree : after ≡ tree_said settings (script_of read false)

-- The run stopped before its end, after these bytes were read and where the source now has `rest`. What was taken begins the
-- transcript of the lines that had ended in them, as far as they are taken, or where they are all of a source that isn't too
-- long, the transcript of their script. So after "0 get 44" a sink that was empty may have "0 0 abs".
abbrev pub IsStoppedScript : Settings → (read : List ℕ) (rest old new : Option (List ℕ)) → Type 0
IsStoppedScript settings read rest old new =
    AppendsFront old new (text_said settings (script_of (take MOST_BYTES read) false))
    ⊎ (IsAtEnd rest × (length read ≤ MOST_BYTES) × AppendsFront old new (all_said settings (script_of read true)))
