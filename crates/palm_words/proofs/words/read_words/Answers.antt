use Rattle.std.proofs.Common.{◌≡◌, ◌∙◌, sym, subst, map, string_bytes, Some, None, Option, ok_or}
use Rattle.std.specs.Prelude.{IfOk, IsErrOf}
use Rattle.clap.specs.Words.{found_of}
use Rattle.palm_words.specs.Settings.{settings_of}
use Rattle.palm_words.specs.declared.settings.Settings.{Settings}
use Rattle.palm_words.specs.declared.words.WordsFault.TheVariants.{Usage}
use Rattle.palm_words.proofs.Agreement.{found_sets, refuses, utf8_words}
use Rattle.palm_words.proofs.words.read_words.Goals as goal

ok_by : (o : Option Settings) (s : Option Settings) → o ≡ s → IfOk (ok_or o Usage) (λ x. s ≡ Some x)
ok_by None s e = tt
ok_by (Some x) s e = sym e

usage_by : (o : Option Settings) (s : Option Settings) → o ≡ s → IsErrOf (ok_or o Usage) Usage → s ≡ None
usage_by None s e u = sym e
usage_by (Some x) s e u = absurd (cc)

pub returns-in-Ok-clause-ok : goal.returns-in-Ok-clause-ok
returns-in-Ok-clause-ok c =
    let words = c.args.words.now.items in
    let sets = c.settings_in.ensures.says ∙ found_sets (found_of c.in-Ok.matches) (map string_bytes words) (utf8_words words) c.in-Ok.ensures.accepts c.in-Ok.ensures.rows in
    subst (λ r. IfOk r (λ s. settings_of (map string_bytes words) ≡ Some s)) (sym c.ok_or.ensures.value) (ok_by c.settings_in.result (settings_of (map string_bytes words)) sets)

pub returns-in-Ok-clause-usage : goal.returns-in-Ok-clause-usage
returns-in-Ok-clause-usage c usage =
    let words = c.args.words.now.items in
    let sets = c.settings_in.ensures.says ∙ found_sets (found_of c.in-Ok.matches) (map string_bytes words) (utf8_words words) c.in-Ok.ensures.accepts c.in-Ok.ensures.rows in
    usage_by c.settings_in.result (settings_of (map string_bytes words)) sets (subst (λ r. IsErrOf r Usage) c.ok_or.ensures.value usage)

pub returns : goal.returns
returns c = record {
  ok = tt;
  usage = λ _. refuses (map string_bytes c.args.words.now.items) (utf8_words c.args.words.now.items) (c.in-Err.ensures.err (λ e. c.in_default.not-OutOfMemory (c.kind.ensures ∙ e)));
  bounds = tt;
}
