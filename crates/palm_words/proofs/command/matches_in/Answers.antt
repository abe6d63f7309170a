use Rattle.std.proofs.Common.{ap, refl, true, map, List, [], ◌≡◌, ◌≢◌, ◌∙◌, sym, string_bytes, subst, inl, inr}
use Rattle.std.specs.Prelude.{Result, IfOk, IfErr}
use Rattle.std.specs.declared.result.Result.TheVariants.{Ok, Err}
use Rattle.clap.specs.Words.{App, Text, app_of, is_simple, is_simple_and_free, fault_of, kind_of, found_of, matches_of, rows_of, HasMatchesOf, FailsBy, IsAmong, Kinds}
use Rattle.clap.specs.declared.parser.matches.ArgMatches.{ArgMatches}
use Rattle.clap.specs.declared.error.Error.{Error}
use Rattle.clap.specs.declared.error.kind.ErrorKind.{ErrorKind}
use Rattle.clap.specs.declared.error.kind.ErrorKind.TheVariants as kind
use Rattle.clap.proofs.OnLiterals.{clap_on_literals}
use Rattle.palm_words.specs.Command.{palm_command}
use Rattle.palm_words.proofs.command.matches_in.Goals as goal

free : is_simple_and_free palm_command ≡ true
unfolding clap_on_literals
free = refl

simple : is_simple palm_command ≡ true
unfolding clap_on_literals
simple = refl

accepted : (r : Result ArgMatches Error) (a : App) (ws : List Text) → a ≡ palm_command → (is_simple_and_free a ≡ true → FailsBy (fault_of a ws) r) → IfOk r (λ m. fault_of palm_command ws ≡ [])
accepted (Ok m) a ws e k = ap (λ b. fault_of b ws) (sym e) ∙ k (ap is_simple_and_free e ∙ free)
accepted (Err x) a ws e k = tt

same_rows : (r : Result ArgMatches Error) (a : App) (ws : List Text) → a ≡ palm_command → IfOk r (HasMatchesOf a ws) → IfOk r (λ m. rows_of (found_of m) ≡ matches_of palm_command ws)
same_rows (Ok m) a ws e h = (h (ap is_simple e ∙ simple)).0 ∙ ap (λ b. matches_of b ws) e
same_rows (Err x) a ws e h = tt

no_kind : (k : ErrorKind) (ks : Kinds) → ks ≡ [] → IsAmong k ks → ⊥
no_kind k ks e h = subst (IsAmong k) e h

refused : (r : Result ArgMatches Error) (a : App) (ws : List Text) → a ≡ palm_command → (is_simple_and_free a ≡ true → FailsBy (fault_of a ws) r)
    → IfErr r (λ e. kind_of e ≢ kind.OutOfMemory → fault_of palm_command ws ≢ [])
refused (Ok m) a ws e k = tt
refused (Err x) a ws e k = λ other none. elim (k (ap is_simple_and_free e ∙ free)) [ inl out ↦ other out | inr among ↦ no_kind (kind_of x) (fault_of a ws) (ap (λ b. fault_of b ws) e ∙ none) among ]

pub returns-clause-accepts : goal.returns-clause-accepts
returns-clause-accepts c =
    subst (λ ws. IfOk c.try_get_matches_from.result (λ m. fault_of palm_command ws ≡ [])) (ap (map string_bytes) c.as_slice.ensures.value)
    (accepted c.try_get_matches_from.result (app_of c.in_ok-command.command) (map string_bytes c.as_slice.result.now) c.in_ok-command.ensures c.try_get_matches_from.ensures.kinds)

pub returns-clause-rows : goal.returns-clause-rows
returns-clause-rows c =
    subst (λ ws. IfOk c.try_get_matches_from.result (λ m. rows_of (found_of m) ≡ matches_of palm_command ws)) (ap (map string_bytes) c.as_slice.ensures.value)
    (same_rows c.try_get_matches_from.result (app_of c.in_ok-command.command) (map string_bytes c.as_slice.result.now) c.in_ok-command.ensures c.try_get_matches_from.ensures.matches)

pub returns-clause-err : goal.returns-clause-err
returns-clause-err c =
    subst (λ ws. IfErr c.try_get_matches_from.result (λ e. kind_of e ≢ kind.OutOfMemory → fault_of palm_command ws ≢ [])) (ap (map string_bytes) c.as_slice.ensures.value)
    (refused c.try_get_matches_from.result (app_of c.in_ok-command.command) (map string_bytes c.as_slice.result.now) c.in_ok-command.ensures c.try_get_matches_from.ensures.kinds)
