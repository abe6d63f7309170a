use Rattle.std.proofs.Common.{◌≡◌, ◌∙◌, ◌+◌, true, false, arith, ◌<◌, ◌∷◌, ◌++◌, [], ℕ, List, map, take, ap, ap₂, rules, get_or, length, sym}
use Rattle.std.specs.Prelude.{Result, IfOk}
use Rattle.std.specs.Borrow.{Bor}
use Rattle.std.specs.declared.result.Result.TheVariants.{Ok, Err}
use Rattle.std.proofs.lemmas.List.{take_more, take_all, map-append}
use Rattle.clap.specs.Words.{App, AddsArg, Rule, Text, app_of, rule_of, with_rule}
use Rattle.clap.specs.Simple.{on_top, app_of_fields}
use Rattle.clap.specs.declared.builder.arg.Arg.{Arg}
use Rattle.clap.specs.declared.builder.command.Command.{Command}
use Rattle.clap.specs.declared.builder.command.Command.TheOpen.{Command-F}
use Rattle.palm_words.specs.Command.{command_with, command_for, option_rule, mode_rule}
use Rattle.palm_words.proofs.command.command_for.Goals as goal

abbrev rules_for : List (Bor Text) → List Rule
rules_for names = map option_rule (map (λ s. s.now) names)

next_app : (names : List (Bor Text)) (i : ℕ) (name : Bor Text) (a b : App) (r : Rule) → i < length names → r ≡ option_rule (get_or names i name).now → a ≡ command_with (rules_for (take i names)) → b ≡ with_rule a r
    → b ≡ command_with (rules_for (take (i + 1) names))
next_app names i name a b r inside r-is a-is b-is =
    let more : rules_for (take (i + 1) names) ≡ rules_for (take i names) ++ option_rule (get_or names i name).now ∷ [] =
    ap rules_for (take_more names i name inside) ∙ ap (map option_rule) (map-append (λ (s : Bor Text). s.now) (take i names) (get_or names i name ∷ [])) ∙ map-append option_rule (map (λ (s : Bor Text). s.now) (take i names)) _ in
    b-is ∙ ap₂ with_rule a-is r-is ∙ ap command_with (sym more)

pub loop-name-init : goal.loop-name-init
loop-name-init c =
    let fields = c.disable_version_flag-command.ensures ∙ ap (λ (F : Command-F Command). record F { disable_version_flag = true }) (c.disable_help_flag.ensures ∙ ap (λ (F : Command-F Command). record F { disable_help_flag = true }) c.no_binary_name.ensures) in
    ap app_of_fields fields ∙ ap (on_top (λ s. record s { no_binary_name = true; disable_help_flag = true; disable_version_flag = true })) c.new.ensures.app

pub loop-name-preserved : goal.loop-name-preserved
loop-name-preserved c =
    next_app c.args.names.now c.loop-name.name-index _ (app_of c.loop-name.command) (app_of c.in_ok-command.command) (rule_of c.option.result) c.loop-name-test.true c.option.ensures.rule c.loop-name.invariant (c.in_ok-command.ensures.shape c.option.ensures.local)

last : {E : Type 0} (r : Result Command E) (names : List (Bor Text)) (n : Arg) → rule_of n ≡ mode_rule → n.global ≡ false → (old : Command) → app_of old ≡ command_with (rules_for names) → IfOk r (λ x. AddsArg old n x)
    → IfOk r (λ x. app_of x ≡ command_for (map (λ s. s.now) names))
last (Ok x) names n n-is local old old-is h = h.shape local ∙ ap₂ with_rule old-is n-is
last (Err e) names n n-is local old old-is h = tt

pub returns : goal.returns
returns c =
    let mode_is : rule_of c.action-mode.result ≡ mode_rule = search rules in
    let local : c.action-mode.result.global ≡ false = search rules in
    let all : take c.loop-name.name-index c.args.names.now ≡ c.args.names.now = take_all c.loop-name.name-index c.args.names.now (omega arith) in
    last c.arg-2.result c.args.names.now c.action-mode.result mode_is local c.loop-name.command (c.loop-name.invariant ∙ ap (λ ns. command_with (rules_for ns)) all) c.arg-2.ensures
